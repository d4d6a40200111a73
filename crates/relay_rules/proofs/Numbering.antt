-- The numbers of links that open and close.
use Rattle.std.proofs.Common.{◌≡◌, ◌∙◌, ◌<◌, ◌≤◌, ◌⊎◌, inl, inr, ℕ, zero, suc, ◌+◌, ◌==◌, true, false, List, [], ◌∷◌, ◌++◌, length, slice_get, Some, refl, sym, ap, subst, arith}
use Rattle.std.specs.List.{remove}
use Rattle.std.proofs.lemmas.Grind.{common_steps}
use Rattle.std.proofs.lemmas.Option.{slice_get_within}
use Rattle.relay_rules.specs.Kept.{AreNumbered}
use Rattle.relay_rules.specs.declared.links.OpenLink.{OpenLink}

-- ---- a link more

-- an element of a list and one more is one of the list, or the last
pub got_more : {A : Type 0} (xs : List A) (y : A) (k : ℕ) (x : A) → slice_get (xs ++ y ∷ []) k ≡ Some x → (slice_get xs k ≡ Some x) ⊎ ((x ≡ y) × (k ≡ length xs))
got_more [] y zero x e = inr (let s : x ≡ y = cc in s, refl)
got_more [] y (suc k) x e = absurd (cc)
got_more (z ∷ xs) y zero x e = inl e
got_more (z ∷ xs) y (suc k) x e = elim (got_more xs y k x e) [
  | inl h ↦ inl h
  | inr h ↦ inr (h.0, ap suc h.1)
]

pub numbered_more : (given port : ℕ) (links : List OpenLink) → 1 ≤ port → port ≤ 8 → AreNumbered given links → AreNumbered (given + 1) (links ++ (record { number = given + 1; port = port }) ∷ [])
numbered_more given port links from to n =
    let last : OpenLink = record { number = given + 1; port = port } in
    record {
      rise = λ i j a b l at there. elim (got_more links last i a at) [
        | inl h ↦ elim (got_more links last j b there) [
          | inl g ↦ n.rise i j a b l h g
          | inr g ↦ let most = n.most i a h in let is = ap (λ (o : OpenLink). o.number) g.0 in omega (arith, most, is)
        ]
        | inr h ↦ elim (got_more links last j b there) [
          | inl g ↦ absurd (let w = slice_get_within links j b g in omega (arith, w, l, h.1))
          | inr g ↦ absurd (omega (arith, l, h.1, g.1))
        ]
      ];
      most = λ i a at. elim (got_more links last i a at) [
        | inl h ↦ let most = n.most i a h in omega (arith, most)
        | inr h ↦ let is = ap (λ (o : OpenLink). o.number) h.0 in omega (arith, is)
      ];
      ports = λ i a at. elim (got_more links last i a at) [
        | inl h ↦ n.ports i a h
        | inr h ↦ let is = ap (λ (o : OpenLink). o.port) h.0 in (omega (arith, is, from), omega (arith, is, to))
      ];
    }

-- ---- a link less

-- an element of a list without the one at an index stood before it, or after it
pub got_less : {A : Type 0} (xs : List A) (at k : ℕ) (x : A) → slice_get (remove xs at) k ≡ Some x → ((k < at) × (slice_get xs k ≡ Some x)) ⊎ ((at ≤ k) × (slice_get xs (suc k) ≡ Some x))
got_less [] zero k x e = absurd (none k e)
  where
    none : {A : Type 0} {x : A} (k : ℕ) → slice_get [] k ≡ Some x → ⊥
    none zero e = absurd (cc)
    none (suc k) e = absurd (cc)
got_less [] (suc at) zero x e = absurd (cc)
got_less [] (suc at) (suc k) x e = absurd (cc)
got_less (y ∷ xs) zero k x e = inr (omega arith, e)
got_less (y ∷ xs) (suc at) zero x e = inl (omega arith, e)
got_less (y ∷ xs) (suc at) (suc k) x e = elim (got_less xs at k x e) [
  | inl h ↦ inl (omega (arith, h.0), h.1)
  | inr h ↦ inr (omega (arith, h.0), h.1)
]

pub numbered_less : (given at : ℕ) (links : List OpenLink) → AreNumbered given links → AreNumbered given (remove links at)
numbered_less given at links n = record {
  rise = λ i j a b l here there. elim (got_less links at i a here) [
    | inl h ↦ elim (got_less links at j b there) [
      | inl g ↦ n.rise i j a b l h.1 g.1
      | inr g ↦ n.rise i (suc j) a b (omega (arith, l)) h.1 g.1
    ]
    | inr h ↦ elim (got_less links at j b there) [
      | inl g ↦ absurd (omega (arith, h.0, g.0, l))
      | inr g ↦ n.rise (suc i) (suc j) a b (omega (arith, l)) h.1 g.1
    ]
  ];
  most = λ i a here. elim (got_less links at i a here) [ inl h ↦ n.most i a h.1 | inr h ↦ n.most (suc i) a h.1 ];
  ports = λ i a here. elim (got_less links at i a here) [ inl h ↦ n.ports i a h.1 | inr h ↦ n.ports (suc i) a h.1 ];
}

-- ---- one number, one index

pub same_number : (given i j : ℕ) (a b : OpenLink) (links : List OpenLink) → AreNumbered given links → slice_get links i ≡ Some a → slice_get links j ≡ Some b → (b.number == a.number) ≡ (j == i)
same_number given i j a b links n here there = elim (order i j) [
  | inl l ↦ let rises = n.rise i j a b l here there in apart b.number a.number (λ e. omega (arith, e, rises)) ∙ sym (apart j i (λ e. omega (arith, e, l)))
  | inr r ↦ elim r [
    | inl e ↦ let same : a ≡ b = both (subst (λ (k : ℕ). slice_get links k ≡ Some a) e here) there in is b.number a.number (ap (λ (o : OpenLink). o.number) (sym same)) ∙ sym (is j i (sym e))
    | inr l ↦ let rises = n.rise j i b a l there here in apart b.number a.number (λ e. omega (arith, e, rises)) ∙ sym (apart j i (λ e. omega (arith, e, l)))
  ]
]
  where
    order : (m n : ℕ) → (m < n) ⊎ ((m ≡ n) ⊎ (n < m))
    order m n = grind (arith, common_steps)

    is : (m n : ℕ) → m ≡ n → (m == n) ≡ true
    is m n e = grind (arith, common_steps)

    apart : (m n : ℕ) → (m ≡ n → ⊥) → (m == n) ≡ false
    apart m n e = grind (arith, common_steps)

    both : {a b : OpenLink} {o : _} → o ≡ Some a → o ≡ Some b → a ≡ b
    both {a} {b} e f = cc
