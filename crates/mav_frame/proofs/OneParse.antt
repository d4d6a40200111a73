-- Two parses of one stream are one.
use Rattle.std.proofs.Common.{◌≡◌, Bool, ℕ, List, [], ◌∷◌, ◌++◌, drop, refl, sym, ap, ◌∙◌, subst, ⊎_elim}
use Rattle.mav_frame.specs.Packet.{Packet}
use Rattle.mav_frame.specs.Encoding.{encoding}
use Rattle.mav_frame.specs.Looks.{look_of}
use Rattle.mav_frame.specs.Parse.{IsIncomplete, SkipReason, EventAt, Final, Incremental}
use Rattle.mav_frame.specs.ParseLaws.{OneFinal, OneIncremental}
use Rattle.mav_frame.specs.declared.looks.Look.{Look}
use Rattle.mav_frame.specs.declared.looks.Look.TheVariants.{Frame as Found, NotHere, More}
use Rattle.mav_frame.specs.declared.looks.Why.{Why}
use Rattle.mav_frame.specs.declared.looks.Why.TheVariants.{Short}
use Rattle.mav_frame.specs.declared.events.Event.{Event}
use Rattle.mav_frame.specs.declared.events.Event.TheVariants.{Frame, Skipped}
use Rattle.mav_frame.proofs.EncodedFound.{found}
use Rattle.mav_frame.proofs.Reasons.{lacks, listed}

module _ (extras : List (ℕ × ℕ)) (old : Bool) where
  same_found : (p q : Packet) (m n : ℕ) → ◌≡◌ {A = Look} (Found p m) (Found q n) → p ≡ q
  same_found p q m n e = cc

  same_rest : (xs ys zs : List ℕ) → xs ++ ys ≡ xs ++ zs → ys ≡ zs
  same_rest [] ys zs e = e
  same_rest (x ∷ xs) ys zs e = same_rest xs ys zs (let t : xs ++ ys ≡ xs ++ zs = ap (drop 1) e in t)

  same_reason : (b : List ℕ) (v w : Why) → SkipReason extras old b v → SkipReason extras old b w → v ≡ w
  same_reason b v w r s = ⊎_elim
      (λ (x : look_of extras old b ≡ NotHere v). ⊎_elim
      (λ (y : look_of extras old b ≡ NotHere w). let e : NotHere v ≡ NotHere w = sym x ∙ y in let t : v ≡ w = cc in t)
      (λ (y : IsIncomplete extras old b × (w ≡ Short)). let l = lacks extras old b y.0 in absurd (let e : NotHere v ≡ More l.0 = sym x ∙ l.1 in cc)) (listed extras old b w s))
      (λ (x : IsIncomplete extras old b × (v ≡ Short)). ⊎_elim
      (λ (y : look_of extras old b ≡ NotHere w). let l = lacks extras old b x.0 in absurd (let e : NotHere w ≡ More l.0 = sym y ∙ l.1 in cc))
      (λ (y : IsIncomplete extras old b × (w ≡ Short)). x.1 ∙ sym y.1) (listed extras old b w s))
      (listed extras old b v r)

  one_event : (m n : Event) (b r s : List ℕ) → EventAt extras old m b r → EventAt extras old n b s → (m ≡ n) × (r ≡ s)
  one_event (Frame p) (Frame q) b r s x y =
      let same : p ≡ q = same_found p q _ _ (sym (found extras old p b r x.0 x.1 x.2) ∙ found extras old q b s y.0 y.1 y.2) in
      (ap Frame same, same_rest (encoding p) r s (sym x.2 ∙ (y.2 ∙ ap (λ z. encoding z ++ s) (sym same))))
  one_event (Frame p) (Skipped c v) b r s x y = absurd (y.1 p (encoding p) r x.0 (record { sealed = x.1; bytes = refl }) x.2)
  one_event (Skipped c v) (Frame q) b r s x y = absurd (x.1 q (encoding q) s y.0 (record { sealed = y.1; bytes = refl }) y.2)
  one_event (Skipped c v) (Skipped d w) b r s x y =
      let e : c ∷ r ≡ d ∷ s = sym x.0 ∙ y.0 in
      let head : c ≡ d = cc in let rest : r ≡ s = cc in let why = same_reason b v w x.2 y.2 in
      ((λ i. Skipped (head i) (why i)), rest)

  no_event : (m : Event) (r : List ℕ) → EventAt extras old m [] r → ⊥
  no_event (Frame p) r x = let e : ◌≡◌ {A = List ℕ} [] (encoding p ++ r) = x.2 in cc
  no_event (Skipped c v) r x = let e = x.0 in cc

  finals : (ms ns : List Event) (b : List ℕ) → Final extras old ms b → Final extras old ns b → ms ≡ ns
  finals [] [] b x y = refl
  finals [] (n ∷ ns) b x y = absurd (no_event n y.0 (subst (λ z. EventAt extras old n z y.0) x y.1))
  finals (m ∷ ms) [] b x y = absurd (no_event m x.0 (subst (λ z. EventAt extras old m z x.0) y x.1))
  finals (m ∷ ms) (n ∷ ns) b x y =
      let one = one_event m n b x.0 y.0 x.1 y.1 in
      let more = finals ms ns y.0 (subst (λ z. Final extras old ms z) one.1 x.2) y.2 in
      λ i. one.0 i ∷ more i

  incrementals : (ms ns : List Event) (left also_left b : List ℕ) → Incremental extras old ms left b → Incremental extras old ns also_left b → (ms ≡ ns) × (left ≡ also_left)
  incrementals [] [] left also_left b x y = (refl, x.0 ∙ sym y.0)
  incrementals [] (n ∷ ns) left also_left b x y = absurd (y.0 x.1)
  incrementals (m ∷ ms) [] left also_left b x y = absurd (x.0 y.1)
  incrementals (m ∷ ms) (n ∷ ns) left also_left b x y =
      let one = one_event m n b x.1.0 y.1.0 x.1.1 y.1.1 in
      let more = incrementals ms ns left also_left y.1.0 (subst (λ z. Incremental extras old ms left z) one.1 x.1.2) y.1.2 in
      ((λ i. one.0 i ∷ more.0 i), more.1)

pub one_final : OneFinal
one_final extras old b ms ns x y = finals extras old ms ns b x y

pub one_incremental : OneIncremental
one_incremental extras old b left also_left ms ns x y = incrementals extras old ms ns left also_left b x y
