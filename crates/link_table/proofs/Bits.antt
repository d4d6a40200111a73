-- Sets of ports as bytes with a bit for each.
use Rattle.std.proofs.Common.{◌≡◌, ◌∙◌, ◌<◌, ◌≤◌, ◌⊎◌, inl, inr, ℕ, zero, suc, ◌-◌, ◌/◌, ◌^◌, ◌==◌, ◌&&◌, ◌||◌, not, Bool, true, false, if◌then◌else◌, List, [], ◌∷◌, set, bit_and, bit_or, nat_le, nat_lt, ◌+◌, ◌*◌, ◌%◌, arith, refl, ap, sym}
use Rattle.std.specs.Int.{bit_at}
use Rattle.std.proofs.lemmas.Bool.{cases_eq}
use Rattle.std.proofs.lemmas.Grind.{common_steps}
use Rattle.std.proofs.Math.Nat.{mod-eq_of_lt}
use Rattle.std.proofs.lemmas.Nat.{pow_below}
use Rattle.std.proofs.lemmas.Nat.Bits.{bit_at-lt, bit_at_and, bit_at_or, bit_at_not, bit_at_ones, bit_at_ones_above, ones_shr, bit_at-pow_same, bit_at-pow_other, bit_at-suc, bit_at_above}
use Rattle.std.proofs.Common.{w8, w32}
use Rattle.link_table.specs.Bits.{has_bit, flags_of, mask_of}
use Rattle.link_table.specs.OpenLinks.{bit_without, has_link}
use Rattle.link_table.specs.Routing.{has_port, common_ways, goes_out, ways_of, is_behind, Learned}
use Rattle.mav_names.specs.declared.names.Name.{Name}

-- two numbers are one, or not
pub same_or : (m n : ℕ) → ((m ≡ n) × ((m == n) ≡ true)) ⊎ ((m ≡ n → ⊥) × ((m == n) ≡ false))
same_or m n = elim (cases_eq m n) [ inl e ↦ inl (e, are m n e) | inr e ↦ inr (e, are_not m n e) ]
  where
    are : (m n : ℕ) → m ≡ n → (m == n) ≡ true
    are m n e = grind (arith, common_steps)

    are_not : (m n : ℕ) → (m ≡ n → ⊥) → (m == n) ≡ false
    are_not m n e = grind (arith, common_steps)

-- ---- a byte and its flags

flag_back : (bit : ℕ) → bit < 2 → (if bit == 1 then 1 else 0) ≡ bit
flag_back zero few = refl
flag_back (suc zero) few = refl
flag_back (suc (suc bit)) few = absurd (omega arith)

pub mask_back : (mask : ℕ) → mask < 256 → mask_of (flags_of mask) ≡ mask
mask_back mask fits =
    let flag : ℕ → ℕ = λ i. if bit_at mask i == 1 then 1 else 0 in
    let is = λ (i : ℕ). flag_back (bit_at mask i) (bit_at-lt mask i) in
    omega (arith, is 0, is 1, is 2, is 3, is 4, is 5, is 6, is 7)

-- what holds of each port from 1 to 8
by_port : (P : ℕ → Type 0) → P 1 → P 2 → P 3 → P 4 → P 5 → P 6 → P 7 → P 8 → (port : ℕ) → 1 ≤ port → port ≤ 8 → P port
by_port P a b c d e f g h zero from to = absurd (omega arith)
by_port P a b c d e f g h (suc zero) from to = a
by_port P a b c d e f g h (suc (suc zero)) from to = b
by_port P a b c d e f g h (suc (suc (suc zero))) from to = c
by_port P a b c d e f g h (suc (suc (suc (suc zero)))) from to = d
by_port P a b c d e f g h (suc (suc (suc (suc (suc zero))))) from to = e
by_port P a b c d e f g h (suc (suc (suc (suc (suc (suc zero)))))) from to = f
by_port P a b c d e f g h (suc (suc (suc (suc (suc (suc (suc zero))))))) from to = g
by_port P a b c d e f g h (suc (suc (suc (suc (suc (suc (suc (suc zero)))))))) from to = h
by_port P a b c d e f g h (suc (suc (suc (suc (suc (suc (suc (suc (suc port))))))))) from to = absurd (omega arith)

pub port_flag : (mask port : ℕ) → 1 ≤ port → port ≤ 8 → has_port (flags_of mask) port ≡ has_bit mask port
port_flag mask = by_port (λ port. has_port (flags_of mask) port ≡ has_bit mask port) refl refl refl refl refl refl refl refl

-- ---- one bit more

-- a word with one more bit
pub link_more : (word at k : ℕ) → has_link (bit_or word (2 ^ at)) k ≡ ((at == k) || has_link word k)
link_more word at k =
    let either = bit_at_or word (2 ^ at) k in
    elim (same_or at k) [
      | inl e ↦
          let here : bit_at (2 ^ at) k ≡ 1 = ap (λ (n : ℕ). bit_at (2 ^ at) n) (sym e.0) ∙ bit_at-pow_same at in
          let is : bit_at (bit_or word (2 ^ at)) k ≡ 1 = omega (arith, either, here, bit_at-lt word k) in
          ap (λ (n : ℕ). n == 1) is ∙ ap (λ (b : Bool). b || has_link word k) (sym e.1)
      | inr e ↦
          let apart : bit_at (2 ^ at) k ≡ 0 = bit_at-pow_other at k (λ same. e.0 (sym same)) in
          let is : bit_at (bit_or word (2 ^ at)) k ≡ bit_at word k = omega (arith, either, apart) in
          ap (λ (n : ℕ). n == 1) is ∙ ap (λ (b : Bool). b || has_link word k) (sym e.1)
    ]

pub one_less : (m n : ℕ) → 1 ≤ m → 1 ≤ n → ((m - 1) == (n - 1)) ≡ (m == n)
one_less m n a b = elim (same_or m n) [
  | inl e ↦ same (m - 1) (n - 1) (omega (arith, e.0)) ∙ sym e.1
  | inr e ↦ apart (m - 1) (n - 1) (λ f. e.0 (omega (arith, a, b, f))) ∙ sym e.1
]
  where
    same : (i j : ℕ) → i ≡ j → (i == j) ≡ true
    same i j e = grind (arith, common_steps)

    apart : (i j : ℕ) → (i ≡ j → ⊥) → (i == j) ≡ false
    apart i j e = grind (arith, common_steps)

-- a mask of ports with one more bit
pub bit_more : (mask at port : ℕ) → 1 ≤ at → 1 ≤ port → has_bit (bit_or mask (2 ^ (at - 1))) port ≡ ((at == port) || has_bit mask port)
bit_more mask at port a p = link_more mask (at - 1) (port - 1) ∙ ap (λ (b : Bool). b || has_bit mask port) (one_less at port a p)

flags_more : (mask at : ℕ) → 1 ≤ at → flags_of (bit_or mask (2 ^ (at - 1))) ≡ ((at == 1) || has_bit mask 1) ∷ ((at == 2) || has_bit mask 2) ∷ ((at == 3) || has_bit mask 3) ∷ ((at == 4) || has_bit mask 4) ∷ ((at == 5) || has_bit mask 5) ∷ ((at == 6) || has_bit mask 6) ∷ ((at == 7) || has_bit mask 7) ∷ ((at == 8) || has_bit mask 8) ∷ []
flags_more mask at from =
    let more = λ (port : ℕ) (p : 1 ≤ port). bit_more mask at port from p in
    λ i. more 1 (omega arith) i ∷ more 2 (omega arith) i ∷ more 3 (omega arith) i ∷ more 4 (omega arith) i ∷ more 5 (omega arith) i ∷ more 6 (omega arith) i ∷ more 7 (omega arith) i ∷ more 8 (omega arith) i ∷ []

pub flags_with : (mask port : ℕ) → 1 ≤ port → port ≤ 8 → flags_of (bit_or mask (2 ^ (port - 1))) ≡ set (flags_of mask) (port - 1) true
flags_with mask =
    let more = λ (at : ℕ) (from : 1 ≤ at). flags_more mask at from in
    by_port (λ port. flags_of (bit_or mask (2 ^ (port - 1))) ≡ set (flags_of mask) (port - 1) true) (more 1 (omega arith)) (more 2 (omega arith)) (more 3 (omega arith)) (more 4 (omega arith)) (more 5 (omega arith)) (more 6 (omega arith)) (more 7 (omega arith)) (more 8 (omega arith))

-- ---- bits of both

both_flags : (m n p : ℕ) → (p ≡ 1 → (m ≡ 1) × (n ≡ 1)) → (m ≡ 1 → n ≡ 1 → p ≡ 1) → (p == 1) ≡ ((m == 1) && (n == 1))
both_flags m n p down up = elim (same_or p 1) [
  | inl e ↦ let d = down e.0 in e.1 ∙ sym (are m n d.0 d.1)
  | inr e ↦ e.1 ∙ sym (apart m n (λ f g. e.0 (up f g)))
]
  where
    are : (m n : ℕ) → m ≡ 1 → n ≡ 1 → ((m == 1) && (n == 1)) ≡ true
    are m n e f = grind (arith, common_steps)

    apart : (m n : ℕ) → (m ≡ 1 → n ≡ 1 → ⊥) → ((m == 1) && (n == 1)) ≡ false
    apart m n h = elim (same_or m 1) [
      | inl e ↦ elim (same_or n 1) [
        | inl f ↦ absurd (h e.0 f.0)
        | inr f ↦ ap (λ (b : Bool). (m == 1) && b) f.1 ∙ ap (λ (b : Bool). b && false) e.1
      ]
      | inr e ↦ ap (λ (b : Bool). b && (n == 1)) e.1
    ]

pub bit_both : (a b port : ℕ) → has_bit (bit_and a b) port ≡ (has_bit a port && has_bit b port)
bit_both a b port =
    let is = bit_at_and a b (port - 1) in
    let x = bit_at-lt a (port - 1) in
    let y = bit_at-lt b (port - 1) in
    both_flags (bit_at a (port - 1)) (bit_at b (port - 1)) (bit_at (bit_and a b) (port - 1))
    (λ e. (omega (arith, is, x, y, e), omega (arith, is, x, y, e))) (λ e f. omega (arith, is, e, f))

pub flags_common : (a b : ℕ) → flags_of (bit_and a b) ≡ common_ways (flags_of a) (flags_of b)
flags_common a b =
    let is = bit_both a b in
    λ i. is 1 i ∷ is 2 i ∷ is 3 i ∷ is 4 i ∷ is 5 i ∷ is 6 i ∷ is 7 i ∷ is 8 i ∷ []

-- ---- masks of ports

-- the ports from 1 up to a number
pub first_bits : (ports port : ℕ) → 1 ≤ ports → ports ≤ 8 → 1 ≤ port → port ≤ 8 → has_bit (255 / 2 ^ (8 - ports)) port ≡ nat_le port ports
first_bits ports port some few from to =
    let back : 8 - (8 - ports) ≡ ports = omega arith in
    let ones : 255 / 2 ^ (8 - ports) ≡ 2 ^ ports - 1 = ones_shr 8 (8 - ports) (omega arith) ∙ ap (λ (n : ℕ). 2 ^ n - 1) back in
    let it : has_bit (255 / 2 ^ (8 - ports)) port ≡ has_bit (2 ^ ports - 1) port = ap (λ (m : ℕ). has_bit m port) ones in
    elim (cases_le port ports) [
      | inl le ↦ it ∙ (ap (λ (n : ℕ). n == 1) (bit_at_ones ports (port - 1) (omega arith)) ∙ sym (within port ports le))
      | inr gt ↦ it ∙ (ap (λ (n : ℕ). n == 1) (bit_at_ones_above ports (port - 1) (omega arith)) ∙ sym (above port ports gt))
    ]
  where
    cases_le : (m n : ℕ) → (m ≤ n) ⊎ (n < m)
    cases_le m n = grind (arith, common_steps)

    within : (m n : ℕ) → m ≤ n → nat_le m n ≡ true
    within m n h = grind (arith, common_steps)

    above : (m n : ℕ) → n < m → nat_le m n ≡ false
    above m n h = grind (arith, common_steps)

pub all_bits : (port : ℕ) → 1 ≤ port → port ≤ 8 → has_bit 255 port ≡ true
all_bits port from to = ap (λ (n : ℕ). n == 1) (bit_at_ones 8 (port - 1) (omega arith))

pub not_own : (port own : ℕ) → (port ≡ own → ⊥) → not (port == own) ≡ true
not_own port own apart = grind (arith, common_steps)

-- all ports but one
pub other_bits : (own port : ℕ) → 1 ≤ own → own ≤ 8 → 1 ≤ port → port ≤ 8 → has_bit (255 - 2 ^ (own - 1)) port ≡ not (port == own)
other_bits own port own_from own_to from to =
    let is = bit_at_not w8 (2 ^ (own - 1)) (port - 1) (pow_below (own - 1) 8 (omega arith)) (omega arith) in
    elim (same_or port own) [
      | inl e ↦
          let here : bit_at (2 ^ (own - 1)) (port - 1) ≡ 1 = ap (λ (n : ℕ). bit_at (2 ^ (own - 1)) (n - 1)) e.0 ∙ bit_at-pow_same (own - 1) in
          ap (λ (n : ℕ). n == 1) (let s : bit_at (255 - 2 ^ (own - 1)) (port - 1) ≡ 0 = omega (arith, is, here) in s) ∙ ap (λ (b : Bool). not b) (sym e.1)
      | inr e ↦
          let apart : bit_at (2 ^ (own - 1)) (port - 1) ≡ 0 = bit_at-pow_other (own - 1) (port - 1) (λ same. e.0 (omega (arith, same))) in
          ap (λ (n : ℕ). n == 1) (let s : bit_at (255 - 2 ^ (own - 1)) (port - 1) ≡ 1 = omega (arith, is, apart) in s) ∙ ap (λ (b : Bool). not b) (sym e.1)
    ]

-- the ports at which a message goes out
pub ways_in_bits : (ports : ℕ) (learned : List Learned) (own : ℕ) (target : Name) (first other behind : ℕ) → ((port : ℕ) → 1 ≤ port → port ≤ 8 → has_bit first port ≡ nat_le port ports) → ((port : ℕ) → 1 ≤ port → port ≤ 8 → has_bit other port ≡ not (port == own)) → ((port : ℕ) → 1 ≤ port → port ≤ 8 → has_bit behind port ≡ is_behind learned port target) → flags_of (bit_and first (bit_and other behind)) ≡ ways_of ports learned own target
ways_in_bits ports learned own target first other behind f o b =
    let is : (port : ℕ) → 1 ≤ port → port ≤ 8 → has_bit (bit_and first (bit_and other behind)) port ≡ goes_out ports (is_behind learned port target) own port =
    λ port from to.
    bit_both first (bit_and other behind) port
    ∙ (ap (λ (x : Bool). has_bit first port && x) (bit_both other behind port)
    ∙ (λ i. f port from to i && (o port from to i && b port from to i))) in
    λ i. is 1 (omega arith) (omega arith) i ∷ is 2 (omega arith) (omega arith) i ∷ is 3 (omega arith) (omega arith) i ∷ is 4 (omega arith) (omega arith) i ∷ is 5 (omega arith) (omega arith) i ∷ is 6 (omega arith) (omega arith) i ∷ is 7 (omega arith) (omega arith) i ∷ is 8 (omega arith) (omega arith) i ∷ []

pub below_or : (m n : ℕ) → ((m < n) × (nat_lt m n ≡ true)) ⊎ ((n ≤ m) × (nat_lt m n ≡ false))
below_or m n = elim (cases m n) [ inl e ↦ inl (e, yes m n e) | inr e ↦ inr (e, no_more m n e) ]
  where
    cases : (m n : ℕ) → (m < n) ⊎ (n ≤ m)
    cases m n = grind (arith, common_steps)

    yes : (m n : ℕ) → m < n → nat_lt m n ≡ true
    yes m n h = grind (arith, common_steps)

    no_more : (m n : ℕ) → n ≤ m → nat_lt m n ≡ false
    no_more m n h = grind (arith, common_steps)

-- ---- a word without one link's bit

pub without_bits : (word link k : ℕ) → word < 2 ^ 32 → link < 32 → has_link (bit_or (bit_and (word / 2) (4294967295 - (1 * 2 ^ link % 4294967296 - 1))) (bit_and word (1 * 2 ^ link % 4294967296 - 1))) k ≡ bit_without word link k
without_bits word link k fits few =
    let pow : 2 ^ link < 4294967296 = pow_below link 32 few in
    let low : 1 * 2 ^ link % 4294967296 - 1 ≡ 2 ^ link - 1 = ap (λ (n : ℕ). n - 1) (mod-eq_of_lt (omega (arith, pow)) ∙ omega arith) in
    ap (λ (m : ℕ). has_link (bit_or (bit_and (word / 2) (4294967295 - m)) (bit_and word m)) k) low ∙ (by_low word link k (2 ^ link - 1) (omega (arith, pow)) fits few (λ (i : ℕ) l. bit_at_ones link i l) (λ (i : ℕ) l. bit_at_ones_above link i l))
  where
    by_low : (word link k low : ℕ) → low < 2 ^ 32 → word < 2 ^ 32 → link < 32 → ((i : ℕ) → i < link → bit_at low i ≡ 1) → ((i : ℕ) → link ≤ i → bit_at low i ≡ 0) → has_link (bit_or (bit_and (word / 2) (4294967295 - low)) (bit_and word low)) k ≡ bit_without word link k
    by_low word link k low low_fits fits few ones zeros =
        let high = 4294967295 - low in
        let either = bit_at_or (bit_and (word / 2) high) (bit_and word low) k in
        let first = bit_at_and (word / 2) high k in
        let second = bit_at_and word low k in
        let next : bit_at word (k + 1) ≡ bit_at (word / 2) k = ap (bit_at word) (omega arith) ∙ bit_at-suc word k in
        let x = bit_at-lt word k in
        let y = bit_at-lt (word / 2) k in
        elim (below_or k link) [
          | inl e ↦
              let one = ones k e.0 in
              let none : bit_at high k ≡ 0 = bit_at_not w32 low k low_fits (omega (arith, e.0, few)) ∙ omega (arith, one) in
              let is : bit_at (bit_or (bit_and (word / 2) high) (bit_and word low)) k ≡ bit_at word k = omega (arith, either, first, second, one, none, x, y) in
              ap (λ (n : ℕ). n == 1) is ∙ ap (λ (b : Bool). if b then has_link word k else has_link word (k + 1)) (sym e.1)
          | inr e ↦
              let none = zeros k e.0 in
              let is : bit_at (bit_or (bit_and (word / 2) high) (bit_and word low)) k ≡ bit_at word (k + 1) = elim (below_or k 32) [
                | inl f ↦
                    let one : bit_at high k ≡ 1 = bit_at_not w32 low k low_fits f.0 ∙ omega (arith, none) in
                    omega (arith, either, first, second, one, none, next, x, y)
                | inr f ↦
                    let gone : bit_at word (k + 1) ≡ 0 = bit_at_above word 32 (k + 1) fits (omega (arith, f.0)) in
                    omega (arith, either, first, second, none, gone, next, x, y)
              ] in
              ap (λ (n : ℕ). n == 1) is ∙ ap (λ (b : Bool). if b then has_link word k else has_link word (k + 1)) (sym e.1)
        ]
