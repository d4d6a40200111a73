-- Tests: of numbers and names, and of what an `if` chooses.
use Rattle.std.proofs.Common.{◌≡◌, ℕ, ◌<◌, ◌≤◌, ◌⊎◌, inl, inr, Bool, true, false, if◌then◌else◌, ◌==◌, ◌&&◌, ◌||◌, nat_lt, refl, ap, arith, ◌∙◌}
use Rattle.std.specs.Prelude.{nat_le}
use Rattle.mav_names.specs.declared.names.Name.{Name}
use Rattle.plan_upload.specs.Addresses.{same_name}

-- what holds of either branch holds of the choice
pub by_test : {A : Type 0} (P : A → Type 0) (b : Bool) (x y : A) → (b ≡ true → P x) → (b ≡ false → P y) → P (if b then x else y)
by_test P true x y f g = f refl
by_test P false x y f g = g refl

pub eq_true : (a b : ℕ) → (a == b) ≡ true → a ≡ b
eq_true a b e = grind arith

pub number_same : (n : ℕ) → (n == n) ≡ true
number_same n = grind arith

pub less : (a b : ℕ) → nat_lt a b ≡ true → a < b
less a b e = grind arith

pub not_less : (a b : ℕ) → nat_lt a b ≡ false → b ≤ a
not_less a b e = grind arith

pub at_most : (a b : ℕ) → nat_le a b ≡ true → a ≤ b
at_most a b e = grind arith

pub both_true : (a b : Bool) → (a && b) ≡ true → (a ≡ true) × (b ≡ true)
both_true true true e = (refl, refl)
both_true true false e = absurd (cc)
both_true false b e = absurd (cc)

pub neither : (a b : Bool) → (a || b) ≡ false → (a ≡ false) × (b ≡ false)
neither true b e = absurd (cc)
neither false b e = (refl, e)

pub either_true : (a b : Bool) → (a || b) ≡ true → (a ≡ true) ⊎ (b ≡ true)
either_true true b e = inl refl
either_true false b e = inr e

pub bool_split : (b : Bool) → (b ≡ true) ⊎ (b ≡ false)
bool_split true = inl refl
bool_split false = inr refl

pub differ : (b : Bool) → b ≡ true → b ≡ false → ⊥
differ true e f = absurd (cc)
differ false e f = absurd (cc)

abbrev name : ℕ → ℕ → Name
name a b = record { sys = a; comp = b }

pub name_is : (a b : Name) → a.sys ≡ b.sys → a.comp ≡ b.comp → a ≡ b
name_is a b x y =
    let z : name a.sys a.comp ≡ name b.sys b.comp = ap (λ n. name n a.comp) x ∙ ap (name b.sys) y in
    z

pub name_eq : (a b : Name) → same_name a b ≡ true → a ≡ b
name_eq a b e =
    let x = both_true _ _ e in
    name_is a b (eq_true _ _ x.0) (eq_true _ _ x.1)

pub name_same : (a : Name) → same_name a a ≡ true
name_same a = rw (number_same a.sys) (number_same a.comp)
