-- Tests: of streams and names, of numbers, and of what an `if` chooses.
use Rattle.std.proofs.Common.{◌≡◌, ◌≢◌, ℕ, ◌<◌, ◌≤◌, ◌⊎◌, inl, inr, Bool, true, false, if◌then◌else◌, ◌==◌, ◌&&◌, ◌||◌, nat_lt, refl, sym, ap, subst, arith, ◌∙◌}
use Rattle.std.specs.Prelude.{not}
use Rattle.mav_names.specs.declared.names.Name.{Name}
use Rattle.mav_names.specs.declared.names.Stream.{Stream}
use Rattle.plan_upload.specs.Addresses.{same_stream, same_name, node_of, everyone, is_for_drone}
use Rattle.plan_safety.specs.Store.{at}

-- what holds of either branch holds of the choice
pub by_test : {A : Type 0} (P : A → Type 0) (b : Bool) (x y : A) → (b ≡ true → P x) → (b ≡ false → P y) → P (if b then x else y)
by_test P true x y f g = f refl
by_test P false x y f g = g refl

-- numbers
pub eq_true : (a b : ℕ) → (a == b) ≡ true → a ≡ b
eq_true a b e = grind arith

pub eq_false : (a b : ℕ) → (a == b) ≡ false → a ≢ b
eq_false a b e = grind arith

pub number_same : (n : ℕ) → (n == n) ≡ true
number_same n = grind arith

pub less : (a b : ℕ) → nat_lt a b ≡ true → a < b
less a b e = grind arith

pub not_less : (a b : ℕ) → nat_lt a b ≡ false → b ≤ a
not_less a b e = grind arith

pub zero_or : (n : ℕ) → (n ≡ 0) ⊎ (0 < n)
zero_or n = grind arith

-- flags
pub both_true : (a b : Bool) → (a && b) ≡ true → (a ≡ true) × (b ≡ true)
both_true true true e = (refl, refl)
both_true true false e = absurd (cc)
both_true false b e = absurd (cc)

-- one of two
pub either_true : (a b : Bool) → (a || b) ≡ true → (a ≡ true) ⊎ (b ≡ true)
either_true true b e = inl refl
either_true false b e = inr e

-- what a test is not
pub not_true : (b : Bool) → (b ≡ true → ⊥) → b ≡ false
not_true true h = absurd (h refl)
not_true false h = refl

pub not_is_true : (b : Bool) → not b ≡ true → b ≡ false
not_is_true true e = absurd (cc)
not_is_true false e = refl

pub not_is_false : (b : Bool) → not b ≡ false → b ≡ true
not_is_false true e = refl
not_is_false false e = absurd (cc)

-- either way
pub bool_split : (b : Bool) → (b ≡ true) ⊎ (b ≡ false)
bool_split true = inl refl
bool_split false = inr refl

pub differ : (b : Bool) → b ≡ true → b ≡ false → ⊥
differ true e f = absurd (cc)
differ false e f = absurd (cc)

abbrev pub flag : Bool → ℕ
flag true = 1
flag false = 0

-- flags as numbers
pub flag_true : (b : Bool) → b ≡ true → flag b ≡ 1
flag_true true e = refl
flag_true false e = absurd (cc)

pub flag_false : (b : Bool) → b ≡ false → flag b ≡ 0
flag_false true e = absurd (cc)
flag_false false e = refl

pub is_flagged : (b : Bool) → flag b ≡ 1 → b ≡ true
is_flagged true e = refl
is_flagged false e = absurd (omega arith)

-- streams
abbrev stream : ℕ → ℕ → ℕ → Stream
stream a b c = record { sys = a; comp = b; link = c }

-- a stream is its three parts
stream_is : (a b : Stream) → a.sys ≡ b.sys → a.comp ≡ b.comp → a.link ≡ b.link → a ≡ b
stream_is a b x y z = ap (λ n. stream n a.comp a.link) x ∙ ap (λ n. stream b.sys n a.link) y ∙ ap (stream b.sys b.comp) z

-- a stream is itself, and streams that are one are equal
pub same : (s : Stream) → same_stream s s ≡ true
same s = rw (number_same s.sys, number_same s.comp) (number_same s.link)

pub stream_eq : (a b : Stream) → same_stream a b ≡ true → a ≡ b
stream_eq a b e =
    let x = both_true _ _ e in
    let y = both_true _ _ x.1 in
    stream_is a b (eq_true _ _ x.0) (eq_true _ _ y.0) (eq_true _ _ y.1)

-- the test is false of streams that differ
pub apart : (a b : Stream) → a ≢ b → same_stream a b ≡ false
apart a b h = not_true _ (λ e. h (stream_eq a b e))

pub stream_ne : (a b : Stream) → same_stream a b ≡ false → a ≢ b
stream_ne a b e is = differ _ (subst (λ x. same_stream a x ≡ true) is (same a)) e

-- either the same or not
pub split : (a b : Stream) → (b ≡ a) ⊎ (b ≢ a)
split a b = elim (bool_split (same_stream b a)) [ inl e ↦ inl (stream_eq b a e) | inr e ↦ inr (stream_ne b a e) ]

-- names
abbrev name : ℕ → ℕ → Name
name a b = record { sys = a; comp = b }

-- names that are one are equal
pub name_eq : (a b : Name) → same_name a b ≡ true → a ≡ b
name_eq a b e =
    let x = both_true _ _ e in
    let z : name a.sys a.comp ≡ name b.sys b.comp = ap (λ n. name n a.comp) (eq_true _ _ x.0) ∙ ap (name b.sys) (eq_true _ _ x.1) in
    z

pub name_same : (a : Name) → same_name a a ≡ true
name_same a = rw (number_same a.sys) (number_same a.comp)

-- the name of a drone is not everyone's
pub drone_not_everyone : (d : Stream) → d.comp ≡ 1 → node_of d ≢ everyone
drone_not_everyone d c e = absurd (let z : d.comp ≡ 0 = ap (λ (n : Name). n.comp) e in omega arith)

-- a drone takes its own name
pub for_itself : (d : Stream) → d.comp ≡ 1 → is_for_drone d.sys (node_of d) ≡ true
for_itself d c = rw (number_same d.sys, c) refl

-- and another drone's name only if their systems are one
pub for_another : (d e : Stream) → is_for_drone d.sys (node_of e) ≡ true → d.sys ≡ e.sys
for_another d e h = sym (eq_true _ _ (both_true _ _ h).0)

-- tables
pub at_same : {A : Type 0} (f : Stream → A) (key : Stream) (value : A) → at f key value key ≡ value
at_same f key value = rw (same key) refl

-- another entry stays
pub at_apart : {A : Type 0} (f : Stream → A) (key other : Stream) (value : A) → other ≢ key → at f key value other ≡ f other
at_apart f key other value h = rw (apart other key h) refl
