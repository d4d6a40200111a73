-- The index of the first field that passes a test.
use Rattle.std.proofs.Common.{◌≡◌, ◌<◌, ℕ, Bool, true, false, Some, None, List, length, get_or, refl, arith, ltb}
use Rattle.std.specs.Prelude.{position}
use Rattle.std.specs.List.{position_or_len}
use Rattle.std.proofs.lemmas.List.Sums.{position_or_len_is}
use Rattle.std.proofs.lemmas.Bool.Decides.{nat_tests}
use Rattle.field_layout.specs.declared.fields.Field.{Field}
use Rattle.field_layout.proofs.Walking.{nowhere}

pub position_here : (test : Field → Bool) (fields : List Field) (place : ℕ) → place < length fields → ((k : ℕ) → k < place → test (get_or fields k nowhere.1) ≡ false) → test (get_or fields place nowhere.1) ≡ true → position test fields ≡ Some place
position_here test fields place inside below here =
    let is : position_or_len test fields ≡ place = position_or_len_is test fields place nowhere.1 (omega arith) below (λ _. here) in
    let within : ltb place (length fields) ≡ true = grind (arith, nat_tests) in
    rw (is, within) refl

pub position_nowhere : (test : Field → Bool) (fields : List Field) → ((k : ℕ) → k < length fields → test (get_or fields k nowhere.1) ≡ false) → position test fields ≡ None
position_nowhere test fields below =
    let is : position_or_len test fields ≡ length fields = position_or_len_is test fields (length fields) nowhere.1 (omega arith) below (λ h. absurd (omega arith)) in
    let beyond : ltb (length fields) (length fields) ≡ false = grind (arith, nat_tests) in
    rw (is, beyond) refl
