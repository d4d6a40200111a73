-- What follows if nothing is rejected.
use Rattle.std.proofs.Common.{◌≡◌, ℕ, Bool, true, false, not, if◌then◌else◌, List, Some, None, ap, refl}
use Rattle.std.specs.Str.{is_utf8, IsUtf8}
use Rattle.std.proofs.lemmas.Str.{IsUtf8-from_is_utf8, is_utf8-from_IsUtf8}
use Rattle.serde_json.specs.Read.{read}
use Rattle.field_layout.specs.Definition.{Definition}
use Rattle.dialect.specs.declared.faults.DialectFault.{DialectFault}
use Rattle.dialect.specs.Shape.{MessageText}
use Rattle.dialect.specs.Grammar.{json_of, has_types, has_names, has_id, has_name, text_fault}

-- a text in UTF-8 is what it is read as
pub json_of-utf8 : (bytes : List ℕ) → IsUtf8 bytes → json_of bytes ≡ read bytes
json_of-utf8 bytes utf8 = ap (λ test. if test then read bytes else None) (is_utf8-from_IsUtf8 bytes utf8)

-- a text that is rejected whenever it is UTF-8 is no JSON
pub json_of-refused : (bytes : List ℕ) → (IsUtf8 bytes → read bytes ≡ None) → json_of bytes ≡ None
json_of-refused bytes refused =
    elim (is_utf8 bytes) as (λ test. is_utf8 bytes ≡ test → (if test then read bytes else None) ≡ None) [
      | true ↦ λ utf8. refused (IsUtf8-from_is_utf8 bytes utf8)
      | false ↦ λ _. refl
    ] refl

four_tests : (types names id name : Bool) (w x y z : DialectFault)
    → (if not types then Some w else if not names then Some x else if id then Some y else if name then Some z else None) ≡ None
    → (id ≡ false) × (name ≡ false)
four_tests false names id name w x y z h = absurd (cc)
four_tests true false id name w x y z h = absurd (cc)
four_tests true true true name w x y z h = absurd (cc)
four_tests true true false true w x y z h = absurd (cc)
four_tests true true false false w x y z h = (refl, refl)

-- a message whose text has no fault has an id and a name of its own
pub text_fault-none : (earlier : List Definition) (text : MessageText) → text_fault earlier text ≡ None
    → (has_id earlier text.id ≡ false) × (has_name earlier text.name ≡ false)
text_fault-none earlier text none =
    four_tests (has_types text) (has_names text) (has_id earlier text.id) (has_name earlier text.name) _ _ _ _ none
