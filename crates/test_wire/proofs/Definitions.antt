-- Definitions of messages: which are accepted, and the first fault of those that are rejected.
use Rattle.std.proofs.Common.{◌≡◌, ℕ, List, [], ◌∷◌, map, codes, refl, pos}
use Rattle.std.specs.Prelude.{neg_ℤ, Some, None, Option, Ok, Err, replicate}
use Rattle.std.specs.declared.result.Result.{Result}
use Rattle.serde_json.specs.Data.{Data, null, number, string, array, object, unsigned, negative, Items, no_items, item, Members, no_members, member}
use Rattle.field_layout.specs.declared.faults.LayoutFault.TheVariants.{NoFields, TooLong}
use Rattle.field_layout.specs.Definition.{Definition}
use Rattle.dialect.specs.declared.faults.DialectFault.{DialectFault}
use Rattle.dialect.specs.declared.faults.DialectFault.TheVariants.{NotJson, Shape, BadType, BadName, TwiceId, TwiceName, Layout, TooMany}
use Rattle.dialect.specs.Grammar.{of_top}

-- the fault of a value, None if it is accepted
abbrev fault_in : Result (List Definition) DialectFault → Option DialectFault
fault_in (Ok defs) = None
fault_in (Err fault) = Some fault

abbrev fault_of : Data → Option DialectFault
fault_of top = fault_in (of_top (Some top))

-- ---- values as they are written

abbrev items : List Data → Items
items [] = no_items
items (d ∷ ds) = item d (items ds)

abbrev with_messages : Data → Data
with_messages messages = object (member (codes "messages") messages no_members)

abbrev messages : List Data → Data
messages ds = with_messages (array (items ds))

abbrev field : List ℕ → List ℕ → Data
field ty name = object (member (codes "type") (string ty) (member (codes "name") (string name) no_members))

-- the member `fields`, and others after it
abbrev fields : List Data → Members → Members
fields ds others = member (codes "fields") (array (items ds)) others

abbrev message_of : Data → List ℕ → Members → Data
message_of id name others = object (member (codes "id") id (member (codes "name") (string name) others))

abbrev message : ℕ → List ℕ → Members → Data
message id name others = message_of (number (unsigned id)) name others

abbrev char_field : List Data
char_field = field (codes "char") (codes "a") ∷ []

abbrev empty_object : Data
empty_object = object no_members

-- ---- shapes

pub tops : map fault_of
    (empty_object ∷ array no_items ∷ with_messages empty_object ∷ messages [] ∷
    object (member (codes "messages") (array no_items) (member (codes "version") (number (unsigned 3)) no_members)) ∷
    messages (number (unsigned 0) ∷ []) ∷ []) ≡
    Some (Shape None) ∷ Some (Shape None) ∷ Some (Shape None) ∷ None ∷ None ∷ Some (Shape (Some 0)) ∷ []
tops = refl

abbrev fault_of_members : Members → Option DialectFault
fault_of_members others = fault_of (messages (message 1 (codes "A") others ∷ []))

pub members : map fault_of_members
    (no_members ∷ fields [] no_members ∷ fields (object (member (codes "type") (string (codes "char")) no_members) ∷ []) no_members ∷
    fields char_field (member (codes "extensions") null no_members) ∷ fields char_field (member (codes "extensions") (array no_items) no_members) ∷ []) ≡
    Some (Shape (Some 0)) ∷ Some (Layout 0 NoFields) ∷ Some (Shape (Some 0)) ∷ Some (Shape (Some 0)) ∷ None ∷ []
members = refl

-- an id is a whole number of three bytes
abbrev fault_of_id : Data → Option DialectFault
fault_of_id id = fault_of (messages (message_of id (codes "A") (fields [] no_members) ∷ []))

pub ids : map fault_of_id (number (negative (neg_ℤ (pos 1))) ∷ number (unsigned 16777216) ∷ number (unsigned 16777215) ∷ []) ≡
    Some (Shape (Some 0)) ∷ Some (Shape (Some 0)) ∷ Some (Layout 0 NoFields) ∷ []
ids = refl

-- ---- types are tested before names

abbrev fault_of_fields : List Data → Option DialectFault
fault_of_fields ds = fault_of (messages (message 7 (codes "ONE") (fields ds no_members) ∷ []))

-- the fault of a field of that type and name
abbrev fault_of_field : List ℕ × List ℕ → Option DialectFault
fault_of_field spelled = fault_of_fields (field spelled.0 spelled.1 ∷ [])

-- named `a`
abbrev fault_of_type : List ℕ → Option DialectFault
fault_of_type ty = fault_of_field (ty, codes "a")

pub types_accepted : map fault_of_type (codes "uint8_t[255]" ∷ codes "uint8_t[1]" ∷ codes "uint8_t_mavlink_version" ∷ []) ≡
    None ∷ None ∷ None ∷ []
types_accepted = refl

pub types_refused : map fault_of_type
    (codes "uint8_t[0]" ∷ codes "uint8_t[01]" ∷ codes "uint8_t[256]" ∷ codes "uint8_t[]" ∷ codes "uint8_t[2" ∷
    codes "uint8_t_mavlink_version[3]" ∷ codes "int" ∷ []) ≡
    replicate 7 (Some (BadType 0))
types_refused = refl

pub types_before_names : map fault_of_field ((codes "int", codes "-") ∷ (codes "double", codes "a-b") ∷ (codes "double", codes "") ∷ []) ≡
    Some (BadType 0) ∷ Some (BadName 0) ∷ Some (BadName 0) ∷ []
types_before_names = refl

pub too_long : fault_of_fields (field (codes "uint8_t[255]") (codes "a") ∷ field (codes "uint8_t") (codes "b") ∷ []) ≡ Some (Layout 0 (TooLong 256))
too_long = refl

-- ---- a fault names its message

abbrev of_char : ℕ → List ℕ → Data
of_char id name = message id name (fields char_field no_members)

pub places : map (λ ds. fault_of (messages ds))
    ((of_char 1 (codes "a") ∷ []) ∷ (of_char 1 (codes "A") ∷ of_char 1 (codes "A") ∷ []) ∷ (of_char 1 (codes "A") ∷ of_char 2 (codes "A") ∷ []) ∷
    (of_char 1 (codes "A") ∷ message 2 (codes "B") (fields [] no_members) ∷ []) ∷ (of_char 1 (codes "A") ∷ empty_object ∷ []) ∷ []) ≡
    Some (BadName 0) ∷ Some (TwiceId 1) ∷ Some (TwiceName 1) ∷ Some (Layout 1 NoFields) ∷ Some (Shape (Some 1)) ∷ []
places = refl

-- ---- there may be 512 messages, whatever they are

pub many : map (λ count. fault_of (messages (replicate count (number (unsigned 0))))) (512 ∷ 513 ∷ []) ≡
    Some (Shape (Some 0)) ∷ Some TooMany ∷ []
many = refl

-- no text, no definitions
pub no_json : of_top None ≡ Err NotJson
no_json = refl
