-- Layouts, computed from the definitions alone.
use Rattle.std.proofs.Common.{◌≡◌, ℕ, List, [], ◌∷◌, length, map, codes, refl}
use Rattle.std.specs.Prelude.{Some, None, Option}
use Rattle.std.specs.List.{range_with_len}
use Rattle.x25_check.specs.Check.{after_byte}
use Rattle.field_layout.specs.declared.ty.Ty.TheVariants.{U8, I8, U16, U32, U64, F32}
use Rattle.field_layout.specs.declared.fields.Field.{Field}
use Rattle.field_layout.specs.declared.faults.LayoutFault.{LayoutFault}
use Rattle.field_layout.specs.declared.faults.LayoutFault.TheVariants.{NoFields, TwiceNamed, TooLong}
use Rattle.field_layout.specs.Definition.{Definition, all_fields, base_len_of, full_len_of}
use Rattle.field_layout.specs.WireOrder.{offset_of}
use Rattle.field_layout.specs.CrcExtra.{crc_extra_of}
use Rattle.field_layout.specs.Faults.{first_fault}
use Rattle.field_layout.specs.Payload.{serialised, truncated}
use Rattle.field_layout.specs.Target.{target_of}
use Rattle.field_layout.proofs.Decoding.{decoded_all}
use Rattle.mav_profile.specs.Profile.{single, array, profile_definitions, mission_item_int_definition, mission_current_definition}

-- id, CRC_EXTRA, and the lengths without and with the extensions
abbrev sizes : Definition → List ℕ
sizes def = def.id ∷ crc_extra_of def ∷ base_len_of def ∷ full_len_of def ∷ []

abbrev offsets : Definition → List ℕ
offsets def = map (offset_of def) (range_with_len 0 (length (all_fields def)))

-- those of the public message set
pub published_sizes : map sizes profile_definitions ≡
    (0 ∷ 50 ∷ 9 ∷ 9 ∷ []) ∷ (4 ∷ 237 ∷ 14 ∷ 14 ∷ []) ∷ (20 ∷ 214 ∷ 20 ∷ 20 ∷ []) ∷ (21 ∷ 159 ∷ 2 ∷ 2 ∷ []) ∷
    (22 ∷ 220 ∷ 25 ∷ 25 ∷ []) ∷ (23 ∷ 168 ∷ 23 ∷ 23 ∷ []) ∷ (33 ∷ 104 ∷ 28 ∷ 28 ∷ []) ∷ (42 ∷ 28 ∷ 2 ∷ 2 ∷ []) ∷
    (43 ∷ 132 ∷ 2 ∷ 3 ∷ []) ∷ (44 ∷ 221 ∷ 4 ∷ 5 ∷ []) ∷ (45 ∷ 232 ∷ 2 ∷ 3 ∷ []) ∷ (46 ∷ 11 ∷ 2 ∷ 2 ∷ []) ∷
    (47 ∷ 153 ∷ 3 ∷ 4 ∷ []) ∷ (51 ∷ 196 ∷ 4 ∷ 5 ∷ []) ∷ (73 ∷ 38 ∷ 37 ∷ 38 ∷ []) ∷ (76 ∷ 152 ∷ 33 ∷ 33 ∷ []) ∷
    (77 ∷ 143 ∷ 3 ∷ 10 ∷ []) ∷ (110 ∷ 84 ∷ 254 ∷ 254 ∷ []) ∷ (253 ∷ 83 ∷ 51 ∷ 54 ∷ []) ∷ []
unfolding after_byte
published_sizes = refl

pub published_offsets : offsets mission_item_int_definition ≡
    32 ∷ 33 ∷ 28 ∷ 34 ∷ 30 ∷ 35 ∷ 36 ∷ 0 ∷ 4 ∷ 8 ∷ 12 ∷ 16 ∷ 20 ∷ 24 ∷ 37 ∷ []
published_offsets = refl

-- a message of base fields and extensions
abbrev message : List Field → List Field → Definition
message fields extensions = record { id = 0; name = codes "M"; fields = fields; extensions = extensions }

-- ---- a message with an element of each size, and a payload of it that was written by hand

abbrev all_sizes : Definition
all_sizes = message
    (single U8 (codes "a") ∷ array U16 2 (codes "b") ∷ single U64 (codes "c") ∷ single F32 (codes "d") ∷ array I8 3 (codes "e") ∷ [])
    (single U8 (codes "f") ∷ single U32 (codes "g") ∷ [])

abbrev all_sizes_values : List (List ℕ)
all_sizes_values =
    (9 ∷ []) ∷ (0x0102 ∷ 0x0304 ∷ []) ∷ (0x0102030405060708 ∷ []) ∷ (0x3F800000 ∷ []) ∷ (255 ∷ 0 ∷ 1 ∷ []) ∷ (0 ∷ []) ∷ (1 ∷ []) ∷ []

abbrev all_sizes_payload : List ℕ
all_sizes_payload =
    8 ∷ 7 ∷ 6 ∷ 5 ∷ 4 ∷ 3 ∷ 2 ∷ 1 ∷ 0 ∷ 0 ∷ 128 ∷ 63 ∷ 2 ∷ 1 ∷ 4 ∷ 3 ∷ 9 ∷ 255 ∷ 0 ∷ 1 ∷ 0 ∷ 1 ∷ []

pub all_sizes_offsets : offsets all_sizes ≡ 16 ∷ 12 ∷ 0 ∷ 8 ∷ 17 ∷ 20 ∷ 21 ∷ []
all_sizes_offsets = refl

pub all_sizes_packed : truncated (serialised all_sizes all_sizes_values) ≡ all_sizes_payload
all_sizes_packed = refl

-- a payload of zeros keeps its first byte
pub zeros_packed : truncated (serialised mission_current_definition ((0 ∷ []) ∷ [])) ≡ 0 ∷ []
zeros_packed = refl

-- what the payload written by hand represents, by `decoded_represents`
pub all_sizes_unpacked : decoded_all all_sizes all_sizes_payload ≡ all_sizes_values
all_sizes_unpacked = refl

-- ---- first faults

abbrev faults : List Definition → List (Option LayoutFault)
faults defs = map first_fault defs

pub faults_found : faults
    (message (array U8 255 (codes "payload") ∷ []) [] ∷ message (array U8 255 (codes "payload") ∷ []) (single U8 (codes "more") ∷ []) ∷
    message [] (single U8 (codes "more") ∷ []) ∷ []) ≡
    None ∷ Some (TooLong 256) ∷ Some NoFields ∷ []
faults_found = refl

pub full_length : full_len_of (message (array U8 255 (codes "payload") ∷ []) []) ≡ 255
full_length = refl

-- the first repeated name
abbrev twice : Definition
twice = message
    (single U8 (codes "seq") ∷ single U8 (codes "kind") ∷ [])
    (single U8 (codes "kind") ∷ single U8 (codes "seq") ∷ [])

pub twice_named : first_fault twice ≡ Some (TwiceNamed (codes "kind"))
twice_named = refl

-- ---- the target is read from extensions too

abbrev short_ack : Definition
short_ack = message
    (single U16 (codes "command") ∷ single U8 (codes "result") ∷ [])
    (single U8 (codes "target_system") ∷ single U8 (codes "target_component") ∷ [])

pub target_of_short_payload : target_of short_ack (0 ∷ 0 ∷ 0 ∷ 5 ∷ []) ≡ (record { sys = 5; comp = 0 })
target_of_short_payload = refl
