-- The node that a message is for, by its values (MAVLink guide, Routing: target_system and target_component).
use Rattle.std.specs.Prelude.{ℕ, Bool, if◌then◌else◌, List, codes, slice_index, position, Option, Some, None}
use Rattle.std.specs.List.{list_any}
use Rattle.field_layout.specs.Definition.{Definition, all_fields}
use Rattle.field_layout.specs.Payload.{words_at}
use Rattle.field_layout.specs.Target.{is_target}
use Rattle.mav_names.specs.declared.names.Name.{Name}

-- the word of the field at that index, 0 if there is no such field
abbrev pub word_or_zero : List (List ℕ) → Option ℕ → ℕ
word_or_zero values None = 0
word_or_zero values (Some place) = slice_index (words_at values place) 0

-- the word of the target field of that name
abbrev pub target_word : List ℕ → Definition → List (List ℕ) → ℕ
target_word name def values = word_or_zero values (position (is_target name) (all_fields def))

abbrev pub target_in : Definition → List (List ℕ) → Name
target_in def values = record {
  sys = target_word (codes "target_system") def values;
  comp = target_word (codes "target_component") def values;
}

-- a message has target fields, base or extension
abbrev pub has_target : Definition → Bool
has_target def = list_any (is_target (codes "target_system")) (all_fields def)

-- whom a message is for, if it has target fields
abbrev pub target_field : Definition → List (List ℕ) → Option Name
target_field def values = if has_target def then Some (target_in def values) else None
