-- The rows of the profile's table, as definitions.
use Rattle.std.specs.Prelude.{Bool, true, not, ◌&&◌, is_none, List, [], ◌∷◌, ◌++◌, map}
use Rattle.field_layout.specs.declared.fields.Field.{Field}
use Rattle.field_layout.specs.Definition.{Definition}
use Rattle.field_layout.specs.Faults.{first_fault}
use Rattle.dialect.specs.Grammar.{has_id}
use Rattle.dialect.specs.declared.profile.FieldRow.{FieldRow}
use Rattle.dialect.specs.declared.profile.MessageRow.{MessageRow}

abbrev pub field_of_row : FieldRow → Field
field_of_row row = record { ty = row.0; len = row.1; name = row.2.now }

abbrev pub definition_of_row : MessageRow → Definition
definition_of_row row = record {
  id = row.id;
  name = row.name.now;
  fields = map field_of_row row.fields.now;
  extensions = map field_of_row row.extensions.now;
}

-- each message has a layout, and an id that no earlier message has
abbrev pub are_laid_out_behind : List Definition → List Definition → Bool
are_laid_out_behind earlier [] = true
are_laid_out_behind earlier (def ∷ defs) =
    is_none (first_fault def) && not (has_id earlier def.id) && are_laid_out_behind (earlier ++ def ∷ []) defs
