-- What a dialect reports of its messages.
use Rattle.std.specs.Prelude.{ℕ, ◌==◌, List, [], find, fold, Option}
use Rattle.std.specs.BTreeMap.{insert_entry}
use Rattle.std.specs.Ordering.{nat_cmp}
use Rattle.field_layout.specs.Definition.{Definition}
use Rattle.field_layout.specs.CrcExtra.{crc_extra_of}

abbrev pub id_of : Definition → ℕ
id_of def = def.id

abbrev pub name_of : Definition → List ℕ
name_of def = def.name

-- the message of an id
abbrev pub definition_with : ℕ → List Definition → Option Definition
definition_with id defs = find (λ (def : Definition). id == def.id) defs

-- each message's id and its CRC_EXTRA, in ascending order of the ids: the entries of a sorted map
abbrev pub with_extra : List (ℕ × ℕ) → Definition → List (ℕ × ℕ)
with_extra pairs def = insert_entry nat_cmp pairs def.id (crc_extra_of def)

abbrev pub extras_of : List Definition → List (ℕ × ℕ)
extras_of defs = fold with_extra [] defs
