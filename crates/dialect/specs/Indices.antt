-- The indices of messages by their ids.
use Rattle.std.specs.Prelude.{ℕ, ◌≡◌, ◌==◌, List, Option, Some, position, slice_get}
use Rattle.field_layout.specs.Definition.{Definition}

-- the first index of a message with an id, if there is one
abbrev pub index_with : ℕ → List Definition → Option ℕ
index_with id defs = position (λ (def : Definition). id == def.id) defs

-- for each of the ids from 0 up the index of its message, or none
abbrev pub AreIndices : List Definition → List (Option ℕ) → Type 0
AreIndices defs indices = (id : ℕ) (index : Option ℕ) → slice_get indices id ≡ Some index → index ≡ index_with id defs
