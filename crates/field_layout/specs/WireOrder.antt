-- The order of fields on the wire (MAVLink guide, Packet Serialization: Field Reordering).
use Rattle.std.specs.Prelude.{ℕ, ◌==◌, not, List, ◌++◌, length, filter, take_while, sum_by}
use Rattle.std.specs.List.{enumerate_from}
use Rattle.field_layout.specs.declared.fields.Field.{Field}
use Rattle.field_layout.specs.Types.{element_size}
use Rattle.field_layout.specs.Definition.{Definition, size_of}

-- a field with its index in definition order, extensions counted after the base fields
abbrev pub Placed : Type 0
Placed = ℕ × Field

abbrev pub place_of : Placed → ℕ
place_of field = field.0

-- those whose elements have that size, in the order given
abbrev pub of_size : ℕ → List Placed → List Placed
of_size size placed = filter (λ (field : Placed). element_size field.1.ty == size) placed

-- by element size, 8 bytes first, then 4, 2 and 1, and each size in the order given
abbrev pub by_size : List Placed → List Placed
by_size placed = of_size 8 placed ++ of_size 4 placed ++ of_size 2 placed ++ of_size 1 placed

-- the base fields in wire order
abbrev pub base_order : Definition → List Placed
base_order def = by_size (enumerate_from 0 def.fields)

-- all fields in wire order: the extensions follow in definition order
abbrev pub wire_order : Definition → List Placed
wire_order def = base_order def ++ enumerate_from (length def.fields) def.extensions

-- the offset of a field in the payload: the sizes of the fields before it in wire order
abbrev pub offset_of : Definition → ℕ → ℕ
offset_of def place =
    sum_by (λ (field : Placed). size_of field.1)
    (take_while (λ (field : Placed). not (field.0 == place)) (wire_order def))
