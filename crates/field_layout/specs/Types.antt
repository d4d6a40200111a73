-- The types of fields (MAVLink guide, Field Types).
use Rattle.std.specs.Prelude.{ℕ, List, codes}
use Rattle.field_layout.specs.declared.ty.Ty.{Ty}
use Rattle.field_layout.specs.declared.ty.Ty.TheVariants.{I8, U8, Char, I16, U16, I32, U32, I64, U64, F32, F64}
use Rattle.field_layout.specs.declared.ty.Ty.TheVariants.{Version}

-- the bytes of one element
abbrev pub element_size : Ty → ℕ
element_size I8 = 1
element_size U8 = 1
element_size Char = 1
element_size I16 = 2
element_size U16 = 2
element_size I32 = 4
element_size U32 = 4
element_size I64 = 8
element_size U64 = 8
element_size F32 = 4
element_size F64 = 8
element_size Version = 1

-- the name that enters CRC_EXTRA: uint8_t_mavlink_version counts as uint8_t
abbrev pub type_name : Ty → List ℕ
type_name I8 = codes "int8_t"
type_name U8 = codes "uint8_t"
type_name Char = codes "char"
type_name I16 = codes "int16_t"
type_name U16 = codes "uint16_t"
type_name I32 = codes "int32_t"
type_name U32 = codes "uint32_t"
type_name I64 = codes "int64_t"
type_name U64 = codes "uint64_t"
type_name F32 = codes "float"
type_name F64 = codes "double"
type_name Version = codes "uint8_t"
