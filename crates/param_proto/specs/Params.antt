-- Parameters: ids, types and words (MAVLink guide, Parameter Protocol: bytewise encoding).
use Rattle.std.specs.Prelude.{ℕ, ◌==◌, ◌%◌, ◌*◌, ◌^◌, ◌||◌, Bool, if◌then◌else◌, List, [], ◌∷◌, map}
use Rattle.std.specs.Str.{bytes_eq}
use Rattle.param_proto.specs.declared.params.Param.{Param}

-- an id ends at its first zero byte: those after it are taken as zeros
abbrev pub cleaned : List ℕ → List ℕ
cleaned [] = []
cleaned (b ∷ bs) = if b == 0 then map (λ (byte : ℕ). 0) (b ∷ bs) else b ∷ cleaned bs

abbrev pub same_id : List ℕ → List ℕ → Bool
same_id a b = bytes_eq (cleaned a) (cleaned b)

-- MAV_PARAM_TYPE of the integers of at most 32 bits, signed and unsigned, and of REAL32
abbrev pub is_type : ℕ → Bool
is_type ty = (ty == 1) || (ty == 2) || (ty == 3) || (ty == 4) || (ty == 5) || (ty == 6) || (ty == 9)

-- how many bytes a value of a type has
abbrev pub width_of : ℕ → ℕ
width_of ty = if (ty == 1) || (ty == 2) then 1 else if (ty == 3) || (ty == 4) then 2 else 4

-- the bytes of a value come first in the field, lowest byte first; the others don't count, and are zeros
abbrev pub narrowed : ℕ → ℕ → ℕ
narrowed ty word = word % 2 ^ (8 * width_of ty)

abbrev pub normal : Param → Param
normal p = record p { id = cleaned p.id; word = narrowed p.ty p.word }
