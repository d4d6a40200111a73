-- The data of a listing (MAVLink guide, File Transfer Protocol: ListDirectory).
use Rattle.std.specs.Prelude.{ℕ, ◌-◌, nat_le, ◌||◌, if◌then◌else◌, Bool, List, [], ◌∷◌, ◌++◌, length}
use Rattle.std.specs.Str.{bytes_eq}
use Rattle.std.specs.Fmt.{decimal}
use Rattle.mav_ftp.specs.Files.{File}

-- `F<name>\t<size>\0`
abbrev pub entry : File → List ℕ
entry f = 70 ∷ (f.name ++ (9 ∷ (decimal (length f.bytes) ++ 0 ∷ [])))

-- as many whole entries as fit
abbrev pub entries_within : ℕ → List File → List ℕ
entries_within room [] = []
entries_within room (f ∷ fs) = if nat_le (length (entry f)) room
    then entry f ++ entries_within (room - length (entry f)) fs else []

-- the one directory: nothing, or `/`
abbrev pub is_root : List ℕ → Bool
is_root path = bytes_eq path [] || bytes_eq path (47 ∷ [])
