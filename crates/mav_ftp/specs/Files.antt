-- Files without directories, in the order in which they were made.
use Rattle.std.specs.Prelude.{ℕ, Bool, List, position, slice_get, Option, Some, None}
use Rattle.std.specs.Str.{bytes_eq}

pub record File : Type 0 where
  pub name : List ℕ
  pub bytes : List ℕ

-- this profile's limit
abbrev pub most_files : ℕ
most_files = 64

abbrev pub is_named : List ℕ → File → Bool
is_named name f = bytes_eq f.name name

-- the index of the file of a name, and its bytes
abbrev pub file_at : List File → List ℕ → Option ℕ
file_at files name = position (is_named name) files

abbrev pub bytes_of : Option File → Option (List ℕ)
bytes_of None = None
bytes_of (Some f) = Some f.bytes

abbrev pub bytes_at : List File → Option ℕ → Option (List ℕ)
bytes_at files None = None
bytes_at files (Some index) = bytes_of (slice_get files index)

abbrev pub bytes_named : List File → List ℕ → Option (List ℕ)
bytes_named files name = bytes_at files (file_at files name)
