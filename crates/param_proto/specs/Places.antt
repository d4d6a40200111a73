-- The indices of ids, as a server keeps them.
use Rattle.std.specs.Prelude.{◌≡◌, ℕ, List, Some, cond, Option}
use Rattle.std.specs.Str.{bytes_eq}
use Rattle.std.specs.Map.{lookup}
use Rattle.param_proto.specs.declared.params.Param.{Param}
use Rattle.param_proto.specs.Params.{cleaned}
use Rattle.param_proto.specs.Server.{place_of}

-- by pairs of a cleaned id and an index
abbrev pub place_in : List (List ℕ × ℕ) → List ℕ → Option ℕ
place_in pairs id = lookup (bytes_eq (cleaned id)) pairs

-- the pairs say of each id where it is
abbrev pub IsIndex : List (List ℕ × ℕ) → List Param → Type 0
IsIndex pairs params = (id : List ℕ) → place_in pairs id ≡ place_of params id

-- the pairs after one is added
abbrev pub HasAdded : List (List ℕ × ℕ) → List (List ℕ × ℕ) → List ℕ → ℕ → Type 0
HasAdded before after id index = (other : List ℕ)
    → lookup (bytes_eq other) after ≡ cond (bytes_eq id other) (Some index) (lookup (bytes_eq other) before)
