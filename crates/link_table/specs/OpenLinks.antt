-- Which nodes are behind the links that are open, of which each has a list of the nodes that were learned there.
use Rattle.std.specs.Prelude.{ℕ, ◌≡◌, ◌==◌, ◌&&◌, ◌+◌, ◌*◌, ◌<◌, nat_lt, Bool, true, if◌then◌else◌, List, []}
use Rattle.std.specs.Prelude.{slice_index, get_or}
use Rattle.std.specs.Int.{bit_at}
use Rattle.std.specs.List.{list_any}
use Rattle.mav_names.specs.declared.names.Name.{Name}

-- some node of the system is among these, and the node itself is
abbrev pub has_system : List Name → ℕ → Bool
has_system names sys = list_any (λ (n : Name). n.sys == sys) names

abbrev pub has_node : List Name → ℕ → ℕ → Bool
has_node names sys comp = list_any (λ (n : Name). (n.sys == sys) && (n.comp == comp)) names

-- somebody whom a message for that target is for is among these nodes, as behind a port: target system 0 is a
-- broadcast, component 0 is any component of the system
abbrev pub is_among : List Name → Name → Bool
is_among names target =
    if target.sys == 0 then true
    else (if target.comp == 0 then has_system names target.sys else has_node names target.sys target.comp)

-- the nodes of the link with that index among those that are open, from 0
abbrev pub nodes_at : List (List Name) → ℕ → List Name
nodes_at links k = get_or links k []

-- the bit of the link with that index
abbrev pub has_link : ℕ → ℕ → Bool
has_link word k = bit_at word k == 1

-- a word for each node and for each system, with a bit for each of 32 links
pub record Words : Type 0 where
  pub nodes : List ℕ
  pub systems : List ℕ

-- the bits say which nodes were learned at the open links, and none is set for a link that isn't open
pub record StandsFor (words : Words) (links : List (List Name)) : Type 0 where
  pub nodes : (k sys comp : ℕ) → sys < 256 → comp < 256
      → has_link (slice_index words.nodes (sys * 256 + comp)) k ≡ has_node (nodes_at links k) sys comp
  pub systems : (k sys : ℕ) → sys < 256 → has_link (slice_index words.systems sys) k
      ≡ has_system (nodes_at links k) sys

-- the bits of a word without those of one link, each later link's moved to the index before it
abbrev pub bit_without : ℕ → ℕ → ℕ → Bool
bit_without word at k = if nat_lt k at then has_link word k else has_link word (k + 1)
