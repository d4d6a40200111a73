-- What a table keeps of the nodes that were learned.
use Rattle.std.specs.Prelude.{ℕ, ◌≡◌, ◌+◌, ◌*◌, ◌<◌, ◌≤◌, List, slice_index}
use Rattle.link_table.specs.Bits.{has_bit}
use Rattle.link_table.specs.Routing.{Learned, system_learned, node_learned}

-- a byte for each node and for each system, with a bit for each port
pub record Masks : Type 0 where
  pub ports : ℕ
  pub nodes : List ℕ
  pub systems : List ℕ

-- the bits say what was learned
pub record Represents (masks : Masks) (learned : List Learned) : Type 0 where
  pub nodes : (port sys comp : ℕ) → 1 ≤ port → port ≤ 8 → sys < 256 → comp < 256
      → has_bit (slice_index masks.nodes (sys * 256 + comp)) port ≡ node_learned learned port sys comp
  pub systems : (port sys : ℕ) → 1 ≤ port → port ≤ 8 → sys < 256
      → has_bit (slice_index masks.systems sys) port ≡ system_learned learned port sys
