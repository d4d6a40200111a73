-- What the end of a scenario reports of the node at an index.
use Rattle.std.specs.Prelude.{ℕ, List, [], Option, Some, None}
use Rattle.node_reports.specs.Nodes.{Node}
use Rattle.fleet_world.specs.Steps.{closing_of}

abbrev pub closing_at : Option Node → List ℕ
closing_at None = []
closing_at (Some node) = closing_of node
