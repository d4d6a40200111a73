-- How many pass a test, and drones among what contracts see of nodes.
use Rattle.std.specs.Prelude.{ℕ, ◌+◌, Bool, true, false, if◌then◌else◌, List, [], ◌∷◌}
use Rattle.fleet_world.specs.declared.nodes.Node.{Node}
use Rattle.fleet_world.specs.declared.nodes.Node.TheVariants.{Drone, Station}

abbrev pub is_drone_view : Node → Bool
is_drone_view (Drone node) = true
is_drone_view (Station name node) = false

-- how many pass a test
abbrev pub counted : {A : Type 0} → (A → Bool) → List A → ℕ
counted p [] = 0
counted p (x ∷ xs) = (if p x then 1 else 0) + counted p xs
