-- What lines are read against, by the state that a world is in.
use Rattle.std.proofs.Common.{◌≡◌, Bool, length}
use Rattle.fleet_world.specs.WorldState.{WorldState, context_of}
use Rattle.fleet_world.specs.WorldView.{WorldView, IsState, context_in}
use Rattle.fleet_world.proofs.NodeLists.{names_are}

pub context_is : (state : WorldState) (frames : Bool) (world : WorldView) → IsState state frames world → context_in world ≡ context_of state
context_is state frames world is =
    λ i. record { nodes = names_are state.nodes world.fleet.nodes is.fleet i; drafted = length (is.draft i); clock = is.clock i }
