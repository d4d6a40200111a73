-- What contracts see of a live node, and which node it is.
use Rattle.std.specs.Prelude.{ℕ, List, Option}
use Rattle.mav_frame.specs.declared.events.Event.{Event}
use Rattle.mav_nodes.specs.Links.{LinkView}
use Rattle.mav_nodes.specs.Nodes.{IsDrone, IsStation}
use Rattle.mav_nodes.specs.Images.{StoreHolds}
use Rattle.mav_nodes.specs.Streams.{HasRead}
use Rattle.node_reports.specs.Nodes.{Node, Drone, Station}
use Rattle.live_node.specs.declared.nodes.LiveNode.{LiveNode}
use Rattle.live_node.specs.declared.nodes.LiveNode.TheVariants.{Drone as LiveDrone, Station as LiveStation}

-- its end of the link represents the history of the node
abbrev pub IsLive : Node → LiveNode → Type 0
IsLive (Drone n) (LiveDrone v) = IsDrone n v
IsLive (Station n) (LiveStation v) = IsStation n v
IsLive node live = ⊥

-- its end of the link
abbrev pub end_of : LiveNode → LinkView
end_of (LiveDrone v) = v.link
end_of (LiveStation v) = v.link

-- it has taken these bytes of its stream, and heard the frames of these events
abbrev pub HasHeard : List ℕ → List Event → LiveNode → Type 0
HasHeard taken given live = HasRead taken given (end_of live)

-- the store of a drone has what the drone has stored; a station stores nothing
abbrev pub IsKeptBy : Option (List ℕ) → LiveNode → Type 0
IsKeptBy contents (LiveDrone v) = StoreHolds contents v
IsKeptBy contents (LiveStation v) = Unit {0}
