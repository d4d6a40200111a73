-- Who a message comes from and whom it is for (MAVLink guide, Routing).
use Rattle.std.specs.Prelude.{ℕ, ◌==◌, ◌&&◌, ◌||◌, Bool}
use Rattle.mav_names.specs.declared.names.Name.{Name}
use Rattle.mav_names.specs.declared.names.Stream.{Stream}

-- two streams are equal
abbrev pub same_stream : Stream → Stream → Bool
same_stream a b = (a.sys == b.sys) && ((a.comp == b.comp) && (a.link == b.link))

-- two names are equal
abbrev pub same_name : Name → Name → Bool
same_name a b = (a.sys == b.sys) && (a.comp == b.comp)

-- the node that a stream comes from
abbrev pub node_of : Stream → Name
node_of s = record { sys = s.sys; comp = s.comp }

-- every node
abbrev pub everyone : Name
everyone = record { sys = 0; comp = 0 }

-- a drone is component 1 of its system (MAV_COMP_ID_AUTOPILOT1), and signs on link 0
abbrev pub drone_name : ℕ → Name
drone_name sys = record { sys = sys; comp = 1 }

abbrev pub drone_stream : ℕ → Stream
drone_stream sys = record { sys = sys; comp = 1; link = 0 }

-- a drone accepts what is for its component or for all of its system
abbrev pub is_for_drone : ℕ → Name → Bool
is_for_drone sys to = (to.sys == sys) && ((to.comp == 1) || (to.comp == 0))

-- a node accepts what is for its component or for all components of its system
abbrev pub is_for_node : Name → Name → Bool
is_for_node me to = (to.sys == me.sys) && ((to.comp == me.comp) || (to.comp == 0))
