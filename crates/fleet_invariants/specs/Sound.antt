-- What holds of the state of every authentic scenario, after each step: names are distinct, numbers are in their
-- ranges, what was sent is signed and reads back, and every timestamp that was admitted had been sent.
use Rattle.std.specs.Prelude.{ℕ, ◌≡◌, ◌≤◌, ◌<◌, ◌+◌, ◌*◌, ◌^◌, Bool, true, List, length, map, slice_get, All, Some}
use Rattle.std.specs.Prelude.{None, IfSome, is_some, unwrap_or}
use Rattle.mav_nodes.specs.Nodes.{DroneSide, StationSide}
use Rattle.std.specs.List.{list_any, IsDistinct}
use Rattle.mav_names.specs.declared.names.Name.{Name}
use Rattle.mav_names.specs.declared.names.Stream.{Stream}
use Rattle.mav_profile.specs.Messages.{extras_of}
use Rattle.mav_profile.specs.Profile.{profile_definitions}
use Rattle.field_layout.specs.Payload.{FitsLayout}
use Rattle.mav_frame.specs.Packet.{Packet}
use Rattle.mav_messages.specs.declared.messages.Message.{Message}
use Rattle.mav_messages.specs.Messages.{definition_of, values_of}
use Rattle.mav_messages.specs.Plans.{plan_of}
use Rattle.mav_sign.specs.History.{same_stream, last_of, low_of, local_of, previous_in, streams_of}
use Rattle.plan_upload.specs.Addresses.{node_of}
use Rattle.plan_upload.specs.Plans.{no_plans}
use Rattle.plan_upload.specs.Drone.{UploadResult, DroneState}
use Rattle.plan_ranges.specs.Ranges.{ItemInRange, DroneInRange, StationInRange}
use Rattle.mav_nodes.specs.LowBounds.{headroom, stored_low}
use Rattle.mav_nodes.specs.Links.{Link}
use Rattle.mav_nodes.specs.Payloads.{ItemFits, ServiceFits}
use Rattle.mav_nodes.specs.Signed.{signed_packet}
use Rattle.node_reports.specs.Nodes.{Node, Drone, Station, node_name}
use Rattle.fleet_world.specs.WorldState.{WorldState, stream_of, drones_in, stations_in}
use Rattle.fleet_world.specs.Steps.{most_frames, most_drones, most_stations, most_restarts}
use Rattle.fleet_invariants.specs.Services.{SoundDroneServices, SoundStationServices}

abbrev pub link_of : Node → Link
link_of (Drone n) = n.link
link_of (Station n) = n.link

-- the node of this name
pub record Holds (nodes : List Node) (name : Name) : Type 0 where
  pub index : ℕ
  pub node : Node
  pub found : slice_get nodes index ≡ Some node
  pub name_is : node_name node ≡ name

-- what a node of the fleet has sent: a message whose values fit, signed at a timestamp that is not above its latest
pub record IsSent (s : WorldState) (p : Packet) : Type 0 where
  pub from : Holds s.nodes p.from
  pub seq : ℕ
  pub stamp : ℕ
  pub message : Message
  pub is : p ≡ signed_packet s.key (extras_of profile_definitions) (stream_of p.from) seq stamp message
  pub seq_fits : seq < 256
  pub some : 1 ≤ stamp
  pub by_latest : stamp ≤ previous_in (link_of from.node).history
  pub stamp_fits : stamp < 2 ^ 48
  pub fits : FitsLayout (definition_of message) (values_of message)
  pub item_fits : ItemFits (plan_of message)
  pub service_fits : ServiceFits message

-- a frame of this stream was sent at this timestamp
pub record WasStamped (s : WorldState) (stream : Stream) (stamp : ℕ) : Type 0 where
  pub index : ℕ
  pub packet : Packet
  pub found : slice_get s.sent index ≡ Some packet
  pub sent : IsSent s packet
  pub stream_is : stream_of packet.from ≡ stream
  pub stamp_is : sent.stamp ≡ stamp

-- no timestamp is ahead of the clock by more than the frames that were sent, and what a drone that starts again leaves
-- out
abbrev pub ahead : WorldState → ℕ
ahead s = length s.sent + 5001 * s.restarts

-- a node's end of the links
pub record SoundLink (s : WorldState) (link : Link) : Type 0 where
  pub key : link.key ≡ s.key
  pub extras : link.extras ≡ extras_of profile_definitions
  pub me : (1 ≤ link.me.sys) × (link.me.sys < 256) × (1 ≤ link.me.comp) × (link.me.comp < 256) × (link.me.link ≡ 0)
  pub seq : link.seq < 256
  pub local : local_of link.history ≤ s.clock + ahead s
  pub previous : previous_in link.history ≤ local_of link.history
  -- the last one that was admitted of a stream was sent by it
  pub lasts : (stream : Stream) (stamp : ℕ) → last_of stream link.history ≡ Some stamp → WasStamped s stream stamp
  -- so no more streams are kept than there are nodes
  pub streams : length (streams_of link.history) ≤ length s.nodes
  -- each timestamp that was admitted or sent is at most the stored low bound, which isn't far above the greatest. A
  -- station has no store: it is the bound that a store of its own would have
  pub within : local_of link.history ≤ unwrap_or (stored_low link.history) 0
  pub near : unwrap_or (stored_low link.history) 0 ≤ local_of link.history + headroom

-- a drone keeps results, and an open upload, of streams that it has heard alone, and one result of each
pub record Roomy (known : Stream → Bool) (d : DroneState) : Type 0 where
  pub apart : IsDistinct same_stream (map (λ (r : UploadResult). r.stream) d.results)
  pub results : (stream : Stream) → list_any (same_stream stream) (map (λ (r : UploadResult). r.stream) d.results)
      ≡ true → known stream ≡ true
  pub upload : IfSome d.upload (λ u. known u.stream ≡ true)

abbrev pub has_heard : Link → Stream → Bool
has_heard link stream = is_some (last_of stream link.history)

-- a drone's core and its services, beside its link
pub record SoundDrone (n : DroneSide) : Type 0 where
  pub range : DroneInRange n.core
  pub sys : n.core.sys ≡ n.link.me.sys
  pub comp : n.link.me.comp ≡ 1
  pub roomy : Roomy (has_heard n.link) n.core
  -- one that has stored nothing has no plan
  pub unstored : stored_low n.link.history ≡ None → n.core.plans ≡ no_plans
  pub services : SoundDroneServices (has_heard n.link) (node_of n.link.me) n.services

-- a station's
pub record SoundStation (n : StationSide) : Type 0 where
  pub range : StationInRange n.core
  pub me : n.core.me ≡ node_of n.link.me
  pub told : n.core.outcome ≡ None
  -- no station is started with a low bound
  pub low : low_of n.link.history ≡ None
  pub services : SoundStationServices (node_of n.link.me) n.services

abbrev pub SoundCore : Node → Type 0
SoundCore (Drone n) = SoundDrone n
SoundCore (Station n) = SoundStation n

pub record Sound (s : WorldState) : Type 0 where
  pub apart : (i j : ℕ) (a b : Node) → slice_get s.nodes i ≡ Some a → slice_get s.nodes j ≡ Some b
      → node_name a ≡ node_name b → i ≡ j
  pub links : (i : ℕ) (a : Node) → slice_get s.nodes i ≡ Some a → SoundLink s (link_of a)
  pub cores : (i : ℕ) (a : Node) → slice_get s.nodes i ≡ Some a → SoundCore a
  pub sent : (i : ℕ) (p : Packet) → slice_get s.sent i ≡ Some p → IsSent s p
  pub frames : length s.sent ≤ most_frames
  pub given : s.given ≤ length s.sent
  pub drones : drones_in s.nodes ≤ most_drones
  pub stations : stations_in s.nodes ≤ most_stations
  pub draft : All ItemInRange s.draft
  pub clock : s.clock ≤ 140737488355328
  pub restarts : s.restarts ≤ most_restarts
