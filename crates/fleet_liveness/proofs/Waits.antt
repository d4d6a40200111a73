-- One frame of the upload is on its way, and what else is still to be given are replies of other drones.
use Rattle.std.proofs.Common.{◌≡◌, ◌≢◌, ℕ, ◌<◌, ◌≤◌, Bool, true, false, List, slice_get, Some}
use Rattle.mav_nodes.specs.Nodes.{DroneSide, StationSide}
use Rattle.mav_names.specs.declared.names.Name.{Name}
use Rattle.plan_items.specs.declared.items.Item.{Item}
use Rattle.plan_items.specs.declared.kinds.PlanKind.{PlanKind}
use Rattle.plan_items.specs.declared.messages.PlanMsg.TheVariants.{Ping}
use Rattle.plan_items.specs.Kinds.{number_of}
use Rattle.plan_items.specs.Validation.{IsValid}
use Rattle.mav_frame.specs.Packet.{Packet}
use Rattle.mav_sign.specs.History.{last_of, previous_in}
use Rattle.mav_nodes.specs.Links.{Link}
use Rattle.mav_names.specs.Addresses.{drone_name}
use Rattle.node_reports.specs.Nodes.{Drone, Station, node_name}
use Rattle.fleet_world.specs.WorldState.{WorldState, stream_of}
use Rattle.fleet_invariants.specs.Sound.{Sound}
use Rattle.fleet_liveness.proofs.Hearing.{Carries}
use Rattle.fleet_liveness.proofs.States.{IsAbove}
use Rattle.fleet_liveness.proofs.Stages.{Stage, is_up, message_of, DroneIs, StationIs}

module _ (sys : ℕ) (me : Name) (kind : PlanKind) (plan : List Item) (valid : IsValid (number_of kind) plan) (dp sp : ℕ) where
  abbrev pub drone : Name
  drone = drone_name sys

  -- who sends the message on its way, and who waits for it
  abbrev pub sender : Bool → Name
  sender true = me
  sender false = drone

  abbrev pub listener : Bool → Link → Link → Link
  listener true d t = d
  listener false d t = t

  -- another drone's reply to a PING of the station
  pub record IsAside (key : List ℕ) (q : Packet) : Type 0 where
    pub stamp : ℕ
    pub boot : ℕ
    pub number : ℕ
    pub carries : Carries key q stamp (Ping me boot number)
    pub not_drone : q.from ≢ drone
    pub not_station : q.from ≢ me

  -- frame `r`, counted from 0, is the message
  pub record Flies (s : WorldState) (link : Link) (r : ℕ) (p : Stage plan) : Type 0 where
    pub frame : Packet
    pub found : slice_get s.sent r ≡ Some frame
    pub from : frame.from ≡ sender (is_up p)
    pub stamp : ℕ
    pub carries : Carries s.key frame stamp (message_of sys me kind plan valid p)
    pub recent : s.clock ≤ stamp
    pub fresh : (l : ℕ) → last_of (stream_of (sender (is_up p))) link.history ≡ Some l → l < stamp
    pub above : IsAbove link.history stamp

  pub record Waits (s : WorldState) (r : ℕ) (p : Stage plan) : Type 0 where
    pub sound : Sound s
    pub drone : DroneSide
    pub drone_there : slice_get s.nodes dp ≡ Some (Drone drone)
    pub drone_named : node_name (Drone drone) ≡ drone_name sys
    pub station : StationSide
    pub station_there : slice_get s.nodes sp ≡ Some (Station station)
    pub station_named : node_name (Station station) ≡ me
    pub drone_is : DroneIs sys me kind plan valid p drone.core
    pub station_is : StationIs sys me kind plan valid p station.core
    -- the station's next timestamps are above the low bound of a drone that has started again
    pub above : IsAbove drone.link.history (previous_in station.link.history)
    pub flies : Flies s (listener (is_up p) drone.link station.link) r p
    pub asides : (j : ℕ) (q : Packet) → s.given ≤ j → slice_get s.sent j ≡ Some q → j ≢ r → IsAside s.key q
