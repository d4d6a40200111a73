-- What a node does at frames that it hears, at ticks and at orders.
use Rattle.std.proofs.Common.{Bool, true, false, ◌≡◌, ◌≢◌, ℕ, suc, ◌≤◌, List, [], ◌∷◌, ◌++◌, slice_get, Option, Some, None, IfSome, refl, sym, ap, subst, ◌∙◌}
use Rattle.std.specs.Prelude.{is_some}
use Rattle.mav_names.specs.declared.names.Stream.{Stream}
use Rattle.plan_items.specs.declared.messages.PlanMsg.{PlanMsg}
use Rattle.plan_upload.specs.declared.changes.Change.{Change}
use Rattle.plan_upload.specs.declared.changes.Change.TheVariants.{Same, Install, Empty}
use Rattle.plan_upload.specs.Changes.{change_by}
use Rattle.plan_upload.specs.Plans.{Plans}
use Rattle.plan_upload.specs.Drone.{drone_step}
use Rattle.plan_upload.specs.Station.{StationStep, Told, station_step}
use Rattle.mav_frame.specs.Packet.{Packet, SignatureBlock}
use Rattle.field_layout.specs.Payload.{FitsLayout}
use Rattle.mav_messages.specs.declared.messages.Message.{Message}
use Rattle.mav_messages.specs.declared.messages.Message.TheVariants.{ParamRequestRead, ParamRequestList, ParamValue, ParamSet, CommandLong, CommandAck, FileTransferProtocol}
use Rattle.mav_messages.specs.Messages.{definition_of, values_of}
use Rattle.mav_messages.specs.Plans.{plan_of}
use Rattle.command_proto.specs.Commander.{CommanderStep, CommandEnd, commander_step}
use Rattle.param_proto.specs.Client.{ClientStep, ParamsEnd, One_value, All_values, No_answer, client_step}
use Rattle.plan_upload.specs.Addresses.{node_of}
use Rattle.mav_sign.specs.declared.admission.Admit.{Admit}
use Rattle.mav_sign.specs.declared.admission.Admit.TheVariants.{Admitted, Unsigned, BadSignature, BelowFloor, NotLater, TooOld, TooManyStreams}
use Rattle.mav_sign.specs.History.{tried, last_of, answer_to, stream_of}
use Rattle.mav_sign.specs.Signing.{Verifies}
use Rattle.mav_nodes.specs.LowBounds.{stored_low}
use Rattle.mav_nodes.specs.News.{NodeEvent, Sends, Installs, Empties, Drops, Ends, Ends_command, Gives_param, Ends_params, Reaches, Captures, Ends_file}
use Rattle.mav_nodes.specs.Links.{tries}
use Rattle.mav_nodes.specs.Steps.{steps, serves, takes, admits, hears, hears_all}
use Rattle.mav_nodes.specs.Payloads.{plan_in, service_in, service_of}
use Rattle.mav_nodes.specs.declared.news.FileEnd.{FileEnd}
use Rattle.mav_nodes.specs.FileServices.{TransferStep, transfer_heard}
use Rattle.mav_nodes.specs.Services.{drone_serves, drone_notes, reached_events, captured_events, station_served, command_events, params_events, file_events}
use Rattle.mav_nodes.specs.Nodes.{DroneSide, StationSide, change_events, drone_core, drone_rules, told_events, station_does, station_rules}
use Rattle.mav_nodes.proofs.Bounds.{payload_small}
use Rattle.mav_nodes.proofs.Sendings.{plan_reads_back, service_reads_back}
use Rattle.plan_ranges.specs.Ranges.{InRange, NameInRange, StreamInRange, StationStepInRange}
use Rattle.plan_ranges.proofs.DroneRanges as drones
use Rattle.plan_ranges.proofs.StationRanges as stations
use Rattle.node_reports.specs.Nodes.{Node, Drone, Station, node_name}
use Rattle.fleet_world.specs.WorldState.{WorldState}
use Rattle.fleet_world.specs.Steps.{packets_in}
use Rattle.fleet_invariants.specs.Sound.{link_of, has_heard, IsSent}
use Rattle.fleet_invariants.specs.Kept.{IsAmong}
use Rattle.fleet_invariants.proofs.Lists.{more_there}
use Rattle.fleet_invariants.proofs.LowBounds.{raised_some}
use Rattle.fleet_invariants.proofs.Histories.{admitting_stores}
use Rattle.fleet_world.proofs.Systems.{drone_stays}
use Rattle.fleet_invariants.proofs.Roles.{station_stays}
use Rattle.fleet_invariants.proofs.Messages.{carried_in_range}
use Rattle.fleet_invariants.proofs.Moves.{Steady}
use Rattle.fleet_invariants.proofs.Rooms.{roomy_step, heard_it}
use Rattle.fleet_invariants.specs.Services.{SoundStationServices}
use Rattle.fleet_invariants.proofs.Services.{Serves, drone_serving, drone_noting, station_serving}
use Rattle.fleet_invariants.proofs.Serving.{drone_serves_so, station_serves_so}
use Rattle.fleet_invariants.proofs.Links.{admitted_verifies, block_is}
use Rattle.fleet_invariants.proofs.Nodes.{Silent, advanced, NodeGoes, NodeDoes, as_node, after_first, then_next, rests, drone_steps, drone_tries, station_steps, station_tries}

-- ---- what comes in

-- the stream of a sent frame, and its plan message, are in range
pub from_in_range : (s : WorldState) → Steady s → (p : Packet) (q : IsSent s p) → NameInRange p.from
from_in_range s g p q =
    let l = g.links q.from.index q.from.node q.from.found in
    subst NameInRange (own_name q.from.node ∙ q.from.name_is) (record { sys = l.me.1; comp = l.me.3 })
  where
    own_name : (n : Node) → (record { sys = (link_of n).me.sys; comp = (link_of n).me.comp }) ≡ node_name n
    own_name (Drone n) = refl
    own_name (Station n) = refl

pub carries : (s : WorldState) (p : Packet) (q : IsSent s p) → plan_in p.id p.payload ≡ plan_of q.message
carries s p q =
    ap (λ (x : Packet). plan_in x.id x.payload) q.is ∙ plan_reads_back q.message q.fits q.item_fits (payload_small q.message)

message_in_range : (s : WorldState) (p : Packet) (q : IsSent s p) → IfSome (plan_in p.id p.payload) InRange
message_in_range s p q =
    subst (λ (o : Option PlanMsg). IfSome o InRange) (sym (carries s p q)) (carried_in_range q.message q.fits q.item_fits)

-- and its message of another service
abbrev Fits : Message → Type 0
Fits m = FitsLayout (definition_of m) (values_of m)

pub serves_as : (s : WorldState) (p : Packet) (q : IsSent s p) → service_in p.id p.payload ≡ service_of q.message
serves_as s p q =
    ap (λ (x : Packet). service_in x.id x.payload) q.is ∙ service_reads_back q.message q.fits q.service_fits (payload_small q.message)

service_fits : (m : Message) → Fits m → IfSome (service_of m) Fits
service_fits (ParamRequestRead m) h = h
service_fits (ParamRequestList m) h = h
service_fits (ParamValue m) h = h
service_fits (ParamSet m) h = h
service_fits (CommandLong m) h = h
service_fits (CommandAck m) h = h
service_fits (FileTransferProtocol m) h = h
service_fits _ h = tt

service_in_range : (s : WorldState) (p : Packet) (q : IsSent s p) → IfSome (service_in p.id p.payload) Fits
service_in_range s p q =
    subst (λ (o : Option Message). IfSome o Fits) (sym (serves_as s p q)) (service_fits q.message q.fits)

-- ---- events that send nothing

changes_silent : (by : Stream) (plans : Plans) (change : Change) → Silent (change_events by plans change)
changes_silent by plans Same = tt
changes_silent by plans (Install kind) = tt
changes_silent by plans (Empty None) = tt
changes_silent by plans (Empty (Some kind)) = tt

reported_silent : (o : Option Told) → Silent (told_events o)
reported_silent None = tt
reported_silent (Some t) = tt

command_silent : (o : Option CommandEnd) → Silent (command_events o)
command_silent None = tt
command_silent (Some end) = tt

params_silent : (o : Option ParamsEnd) → Silent (params_events o)
params_silent None = tt
params_silent (Some (One_value param)) = tt
params_silent (Some (All_values values)) = tt
params_silent (Some No_answer) = tt

both_silent : (es fs : List NodeEvent) → Silent es → Silent fs → Silent (es ++ fs)
both_silent [] fs h k = k
both_silent (Sends packet message ∷ es) fs h k = absurd h
both_silent (Installs kind items by ∷ es) fs h k = both_silent es fs h k
both_silent (Empties kind ∷ es) fs h k = both_silent es fs h k
both_silent (Drops answer ∷ es) fs h k = both_silent es fs h k
both_silent (Ends told ∷ es) fs h k = both_silent es fs h k
both_silent (Ends_command result ∷ es) fs h k = both_silent es fs h k
both_silent (Gives_param param ∷ es) fs h k = both_silent es fs h k
both_silent (Ends_params values ∷ es) fs h k = both_silent es fs h k
both_silent (Reaches number ∷ es) fs h k = both_silent es fs h k
both_silent (Captures total ∷ es) fs h k = both_silent es fs h k
both_silent (Ends_file end ∷ es) fs h k = both_silent es fs h k

reached_silent : (reached : Option ℕ) → Silent (reached_events reached)
reached_silent None = tt
reached_silent (Some number) = tt

captured_silent : (captured : Bool) (total : ℕ) → Silent (captured_events captured total)
captured_silent true total = tt
captured_silent false total = tt

pub flown_silent : (reached : Option ℕ) (captured : Bool) (total : ℕ) → Silent (reached_events reached ++ captured_events captured total)
flown_silent reached captured total = both_silent (reached_events reached) (captured_events captured total) (reached_silent reached) (captured_silent captured total)

file_silent : (o : Option FileEnd) → Silent (file_events o)
file_silent None = tt
file_silent (Some end) = tt

pub services_silent : (c : CommanderStep) (p : ClientStep) (f : TransferStep) → Silent (station_served c p f).last
services_silent c p f =
    both_silent (command_events c.end ++ params_events p.end) (file_events f.end)
    (both_silent (command_events c.end) (params_events p.end) (command_silent c.end) (params_silent p.end)) (file_silent f.end)

-- ---- a station's core

module _ (s : WorldState) (k : ℕ) (n : StationSide) (g : Steady s) (found : slice_get s.nodes k ≡ Some (Station n)) where
  pub station_goes : (step : StationStep) → StationStepInRange step → step.station.me ≡ n.core.me → NodeDoes s k (as_node Station (steps s.clock n.link n.services (station_does step)))
  station_goes step range same =
      station_steps s k n g found (station_does step) tt (reported_silent step.station.outcome) (stations.untells step.station range.station) same refl range.answer

-- its services
module _ (s : WorldState) (k : ℕ) (g : Steady s) (n : StationSide) (found : slice_get s.nodes k ≡ Some (Station n)) where
  pub station_services : (c : CommanderStep) (p : ClientStep) (f : TransferStep) → Serves (SoundStationServices (node_of n.link.me)) (station_served c p f) → NodeDoes s k (as_node Station (serves s.clock n.link n.core (station_served c p f)))
  station_services c p f h = station_serves_so s k g n found (station_served c p f) h (services_silent c p f)

-- ---- one frame

module _ (s : WorldState) (k : ℕ) (packet : Packet) (g : Steady s) (known : Verifies s.key packet packet.block → IsAmong s.sent packet) where
  dropped : (n1 : Node) (answer : Admit) → NodeGoes s k (record { node = n1; events = [] }) → NodeGoes s k (record { node = n1; events = Drops answer ∷ [] })
  dropped n1 answer first = record { steady = first.steady; kept = first.kept; names = first.names; there = first.there; reads = (tt, tt) }

  module _ (n : DroneSide) (found : slice_get s.nodes k ≡ Some (Drone n)) where
    abbrev drone_tried : DroneSide
    drone_tried = record n { link = tries packet n.link }

    -- an admitted frame's stream has been heard, and something is stored
    abbrev Knows : Stream → Type 0
    Knows from = (has_heard drone_tried.link from ≡ true) × (stored_low drone_tried.link.history ≢ None)

    knows : answer_to n.link.key n.link.history packet ≡ Admitted → IsAmong s.sent packet → (b : SignatureBlock) → packet.block ≡ Some b → Knows (stream_of packet b)
    knows is at b signed =
        let q = g.sent at.index packet at.found in
        let some : 1 ≤ b.stamp = subst (λ stamp. 1 ≤ stamp) (sym (block_is s packet q b signed).stamp_is) q.some in
        subst (λ (answer : Admit). (is_some (last_of (stream_of packet b) (n.link.history ++ tried packet answer ∷ [])) ≡ true) × (stored_low (n.link.history ++ tried packet answer ∷ []) ≢ None)) (sym is)
        (heard_it n.link.history packet b signed, λ none. raised_some (stored_low n.link.history) b.stamp some (sym (admitting_stores n.link.history packet b signed) ∙ none))

    drone_takes : (q : IsSent s packet) (from : Stream) → StreamInRange from → Knows from → (m : Option PlanMsg) (other : Option Message) → IfSome m InRange → IfSome other Fits → NodeDoes s k (as_node Drone (takes drone_rules s.clock drone_tried from m other))
    drone_takes q from fits heard None None range small = drone_tries s k n g found packet known
    drone_takes q from fits heard None (Some m) range small =
        let first = drone_tries s k n g found packet known in
        let own = first.steady.cores k (Drone drone_tried) first.there in
        let step = drone_serves n.core n.services from m in
        after_first s k (Drone drone_tried) _ first
        (drone_serves_so (advanced s k (Drone drone_tried) []) k first.steady drone_tried first.there step (drone_serving (has_heard drone_tried.link) (node_of n.link.me) n.core n.services from m own.services fits heard.0 small) tt)
    drone_takes q from fits heard (Some m) other range small =
        let first = drone_tries s k n g found packet known in
        let step = drone_step true n.core from m in
        let r = drones.steps true from fits n.core m (g.cores k (Drone n) found).range range in
        after_first s k (Drone drone_tried) _ first
        (drone_steps (advanced s k (Drone drone_tried) []) k drone_tried first.steady first.there (drone_notes n.services (drone_core n.core from m).first)
        (drone_noting (has_heard drone_tried.link) (node_of n.link.me) n.services (drone_core n.core from m).first (first.steady.cores k (Drone drone_tried) first.there).services) (drone_core n.core from m) (changes_silent from step.drone.plans (change_by step.event)) tt r.drone (drone_stays true from n.core m) (roomy_step (has_heard drone_tried.link) from heard.0 n.core (first.steady.cores k (Drone drone_tried) first.there).roomy m) (λ none. absurd (heard.1 none)) r.answer)

    drone_admits : (answer : Admit) (block : Option SignatureBlock) → (answer ≡ Admitted → IsAmong s.sent packet) → (answer ≡ Admitted → (b : SignatureBlock) → block ≡ Some b → Knows (stream_of packet b)) → NodeDoes s k (as_node Drone (admits drone_rules s.clock drone_tried packet answer block))
    drone_admits Admitted None sent heard = dropped (Drone drone_tried) Admitted (drone_tries s k n g found packet known)
    drone_admits Admitted (Some block) sent heard =
        let at = sent refl in
        let q = g.sent at.index packet at.found in
        let from = from_in_range s g packet q in
        drone_takes q (stream_of packet block) from (heard refl block refl) (plan_in packet.id packet.payload) (service_in packet.id packet.payload) (message_in_range s packet q) (service_in_range s packet q)
    drone_admits Unsigned block sent heard = dropped (Drone drone_tried) Unsigned (drone_tries s k n g found packet known)
    drone_admits BadSignature block sent heard = dropped (Drone drone_tried) BadSignature (drone_tries s k n g found packet known)
    drone_admits (BelowFloor floor) block sent heard = dropped (Drone drone_tried) (BelowFloor floor) (drone_tries s k n g found packet known)
    drone_admits (NotLater last) block sent heard = dropped (Drone drone_tried) (NotLater last) (drone_tries s k n g found packet known)
    drone_admits (TooOld local) block sent heard = dropped (Drone drone_tried) (TooOld local) (drone_tries s k n g found packet known)
    drone_admits TooManyStreams block sent heard = dropped (Drone drone_tried) TooManyStreams (drone_tries s k n g found packet known)

    pub drone_hears : NodeDoes s k (as_node Drone (hears drone_rules s.clock packet n))
    drone_hears =
        let l = g.links k (Drone n) found in
        let sent : answer_to n.link.key n.link.history packet ≡ Admitted → IsAmong s.sent packet = λ is. known (subst (λ key. Verifies key packet packet.block) l.key (admitted_verifies n.link.key n.link.history packet is)) in
        drone_admits (answer_to n.link.key n.link.history packet) packet.block sent (λ is. knows is (sent is))

  module _ (n : StationSide) (found : slice_get s.nodes k ≡ Some (Station n)) where
    abbrev station_tried : StationSide
    station_tried = record n { link = tries packet n.link }

    station_takes : (q : IsSent s packet) (from : Stream) → (m : Option PlanMsg) (other : Option Message) → IfSome m InRange → NodeDoes s k (as_node Station (takes station_rules s.clock station_tried from m other))
    station_takes q from None None range = station_tries s k n g found packet known
    station_takes q from None (Some m) range =
        let first = station_tries s k n g found packet known in
        let own = first.steady.cores k (Station station_tried) first.there in
        after_first s k (Station station_tried) _ first
        (station_services (advanced s k (Station station_tried) []) k first.steady station_tried first.there
        (commander_step n.services.commander from m) (client_step n.services.client from m) (transfer_heard n.services.files from m) (station_serving (node_of n.link.me) n.services own.services from m))
    station_takes q from (Some m) other range =
        let first = station_tries s k n g found packet known in
        let step = station_step n.core from m in
        let r = stations.steps n.core from m (g.cores k (Station n) found).range range in
        after_first s k (Station station_tried) _ first
        (station_goes (advanced s k (Station station_tried) []) k station_tried first.steady first.there step r (station_stays n.core from m))

    station_admits : (answer : Admit) (block : Option SignatureBlock) → (answer ≡ Admitted → IsAmong s.sent packet) → NodeDoes s k (as_node Station (admits station_rules s.clock station_tried packet answer block))
    station_admits Admitted None sent = dropped (Station station_tried) Admitted (station_tries s k n g found packet known)
    station_admits Admitted (Some block) sent =
        let at = sent refl in
        let q = g.sent at.index packet at.found in
        station_takes q (stream_of packet block) (plan_in packet.id packet.payload) (service_in packet.id packet.payload) (message_in_range s packet q)
    station_admits Unsigned block sent = dropped (Station station_tried) Unsigned (station_tries s k n g found packet known)
    station_admits BadSignature block sent = dropped (Station station_tried) BadSignature (station_tries s k n g found packet known)
    station_admits (BelowFloor floor) block sent = dropped (Station station_tried) (BelowFloor floor) (station_tries s k n g found packet known)
    station_admits (NotLater last) block sent = dropped (Station station_tried) (NotLater last) (station_tries s k n g found packet known)
    station_admits (TooOld local) block sent = dropped (Station station_tried) (TooOld local) (station_tries s k n g found packet known)
    station_admits TooManyStreams block sent = dropped (Station station_tried) TooManyStreams (station_tries s k n g found packet known)

    pub station_hears : NodeDoes s k (as_node Station (hears station_rules s.clock packet n))
    station_hears =
        let l = g.links k (Station n) found in
        station_admits (answer_to n.link.key n.link.history packet) packet.block (λ is. known (subst (λ key. Verifies key packet packet.block) l.key (admitted_verifies n.link.key n.link.history packet is)))

-- ---- frames

-- each that verifies was sent
abbrev pub KnownFrames : WorldState → List Packet → Type 0
KnownFrames s packets = (index : ℕ) (p : Packet) → slice_get packets index ≡ Some p → Verifies s.key p p.block → IsAmong s.sent p

still_known : (s : WorldState) (sent more : List Packet) (p : Packet) (packets : List Packet) → sent ≡ s.sent → KnownFrames s (p ∷ packets) → (index : ℕ) (q : Packet) → slice_get packets index ≡ Some q → Verifies s.key q q.block → IsAmong (s.sent ++ more) q
still_known s sent more p packets same known index q e v =
    let at = known (suc index) q e v in
    record { index = at.index; found = more_there s.sent more q at.index at.found }

pub drone_hears_all : (packets : List Packet) (s : WorldState) (k : ℕ) (n : DroneSide) → Steady s → slice_get s.nodes k ≡ Some (Drone n) → KnownFrames s packets → NodeDoes s k (as_node Drone (hears_all drone_rules s.clock packets n))
drone_hears_all [] s k n g found known = rests s k (Drone n) g found
drone_hears_all (p ∷ packets) s k n g found known =
    then_next Drone s k (hears drone_rules s.clock p n) (hears_all drone_rules s.clock packets) (drone_hears s k p g (known 0 p refl) n found) (λ d first.
    drone_hears_all packets (advanced s k (Drone d.node) d.events) k d.node first.steady first.there (λ index q e v. still_known s s.sent (packets_in d.events) p packets refl known index q e v))

pub station_hears_all : (packets : List Packet) (s : WorldState) (k : ℕ) (n : StationSide) → Steady s → slice_get s.nodes k ≡ Some (Station n) → KnownFrames s packets → NodeDoes s k (as_node Station (hears_all station_rules s.clock packets n))
station_hears_all [] s k n g found known = rests s k (Station n) g found
station_hears_all (p ∷ packets) s k n g found known =
    then_next Station s k (hears station_rules s.clock p n) (hears_all station_rules s.clock packets) (station_hears s k p g (known 0 p refl) n found) (λ d first.
    station_hears_all packets (advanced s k (Station d.node) d.events) k d.node first.steady first.there (λ index q e v. still_known s s.sent (packets_in d.events) p packets refl known index q e v))
