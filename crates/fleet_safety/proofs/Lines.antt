-- Each scenario line does in the world of messages what it does in the state.
use Rattle.std.proofs.Common.{◌≡◌, ℕ, ◌+◌, ◌-◌, ◌<◌, inl, inr, Bool, true, false, nat_lt, List, [], ◌∷◌, ◌++◌, length, slice_get, None, refl, sym, ap, subst, arith}
use Rattle.std.specs.declared.result.Result.{Result}
use Rattle.plan_items.specs.Kinds.{number_of}
use Rattle.plan_upload.specs.Kinds.{clear_number}
use Rattle.plan_safety.specs.World.{Nodes, Distinct, World, DroneNode, StationNode}
use Rattle.plan_safety.proofs.Keys.{by_test}
use Rattle.plan_ranges.specs.Ranges.{Is8}
use Rattle.plan_ranges.proofs.DroneRanges as drone_ranges
use Rattle.plan_ranges.proofs.StationRanges as station_ranges
use Rattle.drone_sim.specs.declared.points.Point.{Point}
use Rattle.mav_nodes.specs.Nodes.{new_drone, new_station}
use Rattle.scenario_lines.specs.declared.faults.Reason.{Reason}
use Rattle.scenario_lines.specs.declared.faults.Reason.TheVariants.{Twice}
use Rattle.scenario_lines.specs.declared.lines.Line.{Line}
use Rattle.scenario_lines.specs.declared.lines.Line.TheVariants as line
use Rattle.scenario_lines.specs.LineContext.{has_name}
use Rattle.scenario_lines.specs.Grammar.{against}
use Rattle.scenario_lines.specs.Permits.{IsPermitted}
use Rattle.node_reports.specs.Nodes.{Node, Drone, Station, node_name}
use Rattle.node_reports.specs.Calls.{node_ticks, node_beats, node_receives}
use Rattle.fleet_world.specs.WorldState.{WorldState, stream_of, names_of, context_of, drones_in, stations_in}
use Rattle.scenario_lines.specs.ItemRows.{items_from}
use Rattle.fleet_world.specs.Steps.{Step, StepError, rests, joins, station_line, begins, cancels, clears, gets, commands, lists_params, calls, delivers, flows, after_line, most_drones, most_stations, most_restarts, starts_again, restart_line, flies, locates, location_in}
use Rattle.fleet_world.specs.Authentic.{AuthenticLine}
use Rattle.fleet_invariants.proofs.Restated.{sound_restated}
use Rattle.fleet_invariants.specs.Sound.{Sound}
use Rattle.fleet_invariants.specs.Kept.{LineFits}
use Rattle.fleet_invariants.specs.Laws.{EveryCallKeeps, SentKnown, AuthenticKnown}
use Rattle.fleet_safety.specs.Actions.{Action, at_node, ticked, beaten, datagram_heard, flow_actions, delivered, to_drone, calls_of, acts, flight_actions}
use Rattle.fleet_safety.proofs.Lists.{at_end, more_there}
use Rattle.fleet_safety.proofs.Names.{Named, Covers, Kept, kept, Proper, more_kept, more_named, unnamed}
use Rattle.fleet_safety.proofs.Times.{KeepsTime, first_keeps}
use Rattle.fleet_safety.proofs.Fits.{Stands, Fits, clock_fits}
use Rattle.fleet_safety.proofs.States.{StateLeads, state_maps, state_rests, Goes, bytes_lead, calls_lead, delivers_lead, flows_lead, locates_lead}
use Rattle.fleet_safety.proofs.Restarting.{restart_leads}
use Rattle.fleet_safety.proofs.Flights.{flights_lead}
use Rattle.fleet_safety.proofs.Orders.{ticks_lead, beats_lead, begins_lead, cancels_lead, clears_lead, gets_lead, commands_lead, params_lead}

-- after a line: its nodes are those before and perhaps one more, and if the fleet has them, the state fits the world
pub record Done (n : Nodes) (s t : WorldState) (v : World) : Type 0 where
  pub kept : Kept s.nodes t.nodes
  pub named : Named t.nodes
  pub fits : Covers n t.nodes → Fits n t.clock t.nodes t.sent v

-- fewer than the limit
fewer : (restarts : ℕ) → nat_lt restarts most_restarts ≡ true → restarts < most_restarts
fewer restarts e = grind arith

-- no reason is given if its test fails
no_reason : (b : Bool) (r : Reason) → against b r ≡ None → b ≡ false
no_reason true r e = absurd (cc)
no_reason false r e = refl

module _ (number : ℕ) (n : Nodes) (distinct : Distinct n) (every_call : EveryCallKeeps) (sent_known : SentKnown) (authentic_known : AuthenticKnown) (s : WorldState) (w : World) (sound : Sound s) (fits : Fits n s.clock s.nodes s.sent w) where
  gone : (t : WorldState) (v : World) → Goes n s t v → Done n s t v
  gone t v h = record { kept = h.kept; named = h.fits.named; fits = λ _. h.fits }

  -- another draft, or another place of flows
  unmoved : (t : WorldState) → t.nodes ≡ s.nodes → Fits n t.clock t.nodes t.sent w → StateLeads n w (Done n s) (rests t) []
  unmoved t same h = state_rests n w (Done n s) t (record { kept = subst (Kept s.nodes) (sym same) (kept s.nodes); named = h.named; fits = λ _. h })

  -- a node joins
  joins_lead : (new : Node) → has_name (names_of s.nodes) (node_name new) ≡ false → Proper new → Stands s.clock w new → StateLeads n w (Done n s) (joins s new) []
  joins_lead new none proper stands = state_rests n w (Done n s) (record s { nodes = s.nodes ++ new ∷ [] }) (record { kept = more_kept s.nodes new; named = named; fits = fitting })
    where
      named : Named (s.nodes ++ new ∷ [])
      named = more_named s.nodes new fits.named (unnamed s.nodes (node_name new) none) proper

      fitting : Covers n (s.nodes ++ new ∷ []) → Fits n s.clock (s.nodes ++ new ∷ []) s.sent w
      fitting covers = record {
        named = named;
        covers = covers;
        stands = λ i a e. elim (at_end s.nodes new a i e) [ inl h ↦ fits.stands i a h | inr h ↦ subst (Stands s.clock w) h.1 stands ];
        unnamed = λ name h. fits.unnamed name (λ i a e. h i a (more_there s.nodes new a i e));
        frames = fits.frames;
        reached = fits.reached;
      }

  drone_joins : (sys : ℕ) (home : Point) → Is8 sys → has_name (names_of s.nodes) (record { sys = sys; comp = 1 }) ≡ false → StateLeads n w (Done n s) (joins s (Drone (new_drone s.key sys home))) []
  drone_joins sys home small none =
      let fresh = (fits.unnamed (record { sys = sys; comp = 1 }) (unnamed s.nodes (record { sys = sys; comp = 1 }) none)).0 in
      joins_lead (Drone (new_drone s.key sys home)) none (refl, refl, record { sys = small; comp = omega arith })
      (ap (λ (y : DroneNode). y.state) fresh, subst (λ (y : DroneNode). KeepsTime s.clock [] y.last y.next) (sym fresh) (first_keeps s.clock), drone_ranges.fresh sys small)

  station_joins : (sys comp : ℕ) → Is8 sys → Is8 comp → 0 < comp → has_name (names_of s.nodes) (record { sys = sys; comp = comp }) ≡ false → StateLeads n w (Done n s) (joins s (Station (new_station s.key (stream_of (record { sys = sys; comp = comp })) 0))) []
  station_joins sys comp small small_comp some none =
      let fresh = (fits.unnamed (record { sys = sys; comp = comp }) (unnamed s.nodes (record { sys = sys; comp = comp }) none)).1 in
      joins_lead (Station (new_station s.key (stream_of (record { sys = sys; comp = comp })) 0)) none (refl, some, record { sys = small; comp = small_comp })
      (ap (λ (y : StationNode). y.state) fresh, subst (λ (y : StationNode). KeepsTime s.clock [] y.last y.next) (sym fresh) (first_keeps s.clock), refl, station_ranges.fresh sys comp 0 0 small small_comp (omega arith) (omega arith))

  -- a station line: nothing that was sent is given by the flows that follow
  abbrev from : WorldState
  from = station_line s

  from_sound : Sound from
  from_sound = sound_restated s (length s.sent) s.draft s.clock sound (omega arith) sound.draft (omega arith) sound.clock

  ordered : (r : Result Step StepError) (actions : List Action) → StateLeads n w (Goes n from) r actions → StateLeads n w (Done n s) r actions
  ordered r actions h = state_maps n w (Goes n from) (Done n s) r actions h (λ t v g. record { kept = g.kept; named = g.fits.named; fits = λ _. g.fits })

  went : (r : Result Step StepError) (actions : List Action) → StateLeads n w (Goes n s) r actions → StateLeads n w (Done n s) r actions
  went r actions h = state_maps n w (Goes n s) (Done n s) r actions h gone

  pub line_leads : (l : Line) → IsPermitted (context_of s) l → LineFits l → AuthenticLine s l → StateLeads n w (Done n s) (after_line s l) (calls_of number s l)
  line_leads line.Blank p f a = unmoved s refl fits
  line_leads (line.Drone sys x y) p f a =
      by_test (λ r. StateLeads n w (Done n s) r []) (nat_lt (drones_in s.nodes) most_drones) _ _ (λ _. drone_joins sys (record { x = x; y = y }) f.0 (no_reason _ Twice p.1)) (λ _. tt)
  line_leads (line.Station sys comp) p f a =
      by_test (λ r. StateLeads n w (Done n s) r []) (nat_lt (stations_in s.nodes) most_stations) _ _ (λ _. station_joins sys comp f.0 f.1 (let z = p.0.1 in omega arith) (no_reason _ Twice p.1)) (λ _. tt)
  line_leads (line.Item item) p f a = unmoved (record s { draft = s.draft ++ item ∷ [] }) refl fits
  line_leads (line.Items count first) p f a = unmoved (record s { draft = s.draft ++ items_from count first 0 }) refl fits
  line_leads line.Empty p f a = unmoved (record s { draft = [] }) refl fits
  line_leads (line.Begin station drone kind) p f a =
      ordered (begins from station drone (number_of kind)) (calls_of number s (line.Begin station drone kind)) (begins_lead number n distinct every_call from w from_sound fits drone p.0.1 station kind)
  line_leads (line.Cancel station) p f a =
      ordered (cancels from station) (calls_of number s (line.Cancel station)) (cancels_lead number n distinct every_call from w from_sound fits station)
  line_leads (line.Clear station drone kind) p f a =
      ordered (clears from station drone (clear_number kind)) (calls_of number s (line.Clear station drone kind)) (clears_lead number n distinct every_call from w from_sound fits drone p.0.1 station kind)
  line_leads (line.Get station drone kind) p f a =
      ordered (gets from station drone (number_of kind)) (calls_of number s (line.Get station drone kind)) (gets_lead number n distinct every_call from w from_sound fits drone p.0.1 station kind)
  line_leads (line.Command station drone which word) p f a =
      ordered (commands from station drone which word) (calls_of number s (line.Command station drone which word)) (commands_lead number n distinct every_call from w from_sound fits drone p.0.1 station which word f.0 f.1)
  line_leads (line.Params station drone) p f a =
      ordered (lists_params from station drone) (calls_of number s (line.Params station drone)) (params_lead number n distinct every_call from w from_sound fits drone p.0.1 station)
  line_leads (line.Heartbeat node) p f a =
      went (calls s node (node_beats s.clock)) (at_node s node (beaten number)) (calls_lead number n distinct every_call sent_known s w sound fits node (node_beats s.clock) (beaten number) (beats_lead number n distinct every_call s w sound fits))
  line_leads (line.Deliver which node) p f a =
      went (delivers s which node (slice_get s.sent (which - 1))) (delivered number s which node (slice_get s.sent (which - 1))) (delivers_lead number n distinct every_call sent_known s w sound fits which node (which - 1) (slice_get s.sent (which - 1)) refl)
  line_leads (line.Flow k) p f a = went (flows k s) (flow_actions number k s) (flows_lead number n distinct every_call sent_known k s w sound fits)
  line_leads (line.Noise node bytes) p f a =
      went (calls s node (node_receives s.clock bytes)) (at_node s node (datagram_heard number bytes))
      (calls_lead number n distinct every_call sent_known s w sound fits node (node_receives s.clock bytes) (datagram_heard number bytes) (bytes_lead number n distinct every_call sent_known s w sound fits bytes (authentic_known s sound bytes f a)))
  line_leads (line.Tick node) p f a =
      went (calls s node (node_ticks s.clock)) (at_node s node (ticked number)) (calls_lead number n distinct every_call sent_known s w sound fits node (node_ticks s.clock) (ticked number) (ticks_lead number n distinct every_call s w sound fits))
  line_leads (line.Clock more) p f a = unmoved (record s { clock = s.clock + more }) refl (clock_fits n s.clock more s.nodes s.sent w fits)
  line_leads (line.Sim drone ticks) p f a = went (flies ticks drone s) (flight_actions number ticks drone s) (flights_lead number n distinct every_call sent_known ticks drone s w sound fits)
  line_leads (line.WhereIs drone) p f a =
      went (locates s drone) (acts number [] [] (locates s drone)) (locates_lead number n distinct every_call sent_known s w sound fits drone (location_in s.nodes drone))
  line_leads (line.Restart drone) p f a =
      by_test (λ r. StateLeads n w (Done n s) r (to_drone number (restart_line s) drone)) (nat_lt s.restarts most_restarts) _ _
      (λ few. went (starts_again (restart_line s) drone) (to_drone number (restart_line s) drone) (restart_leads number n distinct every_call s w sound fits (fewer s.restarts few) drone))
      (λ _. tt)
