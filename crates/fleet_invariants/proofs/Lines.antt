-- Lines leave a sound state.
use Rattle.std.proofs.Common.{◌≡◌, ℕ, suc, ◌+◌, ◌-◌, ◌<◌, Bool, true, false, inl, inr, nat_lt, IsTrue, List, [], ◌∷◌, ◌++◌, length, slice_get, Option, Some, None, Ok, Err, refl, sym, ap, subst, arith, ◌∙◌}
use Rattle.std.specs.Prelude.{All, position}
use Rattle.std.specs.declared.result.Result.{Result}
use Rattle.std.proofs.lemmas.List.{append-nil}
use Rattle.std.proofs.lemmas.List.Elements.{All-nil, All-append, All-push}
use Rattle.mav_names.specs.declared.names.Name.{Name}
use Rattle.mav_frame.specs.Packet.{Packet}
use Rattle.plan_items.specs.Kinds.{number_of}
use Rattle.plan_items.specs.declared.kinds.PlanKind.{PlanKind}
use Rattle.plan_items.specs.declared.kinds.PlanKind.TheVariants.{Mission, Fence, Rally}
use Rattle.plan_upload.specs.declared.faults.OpFault.{OpFault}
use Rattle.plan_upload.specs.Kinds.{clear_number}
use Rattle.plan_upload.specs.Refusals.{upload_refusal, refusal}
use Rattle.mav_names.specs.Addresses.{same_name, node_of}
use Rattle.command_proto.specs.Commander.{open_command}
use Rattle.param_proto.specs.Client.{Operation}
use Rattle.fleet_report.specs.Events.{Event}
use Rattle.mav_nodes.specs.Links.{Outcome}
use Rattle.mav_nodes.specs.Nodes.{StationSide, new_drone, new_station, station_cancels, station_clears, station_gets, station_commands, station_lists_params}
use Rattle.plan_ranges.specs.Ranges.{Is8, Is16, Is32, NameInRange, ItemInRange}
use Rattle.scenario_lines.specs.declared.faults.Reason.{Reason}
use Rattle.scenario_lines.specs.declared.lines.Line.{Line}
use Rattle.scenario_lines.specs.declared.lines.Line.TheVariants.{Blank, Drone as DroneLine, Station as StationLine, Item as OneItem, Items, Empty, Begin, Cancel, Clear, Get, Command, Params, Heartbeat, Deliver, Flow, Noise, Tick, Clock, Restart, Sim, WhereIs}
use Rattle.scenario_lines.specs.LineContext.{has_drone}
use Rattle.scenario_lines.specs.Grammar.{against, first_reason}
use Rattle.node_reports.specs.Nodes.{Node, Drone, Station, node_name}
use Rattle.node_reports.specs.Calls.{node_receives, node_beats, node_ticks, as_station}
use Rattle.fleet_world.specs.WorldState.{WorldState, names_of, stream_of, is_station_named, drones_in, stations_in}
use Rattle.fleet_world.specs.declared.locations.Location.{Location}
use Rattle.scenario_lines.specs.ItemRows.{items_from}
use Rattle.fleet_world.specs.Steps.{Step, StepError, rests, most_drones, most_stations, most_restarts, starts_again, restart_line, node_does, station_line, orders, upload_begins, orders_at, orders_found, orders_to, begins, cancels, clears, gets, asks, command_busy, params_busy, commands, lists_params, delivers, after_line, location_in, locates_as}
use Rattle.fleet_invariants.specs.Sound.{link_of, Sound}
use Rattle.fleet_invariants.specs.Kept.{StepKeeps, Keeps, names_joined, KeepsLine}
use Rattle.fleet_invariants.specs.Laws.{EveryLineKeeps}
use Rattle.fleet_invariants.proofs.Tests.{by_test, less, not_less, either_true, name_eq}
use Rattle.fleet_invariants.proofs.Restated.{restated, kept_restated, sound_restated, restated_keeps}
use Rattle.fleet_invariants.proofs.Joins.{kept_joined, names_joined_are, drone_joins, station_joins}
use Rattle.fleet_invariants.proofs.ItemRows.{rows_in_range}
use Rattle.fleet_invariants.proofs.Calls.{sound_does}
use Rattle.fleet_invariants.proofs.Heard.{authentic_known}
use Rattle.fleet_invariants.proofs.Restarting.{sound_restarts}
use Rattle.fleet_invariants.proofs.Gives.{rests_so, sound_calls, sound_flows, sound_gives, sound_flies}

-- ---- a step that names no node

line_of_step : (s : WorldState) (line : Line) (r : Result Step StepError) → names_joined line ≡ [] → Keeps s r → KeepsLine s line r
line_of_step s line (Ok t) none h = record {
  sound = h.sound;
  kept = h.kept;
  names = h.names ∙ sym (ap (λ more. names_of s.nodes ++ more) none ∙ append-nil (names_of s.nodes));
}
line_of_step s line (Err error) none h = tt

-- ---- no reason against it

not_against : (bad : Bool) (reason : Reason) → against bad reason ≡ None → bad ≡ false
not_against true reason e = absurd (let wrong : ◌≡◌ {A = Option Reason} (Some reason) None = e in cc)
not_against false reason e = refl

no_first : (a b : Option Reason) → first_reason a b ≡ None → (a ≡ None) × (b ≡ None)
no_first None b e = (refl, e)
no_first (Some reason) b e = absurd (let wrong : ◌≡◌ {A = Option Reason} (Some reason) None = e in cc)

-- ---- a node that was named

pub record NamedDrone (nodes : List Node) (name : Name) : Type 0 where
  pub index : ℕ
  pub node : Node
  pub found : slice_get nodes index ≡ Some node
  pub name_is : node_name node ≡ name

a_drone : (nodes : List Node) (name : Name) → has_drone (names_of nodes) name ≡ true → NamedDrone nodes name
a_drone [] name h = absurd (cc)
a_drone (Drone d ∷ ns) name h = elim (either_true (same_name (node_name (Drone d)) name) (has_drone (names_of ns) name) h) [
  | inl x ↦ record { index = 0; node = Drone d; found = refl; name_is = name_eq (node_name (Drone d)) name x }
  | inr y ↦ (let z = a_drone ns name y in record { index = suc z.index; node = z.node; found = z.found; name_is = z.name_is })
]
a_drone (Station t ∷ ns) name h = let z = a_drone ns name h in record { index = suc z.index; node = z.node; found = z.found; name_is = z.name_is }

node_range : (s : WorldState) → Sound s → (i : ℕ) (n : Node) → slice_get s.nodes i ≡ Some n → NameInRange (node_name n)
node_range s g i n e = let l = g.links i n e in named_range n l.me.1 l.me.3
  where
    named_range : (n : Node) → (link_of n).me.sys < 256 → (link_of n).me.comp < 256 → NameInRange (node_name n)
    named_range (Drone d) a b = record { sys = a; comp = b }
    named_range (Station t) a b = record { sys = a; comp = b }

drone_range : (s : WorldState) → Sound s → (name : Name) → IsTrue (has_drone (names_of s.nodes) name) → NameInRange name
drone_range s g name h =
    let d = a_drone s.nodes name h in
    subst NameInRange d.name_is (node_range s g d.index d.node d.found)

-- ---- kinds

kind_small : (kind : PlanKind) → Is8 (number_of kind)
kind_small Mission = omega arith
kind_small Fence = omega arith
kind_small Rally = omega arith

clear_small : (kind : Option PlanKind) → Is8 (clear_number kind)
clear_small None = omega arith
clear_small (Some kind) = kind_small kind

-- ---- orders

at_node : (s : WorldState) → Sound s → (order : ℕ → StationSide → Result Step StepError) → ((k : ℕ) (node : StationSide) → slice_get s.nodes k ≡ Some (Station node) → Keeps s (order k node)) → (k : ℕ) (o : Option Node) → slice_get s.nodes k ≡ o → Keeps s (orders_at s k o order)
at_node s g order each k None found = rests_so s g
at_node s g order each k (Some (Drone n)) found = rests_so s g
at_node s g order each k (Some (Station n)) found = each k n found

order_placed : (s : WorldState) → Sound s → (order : ℕ → StationSide → Result Step StepError) → ((k : ℕ) (node : StationSide) → slice_get s.nodes k ≡ Some (Station node) → Keeps s (order k node)) → (k : Option ℕ) → Keeps s (orders_found s k order)
order_placed s g order each None = rests_so s g
order_placed s g order each (Some k) = at_node s g order each k (slice_get s.nodes k) refl

pub sound_orders : (s : WorldState) → Sound s → (order : ℕ → StationSide → Result Step StepError) → ((k : ℕ) (node : StationSide) → slice_get s.nodes k ≡ Some (Station node) → Keeps s (order k node)) → (name : Name) → Keeps s (orders_to s name order)
sound_orders s g order each name = order_placed s g order each (position (is_station_named name) s.nodes)

refused_or : (s : WorldState) → Sound s → (k : ℕ) (node : StationSide) (why : Option OpFault) (outcome : Outcome StationSide) → (why ≡ None → Keeps s (node_does s k (node_name (Station node)) (as_station outcome))) → Keeps s (orders s k node why outcome)
refused_or s g k node (Some why) outcome h = rests_so s g
refused_or s g k node None outcome h = h refl

begin_or : (s : WorldState) → Sound s → (k : ℕ) (node : StationSide) → slice_get s.nodes k ≡ Some (Station node) → (drone : Name) → NameInRange drone → (kind : ℕ) → Is8 kind → (why : Option OpFault) → upload_refusal node.core kind s.draft ≡ why → Keeps s (upload_begins s k node drone kind why)
begin_or s g k node found drone range kind small (Some why) e = rests_so s g
begin_or s g k node found drone range kind small None e = ((sound_does s g).begins k node drone kind range small e (node_name (Station node)) found).0

-- a station line sets the place of flows
at_line : (s : WorldState) → Sound s → Sound (station_line s)
at_line s g = sound_restated s (length s.sent) s.draft s.clock g (omega arith) g.draft (omega arith) g.clock

from_line : (s : WorldState) (r : Result Step StepError) → Keeps (station_line s) r → Keeps s r
from_line s r h = restated_keeps s (length s.sent) s.draft r h

pub sound_begins : (s : WorldState) → Sound s → (station drone : Name) (kind : ℕ) → NameInRange drone → Is8 kind → Keeps s (begins s station drone kind)
sound_begins s g station drone kind range small =
    sound_orders s g (λ k node. upload_begins s k node drone kind (upload_refusal node.core kind s.draft)) (λ k node found. begin_or s g k node found drone range kind small (upload_refusal node.core kind s.draft) refl) station

pub sound_cancels : (s : WorldState) → Sound s → (station : Name) → Keeps s (cancels s station)
sound_cancels s g station =
    sound_orders s g (λ k node. orders s k node None (station_cancels s.clock node)) (λ k node found. ((sound_does s g).cancels k node (node_name (Station node)) found).0) station

pub sound_clears : (s : WorldState) → Sound s → (station drone : Name) (kind : ℕ) → NameInRange drone → Is8 kind → Keeps s (clears s station drone kind)
sound_clears s g station drone kind range small =
    sound_orders s g (λ k node. orders s k node (refusal node.core) (station_clears s.clock (stream_of drone) kind node))
    (λ k node found. refused_or s g k node (refusal node.core) (station_clears s.clock (stream_of drone) kind node) (λ free. ((sound_does s g).clears k node drone kind range small free (node_name (Station node)) found).0)) station

pub sound_gets : (s : WorldState) → Sound s → (station drone : Name) (kind : ℕ) → NameInRange drone → Is8 kind → Keeps s (gets s station drone kind)
sound_gets s g station drone kind range small =
    sound_orders s g (λ k node. orders s k node (refusal node.core) (station_gets s.clock (stream_of drone) kind node))
    (λ k node found. refused_or s g k node (refusal node.core) (station_gets s.clock (stream_of drone) kind node) (λ free. ((sound_does s g).gets k node drone kind range small free (node_name (Station node)) found).0)) station

-- what a station's services are asked
asked_or : (s : WorldState) → Sound s → (k : ℕ) (node : StationSide) (why : Option Event) (outcome : Outcome StationSide) → (why ≡ None → Keeps s (node_does s k (node_name (Station node)) (as_station outcome))) → Keeps s (asks s k node why outcome)
asked_or s g k node (Some event) outcome h = rests_so s g
asked_or s g k node None outcome h = h refl

no_command : (station : Name) (given : Option ℕ) → command_busy station given ≡ None → given ≡ None
no_command station None e = refl
no_command station (Some number) e = absurd (cc)

no_operation : (station : Name) (asked : Option Operation) → params_busy station asked ≡ None → asked ≡ None
no_operation station None e = refl
no_operation station (Some operation) e = absurd (cc)

pub sound_commands : (s : WorldState) → Sound s → (station drone : Name) (number word : ℕ) → NameInRange drone → Is16 number → Is32 word → Keeps s (commands s station drone number word)
sound_commands s g station drone number word range small short =
    sound_orders s g (λ k node. asks s k node (command_busy (node_of node.link.me) (open_command node.services.commander)) (station_commands s.clock (stream_of drone) number word node))
    (λ k node found. asked_or s g k node (command_busy (node_of node.link.me) (open_command node.services.commander)) (station_commands s.clock (stream_of drone) number word node) (λ free.
    ((sound_does s g).commands k node drone number word range small short (no_command (node_of node.link.me) (open_command node.services.commander) free) (node_name (Station node)) found).0)) station

pub sound_params : (s : WorldState) → Sound s → (station drone : Name) → NameInRange drone → Keeps s (lists_params s station drone)
sound_params s g station drone range =
    sound_orders s g (λ k node. asks s k node (params_busy (node_of node.link.me) node.services.client.operation) (station_lists_params s.clock (stream_of drone) node))
    (λ k node found. asked_or s g k node (params_busy (node_of node.link.me) node.services.client.operation) (station_lists_params s.clock (stream_of drone) node) (λ free.
    ((sound_does s g).params k node drone range (no_operation (node_of node.link.me) node.services.client.operation free) (node_name (Station node)) found).0)) station

-- ---- lines

drafts : (s : WorldState) → Sound s → (draft : _) → All ItemInRange draft → StepKeeps s (restated s s.given draft s.clock)
drafts s g draft items = record {
  sound = sound_restated s s.given draft s.clock g g.given items (omega arith) g.clock;
  kept = kept_restated s s.given draft s.clock (omega arith);
  names = refl;
  clock = refl;
}

delivered : (s : WorldState) → Sound s → (number : ℕ) (name : Name) (o : Option Packet) → slice_get s.sent (number - 1) ≡ o → Keeps s (delivers s number name o)
delivered s g number name None e = rests_so s g
delivered s g number name (Some p) e = (sound_gives s g).again (number - 1) p e name

located : (s : WorldState) → Sound s → (drone : Name) (at : Option Location) → Keeps s (locates_as s drone at)
located s g drone None = rests_so s g
located s g drone (Some at) = rests_so s g

pub sound_line : EveryLineKeeps
sound_line s g Blank permitted fits authentic = line_of_step s Blank (rests s) refl (rests_so s g)
sound_line s g (DroneLine sys x y) permitted fits authentic =
    let free = not_against _ _ permitted.1 in
    by_test (KeepsLine s (DroneLine sys x y)) (nat_lt (drones_in s.nodes) most_drones) _ _
    (λ few. record {
      sound = drone_joins s sys (record { x = x; y = y }) g permitted.0 fits.0 fits.1 free (less _ _ few);
      kept = kept_joined s (Drone (new_drone s.key sys (record { x = x; y = y })));
      names = names_joined_are s (Drone (new_drone s.key sys (record { x = x; y = y })));
    })
    (λ _. tt)
sound_line s g (StationLine sys comp) permitted fits authentic =
    let free = not_against _ _ permitted.1 in
    let name : Name = record { sys = sys; comp = comp } in
    by_test (KeepsLine s (StationLine sys comp)) (nat_lt (stations_in s.nodes) most_stations) _ _
    (λ few. record {
      sound = station_joins s name g permitted.0.0 fits.0 permitted.0.1 fits.1 free (less _ _ few);
      kept = kept_joined s (Station (new_station s.key (stream_of name) 0));
      names = names_joined_are s (Station (new_station s.key (stream_of name) 0));
    })
    (λ _. tt)
sound_line s g (OneItem item) permitted fits authentic =
    line_of_step s (OneItem item) (after_line s (OneItem item)) refl (drafts s g (s.draft ++ item ∷ []) (All-push ItemInRange s.draft item g.draft fits))
sound_line s g (Items n first) permitted fits authentic =
    let reasons = no_first _ _ permitted.1 in
    let inside = not_against _ _ reasons.0 in
    line_of_step s (Items n first) (after_line s (Items n first)) refl (drafts s g (s.draft ++ items_from n first 0) (All-append ItemInRange s.draft (items_from n first 0) g.draft (rows_in_range n first fits permitted.0.0 inside)))
sound_line s g Empty permitted fits authentic = line_of_step s Empty (after_line s Empty) refl (drafts s g [] (All-nil ItemInRange))
sound_line s g (Begin station drone kind) permitted fits authentic =
    line_of_step s (Begin station drone kind) (after_line s (Begin station drone kind)) refl (from_line s _ (sound_begins (station_line s) (at_line s g) station drone (number_of kind) (drone_range s g drone permitted.0.1) (kind_small kind)))
sound_line s g (Cancel station) permitted fits authentic =
    line_of_step s (Cancel station) (after_line s (Cancel station)) refl (from_line s _ (sound_cancels (station_line s) (at_line s g) station))
sound_line s g (Clear station drone kind) permitted fits authentic =
    line_of_step s (Clear station drone kind) (after_line s (Clear station drone kind)) refl (from_line s _ (sound_clears (station_line s) (at_line s g) station drone (clear_number kind) (drone_range s g drone permitted.0.1) (clear_small kind)))
sound_line s g (Get station drone kind) permitted fits authentic =
    line_of_step s (Get station drone kind) (after_line s (Get station drone kind)) refl (from_line s _ (sound_gets (station_line s) (at_line s g) station drone (number_of kind) (drone_range s g drone permitted.0.1) (kind_small kind)))
sound_line s g (Command station drone number word) permitted fits authentic =
    line_of_step s (Command station drone number word) (after_line s (Command station drone number word)) refl (from_line s _ (sound_commands (station_line s) (at_line s g) station drone number word (drone_range s g drone permitted.0.1) fits.0 fits.1))
sound_line s g (Params station drone) permitted fits authentic =
    line_of_step s (Params station drone) (after_line s (Params station drone)) refl (from_line s _ (sound_params (station_line s) (at_line s g) station drone (drone_range s g drone permitted.0.1)))
sound_line s g (Heartbeat node) permitted fits authentic =
    line_of_step s (Heartbeat node) (after_line s (Heartbeat node)) refl (sound_calls s g (node_beats s.clock) (sound_does s g).beats node)
sound_line s g (Deliver number node) permitted fits authentic =
    line_of_step s (Deliver number node) (after_line s (Deliver number node)) refl (delivered s g number node (slice_get s.sent (number - 1)) refl)
sound_line s g (Flow k) permitted fits authentic = line_of_step s (Flow k) (after_line s (Flow k)) refl (sound_flows k s g)
sound_line s g (Noise node bytes) permitted fits authentic =
    line_of_step s (Noise node bytes) (after_line s (Noise node bytes)) refl (sound_calls s g (node_receives s.clock bytes) ((sound_does s g).receives bytes (authentic_known s g bytes fits authentic)) node)
sound_line s g (Tick node) permitted fits authentic =
    line_of_step s (Tick node) (after_line s (Tick node)) refl (sound_calls s g (node_ticks s.clock) (sound_does s g).ticks node)
sound_line s g (Clock n) permitted fits authentic =
    let soon = not_less _ _ (not_against _ _ permitted.1) in
    record {
      sound = sound_restated s s.given s.draft (s.clock + n) g g.given g.draft (omega arith) soon;
      kept = kept_restated s s.given s.draft (s.clock + n) (omega arith);
      names = sym (append-nil (names_of s.nodes));
    }
sound_line s g (Restart drone) permitted fits authentic =
    by_test (KeepsLine s (Restart drone)) (nat_lt s.restarts most_restarts) _ _
    (λ few. line_of_step s (Restart drone) (starts_again (restart_line s) drone) refl (sound_restarts s g (less _ _ few) drone))
    (λ _. tt)
sound_line s g (Sim drone n) permitted fits authentic = line_of_step s (Sim drone n) (after_line s (Sim drone n)) refl (sound_flies n drone s g)
sound_line s g (WhereIs drone) permitted fits authentic =
    line_of_step s (WhereIs drone) (after_line s (WhereIs drone)) refl (located s g drone (location_in s.nodes drone))
