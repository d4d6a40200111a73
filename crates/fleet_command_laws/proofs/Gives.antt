-- Frames that are given, once or in a flow.
use Rattle.std.proofs.Common.{◌≡◌, ℕ, zero, suc, ◌+◌, ◌++◌, length, slice_get, List, Option, Some, None, Ok, Err, refl, ap, arith, ◌∙◌}
use Rattle.std.specs.declared.result.Result.{Result}
use Rattle.std.proofs.lemmas.List.{append-nil}
use Rattle.mav_names.specs.declared.names.Name.{Name}
use Rattle.mav_names.specs.Addresses.{same_name, node_of}
use Rattle.mav_frame.specs.Packet.{Packet}
use Rattle.mav_frame.specs.Encoding.{encoding}
use Rattle.node_reports.specs.Nodes.{Node, Drone, Station, node_name}
use Rattle.node_reports.specs.Calls.{node_receives, node_flies}
use Rattle.fleet_world.specs.WorldState.{WorldState, named}
use Rattle.mav_nodes.specs.Nodes.{StationSide}
use Rattle.scenario_lines.specs.declared.naming.Named.{Named}
use Rattle.scenario_lines.specs.declared.naming.Role.TheVariants.{Drone as DroneRole, Station as StationRole}
use Rattle.fleet_world.specs.Steps.{Step, StepError, and_then, given_to, given_from, given_to_all, flow_next, flows, calls, flies}
use Rattle.fleet_invariants.specs.Sound.{Sound}
use Rattle.fleet_invariants.specs.Kept.{Kept, StepKeeps, Keeps}
use Rattle.fleet_invariants.proofs.Lists.{within}
use Rattle.fleet_invariants.proofs.Tests.{by_test}
use Rattle.fleet_invariants.proofs.Restated.{regiven}
use Rattle.fleet_invariants.proofs.Heard.{sent_known}
use Rattle.fleet_invariants.proofs.Calls.{sound_does}
use Rattle.fleet_invariants.proofs.Gives.{sound_gives, sound_calls}
use Rattle.fleet_command_laws.specs.Lines.{Order, orders_begun}
use Rattle.fleet_command_laws.specs.Accepted.{HasStation}
use Rattle.fleet_command_laws.proofs.Worlds.{Commanded, After, Stays, no_line, rests_so, stays_behind, does_so, receives_so, calls_so, flies_so}

record IsStation (n : StationSide) (b : Node) : Type 0 where
  node : StationSide
  is : b ≡ Station node
  name_is : node_of node.link.me ≡ node_of n.link.me

-- a station of a state is one of a later state
role_stays : (n : StationSide) (b : Node) → named b ≡ named (Station n) → IsStation n b
role_stays n (Drone d) e = absurd (let wrong : DroneRole ≡ StationRole = ap (λ (x : Named). x.role) e in cc)
role_stays n (Station m) e = record { node = m; is = refl; name_is = ap (λ (x : Named). x.name) e }

station_stays : (s t : WorldState) → Kept s t → (name : Name) → HasStation s name → HasStation t name
station_stays s t k name is =
    let f = k.nodes is.index (Station is.node) is.found in
    let m = role_stays is.node f.node f.named_is in
    record { index = is.index; node = m.node; found = f.found ∙ ap (λ x. Some x) m.is; name_is = m.name_is ∙ is.name_is }

stays_both : (s t : WorldState) (r : Result Step StepError) → Kept s t → After s no_line t → Stays t no_line r → Stays s no_line r
stays_both s t (Err error) k h i = tt
stays_both s t (Ok u) k h i = record {
  commanded = i.commanded;
  begun = λ name is. i.begun name (station_stays s t k name is) ∙ append-nil (orders_begun name t.sent) ∙ h.begun name is;
}

then_stays : (s : WorldState) (r : Result Step StepError) (next : WorldState → Result Step StepError) → Keeps s r → Stays s no_line r → ((t : WorldState) → Sound t → StepKeeps s t → Commanded t → Stays t no_line (next t)) → Stays s no_line (and_then r next)
then_stays s (Ok t) next k h each =
    stays_behind s no_line t.events (next t.state) (stays_both s t.state (next t.state) k.kept h (each t.state k.sound k h.commanded))
then_stays s (Err error) next k h each = tt

to_one : (s : WorldState) (g : Sound s) (c : Commanded s) (i : ℕ) (p : Packet) → slice_get s.sent i ≡ Some p → (k : ℕ) (a : Option Node) → slice_get s.nodes k ≡ a → Stays s no_line (given_to s k p a)
to_one s g c i p sent k None found = rests_so s c
to_one s g c i p sent k (Some a) found =
    by_test (Stays s no_line) (same_name (node_name a) p.from) _ _ (λ _. rests_so s c) (λ _. does_so s g c k a found (node_name a) (node_receives s.clock (encoding p) a) (receives_so s g c (encoding p) (sent_known s g i p sent) k a found))

to_some : (n : ℕ) (s : WorldState) (g : Sound s) (c : Commanded s) (i : ℕ) (p : Packet) → slice_get s.sent i ≡ Some p → (k : ℕ) → Stays s no_line (given_from s k n p)
to_some zero s g c i p sent k = rests_so s c
to_some (suc n) s g c i p sent k =
    then_stays s (given_to s k p (slice_get s.nodes k)) (λ t. given_from t (k + 1) n p) ((sound_gives s g).one i p sent k) (to_one s g c i p sent k (slice_get s.nodes k) refl) (λ t h e d. to_some n t h d i p (e.kept.sent i p sent) (k + 1))

-- a state with the same nodes and frames
pub stays_like : (s u : WorldState) (orders : Name → List Order) (r : Result Step StepError) → u.nodes ≡ s.nodes → u.sent ≡ s.sent → Stays u orders r → Stays s orders r
stays_like s u orders (Err error) nodes sent h = tt
stays_like s u orders (Ok t) nodes sent h = record {
  commanded = h.commanded;
  begun = λ name is.
      h.begun name (record { index = is.index; node = is.node; found = ap (λ ns. slice_get ns is.index) nodes ∙ is.found; name_is = is.name_is })
      ∙ ap (λ ps. orders_begun name ps ++ orders name) sent;
}

flow_goes : (s : WorldState) (g : Sound s) (c : Commanded s) (o : Option Packet) → slice_get s.sent s.given ≡ o → (next : WorldState → Result Step StepError) → ((t : WorldState) → Sound t → Commanded t → Stays t no_line (next t)) → Stays s no_line (flow_next s o next)
flow_goes s g c None e next each = rests_so s c
flow_goes s g c (Some p) e next each =
    let inside = within s.sent s.given p e in
    let t : WorldState = record s { given = s.given + 1 } in
    let h : Sound t = regiven s (s.given + 1) g (omega arith) in
    stays_like s t no_line (and_then (given_to_all t p) next) refl refl (then_stays t (given_to_all t p) next ((sound_gives t h).all s.given p e) (to_some (length s.nodes) t h (record { stations = c.stations; drones = c.drones }) s.given p e 0) (λ u k _ d. each u k d))

pub flows_so : (k : ℕ) (s : WorldState) (g : Sound s) (c : Commanded s) → Stays s no_line (flows k s)
flows_so zero s g c = rests_so s c
flows_so (suc k) s g c = flow_goes s g c (slice_get s.sent s.given) refl (flows k) (λ t h d. flows_so k t h d)

-- ---- a flight

pub flights_so : (n : ℕ) (drone : Name) (s : WorldState) (g : Sound s) (c : Commanded s) → Stays s no_line (flies n drone s)
flights_so zero drone s g c = rests_so s c
flights_so (suc n) drone s g c =
    then_stays s (calls s drone (node_flies s.clock)) (flies n drone) (sound_calls s g (node_flies s.clock) (sound_does s g).flies drone)
    (calls_so s g c (node_flies s.clock) (flies_so s g c) drone) (λ t h _ d. flights_so n drone t h d)
