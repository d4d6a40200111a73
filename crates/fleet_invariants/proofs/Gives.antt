-- Frames that are given, and flights, leave a sound state.
use Rattle.std.proofs.Common.{◌≡◌, ℕ, zero, suc, ◌+◌, List, length, slice_get, Option, Some, None, Ok, Err, refl, arith, ◌∙◌}
use Rattle.std.specs.Prelude.{position}
use Rattle.std.specs.declared.result.Result.{Result}
use Rattle.mav_names.specs.declared.names.Name.{Name}
use Rattle.mav_frame.specs.Packet.{Packet}
use Rattle.mav_frame.specs.Encoding.{encoding}
use Rattle.plan_upload.specs.Addresses.{same_name}
use Rattle.mav_nodes.specs.Links.{Outcome}
use Rattle.fleet_report.specs.Events.{Event}
use Rattle.node_reports.specs.Nodes.{Node, node_name}
use Rattle.node_reports.specs.Calls.{node_receives, node_flies}
use Rattle.fleet_world.specs.WorldState.{WorldState, is_named}
use Rattle.fleet_world.specs.Steps.{Step, StepError, after_events, and_then, calls_at, calls_found, calls, given_to, given_from, given_to_all, flow_next, flows, flies}
use Rattle.fleet_invariants.specs.Sound.{Sound}
use Rattle.fleet_invariants.specs.Kept.{StepKeeps, Keeps}
use Rattle.fleet_invariants.specs.Laws.{CallKeeps, EveryGivingKeeps}
use Rattle.fleet_invariants.proofs.Lists.{within}
use Rattle.fleet_invariants.proofs.Tests.{by_test}
use Rattle.fleet_invariants.proofs.Growth.{kept_on, kept_still}
use Rattle.fleet_invariants.proofs.Restated.{restated, sound_restated, restated_keeps}
use Rattle.fleet_invariants.proofs.Calls.{sound_does}
use Rattle.fleet_invariants.proofs.Heard.{sent_known}

pub rests_so : (s : WorldState) → Sound s → StepKeeps s s
rests_so s g = record { sound = g; kept = kept_still s s refl refl refl (omega arith) (omega arith); names = refl; clock = refl }

step_on : (s t u : WorldState) → StepKeeps s t → StepKeeps t u → StepKeeps s u
step_on s t u h k = record { sound = k.sound; kept = kept_on s t u h.kept k.kept; names = k.names ∙ h.names; clock = k.clock ∙ h.clock }

behind_keeps : (s t : WorldState) (events : List Event) (r : Result Step StepError) → StepKeeps s t → Keeps t r → Keeps s (after_events events r)
behind_keeps s t events (Ok u) h k = step_on s t u.state h k
behind_keeps s t events (Err error) h k = tt

then_keeps : (s : WorldState) (r : Result Step StepError) (next : WorldState → Result Step StepError) → Keeps s r → ((t : WorldState) → StepKeeps s t → Keeps t (next t)) → Keeps s (and_then r next)
then_keeps s (Ok t) next h each = behind_keeps s t.state t.events (next t.state) h (each t.state h)
then_keeps s (Err error) next h each = tt

-- ---- one node

to_one : (s : WorldState) → Sound s → (i : ℕ) (p : Packet) → slice_get s.sent i ≡ Some p → (k : ℕ) (node : Option Node) → slice_get s.nodes k ≡ node → Keeps s (given_to s k p node)
to_one s g i p sent k None found = rests_so s g
to_one s g i p sent k (Some node) found =
    by_test (Keeps s) (same_name (node_name node) p.from) _ _ (λ _. rests_so s g) (λ _. ((sound_does s g).receives (encoding p) (sent_known s g i p sent) k node (node_name node) found).0)

-- the node of a name
at_index : (s : WorldState) → Sound s → (call : Node → Outcome Node) → CallKeeps s call → (k : ℕ) (node : Option Node) → slice_get s.nodes k ≡ node → Keeps s (calls_at s k node call)
at_index s g call each k None found = rests_so s g
at_index s g call each k (Some node) found = (each k node (node_name node) found).0

placed : (s : WorldState) → Sound s → (call : Node → Outcome Node) → CallKeeps s call → (k : Option ℕ) → Keeps s (calls_found s k call)
placed s g call each None = rests_so s g
placed s g call each (Some k) = at_index s g call each k (slice_get s.nodes k) refl

pub sound_calls : (s : WorldState) → Sound s → (call : Node → Outcome Node) → CallKeeps s call → (name : Name) → Keeps s (calls s name call)
sound_calls s g call each name = placed s g call each (position (is_named name) s.nodes)

-- ---- nodes, one after another

to_some : (n : ℕ) (s : WorldState) → Sound s → (i : ℕ) (p : Packet) → slice_get s.sent i ≡ Some p → (k : ℕ) → Keeps s (given_from s k n p)
to_some zero s g i p sent k = rests_so s g
to_some (suc n) s g i p sent k =
    then_keeps s (given_to s k p (slice_get s.nodes k)) (λ t. given_from t (k + 1) n p) (to_one s g i p sent k (slice_get s.nodes k) refl) (λ t h. to_some n t h.sound i p (h.kept.sent i p sent) (k + 1))

to_all : (s : WorldState) → Sound s → (i : ℕ) (p : Packet) → slice_get s.sent i ≡ Some p → Keeps s (given_to_all s p)
to_all s g i p sent = to_some (length s.nodes) s g i p sent 0

-- ---- a flow

flow_goes : (s : WorldState) → Sound s → (o : Option Packet) → slice_get s.sent s.given ≡ o → (next : WorldState → Result Step StepError) → ((t : WorldState) → Sound t → Keeps t (next t)) → Keeps s (flow_next s o next)
flow_goes s g None e next each = rests_so s g
flow_goes s g (Some p) e next each =
    let inside = within s.sent s.given p e in
    let given = s.given + 1 in
    restated_keeps s given s.draft (and_then (given_to_all (restated s given s.draft s.clock) p) next)
    (then_keeps (restated s given s.draft s.clock) (given_to_all (restated s given s.draft s.clock) p) next
    (to_all (restated s given s.draft s.clock) (sound_restated s given s.draft s.clock g (omega arith) g.draft (omega arith) g.clock) s.given p e)
    (λ t h. each t h.sound))

pub sound_flows : (k : ℕ) (s : WorldState) → Sound s → Keeps s (flows k s)
sound_flows zero s g = rests_so s g
sound_flows (suc k) s g = flow_goes s g (slice_get s.sent s.given) refl (flows k) (λ t h. sound_flows k t h)

-- ---- a flight

pub sound_flies : (n : ℕ) (drone : Name) (s : WorldState) → Sound s → Keeps s (flies n drone s)
sound_flies zero drone s g = rests_so s g
sound_flies (suc n) drone s g =
    then_keeps s (calls s drone (node_flies s.clock)) (flies n drone) (sound_calls s g (node_flies s.clock) (sound_does s g).flies drone) (λ t h. sound_flies n drone t h.sound)

pub sound_gives : EveryGivingKeeps
sound_gives s g = record {
  one = λ i p sent k. to_one s g i p sent k (slice_get s.nodes k) refl;
  some = λ i p sent k n. to_some n s g i p sent k;
  all = λ i p sent. to_all s g i p sent;
  flow = λ k. sound_flows k s g;
  again = λ i p sent name. sound_calls s g (node_receives s.clock (encoding p)) ((sound_does s g).receives (encoding p) (sent_known s g i p sent)) name;
}
