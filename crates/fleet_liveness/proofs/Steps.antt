-- What holds of a scenario's step wherever it meets no limit.
use Rattle.std.proofs.Common.{◌≡◌, ℕ, ◌+◌, true, false, List, [], ◌++◌, length, slice_set, Some, None, Ok, Err, refl, ap, subst, sym}
use Rattle.std.specs.Prelude.{IfOk, nat_le}
use Rattle.std.specs.declared.result.Result.{Result}
use Rattle.mav_names.specs.declared.names.Name.{Name}
use Rattle.mav_frame.specs.Packet.{Packet}
use Rattle.mav_frame.specs.Encoding.{encoding}
use Rattle.plan_upload.specs.Addresses.{same_name}
use Rattle.mav_nodes.specs.Links.{Done, Outcome}
use Rattle.fleet_report.specs.Events.{Event}
use Rattle.node_reports.specs.Nodes.{Node, node_name}
use Rattle.node_reports.specs.Calls.{node_receives}
use Rattle.node_reports.specs.Reporting.{reported_by}
use Rattle.fleet_world.specs.WorldState.{WorldState}
use Rattle.fleet_world.specs.Steps.{Step, StepError, after_events, and_then, packets_in, node_does, most_frames, given_to}
use Rattle.fleet_invariants.specs.Kept.{StepKeeps, Keeps}
use Rattle.fleet_invariants.proofs.Tests.{by_test}

-- what holds of every step holds of one that met no limit
pub always : (P : Step → Type 0) (r : Result Step StepError) → ((t : Step) → P t) → IfOk r P
always P (Ok t) f = f t
always P (Err error) f = tt

pub both : (s : WorldState) (P : Step → Type 0) (r : Result Step StepError) → Keeps s r → IfOk r P → IfOk r (λ t. StepKeeps s t.state × P t)
both s P (Ok t) k h = (k, h)
both s P (Err error) k h = tt

pub weaker : (P Q : Step → Type 0) (r : Result Step StepError) → ((t : Step) → P t → Q t) → IfOk r P → IfOk r Q
weaker P Q (Ok t) f h = f t h
weaker P Q (Err error) f h = tt

-- a step, with the events that came before it
abbrev pub step_behind : List Event → Step → Step
step_behind events t = record { state = t.state; events = events ++ t.events }

pub ok_behind : (P : Step → Type 0) (events : List Event) (r : Result Step StepError) → IfOk r (λ t. P (step_behind events t)) → IfOk (after_events events r) P
ok_behind P events (Ok t) h = h
ok_behind P events (Err error) h = tt

pub ok_then : (P : Step → Type 0) (r : Result Step StepError) (next : WorldState → Result Step StepError) → IfOk r (λ t. IfOk (next t.state) (λ u. P (step_behind t.events u))) → IfOk (and_then r next) P
ok_then P (Ok t) next h = ok_behind P t.events (next t.state) h
ok_then P (Err error) next h = tt

-- a node that is given a frame: its sender, and another
pub ok_given : (P : Step → Type 0) (s : WorldState) (k : ℕ) (p : Packet) (node : Node)
    → (same_name (node_name node) p.from ≡ true → P (record { state = s; events = [] }))
    → (same_name (node_name node) p.from ≡ false → IfOk (node_does s k (node_name node) (node_receives s.clock (encoding p) node)) P)
    → IfOk (given_to s k p (Some node)) P
ok_given P s k p node own other = by_test (λ r. IfOk r P) (same_name (node_name node) p.from) _ _ own other

-- the node at an index goes on as another, and these frames are sent
abbrev pub moved : WorldState → ℕ → Node → List Packet → WorldState
moved s k node packets = record s { nodes = slice_set s.nodes k node; sent = s.sent ++ packets }

pub record Moves (s : WorldState) (k : ℕ) (node : Node) (packets : List Packet) (events : List Event) (t : Step) : Type 0 where
  pub is : t.state ≡ moved s k node packets
  pub events_are : t.events ≡ events
  pub keeps : StepKeeps s t.state

pub does_nothing : (P : Step → Type 0) (s : WorldState) (k : ℕ) (name : Name) (o : Outcome Node) → o ≡ None → IfOk (node_does s k name o) P
does_nothing P s k name o e = subst (λ x. IfOk (node_does s k name x) P) (sym e) tt

pub does : (s from : WorldState) (k : ℕ) (name : Name) (o : Outcome Node) (d : Done Node) (packets : List Packet) → o ≡ Some d → packets_in d.events ≡ packets → Keeps s (node_does from k name o)
    → IfOk (node_does from k name o) (λ t. StepKeeps s t.state × ((t.state ≡ moved from k d.node packets) × (t.events ≡ reported_by name (length from.sent) d.events)))
does s from k name o d packets is sends keeps =
    both s (λ t. (t.state ≡ moved from k d.node packets) × (t.events ≡ reported_by name (length from.sent) d.events)) (node_does from k name o) keeps
    (subst (λ x. IfOk (node_does from k name x) (λ t. (t.state ≡ moved from k d.node packets) × (t.events ≡ reported_by name (length from.sent) d.events))) (sym is)
    (by_test (λ r. IfOk r (λ t. (t.state ≡ moved from k d.node packets) × (t.events ≡ reported_by name (length from.sent) d.events))) (nat_le (length from.sent + length (packets_in d.events)) most_frames) _ _
    (λ _. (ap (moved from k d.node) sends, refl)) (λ _. tt)))

pub does_moves : (s : WorldState) (k : ℕ) (name : Name) (o : Outcome Node) (d : Done Node) (packets : List Packet) → o ≡ Some d → packets_in d.events ≡ packets → Keeps s (node_does s k name o)
    → IfOk (node_does s k name o) (Moves s k d.node packets (reported_by name (length s.sent) d.events))
does_moves s k name o d packets is sends keeps =
    weaker (λ t. StepKeeps s t.state × ((t.state ≡ moved s k d.node packets) × (t.events ≡ reported_by name (length s.sent) d.events))) (Moves s k d.node packets (reported_by name (length s.sent) d.events)) (node_does s k name o)
    (λ t h. record { is = h.1.0; events_are = h.1.1; keeps = h.0 })
    (does s s k name o d packets is sends keeps)
