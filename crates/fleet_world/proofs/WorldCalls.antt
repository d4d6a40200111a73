-- The world after a node was called, and what is reported of it.
use Rattle.std.specs.Prelude.{OnOk, IfErr}
use Rattle.std.proofs.Common.{◌≡◌, ℕ, zero, suc, Result, ◌-◌, ◌<◌, ◌≤◌, Bool, true, false, cond, List, [], ◌∷◌, length, map, slice_get, slice_set, option_map, Option, Some, None, Ok, Err, refl, sym, ap, ◌∙◌, subst, arith}
use Rattle.std.proofs.lemmas.List.{length-map}
use Rattle.std.proofs.lemmas.Option.{slice_get-map, slice_get_past}
use Rattle.mav_names.specs.declared.names.Name.{Name}
use Rattle.mav_frame.specs.Packet.{Packet}
use Rattle.mav_frame.specs.Encoding.{encoding}
use Rattle.mav_nodes.specs.News.{NodeEvent, shown, events_of}
use Rattle.mav_nodes.specs.Links.{Done, Outcome}
use Rattle.mav_nodes.specs.declared.news.News.{News}
use Rattle.fleet_report.specs.Events.{Missing}
use Rattle.fleet_report.specs.Reports.{ReportState, reported}
use Rattle.node_reports.specs.Nodes.{Node, node_name}
use Rattle.node_reports.specs.Calls.{node_receives}
use Rattle.node_reports.specs.ParamLists.{params_of, HaveValues}
use Rattle.node_reports.proofs.Reporting.{reports-none, reports-one}
use Rattle.node_reports.proofs.ListedValues.{ListsKnown}
use Rattle.fleet_world.specs.declared.faults.WorldFault.{WorldFault}
use Rattle.fleet_world.specs.declared.calls.Call.TheVariants.{Take}
use Rattle.fleet_world.specs.WorldState.{WorldState}
use Rattle.fleet_world.specs.WorldView.{IsFleet, Kept, kept_as, bytes_of, WorldView, IsState}
use Rattle.fleet_world.specs.Steps.{Step, StepError, rests, node_does, calls, calls_at, given_to, delivers}
use Rattle.fleet_world.specs.Flowing.{IsSender}
use Rattle.fleet_world.specs.NodeSteps.{reports_news, called}
use Rattle.fleet_world.specs.Promises.{Moved, FleetOutcome, WorldOutcome, IsStepError}

-- ---- what a node has reported

pub sent_length : (state : WorldState) (frames : Bool) (w : WorldView) → IsState state frames w → length w.sent ≡ length state.sent
sent_length state frames w is = ap length is.sent ∙ length-map state.sent kept_as

-- ---- a node that did something

set_there : (nodes : List Node) (k : ℕ) (node new : Node) → slice_get nodes k ≡ Some node → slice_get (slice_set nodes k new) k ≡ Some new
set_there [] k node new found = cc
set_there (n ∷ ns) zero node new found = refl
set_there (n ∷ ns) (suc k) node new found = set_there ns k node new found

-- only the nodes of the fleet are others
abbrev pub NodesOnly : WorldView → WorldView → Type 0
NodesOnly w after = after ≡ record w { fleet = record w.fleet { nodes = after.fleet.nodes } }

pub moved_state : (state : WorldState) (nodes : List Node) (w after : WorldView) → IsState state w.frames w → IsFleet nodes after.fleet → NodesOnly w after → IsState (record state { nodes = nodes }) after.frames after
moved_state state nodes w after is fleet e = record {
  key = ap (λ (z : WorldView). z.fleet.key) e ∙ is.key;
  fleet = fleet;
  clock = ap (λ (z : WorldView). z.fleet.clock) e ∙ is.clock;
  sent = ap (λ (z : WorldView). z.sent) e ∙ is.sent;
  given = ap (λ (z : WorldView). z.given) e ∙ is.given;
  draft = ap (λ (z : WorldView). z.draft) e ∙ is.draft;
  restarts = ap (λ (z : WorldView). z.restarts) e ∙ is.restarts;
  frames_is = refl;
}

module _ (state : WorldState) (w after : WorldView) (index : ℕ) (news : List News) (is : IsState state w.frames w) (e : NodesOnly w after) where
  frames_same : after.frames ≡ w.frames
  frames_same = ap (λ (z : WorldView). z.frames) e

  -- the node at the index is what it was moved to
  known_there : (node : Node) (outcome : Outcome Node) (d : Done Node) → slice_get state.nodes index ≡ Some node → outcome ≡ Some d → ListsKnown outcome → HaveValues (params_of (slice_get (slice_set state.nodes index d.node) index)) d.events
  known_there node outcome d found does known =
      subst (λ (o : Option Node). HaveValues (params_of o) d.events) (sym (set_there state.nodes index node d.node found)) (subst ListsKnown does known)

  pub moved_outcome : (name : Name) (node : Node) (outcome : Outcome Node) (last : WorldView) (start end : ReportState) → slice_get state.nodes index ≡ Some node → ListsKnown outcome → Moved state.nodes index outcome after.fleet news → ((s : WorldState) (events : List NodeEvent) → IsState s after.frames after → events_of news ≡ map shown events → HaveValues (params_of (slice_get s.nodes index)) events → WorldOutcome (reports_news s name events) after.frames last start end) → WorldOutcome (node_does state index name outcome) w.frames last start end
  moved_outcome name node None last start end found known moved reporting = absurd moved
  moved_outcome name node (Some d) last start end found known moved reporting =
      subst (λ (f : Bool). WorldOutcome (node_does state index name (Some d)) f last start end) frames_same
      (reporting (record state { nodes = slice_set state.nodes index d.node }) d.events (moved_state state (slice_set state.nodes index d.node) w after is moved.0 e) moved.1
      (known_there node (Some d) d found refl known))

  pub moved_error : (name : Name) (outcome : Outcome Node) (fault : WorldFault) → Moved state.nodes index outcome after.fleet news → ((s : WorldState) (events : List NodeEvent) → IsState s after.frames after → events_of news ≡ map shown events → IsStepError (reports_news s name events) fault) → IsStepError (node_does state index name outcome) fault
  moved_error name None fault moved reporting = absurd moved
  moved_error name (Some d) fault moved reporting =
      reporting (record state { nodes = slice_set state.nodes index d.node }) d.events (moved_state state (slice_set state.nodes index d.node) w after is moved.0 e) moved.1

  called_outcome : (name : Name) (o : Option Node) (call : Node → Outcome Node) (last : WorldView) (start end : ReportState) → slice_get state.nodes index ≡ o → ((node : Node) → ListsKnown (call node)) → Some name ≡ option_map node_name o → FleetOutcome state.nodes index o call after.fleet news → ((s : WorldState) (events : List NodeEvent) → IsState s after.frames after → events_of news ≡ map shown events → HaveValues (params_of (slice_get s.nodes index)) events → WorldOutcome (reports_news s name events) after.frames last start end) → WorldOutcome (calls_at state index o call) w.frames last start end
  called_outcome name None call last start end found known named did reporting = cc
  called_outcome name (Some node) call last start end found known named did reporting =
      let same : name ≡ node_name node = cc in
      subst (λ (n : Name). WorldOutcome (node_does state index n (call node)) w.frames last start end) same
      (moved_outcome name node (call node) last start end found (known node) did reporting)

  called_error : (name : Name) (o : Option Node) (call : Node → Outcome Node) (fault : WorldFault) → Some name ≡ option_map node_name o → FleetOutcome state.nodes index o call after.fleet news → ((s : WorldState) (events : List NodeEvent) → IsState s after.frames after → events_of news ≡ map shown events → IsStepError (reports_news s name events) fault) → IsStepError (calls_at state index o call) fault
  called_error name None call fault named did reporting = cc
  called_error name (Some node) call fault named did reporting =
      let same : name ≡ node_name node = cc in
      subst (λ (n : Name). IsStepError (node_does state index n (call node)) fault) same (moved_error name (call node) fault did reporting)

-- as a call says it
pub call_outcome : {T E : Type 0} (r : Result T E) (w after last : WorldView) (index : ℕ) (name : Name) (call : Node → Outcome Node) (news items : List News) (start end : ReportState) → ((node : Node) → ListsKnown (call node)) → news ≡ items → ((nodes : List Node) → IsFleet nodes w.fleet → Some name ≡ option_map node_name (slice_get nodes index)) → ((nodes : List Node) → IsFleet nodes w.fleet → FleetOutcome nodes index (slice_get nodes index) call after.fleet items) → NodesOnly w after → OnOk r ((s : WorldState) (events : List NodeEvent) → IsState s after.frames after → events_of news ≡ map shown events → HaveValues (params_of (slice_get s.nodes index)) events → WorldOutcome (reports_news s name events) after.frames last start end) → OnOk r ((state : WorldState) → IsState state w.frames w → WorldOutcome (calls_at state index (slice_get state.nodes index) call) w.frames last start end)
call_outcome (Err x) w after last index name call news items start end known as_items named did e reporting = tt
call_outcome (Ok t) w after last index name call news items start end known as_items named did e reporting = λ state is.
    called_outcome state w after index news is e name (slice_get state.nodes index) call last start end refl known (named state.nodes is.fleet)
    (subst (FleetOutcome state.nodes index (slice_get state.nodes index) call after.fleet) (sym as_items) (did state.nodes is.fleet)) reporting

pub call_error : {T : Type 0} (r : Result T WorldFault) (w after : WorldView) (index : ℕ) (name : Name) (call : Node → Outcome Node) (news items : List News) → news ≡ items → ((nodes : List Node) → IsFleet nodes w.fleet → Some name ≡ option_map node_name (slice_get nodes index)) → ((nodes : List Node) → IsFleet nodes w.fleet → FleetOutcome nodes index (slice_get nodes index) call after.fleet items) → NodesOnly w after → IfErr r (λ fault. (s : WorldState) (events : List NodeEvent) → IsState s after.frames after → events_of news ≡ map shown events → IsStepError (reports_news s name events) fault) → IfErr r (λ fault. (state : WorldState) → IsState state w.frames w → IsStepError (calls_at state index (slice_get state.nodes index) call) fault)
call_error (Ok t) w after index name call news items as_items named did e reporting = tt
call_error (Err fault) w after index name call news items as_items named did e reporting = λ state is.
    called_error state w after index news is e name (slice_get state.nodes index) call fault (named state.nodes is.fleet)
    (subst (FleetOutcome state.nodes index (slice_get state.nodes index) call after.fleet) (sym as_items) (did state.nodes is.fleet)) reporting

-- ---- a sent frame

sent_at : (state : WorldState) (frames : Bool) (w : WorldView) (k : ℕ) (o : Option Packet) → IsState state frames w → slice_get state.sent k ≡ o → slice_get w.sent k ≡ option_map kept_as o
sent_at state frames w k o is found =
    ap (λ (l : List Kept). slice_get l k) is.sent ∙ (slice_get-map kept_as state.sent k ∙ ap (option_map kept_as) found)

-- to take it is to receive its bytes
pub take_is : (state : WorldState) (frames : Bool) (w : WorldView) (k : ℕ) (packet : Packet) → IsState state frames w → slice_get state.sent k ≡ Some packet → called w (Take k) ≡ node_receives state.clock (encoding packet)
take_is state frames w k packet is found =
    let bytes : bytes_of (slice_get w.sent k) ≡ encoding packet = ap bytes_of (sent_at state frames w k (Some packet) is found) in
    λ i. node_receives (is.clock i) (bytes i)

not_none : (l : List Packet) (i : ℕ) → slice_get l i ≡ None → length l ≤ i
not_none [] i none = omega arith
not_none (x ∷ xs) zero none = cc
not_none (x ∷ xs) (suc i) none = let rest : length xs ≤ i = not_none xs i none in omega arith

pub past_end : (state : WorldState) (frames : Bool) (w : WorldView) (k : ℕ) → IsState state frames w → slice_get state.sent k ≡ None → k < length w.sent → ⊥
past_end state frames w k is none within =
    let size = sent_length state frames w is in
    let past = not_none state.sent k none in
    omega (arith, size, past, within)

deliver_by : (state : WorldState) (w last : WorldView) (number k : ℕ) (name : Name) (start end : ReportState) (o : Option Packet) → slice_get state.sent k ≡ o → k < length w.sent → IsState state w.frames w → WorldOutcome (calls state name (called w (Take k))) w.frames last start end → WorldOutcome (delivers state number name o) w.frames last start end
deliver_by state w last number k name start end None found within is did = absurd (past_end state w.frames w k is found within)
deliver_by state w last number k name start end (Some packet) found within is did =
    subst (λ (call : Node → Outcome Node). WorldOutcome (calls state name call) w.frames last start end) (take_is state w.frames w k packet is found) did

pub deliver_outcome : {T E : Type 0} (r : Result T E) (w last : WorldView) (number k n : ℕ) (name : Name) (start end : ReportState) → k ≡ number - 1 → n ≡ length w.sent → k < n → OnOk r ((state : WorldState) → IsState state w.frames w → WorldOutcome (calls state name (called w (Take k))) w.frames last start end) → OnOk r ((state : WorldState) → IsState state w.frames w → WorldOutcome (delivers state number name (slice_get state.sent (number - 1))) w.frames last start end)
deliver_outcome (Err x) w last number k n name start end index size within did = tt
deliver_outcome (Ok t) w last number k n name start end index size within did = λ state is.
    let less : k < length w.sent = omega (arith, size, within) in
    deliver_by state w last number k name start end (slice_get state.sent (number - 1)) (ap (slice_get state.sent) index) less is (did state is)

deliver_by_error : (state : WorldState) (w : WorldView) (number k : ℕ) (name : Name) (fault : WorldFault) (o : Option Packet) → slice_get state.sent k ≡ o → k < length w.sent → IsState state w.frames w → IsStepError (calls state name (called w (Take k))) fault → IsStepError (delivers state number name o) fault
deliver_by_error state w number k name fault None found within is did = absurd (past_end state w.frames w k is found within)
deliver_by_error state w number k name fault (Some packet) found within is did =
    subst (λ (call : Node → Outcome Node). IsStepError (calls state name call) fault) (take_is state w.frames w k packet is found) did

pub deliver_error : {T : Type 0} (r : Result T WorldFault) (w : WorldView) (number k n : ℕ) (name : Name) → k ≡ number - 1 → n ≡ length w.sent → k < n → IfErr r (λ fault. (state : WorldState) → IsState state w.frames w → IsStepError (calls state name (called w (Take k))) fault) → IfErr r (λ fault. (state : WorldState) → IsState state w.frames w → IsStepError (delivers state number name (slice_get state.sent (number - 1))) fault)
deliver_error (Ok t) w number k n name index size within did = tt
deliver_error (Err fault) w number k n name index size within did = λ state is.
    let less : k < length w.sent = omega (arith, size, within) in
    deliver_by_error state w number k name fault (slice_get state.sent (number - 1)) (ap (slice_get state.sent) index) less is (did state is)

-- no frame of that number was sent
pub deliver_none : (state : WorldState) (w : WorldView) (number k n : ℕ) (name : Name) (start end : ReportState) → k ≡ number - 1 → n ≡ length w.sent → n ≤ k → IsState state w.frames w → end ≡ reported start (Missing number) → WorldOutcome (delivers state number name (slice_get state.sent (number - 1))) w.frames w start end
deliver_none state w number k n name start end index size past is reported_is =
    let beyond : length state.sent ≤ number - 1 = omega (arith, size, past, index, sent_length state w.frames w is) in
    subst (λ (o : Option Packet). WorldOutcome (delivers state number name o) w.frames w start end) (sym (slice_get_past state.sent (number - 1) beyond))
    (is, reported_is ∙ reports-one start (Missing number))

-- ---- a frame that a flow gives

-- the sender isn't given its own frame
pub sender_rests : (state : WorldState) (index : ℕ) (packet : Packet) (o : Option Node) → IsSender o packet true → given_to state index packet o ≡ rests state
sender_rests state index packet None sends = refl
sender_rests state index packet (Some node) sends =
    ap (λ (b : Bool). cond b (rests state) (node_does state index (node_name node) (node_receives state.clock (encoding packet) node))) (sym sends)

pub given_call : (state : WorldState) (index : ℕ) (packet : Packet) (o : Option Node) → IsSender o packet false → given_to state index packet o ≡ calls_at state index o (node_receives state.clock (encoding packet))
given_call state index packet None other = refl
given_call state index packet (Some node) other =
    ap (λ (b : Bool). cond b (rests state) (node_does state index (node_name node) (node_receives state.clock (encoding packet) node))) (sym other)

pub rests_outcome : (state : WorldState) (frames : Bool) (w : WorldView) (report : ReportState) → IsState state frames w → WorldOutcome (rests state) frames w report report
rests_outcome state frames w report is = (is, sym (reports-none report))

module _ (w last : WorldView) (index number : ℕ) (start end : ReportState) where
  pub give_rests : (state : WorldState) (packet : Packet) (sends : Bool) → sends ≡ true → IsSender (slice_get state.nodes index) packet sends → IsState state w.frames w → WorldOutcome (given_to state index packet (slice_get state.nodes index)) w.frames w start start
  give_rests state packet sends sent_it sender is =
      subst (λ (r : Result Step StepError). WorldOutcome r w.frames w start start) (sym (sender_rests state index packet (slice_get state.nodes index) (subst (IsSender (slice_get state.nodes index) packet) sent_it sender)))
      (rests_outcome state w.frames w start is)

  given_is : (state : WorldState) (packet : Packet) (sends : Bool) → sends ≡ false → IsSender (slice_get state.nodes index) packet sends → IsState state w.frames w → slice_get state.sent number ≡ Some packet → calls_at state index (slice_get state.nodes index) (called w (Take number)) ≡ given_to state index packet (slice_get state.nodes index)
  given_is state packet sends other sender is found =
      ap (calls_at state index (slice_get state.nodes index)) (take_is state w.frames w number packet is found)
      ∙ sym (given_call state index packet (slice_get state.nodes index) (subst (IsSender (slice_get state.nodes index) packet) other sender))

  pub give_outcome : {T E : Type 0} (r : Result T E) (sends : Bool) → sends ≡ false → ((state : WorldState) (packet : Packet) → IsState state w.frames w → slice_get state.sent number ≡ Some packet → IsSender (slice_get state.nodes index) packet sends) → OnOk r ((state : WorldState) → IsState state w.frames w → WorldOutcome (calls_at state index (slice_get state.nodes index) (called w (Take number))) w.frames last start end) → OnOk r ((state : WorldState) → (packet : Packet) → IsState state w.frames w → slice_get state.sent number ≡ Some packet → WorldOutcome (given_to state index packet (slice_get state.nodes index)) w.frames last start end)
  give_outcome (Err x) sends other sender did = tt
  give_outcome (Ok t) sends other sender did = λ state packet is found.
      subst (λ (s : Result Step StepError). WorldOutcome s w.frames last start end) (given_is state packet sends other (sender state packet is found) is found) (did state is)

  pub give_error : {T : Type 0} (r : Result T WorldFault) (sends : Bool) → sends ≡ false → ((state : WorldState) (packet : Packet) → IsState state w.frames w → slice_get state.sent number ≡ Some packet → IsSender (slice_get state.nodes index) packet sends) → IfErr r (λ fault. (state : WorldState) → IsState state w.frames w → IsStepError (calls_at state index (slice_get state.nodes index) (called w (Take number))) fault) → IfErr r (λ fault. (state : WorldState) → (packet : Packet) → IsState state w.frames w → slice_get state.sent number ≡ Some packet → IsStepError (given_to state index packet (slice_get state.nodes index)) fault)
  give_error (Ok t) sends other sender did = tt
  give_error (Err fault) sends other sender did = λ state packet is found.
      subst (λ (s : Result Step StepError). IsStepError s fault) (given_is state packet sends other (sender state packet is found) is found) (did state is)
