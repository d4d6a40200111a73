-- Steps one after another: what was done so far, and what the rest leads to.
use Rattle.std.proofs.Common.{◌≡◌, ℕ, zero, suc, ◌+◌, ◌-◌, ◌<◌, ◌≤◌, Bool, true, false, cond, List, [], ◌∷◌, ◌++◌, length, slice_get, slice_set, nat_le, Option, Some, None, Result, Ok, Err, refl, sym, ap, ◌∙◌, subst, append_assoc, arith}
use Rattle.std.proofs.lemmas.List.{append-nil}
use Rattle.std.proofs.lemmas.Option.{slice_get_past}
use Rattle.mav_frame.specs.Packet.{Packet}
use Rattle.mav_frame.specs.Encoding.{encoding}
use Rattle.mav_nodes.specs.Links.{Outcome}
use Rattle.plan_upload.specs.Addresses.{same_name}
use Rattle.mav_names.specs.declared.names.Name.{Name}
use Rattle.fleet_report.specs.Events.{Event}
use Rattle.fleet_report.specs.Reports.{ReportState}
use Rattle.node_reports.specs.Nodes.{Node, node_name}
use Rattle.node_reports.specs.Calls.{node_receives, node_flies}
use Rattle.node_reports.specs.Reporting.{reported_by, reports}
use Rattle.node_reports.proofs.Reporting.{reports-none, reports-both}
use Rattle.fleet_world.specs.declared.faults.WorldFault.{WorldFault}
use Rattle.fleet_world.specs.declared.faults.WorldFault.TheVariants.{Limit, Node as NodeFails, NoMemory}
use Rattle.mav_nodes.specs.declared.faults.NodeFault.TheVariants.{StampsSpent, Store as NodeStore, NoMemory as NoNodeMemory}
use Rattle.fleet_world.specs.declared.faults.Bound.TheVariants.{Frames}
use Rattle.fleet_world.specs.WorldState.{WorldState}
use Rattle.fleet_world.specs.WorldView.{WorldView, IsState}
use Rattle.fleet_world.specs.Steps.{Step, StepError, At_limit, rests, after_events, and_then, most_frames, packets_in, node_does, given_to, given_from, given_to_all, flow_next, flows, calls, flies}
use Rattle.fleet_world.specs.Flowing.{IsTaken}
use Rattle.fleet_world.specs.Promises.{WorldOutcome, IsStepError}
use Rattle.fleet_world.proofs.NodeLists.{as_many}
use Rattle.fleet_world.proofs.WorldCalls.{sent_length, past_end}

behind-nil : (r : Result Step StepError) → r ≡ after_events [] r
behind-nil (Ok t) = refl
behind-nil (Err error) = refl

behind_twice : (xs ys : List Event) (r : Result Step StepError) → after_events xs (after_events ys r) ≡ after_events (xs ++ ys) r
behind_twice xs ys (Ok t) = ap (λ (es : List Event). Ok (record { state = t.state; events = es })) (sym (append_assoc xs ys t.events))
behind_twice xs ys (Err error) = refl

-- `whole` is what was done so far, and then the rest from a state in which the world is, and of which P holds
pub record Leads (frames : Bool) (whole : Result Step StepError) (rest : WorldState → Result Step StepError) (P : WorldState → Type 0) (world : WorldView) (start now : ReportState) : Type 0 where
  pub state : WorldState
  pub is : IsState state frames world
  pub holds : P state
  pub events : List Event
  pub whole_is : whole ≡ after_events events (rest state)
  pub text : now ≡ reports start events

module _ (frames : Bool) (whole : Result Step StepError) (P Q : WorldState → Type 0) where
  pub leads_start : (rest : WorldState → Result Step StepError) (state : WorldState) (w : WorldView) (report : ReportState) → IsState state frames w → P state → whole ≡ rest state → Leads frames whole rest P w report report
  leads_start rest state w report is p e = record {
    state = state;
    is = is;
    holds = p;
    events = [];
    whole_is = e ∙ behind-nil (rest state);
    text = sym (reports-none report);
  }

  -- a first step of the rest is done
  leads_one : (r : Result Step StepError) (events : List Event) (rest : WorldState → Result Step StepError) (next : WorldView) (start now after : ReportState) → whole ≡ after_events events (and_then r rest) → now ≡ reports start events → ((t : Step) → r ≡ Ok t → Q t.state) → WorldOutcome r frames next now after → Leads frames whole rest Q next start after
  leads_one (Err error) events rest next start now after e text q did = absurd did
  leads_one (Ok t) events rest next start now after e text q did = record {
    state = t.state;
    is = did.0;
    holds = q t refl;
    events = events ++ t.events;
    whole_is = e ∙ behind_twice events t.events (rest t.state);
    text = did.1 ∙ ap (λ (r : ReportState). reports r t.events) text ∙ reports-both start events t.events;
  }

  pub leads_step : (before : WorldState → Result Step StepError) (rest : WorldState → Result Step StepError) (r : Result Step StepError) (w next : WorldView) (start now after : ReportState) → (l : Leads frames whole before P w start now) → before l.state ≡ and_then r rest → ((t : Step) → r ≡ Ok t → Q t.state) → WorldOutcome r frames next now after → Leads frames whole rest Q next start after
  leads_step before rest r w next start now after l e q did =
      leads_one r l.events rest next start now after (l.whole_is ∙ ap (after_events l.events) e) l.text q did

error_behind : (r : Result Step StepError) (events : List Event) (rest : WorldState → Result Step StepError) (fault : WorldFault) → IsStepError r fault → IsStepError (after_events events (and_then r rest)) fault
error_behind r events rest (Limit bound) h = ap (λ (z : Result Step StepError). after_events events (and_then z rest)) h
error_behind r events rest (NodeFails StampsSpent) h = ap (λ (z : Result Step StepError). after_events events (and_then z rest)) h
error_behind r events rest (NodeFails NodeStore) h = h
error_behind r events rest (NodeFails NoNodeMemory) h = tt
error_behind r events rest NoMemory h = tt

module _ (frames : Bool) (whole : Result Step StepError) (P : WorldState → Type 0) where
  -- it isn't done
  pub leads_error : (before : WorldState → Result Step StepError) (rest : WorldState → Result Step StepError) (r : Result Step StepError) (w : WorldView) (start now : ReportState) (fault : WorldFault) → (l : Leads frames whole before P w start now) → before l.state ≡ and_then r rest → IsStepError r fault → IsStepError whole fault
  leads_error before rest r w start now fault l e h =
      subst (λ (z : Result Step StepError). IsStepError z fault) (sym (l.whole_is ∙ ap (after_events l.events) e)) (error_behind r l.events rest fault h)

  -- nothing is left to do
  pub leads_end : (rest : WorldState → Result Step StepError) (w : WorldView) (start now : ReportState) → (l : Leads frames whole rest P w start now) → rest l.state ≡ rests l.state → WorldOutcome whole frames w start now
  leads_end rest w start now l e =
      subst (λ (z : Result Step StepError). WorldOutcome z frames w start now) (sym (l.whole_is ∙ ap (after_events l.events) e))
      (l.is, l.text ∙ ap (reports start) (sym (append-nil l.events)))

-- ---- a frame for all nodes

-- the frame of that number
abbrev pub HasFrame : ℕ → Packet → WorldState → Type 0
HasFrame number packet state = slice_get state.sent number ≡ Some packet

front_get : (xs ys : List Packet) (k : ℕ) (packet : Packet) → slice_get xs k ≡ Some packet → slice_get (xs ++ ys) k ≡ Some packet
front_get [] ys k packet found = cc
front_get (x ∷ xs) ys zero packet found = found
front_get (x ∷ xs) ys (suc k) packet found = front_get xs ys k packet found

-- if a step is done, the frame is still there
abbrev Keeps : ℕ → Packet → Result Step StepError → Type 0
Keeps number packet (Ok t) = HasFrame number packet t.state
Keeps number packet (Err error) = Unit {0}

room_keeps : (number : ℕ) (packet : Packet) (step : Step) (error : StepError) (test : Bool) → HasFrame number packet step.state → Keeps number packet (cond test (Ok step) (Err error))
room_keeps number packet step error true has = has
room_keeps number packet step error false has = tt

node_keeps : (number k : ℕ) (packet : Packet) (s : WorldState) (name : Name) (outcome : Outcome Node) → HasFrame number packet s → Keeps number packet (node_does s k name outcome)
node_keeps number k packet s name None has = tt
node_keeps number k packet s name (Some d) has =
    room_keeps number packet (record {
      state = record s { nodes = slice_set s.nodes k d.node; sent = s.sent ++ packets_in d.events };
      events = reported_by name (length s.sent) d.events;
    }) (At_limit Frames) (nat_le (length s.sent + length (packets_in d.events)) most_frames) (front_get s.sent (packets_in d.events) number packet has)

sender_keeps : (number : ℕ) (packet : Packet) (s : WorldState) (r : Result Step StepError) (test : Bool) → HasFrame number packet s → Keeps number packet r → Keeps number packet (cond test (rests s) r)
sender_keeps number packet s r true has keeps = has
sender_keeps number packet s r false has keeps = keeps

given_keeps : (number k : ℕ) (packet p : Packet) (s : WorldState) (o : Option Node) → HasFrame number packet s → Keeps number packet (given_to s k p o)
given_keeps number k packet p s None has = has
given_keeps number k packet p s (Some node) has =
    sender_keeps number packet s (node_does s k (node_name node) (node_receives s.clock (encoding p) node)) (same_name (node_name node) p.from) has
    (node_keeps number k packet s (node_name node) (node_receives s.clock (encoding p) node) has)

kept_there : (number : ℕ) (packet : Packet) (r : Result Step StepError) → Keeps number packet r → (t : Step) → r ≡ Ok t → HasFrame number packet t.state
kept_there number packet (Err error) keeps t e = cc
kept_there number packet (Ok s) keeps t e = let same : s ≡ t = cc in subst (λ (z : Step). HasFrame number packet z.state) same keeps

-- one node more
given_one : (s : WorldState) (k end : ℕ) (p : Packet) → k < end → given_from s k (end - k) p ≡ and_then (given_to s k p (slice_get s.nodes k)) (λ t. given_from t (k + 1) (end - (k + 1)) p)
given_one s k end p h =
    let e : end - k ≡ suc (end - (k + 1)) = omega arith in
    ap (λ (n : ℕ). given_from s k n p) e

-- what is done of a frame for all nodes, before index `k`
abbrev pub Given : Bool → WorldView → ℕ → ℕ → ℕ → WorldView → ReportState → ReportState → Type 0
Given frames w number k end now start mid =
    (state : WorldState) (packet : Packet) → IsState state frames w → HasFrame number packet state
    → Leads frames (given_to_all state packet) (λ t. given_from t k (end - k) packet) (HasFrame number packet) now start mid

pub given_start : (frames : Bool) (w : WorldView) (number end : ℕ) (report : ReportState) → end ≡ length w.fleet.nodes → Given frames w number 0 end w report report
given_start frames w number end report size state packet is has =
    let many = as_many state.nodes w.fleet.nodes is.fleet in
    let all : length state.nodes ≡ end - 0 = omega arith in
    leads_start frames (given_to_all state packet) (HasFrame number packet) (HasFrame number packet) (λ t. given_from t 0 (end - 0) packet) state w report is has
    (ap (λ (n : ℕ). given_from state 0 n packet) all)

pub given_more : (frames : Bool) (w : WorldView) (number k end : ℕ) (now next : WorldView) (start mid last : ReportState) → k < end → Given frames w number k end now start mid → ((state : WorldState) (packet : Packet) → IsState state now.frames now → slice_get state.sent number ≡ Some packet → WorldOutcome (given_to state k packet (slice_get state.nodes k)) now.frames next mid last) → Given frames w number (k + 1) end next start last
given_more frames w number k end now next start mid last within given did state packet is has =
    let l = given state packet is has in
    let same = l.is.frames_is in
    let does : WorldOutcome (given_to l.state k packet (slice_get l.state.nodes k)) frames next mid last =
    subst (λ (f : Bool). WorldOutcome (given_to l.state k packet (slice_get l.state.nodes k)) f next mid last) same
    (did l.state packet (subst (λ (f : Bool). IsState l.state f now) (sym same) l.is) l.holds) in
    leads_step frames (given_to_all state packet) (HasFrame number packet) (HasFrame number packet) (λ t. given_from t k (end - k) packet) (λ t. given_from t (k + 1) (end - (k + 1)) packet)
    (given_to l.state k packet (slice_get l.state.nodes k)) now next start mid last l (given_one l.state k end packet within)
    (kept_there number packet (given_to l.state k packet (slice_get l.state.nodes k)) (given_keeps number k packet packet l.state (slice_get l.state.nodes k) l.holds)) does

pub given_error : (frames : Bool) (w : WorldView) (number k end : ℕ) (now : WorldView) (start mid : ReportState) (fault : WorldFault) → k < end → Given frames w number k end now start mid → ((state : WorldState) (packet : Packet) → IsState state now.frames now → slice_get state.sent number ≡ Some packet → IsStepError (given_to state k packet (slice_get state.nodes k)) fault) → (state : WorldState) (packet : Packet) → IsState state frames w → HasFrame number packet state → IsStepError (given_to_all state packet) fault
given_error frames w number k end now start mid fault within given did state packet is has =
    let l = given state packet is has in
    let same = l.is.frames_is in
    leads_error frames (given_to_all state packet) (HasFrame number packet) (λ t. given_from t k (end - k) packet) (λ t. given_from t (k + 1) (end - (k + 1)) packet)
    (given_to l.state k packet (slice_get l.state.nodes k)) now start mid fault l (given_one l.state k end packet within)
    (did l.state packet (subst (λ (f : Bool). IsState l.state f now) (sym same) l.is) l.holds)

pub given_end : (frames : Bool) (w : WorldView) (number k end : ℕ) (now : WorldView) (start mid : ReportState) → end ≤ k → Given frames w number k end now start mid → (state : WorldState) (packet : Packet) → IsState state frames w → HasFrame number packet state → WorldOutcome (given_to_all state packet) frames now start mid
given_end frames w number k end now start mid past given state packet is has =
    let e : end - k ≡ zero = omega arith in
    let l = given state packet is has in
    leads_end frames (given_to_all state packet) (HasFrame number packet) (λ t. given_from t k (end - k) packet) now start mid l (ap (λ (n : ℕ). given_from l.state k n packet) e)

-- ---- a flow

-- what is done of a flow before a turn
abbrev pub Flowed : Bool → WorldView → ℕ → ℕ → WorldView → ReportState → ReportState → Type 0
Flowed frames w turn most now start mid =
    (state : WorldState) → IsState state frames w → Leads frames (flows most state) (flows (most - turn)) (λ t. Unit {0}) now start mid

pub flow_start : (frames : Bool) (w : WorldView) (most : ℕ) (report : ReportState) → Flowed frames w 0 most w report report
flow_start frames w most report state is =
    let all : most ≡ most - 0 = omega arith in
    leads_start frames (flows most state) (λ t. Unit {0}) (λ t. Unit {0}) (flows (most - 0)) state w report is tt (ap (λ (n : ℕ). flows n state) all)

pub flow_end : (frames : Bool) (w : WorldView) (turn most : ℕ) (now : WorldView) (start mid : ReportState) → most ≤ turn → Flowed frames w turn most now start mid → (state : WorldState) → IsState state frames w → WorldOutcome (flows most state) frames now start mid
flow_end frames w turn most now start mid past flowed state is =
    let e : most - turn ≡ zero = omega arith in
    let l = flowed state is in
    leads_end frames (flows most state) (λ t. Unit {0}) (flows (most - turn)) now start mid l (ap (λ (n : ℕ). flows n l.state) e)

flow_one : (s : WorldState) (turn most : ℕ) (o : Option Packet) → turn < most → slice_get s.sent s.given ≡ o → flows (most - turn) s ≡ flow_next s o (flows (most - (turn + 1)))
flow_one s turn most o within e =
    let one : most - turn ≡ suc (most - (turn + 1)) = omega arith in
    ap (λ (n : ℕ). flows n s) one ∙ ap (λ (p : Option Packet). flow_next s p (flows (most - (turn + 1)))) e

-- no frame is left
pub flow_none : (frames : Bool) (w : WorldView) (turn most : ℕ) (now after : WorldView) (start mid : ReportState) → turn < most → IsTaken now None after → Flowed frames w turn most now start mid → (state : WorldState) → IsState state frames w → WorldOutcome (flows most state) frames after start mid
flow_none frames w turn most now after start mid within taken flowed state is =
    let l = flowed state is in
    let past : length l.state.sent ≤ l.state.given = omega (arith, sent_length l.state frames now l.is, l.is.given, taken.0) in
    subst (λ (z : WorldView). WorldOutcome (flows most state) frames z start mid) (sym taken.1)
    (leads_end frames (flows most state) (λ t. Unit {0}) (flows (most - turn)) now start mid l (flow_one l.state turn most None within (slice_get_past l.state.sent l.state.given past)))

-- a frame is taken
taken_state : (state : WorldState) (frames : Bool) (now after : WorldView) → IsState state frames now → after ≡ record now { given = now.given + 1 } → IsState (record state { given = state.given + 1 }) frames after
taken_state state frames now after is e = subst (IsState (record state { given = state.given + 1 }) frames) (sym e) (record {
  key = is.key;
  fleet = is.fleet;
  clock = is.clock;
  sent = is.sent;
  given = ap (λ (n : ℕ). n + 1) is.given;
  draft = is.draft;
  restarts = is.restarts;
  frames_is = is.frames_is;
})

past_frame : (state : WorldState) (frames : Bool) (now : WorldView) → IsState state frames now → now.given < length now.sent → slice_get state.sent state.given ≡ None → ⊥
past_frame state frames now is within none = past_end state frames now state.given is none (subst (λ (n : ℕ). n < length now.sent) is.given within)

record Next (state : WorldState) (number : ℕ) : Type 0 where
  packet : Packet
  found : slice_get state.sent state.given ≡ Some packet
  numbered : slice_get state.sent number ≡ Some packet

next_frame : (state : WorldState) (frames : Bool) (now : WorldView) (number : ℕ) → IsState state frames now → number ≡ now.given → now.given < length now.sent → Next state number
next_frame state frames now number is index within = by_get (slice_get state.sent state.given) refl
  where
    by_get : (o : Option Packet) → slice_get state.sent state.given ≡ o → Next state number
    by_get None e = absurd (past_frame state frames now is within e)
    by_get (Some packet) e = record {
      packet = packet;
      found = e;
      numbered = ap (slice_get state.sent) (index ∙ is.given) ∙ e;
    }

pub flow_more : (frames : Bool) (w : WorldView) (turn most number : ℕ) (now taken next : WorldView) (start mid last : ReportState) → turn < most → IsTaken now (Some number) taken → Flowed frames w turn most now start mid → ((state : WorldState) (packet : Packet) → IsState state taken.frames taken → slice_get state.sent number ≡ Some packet → WorldOutcome (given_to_all state packet) taken.frames next mid last) → Flowed frames w (turn + 1) most next start last
flow_more frames w turn most number now taken next start mid last within is_taken flowed did state is =
    let l = flowed state is in
    let same = (taken_state l.state frames now taken l.is is_taken.2).frames_is in
    let n = next_frame l.state frames now number l.is is_taken.0 is_taken.1 in
    let s : WorldState = record l.state { given = l.state.given + 1 } in
    let does : WorldOutcome (given_to_all s n.packet) frames next mid last =
    subst (λ (f : Bool). WorldOutcome (given_to_all s n.packet) f next mid last) same
    (did s n.packet (subst (λ (f : Bool). IsState s f taken) (sym same) (taken_state l.state frames now taken l.is is_taken.2)) n.numbered) in
    leads_step frames (flows most state) (λ t. Unit {0}) (λ t. Unit {0}) (flows (most - turn)) (flows (most - (turn + 1)))
    (given_to_all s n.packet) now next start mid last l (flow_one l.state turn most (Some n.packet) within n.found) (λ t e. tt) does

pub flow_error : (frames : Bool) (w : WorldView) (turn most number : ℕ) (now taken : WorldView) (start mid : ReportState) (fault : WorldFault) → turn < most → IsTaken now (Some number) taken → Flowed frames w turn most now start mid → ((state : WorldState) (packet : Packet) → IsState state taken.frames taken → slice_get state.sent number ≡ Some packet → IsStepError (given_to_all state packet) fault) → (state : WorldState) → IsState state frames w → IsStepError (flows most state) fault
flow_error frames w turn most number now taken start mid fault within is_taken flowed did state is =
    let l = flowed state is in
    let same = (taken_state l.state frames now taken l.is is_taken.2).frames_is in
    let n = next_frame l.state frames now number l.is is_taken.0 is_taken.1 in
    let s : WorldState = record l.state { given = l.state.given + 1 } in
    leads_error frames (flows most state) (λ t. Unit {0}) (flows (most - turn)) (flows (most - (turn + 1)))
    (given_to_all s n.packet) now start mid fault l (flow_one l.state turn most (Some n.packet) within n.found)
    (did s n.packet (subst (λ (f : Bool). IsState s f taken) (sym same) (taken_state l.state frames now taken l.is is_taken.2)) n.numbered)

-- ---- a flight

-- what is done of a flight before a turn
abbrev pub Flown : Bool → WorldView → Name → ℕ → ℕ → WorldView → ReportState → ReportState → Type 0
Flown frames w drone turn ticks now start mid =
    (state : WorldState) → IsState state frames w → Leads frames (flies ticks drone state) (flies (ticks - turn) drone) (λ t. Unit {0}) now start mid

pub fly_start : (frames : Bool) (w : WorldView) (drone : Name) (ticks : ℕ) (report : ReportState) → Flown frames w drone 0 ticks w report report
fly_start frames w drone ticks report state is =
    let all : ticks ≡ ticks - 0 = omega arith in
    leads_start frames (flies ticks drone state) (λ t. Unit {0}) (λ t. Unit {0}) (flies (ticks - 0) drone) state w report is tt (ap (λ (n : ℕ). flies n drone state) all)

pub fly_end : (frames : Bool) (w : WorldView) (drone : Name) (turn ticks : ℕ) (now : WorldView) (start mid : ReportState) → ticks ≤ turn → Flown frames w drone turn ticks now start mid → (state : WorldState) → IsState state frames w → WorldOutcome (flies ticks drone state) frames now start mid
fly_end frames w drone turn ticks now start mid past flown state is =
    let e : ticks - turn ≡ zero = omega arith in
    let l = flown state is in
    leads_end frames (flies ticks drone state) (λ t. Unit {0}) (flies (ticks - turn) drone) now start mid l (ap (λ (n : ℕ). flies n drone l.state) e)

fly_one : (s : WorldState) (drone : Name) (turn ticks : ℕ) → turn < ticks → flies (ticks - turn) drone s ≡ and_then (calls s drone (node_flies s.clock)) (flies (ticks - (turn + 1)) drone)
fly_one s drone turn ticks within =
    let one : ticks - turn ≡ suc (ticks - (turn + 1)) = omega arith in
    ap (λ (n : ℕ). flies n drone s) one

pub fly_more : (frames : Bool) (w : WorldView) (drone : Name) (turn ticks : ℕ) (now next : WorldView) (start mid last : ReportState) → turn < ticks → Flown frames w drone turn ticks now start mid → ((state : WorldState) → IsState state now.frames now → WorldOutcome (calls state drone (node_flies state.clock)) now.frames next mid last) → Flown frames w drone (turn + 1) ticks next start last
fly_more frames w drone turn ticks now next start mid last within flown did state is =
    let l = flown state is in
    let same = l.is.frames_is in
    let one = calls l.state drone (node_flies l.state.clock) in
    let does : WorldOutcome one frames next mid last =
    subst (λ (f : Bool). WorldOutcome one f next mid last) same
    (did l.state (subst (λ (f : Bool). IsState l.state f now) (sym same) l.is)) in
    leads_step frames (flies ticks drone state) (λ t. Unit {0}) (λ t. Unit {0}) (flies (ticks - turn) drone) (flies (ticks - (turn + 1)) drone)
    one now next start mid last l (fly_one l.state drone turn ticks within) (λ t e. tt) does

pub fly_error : (frames : Bool) (w : WorldView) (drone : Name) (turn ticks : ℕ) (now : WorldView) (start mid : ReportState) (fault : WorldFault) → turn < ticks → Flown frames w drone turn ticks now start mid → ((state : WorldState) → IsState state now.frames now → IsStepError (calls state drone (node_flies state.clock)) fault) → (state : WorldState) → IsState state frames w → IsStepError (flies ticks drone state) fault
fly_error frames w drone turn ticks now start mid fault within flown did state is =
    let l = flown state is in
    let same = l.is.frames_is in
    leads_error frames (flies ticks drone state) (λ t. Unit {0}) (flies (ticks - turn) drone) (flies (ticks - (turn + 1)) drone)
    (calls l.state drone (node_flies l.state.clock)) now start mid fault l (fly_one l.state drone turn ticks within)
    (did l.state (subst (λ (f : Bool). IsState l.state f now) (sym same) l.is))
