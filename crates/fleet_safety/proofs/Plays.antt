-- A whole scenario, line by line, up to the line at which it stops.
use Rattle.std.proofs.Common.{◌≡◌, ℕ, zero, suc, ◌+◌, Bool, true, false, if◌then◌else◌, nat_lt, List, [], ◌∷◌, ◌++◌, length, slice_get, Option, Some, None, Ok, Err, refl, sym, ap, subst, arith, ◌∙◌}
use Rattle.mav_nodes.specs.Nodes.{DroneSide}
use Rattle.std.specs.Prelude.{◌↔◌}
use Rattle.std.specs.declared.result.Result.{Result}
use Rattle.std.proofs.lemmas.List.{append_assoc, append-nil}
use Rattle.plan_upload.specs.Plans.{plan_at}
use Rattle.plan_upload.specs.Drone.{DroneState}
use Rattle.plan_safety.specs.World.{Nodes, Distinct, World, first_world}
use Rattle.plan_safety.specs.History.{IsHistory, IsHeld, Uploaded, final}
use Rattle.plan_safety.proofs.Keys.{by_test}
use Rattle.plan_safety.proofs.Induction as induction
use Rattle.plan_safety.proofs.Histories as histories
use Rattle.scenario_lines.specs.declared.faults.Reason.{Reason}
use Rattle.scenario_lines.specs.declared.faults.Reason.TheVariants.{Long}
use Rattle.scenario_lines.specs.declared.lines.Line.{Line}
use Rattle.scenario_lines.specs.Grammar.{line_of, most_line_bytes}
use Rattle.scenario_lines.specs.Reasons.{reason_against}
use Rattle.node_reports.specs.Nodes.{Drone}
use Rattle.fleet_world.specs.WorldState.{WorldState, empty_state, context_of}
use Rattle.fleet_world.specs.Steps.{Step, StepError, after_line}
use Rattle.fleet_world.specs.Scenario.{Played, ScenarioError, Bad, Too_many_lines, Not_done, stopped, goes_on, judged, line_played, unless_stopped, lines_played, at_start, last_played, part_played, rest_played, played}
use Rattle.scenario_lines.specs.FileLines.{most_lines, without_cr, whole_lines, unfinished}
use Rattle.fleet_world.specs.Authentic.{AuthenticDone, line_read, line_done, UnlessStopped, HoldsOfLines, HoldsOfLast, Authentic}
use Rattle.fleet_invariants.proofs.Calls.{sound_does}
use Rattle.fleet_invariants.proofs.Heard as heard
use Rattle.fleet_invariants.proofs.Lines.{sound_line}
use Rattle.fleet_invariants.proofs.Readings.{read_fits}
use Rattle.fleet_invariants.specs.Sound.{Sound}
use Rattle.fleet_invariants.specs.Kept.{KeepsLine}
use Rattle.fleet_invariants.specs.Laws.{EveryCallKeeps, SentKnown, AuthenticKnown, EveryLineKeeps, EveryReadLineFits}
use Rattle.fleet_safety.specs.Reporting.{seen, plan_lines, steps_reported}
use Rattle.fleet_safety.specs.Actions.{Action, calls_of, line_end, calls_done, line_actions, lines_actions, last_actions, actions_of, unless_stopped as unless_stopped_actions}
use Rattle.fleet_safety.specs.Safe.{nodes_of, start, events_of, report_of, orders_of, state_after, world_after, history_of, orders_in, IsTheUpload, IsSafe, LeadsTo, Safe}
use Rattle.fleet_safety.proofs.Lists.{by_both}
use Rattle.fleet_safety.proofs.Names.{Named, Covers, covers_back, own_cover, own_distinct}
use Rattle.fleet_safety.proofs.StoreLines.{history_lines}
use Rattle.fleet_safety.proofs.Own.{own_nothing}
use Rattle.fleet_safety.proofs.Follows.{Acts, Follows, report_on, state_on, final_after, follows_on, one_events, each_follows, all_reported}
use Rattle.fleet_safety.proofs.Begun.{orders_all, the_upload}
use Rattle.fleet_safety.proofs.Fits.{Fits, nothing_named, first_fits}
use Rattle.fleet_safety.proofs.States.{StateLeads}
use Rattle.fleet_safety.proofs.Lines.{Done, line_leads}

-- what was played, in these actions, is an execution of a fleet
pub record Ran (n : Nodes) (p : Played) (actions : List Action) : Type 0 where
  pub follows : Follows n (first_world start) actions
  pub fits : Fits n p.state.clock p.state.nodes p.state.sent (world_after n actions)

-- of each fleet that has its nodes
pub record Runs (key : List ℕ) (p : Played) (actions : List Action) : Type 0 where
  pub sound : Sound p.state
  pub named : Named p.state.nodes
  pub report : report_of actions ≡ p.events
  pub state : state_after (empty_state key) actions ≡ p.state
  pub ran : (n : Nodes) → Distinct n → Covers n p.state.nodes → Ran n p actions

-- no action more
nothing_more : (key : List ℕ) (p : Played) (actions : List Action) → Runs key p actions → Runs key p (actions ++ [])
nothing_more key p actions h = subst (Runs key p) (sym (append-nil actions)) h

-- a scenario that stops is what it was
stops : (key : List ℕ) (p : Played) (actions : List Action) (stop : ScenarioError) → Runs key p actions → Runs key (stopped p stop) actions
stops key p actions stop h = record {
  sound = h.sound;
  named = h.named;
  report = h.report;
  state = h.state;
  ran = λ n distinct covers. let r = h.ran n distinct covers in record { follows = r.follows; fits = r.fits };
}

-- the report of a line that is done, whose end reports nothing
calls_report : (number : ℕ) (calls : List Action) (s : WorldState) → report_of (calls ++ line_end number s ∷ []) ≡ report_of calls
calls_report number calls s = report_on calls (line_end number s ∷ []) ∙ append-nil (report_of calls)

-- one that goes on with a line
goes : (number : ℕ) (key : List ℕ) (p : Played) (actions calls : List Action) (line : Line) (r : Result Step StepError) → Runs key p actions → KeepsLine p.state line r → ((n : Nodes) → Distinct n → (w : World) → Fits n p.state.clock p.state.nodes p.state.sent w → StateLeads n w (Done n p.state) r calls) → Runs key (goes_on p r) (actions ++ calls_done number calls r)
goes number key p actions calls line (Err error) h keeps lead = nothing_more key (stopped p (Not_done error)) actions (stops key p actions (Not_done error) h)
goes number key p actions calls line (Ok t) h keeps lead =
    let own : Nodes = nodes_of p.state.nodes in
    let distinct : Distinct own = own_distinct p.state.nodes h.named in
    let first = lead own distinct _ (h.ran own distinct (own_cover p.state.nodes h.named)).fits in
    record {
      sound = keeps.sound;
      named = first.holds.named;
      report = report_on actions (calls ++ line_end number t.state ∷ []) ∙ ap (λ es. es ++ report_of (calls ++ line_end number t.state ∷ [])) h.report ∙ ap (λ es. p.events ++ es) (calls_report number calls t.state ∙ first.report);
      state = state_on (empty_state key) actions (calls ++ line_end number t.state ∷ []) ∙ state_on (state_after (empty_state key) actions) calls (line_end number t.state ∷ []);
      ran = λ n apart covers.
          let r = h.ran n apart (covers_back n p.state.nodes t.state.nodes first.holds.kept covers) in
          let l = lead n apart (world_after n actions) r.fits in
          let fits : Fits n t.state.clock t.state.nodes t.state.sent (final n (world_after n actions) (events_of calls)) = l.holds.fits covers in
          record {
            follows = follows_on n (first_world start) actions (calls ++ line_end number t.state ∷ []) r.follows (follows_on n (world_after n actions) calls (line_end number t.state ∷ []) l.follows
                (record { report = refl; own = own_nothing n (final n (world_after n actions) (events_of calls)); drones = λ index d e. (fits.stands index (Drone d) e).0 }, tt));
            fits = subst (Fits n t.state.clock t.state.nodes t.state.sent) (sym (final_after n (first_world start) actions (calls ++ line_end number t.state ∷ []) ∙ final_after n (world_after n actions) calls (line_end number t.state ∷ []))) fits;
          };
    }

unless : (key : List ℕ) (o : Option ScenarioError) (T : Type 0) (p q : Played) (actions more : List Action) → Runs key p actions → UnlessStopped o T → (T → Runs key q (actions ++ more)) → Runs key (unless_stopped o p q) (actions ++ unless_stopped_actions o more)
unless key None T p q actions more h a k = k a
unless key (Some stop) T p q actions more h a k = nothing_more key p actions h

module _ (every_call : EveryCallKeeps) (sent_known : SentKnown) (authentic_known : AuthenticKnown) (every_line : EveryLineKeeps) (every_reading : EveryReadLineFits) (key : List ℕ) where
  judges : (p : Played) (actions : List Action) (number : ℕ) (text : List ℕ) (reason : Option Reason) → reason_against (context_of p.state) text ≡ reason → Runs key p actions → AuthenticDone p.state (line_read text reason) → Runs key (judged p number text reason) (actions ++ line_actions number p.state (line_read text reason))
  judges p actions number text (Some reason) e h a = nothing_more key (stopped p (Bad number reason)) actions (stops key p actions (Bad number reason) h)
  judges p actions number text None e h a =
      let reads = every_reading (context_of p.state) text e in
      goes number key p actions (calls_of number p.state (line_of text)) (line_of text) (after_line p.state (line_of text)) h (every_line p.state h.sound (line_of text) reads.0 reads.1 a)
      (λ n distinct w fits. line_leads number n distinct every_call sent_known authentic_known p.state w h.sound fits (line_of text) reads.0 reads.1 a)

  -- a line that is done if it is not too long
  abbrev Plays : ℕ → Played → List Action → Played → Option Line → Type 0
  Plays number p actions q line = AuthenticDone p.state line → Runs key q (actions ++ line_actions number p.state line)

  whole_runs : (p : Played) (actions : List Action) (number : ℕ) (raw text : List ℕ) → Runs key p actions
      → Plays number p actions (if nat_lt most_lines number then stopped p Too_many_lines else if nat_lt most_line_bytes (length raw) then stopped p (Bad number Long) else judged p number text (reason_against (context_of p.state) text)) (line_done p.state number raw text)
  whole_runs p actions number raw text h =
      by_both (Plays number p actions) (nat_lt most_lines number) _ _ _ _ (λ _. nothing_more key (stopped p Too_many_lines) actions (stops key p actions Too_many_lines h))
      (by_both (Plays number p actions) (nat_lt most_line_bytes (length raw)) _ _ _ _ (λ _. nothing_more key (stopped p (Bad number Long)) actions (stops key p actions (Bad number Long) h))
      (judges p actions number text (reason_against (context_of p.state) text) refl h))

  lines_run : (lines : List (List ℕ)) (p : Played) (actions : List Action) (number : ℕ) → Runs key p actions → HoldsOfLines AuthenticDone p number lines → Runs key (lines_played p number lines) (actions ++ lines_actions p number lines)
  lines_run [] p actions number h a = nothing_more key p actions h
  lines_run (raw ∷ more) p actions number h a =
      let done : List Action = line_actions number p.state (line_done p.state number raw (without_cr raw)) in
      let rest : List Action = lines_actions (line_played p number raw) (number + 1) more in
      unless key p.stop (AuthenticDone p.state (line_done p.state number raw (without_cr raw)) × HoldsOfLines AuthenticDone (line_played p number raw) (number + 1) more) p (lines_played (line_played p number raw) (number + 1) more) actions (done ++ rest) h a
      (λ b. subst (Runs key (lines_played (line_played p number raw) (number + 1) more)) (append_assoc actions done rest)
      (lines_run more (line_played p number raw) (actions ++ done) (number + 1) (whole_runs p actions number raw (without_cr raw) h b.0) b.1))

  part_runs : (p : Played) (actions : List Action) (number : ℕ) (part : List ℕ) → Runs key p actions → Runs key (part_played p number part) actions
  part_runs p actions number part h =
      by_test (λ q. Runs key q actions) (nat_lt most_line_bytes (length part)) _ _
      (λ _. by_test (λ q. Runs key q actions) (nat_lt most_lines number) _ _ (λ _. stops key p actions Too_many_lines h) (λ _. stops key p actions (Bad number Long) h))
      (λ _. h)

  without : (o : Option ScenarioError) (p q : Played) (actions : List Action) → Runs key p actions → Runs key q actions → Runs key (unless_stopped o p q) actions
  without None p q actions h k = k
  without (Some stop) p q actions h k = h

  rest_runs : (ended : Bool) (p : Played) (actions : List Action) (number : ℕ) (rest : List ℕ) → Runs key p actions → HoldsOfLast AuthenticDone ended p number rest → Runs key (unless_stopped p.stop p (rest_played ended p number rest)) (actions ++ last_actions ended p number rest)
  rest_runs false p actions number rest h a = nothing_more key _ actions (without p.stop p (part_played p number rest) actions h (part_runs p actions number rest h))
  rest_runs true p actions number [] h a = nothing_more key _ actions (without p.stop p p actions h h)
  rest_runs true p actions number (b ∷ bs) h a =
      unless key p.stop (AuthenticDone p.state (line_done p.state number (b ∷ bs) (b ∷ bs))) p (last_played p number (b ∷ bs)) actions (line_actions number p.state (line_done p.state number (b ∷ bs) (b ∷ bs))) h a (whole_runs p actions number (b ∷ bs) (b ∷ bs) h)

  all_run : (ended : Bool) (bytes : List ℕ) → Runs key (at_start key) [] → Authentic key ended bytes → Runs key (played key ended bytes) (actions_of key ended bytes)
  all_run ended bytes h a =
      let lines : Played = lines_played (at_start key) 1 (whole_lines bytes) in
      rest_runs ended lines (lines_actions (at_start key) 1 (whole_lines bytes)) (length (whole_lines bytes) + 1) (unfinished bytes) (lines_run (whole_lines bytes) (at_start key) [] 1 h a.lines) a.last

-- at first
nothing_at : {A : Type 0} (i : ℕ) (a : A) → slice_get [] i ≡ Some a → ⊥
nothing_at zero a e = absurd (cc)
nothing_at (suc i) a e = absurd (cc)

pub first_sound : (key : List ℕ) → Sound (empty_state key)
first_sound key = record {
  apart = λ i j a b ea eb e. absurd (nothing_at i a ea);
  links = λ i a e. absurd (nothing_at i a e);
  cores = λ i a e. absurd (nothing_at i a e);
  sent = λ i p e. absurd (nothing_at i p e);
  frames = omega arith;
  given = omega arith;
  drones = omega arith;
  stations = omega arith;
  draft = λ k d l. absurd (omega arith);
  clock = omega arith;
  restarts = omega arith;
}

starts : (key : List ℕ) → Runs key (at_start key) []
starts key = record {
  sound = first_sound key;
  named = nothing_named;
  report = refl;
  state = refl;
  ran = λ n distinct _. record { follows = tt; fits = first_fits n distinct 0 };
}

-- what runs is safe
module _ (key : List ℕ) (p : Played) (actions : List Action) (h : Runs key p actions) where
  abbrev n : Nodes
  n = nodes_of p.state.nodes

  distinct : Distinct n
  distinct = own_distinct p.state.nodes h.named

  pub follows : Follows n (first_world start) actions
  follows = (h.ran n distinct (own_cover p.state.nodes h.named)).follows

  pub valid : IsHistory (history_of n actions)
  valid = histories.histories n distinct start (events_of actions)

  each : (before : List Action) (a : Action) (later : List Action) → actions ≡ before ++ a ∷ later → IsSafe n before a
  each before a later is =
      let it : Acts n (world_after n before) a = each_follows n (first_world start) before a later (subst (Follows n (first_world start)) is follows) in
      let there : world_after n (before ++ a ∷ []) ≡ final n (world_after n before) a.events = final_after n (first_world start) before (a ∷ []) ∙ ap (final n (world_after n before)) (one_events a) in
      let state : (d : DroneSide) → ((final n (world_after n before) a.events).drone d.link.me).state ≡ d.core → ((world_after n (before ++ a ∷ [])).drone d.link.me).state ≡ d.core = λ d same. ap (λ (v : World). (v.drone d.link.me).state) there ∙ same in
      record {
        report = it.report;
        orders = it.own.orders_are;
        plans = λ index d kind e l. ap (λ (x : DroneState). plan_at x.plans kind) (sym (state d (it.drones index d e))) ∙ histories.same_plans n distinct start (events_of (before ++ a ∷ [])) d.link.me kind l;
        held = λ index d kind e l. subst (λ (x : DroneState). IsHeld (history_of n (before ++ a ∷ [])) d.link.me kind (plan_at x.plans kind)) (state d (it.drones index d e)) (histories.held n distinct start (events_of (before ++ a ∷ [])) d.link.me kind l);
      }

  pub safe : (bytes : List ℕ) → ((before after : List (List ℕ)) → whole_lines bytes ≡ before ++ after → LeadsTo key (lines_played (at_start key) 1 before) (lines_actions (at_start key) 1 before) actions) → Safe key bytes p actions
  safe bytes lines =
      let orders_are : orders_in (history_of n actions) ≡ orders_of actions = orders_all n (first_world start) actions follows in
      record {
        report = h.report;
        state = h.state;
        lines = lines;
        each = each;
        execution = induction.always n distinct start (events_of actions);
        valid = valid;
        orders = orders_are;
        uploads = λ s number drone kind plan. subst (λ os. Uploaded (history_of n actions) s number drone kind plan ↔ IsTheUpload os s number drone kind plan) orders_are (the_upload (history_of n actions) s number drone kind plan);
      }

-- ---- the first lines

-- they are authentic
weaker : (o : Option ScenarioError) (T R : Type 0) → (T → R) → UnlessStopped o T → UnlessStopped o R
weaker None T R f h = f h
weaker (Some stop) T R f h = tt

first_lines : (before after : List (List ℕ)) (p : Played) (number : ℕ) → HoldsOfLines AuthenticDone p number (before ++ after) → HoldsOfLines AuthenticDone p number before
first_lines [] after p number h = tt
first_lines (raw ∷ more) after p number h = weaker p.stop _ _ (λ k. (k.0, first_lines more after (line_played p number raw) (number + 1) k.1)) h

-- their actions are the first ones
unless_more : (o : Option ScenarioError) (done first : List Action) (all : List Action) → ((rest : List Action) × (all ≡ first ++ rest)) → (rest : List Action) × (unless_stopped_actions o (done ++ all) ≡ unless_stopped_actions o (done ++ first) ++ rest)
unless_more None done first all h = (h.0, ap (λ xs. done ++ xs) h.1 ∙ sym (append_assoc done first h.0))
unless_more (Some stop) done first all h = ([], refl)

first_actions : (before after : List (List ℕ)) (p : Played) (number : ℕ) → (rest : List Action) × (lines_actions p number (before ++ after) ≡ lines_actions p number before ++ rest)
first_actions [] after p number = (lines_actions p number after, refl)
first_actions (raw ∷ more) after p number =
    let q : Played = line_played p number raw in
    unless_more p.stop (line_actions number p.state (line_done p.state number raw (without_cr raw))) (lines_actions q (number + 1) more) (lines_actions q (number + 1) (more ++ after)) (first_actions more after q (number + 1))

-- and lead to what was played so far
each_line : (key : List ℕ) (ended : Bool) (bytes : List ℕ) → Authentic key ended bytes → (before after : List (List ℕ)) → whole_lines bytes ≡ before ++ after → LeadsTo key (lines_played (at_start key) 1 before) (lines_actions (at_start key) 1 before) (actions_of key ended bytes)
each_line key ended bytes authentic before after is =
    let p : Played = at_start key in
    let first : List Action = lines_actions p 1 before in
    let last : List Action = last_actions ended (lines_played p 1 (whole_lines bytes)) (length (whole_lines bytes) + 1) (unfinished bytes) in
    let rest = first_actions before after p 1 in
    let run : Runs key (lines_played p 1 before) first = lines_run sound_does heard.sent_known heard.authentic_known sound_line read_fits key before p [] 1 (starts key) (first_lines before after p 1 (subst (HoldsOfLines AuthenticDone p 1) is authentic.lines)) in
    record {
      later = rest.0 ++ last;
      is = ap (λ lines. lines_actions p 1 lines ++ last) is ∙ ap (λ xs. xs ++ last) rest.1 ∙ append_assoc first rest.0 last;
      report = run.report;
      state = run.state;
    }

-- by what holds of the states of authentic scenarios
pub every_run : (key : List ℕ) (ended : Bool) (bytes : List ℕ) → Authentic key ended bytes → Runs key (played key ended bytes) (actions_of key ended bytes)
every_run key ended bytes authentic = all_run sound_does heard.sent_known heard.authentic_known sound_line read_fits key ended bytes (starts key) authentic

pub every_scenario : (key : List ℕ) (ended : Bool) (bytes : List ℕ) → Authentic key ended bytes → Safe key bytes (played key ended bytes) (actions_of key ended bytes)
every_scenario key ended bytes authentic = safe key (played key ended bytes) (actions_of key ended bytes) (every_run key ended bytes authentic) bytes (each_line key ended bytes authentic)

-- all that the report says
pub every_report : (key : List ℕ) (ended : Bool) (bytes : List ℕ) → Authentic key ended bytes → plan_lines (seen (played key ended bytes).events) ≡ steps_reported (history_of (nodes_of (played key ended bytes).state.nodes) (actions_of key ended bytes))
every_report key ended bytes authentic =
    let actions : List Action = actions_of key ended bytes in
    let p : Played = played key ended bytes in
    let run : Runs key p actions = every_run key ended bytes authentic in
    ap (λ es. plan_lines (seen es)) (sym run.report)
    ∙ ap plan_lines (all_reported (nodes_of p.state.nodes) (first_world start) actions (follows key p actions run))
    ∙ sym (history_lines (nodes_of p.state.nodes) (events_of actions) (first_world start) [])
