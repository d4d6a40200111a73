-- Reports only grow, and a scenario that stopped stays unchanged.
use Rattle.std.proofs.Common.{◌≡◌, ◌∙◌, ℕ, Bool, false, List, [], ◌∷◌, ◌++◌, refl, sym, ap, append_assoc, append-nil, Some, None, Option, Result, Ok, Err}
use Rattle.std.specs.Io.KnownBytes.{append_known}
use Rattle.mav_ports.specs.Puts.{SentPrefix}
use Rattle.scenario_lines.specs.declared.faults.Reason.{Reason}
use Rattle.scenario_lines.specs.Grammar.{line_of}
use Rattle.scenario_lines.specs.Reasons.{reason_against}
use Rattle.fleet_report.specs.Events.{Event, event_text, events_text}
use Rattle.fleet_world.specs.WorldState.{context_of}
use Rattle.fleet_world.specs.Steps.{Step, StepError, after_line}
use Rattle.fleet_world.specs.Scenario.{Played, ScenarioError, goes_on, judged, at_start, played, report_of}
use Rattle.command_inputs.specs.LineRules.{unless_stopped}
use Rattle.fleet_command.specs.Plays.{scenario_rules, plays}
use Rattle.command_inputs.proofs.LineKeeps.{reads_keep}
use Rattle.command_inputs.proofs.LineStays.{stopped_for_good}
use Rattle.fleet_command.proofs.Lines.{scenario_stops, played_read}

-- whether reports print frames whole
module _ (frames : Bool) where
  pub events_text-append : (xs ys : List Event) → events_text frames (xs ++ ys) ≡ events_text frames xs ++ events_text frames ys
  events_text-append [] ys = refl
  events_text-append (x ∷ xs) ys = ap (λ text. event_text frames x ++ text) (events_text-append xs ys) ∙ sym (append_assoc (event_text frames x) (events_text frames xs) (events_text frames ys))

  -- the report of `q` is that of `p`, and more
  abbrev pub Grows : Played → Played → Type 0
  Grows p q = (more : List ℕ) × (report_of frames q ≡ report_of frames p ++ more)

  pub grows_not : (p : Played) → Grows p p
  grows_not p = ([], sym (append-nil (report_of frames p)))

  pub grows_twice : (p q r : Played) → Grows p q → Grows q r → Grows p r
  grows_twice p q r (xs, e) (ys, f) = (xs ++ ys, f ∙ ap (λ text. text ++ ys) e ∙ append_assoc (report_of frames p) xs ys)

  grows_on : (p : Played) (step : Result Step StepError) → Grows p (goes_on p step)
  grows_on p (Ok t) = (events_text frames t.events, events_text-append p.events t.events)
  grows_on p (Err run_end) = grows_not p

  pub grows_judged : (p : Played) (number : ℕ) (text : List ℕ) (reason : Option Reason) → Grows p (judged p number text reason)
  grows_judged p number text None = grows_on p (after_line p.state (line_of text))
  grows_judged p number text (Some reason) = grows_not p

  pub grows_unless : (p q next : Played) (stop : Option ScenarioError) → Grows p q → Grows q next → Grows p (unless_stopped stop q next)
  grows_unless p q next None first second = grows_twice p q next first second
  grows_unless p q next (Some stop) first second = first

  pub grows_plays : (ended : Bool) (p : Played) (number : ℕ) (part bytes : List ℕ) → Grows p (plays ended p number part bytes)
  grows_plays ended p number part bytes =
      reads_keep scenario_rules (Grows p)
      (record {
        text = λ q n text more. grows_twice p q (judged q n text (reason_against (context_of q.state) text)) more (grows_judged q n text (reason_against (context_of q.state) text));
        long = λ q n more. more;
        many = λ q more. more;
      })
      ended p number part bytes (grows_not p)

  -- the prefix of a report that grows
  pub front_grown : (p q : Played) (before now : Option (List ℕ)) → Grows p q → SentPrefix before now (report_of frames p) → SentPrefix before now (report_of frames q)
  front_grown p q before now (more, e) (rest, s) = (
    rest ++ more,
    record {
      part = s.part;
      whole = sym (append_assoc s.part rest more) ∙ ap (λ text. text ++ more) s.whole ∙ sym e;
      appended = s.appended;
    },
  )

  -- a whole report is a prefix of one that grew from it
  pub front_whole : (p : Played) (before now : Option (List ℕ)) → now ≡ append_known before (report_of frames p) → SentPrefix before now (report_of frames p)
  front_whole p before now e = ([], record { part = report_of frames p; whole = append-nil (report_of frames p); appended = e })

-- once a scenario stopped, more bytes change nothing
pub played_for_good : (key : List ℕ) (ended : Bool) (bytes more : List ℕ) (stop : ScenarioError) → (played key false bytes).stop ≡ Some stop → played key ended (bytes ++ more) ≡ played key false bytes
played_for_good key ended bytes more stop stops =
    let whole = played_read key false bytes in
    played_read key ended (bytes ++ more)
    ∙ stopped_for_good scenario_rules scenario_stops (at_start key) ended bytes more stop refl (sym (ap (λ (q : Played). q.stop) whole) ∙ stops)
    ∙ sym whole
