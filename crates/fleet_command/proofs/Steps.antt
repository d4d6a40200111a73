-- What one line, or one byte, does to a scenario that is being played.
use Rattle.std.proofs.Common.{◌≡◌, ◌∙◌, inl, inr, ℕ, ◌+◌, ◌<◌, ◌≤◌, Bool, true, false, List, [], ◌∷◌, ◌++◌, refl, sym, subst, ap, length, append_assoc, append-nil, Some, None, Option, option_map, Result, Ok, Err, ltb, IfErr}
use Rattle.std.proofs.lemmas.Bool.{cases_Bool}
use Rattle.std.specs.Io.KnownBytes.{append_known}
use Rattle.mav_ports.specs.Puts.{SentPrefix}
use Rattle.mav_ports.proofs.Known.{append_known_twice, append_known_nil, sent_in}
use Rattle.scenario_lines.specs.declared.faults.Reason.{Reason}
use Rattle.scenario_lines.specs.declared.lines.Line.{Line}
use Rattle.scenario_lines.specs.Grammar.{line_of}
use Rattle.scenario_lines.specs.Reasons.{reason_against}
use Rattle.fleet_report.specs.Reports.{ReportState}
use Rattle.fleet_world.specs.WorldState.{WorldState, empty_state, context_of}
use Rattle.fleet_world.specs.WorldView.{WorldView, IsState, context_in}
use Rattle.mav_nodes.specs.declared.faults.NodeFault.TheVariants.{StampsSpent as NoTimestamp, Store as NodeStore, NoMemory as NoNodeMemory}
use Rattle.fleet_world.specs.declared.faults.WorldFault.{WorldFault}
use Rattle.fleet_world.specs.declared.faults.WorldFault.TheVariants.{Limit, Node, NoMemory as NoWorldMemory}
use Rattle.fleet_world.specs.Promises.{IsStep, IsStepError}
use Rattle.fleet_world.specs.Steps.{Step, StepError, At_limit, Stamps_spent, after_line, closing_text}
use Rattle.fleet_world.specs.Scenario.{Played, ScenarioError, Bad, Not_done, goes_on, judged, line_played, last_played, at_start, played, report_of, whole_report}
use Rattle.scenario_lines.specs.FileLines.{most_lines}
use Rattle.run_status.specs.declared.run_ends.RunEnd.{RunEnd}
use Rattle.run_status.specs.declared.run_ends.RunEnd.TheVariants.{Usage, Stopped, ReadFault, WriteFault, NoMemory, TurnsSpent, Live}
use Rattle.run_status.specs.declared.input_errors.InputError.{InputError}
use Rattle.fleet_world.proofs.Contexts.{context_is}
use Rattle.fleet_command.specs.Spec.{reported_error}
use Rattle.fleet_command.specs.Plays.{scenario_rules, plays, long_line_end, Holds, Reading, StoppedBy, HaltedAt, Finished, Leads, FailsAs}
use Rattle.command_inputs.specs.LineRules.{unless_stopped}
use Rattle.command_inputs.proofs.Lines.{part_short, too_long}
use Rattle.command_inputs.proofs.LineSteps.{reads_held, reads_long}
use Rattle.fleet_command.proofs.Lines.{scenario_stops, played_plays}
use Rattle.fleet_command.proofs.Grows.{Grows, events_text-append, grows_judged, grows_plays, grows_unless, front_grown, front_whole}

-- what a world's lines are read against is what its state's are
context_same : (state : WorldState) (frames : Bool) (world : WorldView) → IsState state frames world → context_of state ≡ context_in world
context_same state frames world here = sym (context_is state frames world here)

-- a world knows whether its reports print frames whole
own : (state : WorldState) (frames : Bool) (world : WorldView) → IsState state frames world → IsState state world.frames world
own state frames world here = subst (λ f. IsState state f world) (sym here.frames_is) here

-- what a world promises of a line that is done, one that isn't, and the closing plans
abbrev pub LineDone : WorldView → WorldView → Line → ReportState → Type 0
LineDone old new line report = (state : WorldState) → IsState state old.frames old → IsStep (after_line state line) old.frames new report

abbrev pub LineFails : WorldView → Line → WorldFault → Type 0
LineFails world line fault = (state : WorldState) → IsState state world.frames world → IsStepError (after_line state line) fault

abbrev pub Closes : WorldView → List ℕ → Type 0
Closes world plans = (state : WorldState) → IsState state world.frames world → plans ≡ closing_text state.nodes

module _ (key : List ℕ) (frames : Bool) where
  did : (p : Played) (old new : WorldView) (line : Line) (report : ReportState) (before now : Option (List ℕ)) → Holds frames p old before now → LineDone old new line report → IsStep (after_line p.state line) frames new report
  did p old new line report before now holds done =
      subst (λ f. IsStep (after_line p.state line) f new report) holds.here.frames_is (done p.state (own p.state frames old holds.here))

  -- the text of a step was written after the report
  goes_holds : (p : Played) (step : Result Step StepError) (world : WorldView) (report : ReportState) (before old now : Option (List ℕ)) → old ≡ append_known before (report_of frames p) → IsStep step frames world report → now ≡ append_known old report.text → Holds frames (goes_on p step) world before now
  goes_holds p (Ok t) world report before old now sent (there, reported) wrote = record {
    going = refl;
    here = there;
    sent = wrote
        ∙ ap (λ known. append_known known report.text) sent
        ∙ append_known_twice before (report_of frames p) report.text
        ∙ ap (λ more. append_known before (report_of frames p ++ more)) reported
        ∙ ap (append_known before) (sym (events_text-append frames p.events t.events));
  }
  goes_holds p (Err run_end) world report before old now sent never wrote = absurd never

  -- a prefix of it was
  goes_front : (p : Played) (step : Result Step StepError) (world : WorldView) (report : ReportState) (before old now : Option (List ℕ)) → old ≡ append_known before (report_of frames p) → IsStep step frames world report → SentPrefix old now report.text → SentPrefix before now (report_of frames (goes_on p step))
  goes_front p (Ok t) world report before old now sent (there, reported) (rest, part) =
      let whole : report_of frames p ++ (report.text ++ []) ≡ report_of frames (goes_on p (Ok t)) = ap (λ more. report_of frames p ++ more) (append-nil report.text ∙ reported) ∙ sym (events_text-append frames p.events t.events) in
      (rest ++ [], sent_in before old now (report_of frames (goes_on p (Ok t))) report.text [] rest (record { part = report_of frames p; whole = whole; appended = sent }) part)
  goes_front p (Err run_end) world report before old now sent never front = absurd never

  -- line `number`, in the state that holds
  abbrev pub this : Played → ℕ → List ℕ → Played
  this p number text = judged p number text (reason_against (context_of p.state) text)

  this_good : (p : Played) (world : WorldView) (number : ℕ) (text : List ℕ) (line : Line) → IsState p.state frames world → reason_against (context_in world) text ≡ None → line ≡ line_of text → this p number text ≡ goes_on p (after_line p.state line)
  this_good p world number text line here good said =
      ap (judged p number text) (ap (λ s. reason_against s text) (context_same p.state frames world here) ∙ good)
      ∙ ap (λ l. goes_on p (after_line p.state l)) (sym said)

  pub line_done : (p : Played) (old_world world : WorldView) (number : ℕ) (text : List ℕ) (report : ReportState) (line : Line) (before old now : Option (List ℕ)) → Holds frames p old_world before old → reason_against (context_in old_world) text ≡ None → line ≡ line_of text → LineDone old_world world line report → now ≡ append_known old report.text → Holds frames (this p number text) world before now
  line_done p old_world world number text report line before old now holds good said step wrote =
      subst (λ q. Holds frames q world before now) (sym (this_good p old_world number text line holds.here good said))
      (goes_holds p (after_line p.state line) world report before old now holds.sent (did p old_world world line report before old holds step) wrote)

  pub line_unwritten : (p : Played) (old_world world : WorldView) (number : ℕ) (text : List ℕ) (report : ReportState) (line : Line) (before old now : Option (List ℕ)) → Holds frames p old_world before old → reason_against (context_in old_world) text ≡ None → line ≡ line_of text → LineDone old_world world line report → SentPrefix old now report.text → SentPrefix before now (report_of frames (this p number text))
  line_unwritten p old_world world number text report line before old now holds good said step front =
      subst (λ q. SentPrefix before now (report_of frames q)) (sym (this_good p old_world number text line holds.here good said))
      (goes_front p (after_line p.state line) world report before old now holds.sent (did p old_world world line report before old holds step) front)

  line_bad : (p : Played) (world : WorldView) (number : ℕ) (text : List ℕ) (reason : Reason) (before now : Option (List ℕ)) → Holds frames p world before now → reason_against (context_in world) text ≡ Some reason → StoppedBy frames (reported_error (Bad number reason)) (this p number text) before now
  line_bad p world number text reason before now holds bad =
      subst (λ q. StoppedBy frames (reported_error (Bad number reason)) q before now) (sym (ap (judged p number text) (ap (λ s. reason_against s text) (context_same p.state frames world holds.here) ∙ bad))) (refl, holds.sent)

  -- and this is its end of the run
  pub line_rejected : (p : Played) (world : WorldView) (number : ℕ) (text : List ℕ) (reason : Reason) (run_end : RunEnd) (before now : Option (List ℕ)) → Holds frames p world before now → reason_against (context_in world) text ≡ Some reason → run_end ≡ Stopped (reported_error (Bad number reason)) → HaltedAt frames run_end (this p number text) (report_of frames (this p number text)) before now
  line_rejected p world number text reason run_end before now holds bad is =
      subst (λ h. HaltedAt frames h (this p number text) (report_of frames (this p number text)) before now) (sym is) (line_bad p world number text reason before now holds bad)

  pub line_halts : (p : Played) (world : WorldView) (number : ℕ) (text : List ℕ) (line : Line) (run_end : StepError) (before now : Option (List ℕ)) → Holds frames p world before now → reason_against (context_in world) text ≡ None → line ≡ line_of text → after_line p.state line ≡ Err run_end → StoppedBy frames (reported_error (Not_done run_end)) (this p number text) before now
  line_halts p world number text line run_end before now holds good said at =
      subst (λ q. StoppedBy frames (reported_error (Not_done run_end)) q before now) (sym (this_good p world number text line holds.here good said ∙ ap (goes_on p) at)) (refl, holds.sent)

  -- if there was no memory, the report so far stays
  pub line_no_memory : (p : Played) (world : WorldView) (number : ℕ) (text : List ℕ) (before now : Option (List ℕ)) → Holds frames p world before now → SentPrefix before now (report_of frames (this p number text))
  line_no_memory p world number text before now holds = front_grown frames p (this p number text) before now (grows_judged frames p number text (reason_against (context_of p.state) text)) (front_whole frames p before now holds.sent)

  -- a line that the world doesn't do
  pub line_fails : (p : Played) (world : WorldView) (number : ℕ) (text : List ℕ) (line : Line) (fault : WorldFault) (run_end : RunEnd) (before now : Option (List ℕ)) → Holds frames p world before now → reason_against (context_in world) text ≡ None → line ≡ line_of text → LineFails world line fault → FailsAs fault run_end → HaltedAt frames run_end (this p number text) (report_of frames (this p number text)) before now
  line_fails p world number text line (Limit limit) run_end before now holds good said at is =
      subst (λ h. HaltedAt frames h (this p number text) (report_of frames (this p number text)) before now) (sym is)
      (line_halts p world number text line (At_limit limit) before now holds good said (at p.state (own p.state frames world holds.here)))
  line_fails p world number text line (Node NoTimestamp) run_end before now holds good said at is =
      subst (λ h. HaltedAt frames h (this p number text) (report_of frames (this p number text)) before now) (sym is)
      (line_halts p world number text line Stamps_spent before now holds good said (at p.state (own p.state frames world holds.here)))
  line_fails p world number text line (Node NodeStore) run_end before now holds good said at is = absurd (at p.state (own p.state frames world holds.here))
  line_fails p world number text line (Node NoNodeMemory) run_end before now holds good said at is =
      subst (λ h. HaltedAt frames h (this p number text) (report_of frames (this p number text)) before now) (sym is)
      (line_no_memory p world number text before now holds)
  line_fails p world number text line NoWorldMemory run_end before now holds good said at is =
      subst (λ h. HaltedAt frames h (this p number text) (report_of frames (this p number text)) before now) (sym is)
      (line_no_memory p world number text before now holds)

  -- one byte further
  onwards_at : (taken part : List ℕ) (p : Played) (number b : ℕ) (ended : Bool) (rest : List ℕ) → ((e : Bool) (bytes : List ℕ) → played key e (taken ++ bytes) ≡ plays e p number part bytes) → played key ended ((taken ++ b ∷ []) ++ rest) ≡ plays ended p number part (b ∷ rest)
  onwards_at taken part p number b ended rest onwards = ap (played key ended) (append_assoc taken (b ∷ []) rest) ∙ onwards ended (b ∷ rest)

  -- the line ends and was done, and the next one begins
  pub reading_next : (taken : List ℕ) (old_world world : WorldView) (number b : ℕ) (part : List ℕ) (before old now : Option (List ℕ)) (r : Reading key frames taken old_world number part before old) → b ≡ 10 → Holds frames (line_played r.soFar number part) world before now → Reading key frames (taken ++ b ∷ []) world (number + 1) [] before now
  reading_next taken old_world world number b part before old now r at_end holds =
      let q = line_played r.soFar number part in
      record {
        soFar = q;
        holds = holds;
        onwards = λ ended rest.
            onwards_at taken part r.soFar number b ended rest r.onwards
            ∙ ap (λ c. plays ended r.soFar number part (c ∷ rest)) at_end
            ∙ ap (λ s. unless_stopped s q (plays ended q (number + 1) [] rest)) holds.going;
      }

  stopped_stays : (stop : InputError) (q next : Played) (found : Option ScenarioError) (before now : Option (List ℕ)) → option_map reported_error found ≡ Some stop → StoppedBy frames stop q before now → StoppedBy frames stop (unless_stopped found q next) before now
  stopped_stays stop q next None before now never by = absurd (cc never)
  stopped_stays stop q next (Some s) before now is by = by

  -- the line ends, and its end of the run is that of the whole
  halted_on : (run_end : RunEnd) (q next : Played) (before now : Option (List ℕ)) → Grows frames q next → HaltedAt frames run_end q (report_of frames q) before now → let end = unless_stopped q.stop q next in HaltedAt frames run_end end (report_of frames end) before now
  halted_on Usage q next before now more never = absurd never
  halted_on (Stopped stop) q next before now more h = stopped_stays stop q next q.stop before now h.0 h
  halted_on ReadFault q next before now more never = absurd never
  halted_on WriteFault q next before now more front = front_grown frames q (unless_stopped q.stop q next) before now (grows_unless frames q q next q.stop ([], sym (append-nil (report_of frames q))) more) front
  halted_on NoMemory q next before now more front = front_grown frames q (unless_stopped q.stop q next) before now (grows_unless frames q q next q.stop ([], sym (append-nil (report_of frames q))) more) front
  halted_on TurnsSpent q next before now more never = absurd never
  halted_on (Live end) q next before now more never = absurd never

  -- what a run that halts leaves of these bytes
  abbrev pub HaltedBy : RunEnd → Bool → List ℕ → Option (List ℕ) → Option (List ℕ) → Type 0
  HaltedBy run_end ended bytes before now = HaltedAt frames run_end (played key ended bytes) (report_of frames (played key ended bytes)) before now

  pub halted_next : (run_end : RunEnd) (taken : List ℕ) (old_world : WorldView) (number b : ℕ) (part : List ℕ) (before old now : Option (List ℕ)) (r : Reading key frames taken old_world number part before old) → b ≡ 10 → (ended : Bool) (rest : List ℕ) → HaltedAt frames run_end (line_played r.soFar number part) (report_of frames (line_played r.soFar number part)) before now → HaltedBy run_end ended (taken ++ b ∷ rest) before now
  halted_next run_end taken old_world number b part before old now r at_end ended rest halted =
      let q = line_played r.soFar number part in
      let whole = r.onwards ended (b ∷ rest) ∙ ap (λ c. plays ended r.soFar number part (c ∷ rest)) at_end in
      subst (λ p. HaltedAt frames run_end p (report_of frames p) before now) (sym whole)
      (halted_on run_end q (plays ended q (number + 1) [] rest) before now (grows_plays frames ended q (number + 1) [] rest) halted)

  -- a byte of a line is held
  pub reading_held : (taken : List ℕ) (world : WorldView) (number b : ℕ) (part : List ℕ) (before now : Option (List ℕ)) → Reading key frames taken world number part before now → (b ≡ 10 → ⊥) → length part + 1 ≤ 4096 → Reading key frames (taken ++ b ∷ []) world number (part ++ b ∷ []) before now
  reading_held taken world number b part before now r other fits = record {
    soFar = r.soFar;
    holds = r.holds;
    onwards = λ ended rest. onwards_at taken part r.soFar number b ended rest r.onwards ∙ reads_held scenario_rules ended r.soFar number b part rest other fits;
  }

  halted_long : (p : Played) (number : ℕ) (before now : Option (List ℕ)) → p.stop ≡ None → now ≡ append_known before (report_of frames p) → HaltedAt frames (long_line_end number) (too_long scenario_rules scenario_stops p number) (report_of frames (too_long scenario_rules scenario_stops p number)) before now
  halted_long p number before now going sent =
      elim (cases_Bool (ltb most_lines number)) [
        | inl many ↦ rw many (refl, sent)
        | inr few ↦ rw few (refl, sent)
      ]

  -- a line that is held is too long
  pub reading_long : (taken : List ℕ) (world : WorldView) (number b : ℕ) (part : List ℕ) (before now : Option (List ℕ)) → Reading key frames taken world number part before now → (b ≡ 10 → ⊥) → 4096 < length part + 1 → (ended : Bool) (rest : List ℕ) → HaltedBy (long_line_end number) ended (taken ++ b ∷ rest) before now
  reading_long taken world number b part before now r other long ended rest =
      subst (λ p. HaltedAt frames (long_line_end number) p (report_of frames p) before now) (sym (r.onwards ended (b ∷ rest) ∙ reads_long scenario_rules scenario_stops ended r.soFar number b part rest other long))
      (halted_long r.soFar number before now r.holds.going r.holds.sent)

  -- the report so far is a prefix of that of the bytes, whatever follows
  pub reading_front : (taken : List ℕ) (world : WorldView) (number : ℕ) (part : List ℕ) (before now : Option (List ℕ)) → Reading key frames taken world number part before now → (ended : Bool) (rest : List ℕ) → SentPrefix before now (report_of frames (played key ended (taken ++ rest)))
  reading_front taken world number part before now r ended rest =
      subst (λ p. SentPrefix before now (report_of frames p)) (sym (r.onwards ended rest))
      (front_grown frames r.soFar (plays ended r.soFar number part rest) before now (grows_plays frames ended r.soFar number part rest) (front_whole frames r.soFar before now r.holds.sent))

  -- at the start nothing was taken
  pub reading_start : (world : WorldView) (sent : Option (List ℕ)) → IsState (empty_state key) frames world → Reading key frames [] world 1 [] sent sent
  reading_start world sent here = record { soFar = at_start key; holds = record { going = refl; here = here; sent = append_known_nil sent }; onwards = played_plays key }

  -- after the bytes taken, if the input ended and if it didn't
  pub reading_end : (taken : List ℕ) (world : WorldView) (number : ℕ) (part : List ℕ) (before now : Option (List ℕ)) (r : Reading key frames taken world number part before now) → played key true taken ≡ last_played r.soFar number part
  reading_end taken world number part before now r = ap (played key true) (sym (append-nil taken)) ∙ r.onwards true []

  pub reading_cut : (taken : List ℕ) (world : WorldView) (number : ℕ) (part : List ℕ) (before now : Option (List ℕ)) (r : Reading key frames taken world number part before now) → length part ≤ 4096 → played key false taken ≡ r.soFar
  reading_cut taken world number part before now r short = ap (played key false) (sym (append-nil taken)) ∙ r.onwards false [] ∙ part_short scenario_rules scenario_stops r.soFar number part short

  -- the closing plans are written after the last line
  pub finished_by : (q : Played) (world : WorldView) (plans : List ℕ) (before old now : Option (List ℕ)) → Holds frames q world before old → Closes world plans → now ≡ append_known old plans → (q.stop ≡ None) × (now ≡ append_known before (whole_report frames q))
  finished_by q world plans before old now holds closing wrote = (
    holds.going,
    wrote
        ∙ ap (λ known. append_known known plans) holds.sent
        ∙ append_known_twice before (report_of frames q) plans
        ∙ ap (λ text. append_known before (report_of frames q ++ text)) (closing q.state (own q.state frames world holds.here)),
  )

  -- a prefix of them was
  pub unfinished_by : (q : Played) (world : WorldView) (plans : List ℕ) (before old now : Option (List ℕ)) → Holds frames q world before old → Closes world plans → SentPrefix old now plans → SentPrefix before now (whole_report frames q)
  unfinished_by q world plans before old now holds closing (rest, part) =
      let whole : report_of frames q ++ (plans ++ []) ≡ whole_report frames q = ap (λ text. report_of frames q ++ text) (append-nil plans ∙ closing q.state (own q.state frames world holds.here)) in
      (rest ++ [], sent_in before old now (whole_report frames q) plans [] rest (record { part = report_of frames q; whole = whole; appended = holds.sent }) part)

  pub front_closed : (q : Played) (before now : Option (List ℕ)) → SentPrefix before now (report_of frames q) → SentPrefix before now (whole_report frames q)
  front_closed q before now (rest, s) = (
    rest ++ closing_text q.state.nodes,
    record {
      part = s.part;
      whole = sym (append_assoc s.part rest (closing_text q.state.nodes)) ∙ ap (λ text. text ++ closing_text q.state.nodes) s.whole;
      appended = s.appended;
    },
  )

  -- a run that halts before them leaves a prefix of the whole
  pub halted_before : (run_end : RunEnd) (q : Played) (before now : Option (List ℕ)) → HaltedAt frames run_end q (report_of frames q) before now → HaltedAt frames run_end q (whole_report frames q) before now
  halted_before Usage q before now never = absurd never
  halted_before (Stopped stop) q before now h = h
  halted_before ReadFault q before now never = absurd never
  halted_before WriteFault q before now front = front_closed q before now front
  halted_before NoMemory q before now front = front_closed q before now front
  halted_before TurnsSpent q before now never = absurd never
  halted_before (Live end) q before now never = absurd never

  -- the end of the run at the last line is that of the whole
  pub finish_halted : (run_end : RunEnd) (taken : List ℕ) (world : WorldView) (number : ℕ) (part : List ℕ) (before old now : Option (List ℕ)) (r : Reading key frames taken world number part before old) → HaltedAt frames run_end (last_played r.soFar number part) (report_of frames (last_played r.soFar number part)) before now → HaltedAt frames run_end (played key true taken) (whole_report frames (played key true taken)) before now
  finish_halted run_end taken world number part before old now r halted =
      subst (λ q. HaltedAt frames run_end q (whole_report frames q) before now) (sym (reading_end taken world number part before old r))
      (halted_before run_end (last_played r.soFar number part) before now halted)

  -- there was no memory after the last line
  pub finish_memory : (taken : List ℕ) (world end : WorldView) (number : ℕ) (part : List ℕ) (before old now : Option (List ℕ)) (r : Reading key frames taken world number part before old) → Holds frames (last_played r.soFar number part) end before now → SentPrefix before now (whole_report frames (played key true taken))
  finish_memory taken world end number part before old now r holds =
      subst (λ q. SentPrefix before now (whole_report frames q)) (sym (reading_end taken world number part before old r))
      (front_closed (last_played r.soFar number part) before now (front_whole frames (last_played r.soFar number part) before now holds.sent))

  -- a write of the closing plans failed
  pub finish_front : (taken : List ℕ) (world end : WorldView) (number : ℕ) (part plans : List ℕ) (before old middle now : Option (List ℕ)) (r : Reading key frames taken world number part before old) → Holds frames (last_played r.soFar number part) end before middle → Closes end plans → SentPrefix middle now plans → SentPrefix before now (whole_report frames (played key true taken))
  finish_front taken world end number part plans before old middle now r holds closing front =
      subst (λ q. SentPrefix before now (whole_report frames q)) (sym (reading_end taken world number part before old r))
      (unfinished_by (last_played r.soFar number part) end plans before middle now holds closing front)

  pub finish_done : (taken : List ℕ) (world end : WorldView) (number : ℕ) (part plans : List ℕ) (before old middle now : Option (List ℕ)) (r : Reading key frames taken world number part before old) → Holds frames (last_played r.soFar number part) end before middle → Closes end plans → now ≡ append_known middle plans → Finished frames (played key true taken) before now
  finish_done taken world end number part plans before old middle now r holds closing wrote =
      subst (λ q. Finished frames q before now) (sym (reading_end taken world number part before old r))
      (finished_by (last_played r.soFar number part) end plans before middle now holds closing wrote)

  -- what follows from an end of the run follows from a step that halts
  pub if_err_leads : {T : Type 0} (r : Result T RunEnd) (q : Played) (world : WorldView) (before now : Option (List ℕ)) (P : RunEnd → Type 0) → Leads frames r q world before now → ((run_end : RunEnd) → HaltedAt frames run_end q (report_of frames q) before now → P run_end) → IfErr r P
  if_err_leads (Ok x) q world before now P leads follows = tt
  if_err_leads (Err run_end) q world before now P leads follows = follows run_end leads

  pub reading_new : (world : WorldView) (number : ℕ) (part : List ℕ) (sent : Option (List ℕ)) → IsState (empty_state key) frames world → number ≡ 1 → part ≡ [] → Reading key frames [] world number part sent sent
  reading_new world number part sent here f h =
      subst (λ n. Reading key frames [] world n part sent sent) (sym f)
      (subst (λ line. Reading key frames [] world 1 line sent sent) (sym h) (reading_start world sent here))
