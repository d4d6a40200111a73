-- What is promised of a run once its status is written.
use Rattle.std.proofs.Common.{◌≡◌, ◌≢◌, ◌∙◌, ◌⊎◌, inl, inr, ℕ, Bool, true, false, List, [], ◌∷◌, ◌++◌, if◌then◌else◌, length, codes, refl, sym, subst, arith, ap, append-nil, append_assoc, Option, Some, None, Result, Ok, Err}
use Rattle.std.specs.Result.{result_err}
use Rattle.std.specs.Io.KnownBytes.{append_known}
use Rattle.mav_ports.specs.Counts.{Rose}
use Rattle.mav_ports.specs.Puts.{SentPrefix}
use Rattle.mav_ports.proofs.Known.{append_known_nil}
use Rattle.mav_router.specs.declared.entries.Entry.{Entry}
use Rattle.mav_router.specs.declared.entries.SwitchFault.{SwitchFault}
use Rattle.mav_router.specs.declared.entries.SwitchFault.TheVariants.{Full, NoMemory as NoRoom}
use Rattle.mav_router.specs.declared.ends.PortEnd.{PortEnd}
use Rattle.run_status.specs.declared.live_ends.LiveEnd.TheVariants.{PortTurns}
use Rattle.run_status.specs.declared.run_ends.RunEnd.{RunEnd}
use Rattle.run_status.specs.declared.run_ends.RunEnd.TheVariants.{WriteFault, NoMemory, Live}
use Rattle.run_status.specs.Endings.{code_of, text_of, live_text}
use Rattle.run_status.specs.StatusText.{StatusWritten, WritesStatus}
use Rattle.run_status.proofs.RunsBeforeStatus.{behind, front_same, behind_front}
use Rattle.route_command.proofs.Runs.{as_halted}
use Rattle.route_command.specs.Texts.{route_text}
use Rattle.route_command.specs.Routes.{Ports, Routed, Halted, has_turns, end_of_ports, end_of_fault, WroteAll, status_text, untold, Reports, Stops, Routes, RoutesBeforeStatus}
use Rattle.route_command.specs.Promises.{RoutePromises}

-- a prefix of a text is one of a longer text
pub front_longer : (before after : Option (List ℕ)) (text more : List ℕ) → SentPrefix before after text → SentPrefix before after (text ++ more)
front_longer before after text more (rest, s) =
    (rest ++ more, record { part = s.part; whole = sym (append_assoc s.part rest more) ∙ ap (λ (t : List ℕ). t ++ more) s.whole; appended = s.appended })

all_longer : (before after : Option (List ℕ)) (text more : List ℕ) → after ≡ append_known before text → SentPrefix before after (text ++ more)
all_longer before after text more e = (more, record { part = text; whole = refl; appended = e })

first_nil : (xs ys : List ℕ) → xs ++ ys ≡ [] → xs ≡ []
first_nil [] ys e = refl
first_nil (x ∷ xs) ys e = cc

nothing_more : (before middle after : Option (List ℕ)) (text : List ℕ) → SentPrefix before middle text → SentPrefix middle after [] → SentPrefix before after text
nothing_more before middle after text front (rest, s) = front_same before middle after text front (s.appended ∙ ap (append_known middle) (first_nil s.part rest s.whole))

rose_twice : (rb rm ra : ℕ) → Rose rb rm → Rose rm ra → Rose rb ra
rose_twice rb rm ra first second = grind (arith, first, second)

reason_same : (a b : RunEnd) → ◌≡◌ {A = Option RunEnd} (Some a) (Some b) → a ≡ b
reason_same a b e = cc e

module _ (wanted : Option RunEnd) (text : List ℕ) (rb rm ra : ℕ) (sb sm sa : Option (List ℕ)) where
  -- nothing more was written
  quiet : (reported end : Option RunEnd) → reported ≡ end → ra ≡ rm → sa ≡ append_known sm [] → (end ≡ wanted → status_text wanted ≡ []) → WroteAll wanted end text rb rm sb sm → WroteAll wanted reported (text ++ status_text wanted) rb ra sb sa
  quiet reported end is same unsent silent (inl (e, kept, sent)) =
      inl (is ∙ e, same ∙ kept, behind sb sm sa text (status_text wanted) sent (unsent ∙ ap (append_known sm) (sym (silent e))))
  quiet reported end is same unsent silent (inr (inl (e, rose, front))) =
      inr (inl (is ∙ e, subst (λ n. Rose rb n) (sym same) rose, front_longer sb sa text (status_text wanted) (front_same sb sm sa text front unsent)))
  quiet reported end is same unsent silent (inr (inr (e, kept, front))) =
      inr (inr (is ∙ e, same ∙ kept, front_longer sb sa text (status_text wanted) (front_same sb sm sa text front unsent)))

  told_text : (run_end : RunEnd) → ◌≡◌ {A = Option RunEnd} (Some run_end) wanted → text_of run_end ≡ status_text wanted
  told_text run_end e = ap status_text e

  silent_text : (run_end other : RunEnd) → ◌≡◌ {A = Option RunEnd} (Some run_end) (Some other) → text_of other ≡ [] → text_of run_end ≡ []
  silent_text run_end other e silent = ap text_of (reason_same run_end other e) ∙ silent

  -- the status's text was written
  said : (reported : Option RunEnd) (run_end : RunEnd) → reported ≡ Some run_end → ra ≡ rm → sa ≡ append_known sm (text_of run_end) → WroteAll wanted (Some run_end) text rb rm sb sm → WroteAll wanted reported (text ++ status_text wanted) rb ra sb sa
  said reported run_end is same told (inl (e, kept, sent)) =
      inl (is ∙ e, same ∙ kept, behind sb sm sa text (status_text wanted) sent (told ∙ ap (append_known sm) (told_text run_end e)))
  said reported run_end is same told (inr (inl (e, rose, front))) =
      inr (inl (is ∙ e, subst (λ n. Rose rb n) (sym same) rose, front_longer sb sa text (status_text wanted) (front_same sb sm sa text front (told ∙ ap (append_known sm) (silent_text run_end WriteFault e refl)))))
  said reported run_end is same told (inr (inr (e, kept, front))) =
      inr (inr (is ∙ e, same ∙ kept, front_longer sb sa text (status_text wanted) (front_same sb sm sa text front (told ∙ ap (append_known sm) (silent_text run_end NoMemory e refl)))))

  -- the output refused it
  refused : (reported : Option RunEnd) (run_end : RunEnd) → reported ≡ Some WriteFault → Rose rm ra → SentPrefix sm sa (text_of run_end) → WroteAll wanted (Some run_end) text rb rm sb sm → WroteAll wanted reported (text ++ status_text wanted) rb ra sb sa
  refused reported run_end is rose part (inl (e, kept, sent)) =
      inr (inl (is, subst (λ n. Rose n ra) kept rose, behind_front sb sm sa text (status_text wanted) sent (subst (SentPrefix sm sa) (told_text run_end e) part)))
  refused reported run_end is rose part (inr (inl (e, before, front))) =
      inr (inl (is, rose_twice rb rm ra before rose, front_longer sb sa text (status_text wanted) (nothing_more sb sm sa text front (subst (SentPrefix sm sa) (silent_text run_end WriteFault e refl) part))))
  refused reported run_end is rose part (inr (inr (e, kept, front))) =
      inr (inl (is, subst (λ n. Rose n ra) kept rose, front_longer sb sa text (status_text wanted) (nothing_more sb sm sa text front (subst (SentPrefix sm sa) (silent_text run_end NoMemory e refl) part))))

  -- there was no memory for it
  unsaid : (reported : Option RunEnd) (run_end : RunEnd) → reported ≡ Some NoMemory → run_end ≢ WriteFault → ra ≡ rm → sa ≡ sm → WroteAll wanted (Some run_end) text rb rm sb sm → WroteAll wanted reported (text ++ status_text wanted) rb ra sb sa
  unsaid reported run_end is other same unsent (inl (e, kept, sent)) =
      inr (inr (is, same ∙ kept, all_longer sb sa text (status_text wanted) (unsent ∙ sent)))
  unsaid reported run_end is other same unsent (inr (inl (e, rose, front))) = absurd (other (reason_same run_end WriteFault e))
  unsaid reported run_end is other same unsent (inr (inr (e, kept, front))) =
      inr (inr (is, same ∙ kept, front_longer sb sa text (status_text wanted) (subst (λ known. SentPrefix sb known text) (sym unsent) front)))

  halted : (run_end : RunEnd) (reported : Result (Unit {0}) RunEnd) → StatusWritten run_end reported rm ra sm sa → WroteAll wanted (Some run_end) text rb rm sb sm → WroteAll wanted (result_err reported) (text ++ status_text wanted) rb ra sb sa
  halted run_end reported (inl (is, same, told)) w = said (result_err reported) run_end (ap result_err is) same told w
  halted run_end reported (inr (inl (is, rose, part))) w = refused (result_err reported) run_end (ap result_err is) rose part w
  halted run_end reported (inr (inr (is, other, same, unsent))) w = unsaid (result_err reported) run_end (ap result_err is) other same unsent w

  -- the text, and then the status's
  pub wrote_reported : (ended reported : Result (Unit {0}) RunEnd) → WritesStatus ended reported rm ra sm sa → WroteAll wanted (result_err ended) text rb rm sb sm → WroteAll wanted (result_err reported) (text ++ status_text wanted) rb ra sb sa
  wrote_reported (Ok x) reported (is, same, unsent) w = quiet (result_err reported) None (ap result_err is) same (unsent ∙ append_known_nil sm) (λ e. ap status_text (sym e)) w
  wrote_reported (Err run_end) reported writes w = halted run_end reported writes w

module _ (p : Ports) (rb rm ra : ℕ) (sb sm sa : Option (List ℕ)) (ended reported : Result (Unit {0}) RunEnd) where
  reports_told : WritesStatus ended reported rm ra sm sa → Reports p untold (result_err ended) rb rm sb sm → Reports p status_text (result_err reported) rb ra sb sa
  reports_told writes r =
      let wanted = end_of_ports p.most r.ends in
      let text = route_text r.journal r.ends in
      record {
        journal = r.journal;
        ends = r.ends;
        routed = r.routed;
        wrote = subst (λ (t : List ℕ). WroteAll wanted (result_err reported) (t ++ status_text wanted) rb ra sb sa) (append-nil text)
            (wrote_reported wanted (text ++ []) rb rm ra sb sm sa ended reported writes r.wrote);
      }

  stops_told : WritesStatus ended reported rm ra sm sa → Stops p untold (result_err ended) rb rm sb sm → Stops p status_text (result_err reported) rb ra sb sa
  stops_told writes s = record {
    journal = s.journal;
    why = s.why;
    halted = s.halted;
    wrote = wrote_reported (Some (end_of_fault s.why)) [] rb rm ra sb sm sa ended reported writes s.wrote;
  }

  -- a run, after its status is written
  pub routes_reported : WritesStatus ended reported rm ra sm sa → RoutesBeforeStatus p (result_err ended) rb rm sb sm → Routes p status_text (result_err reported) rb ra sb sa
  routes_reported writes (inl r) = inl (reports_told writes r)
  routes_reported writes (inr s) = inr (stops_told writes s)

-- the end of a run whose ports had too many turns, or not
ends_as : (most : ℕ) (ends : List PortEnd) (b : Bool) → has_turns ends ≡ b → end_of_ports most ends ≡ (if b then Some (Live (PortTurns most)) else None)
ends_as most ends b e = ap (λ (t : Bool). if t then Some (Live (PortTurns most)) else None) e

-- a status of one end isn't that of another
code_at : (end other : Option RunEnd) (code : ℕ) → end ≡ other → code_of end ≡ code → code_of other ≡ code
code_at end other code e is = sym (ap code_of e) ∙ is

module _ (p : Ports) (end : Option RunEnd) (rb ra : ℕ) (sb sa : Option (List ℕ)) where
  abbrev Done : Type 0
  Done = (journal : List Entry) × (ends : List PortEnd) × Routed p journal ends × (has_turns ends ≡ false) × (sa ≡ append_known sb (route_text journal ends))

  abbrev Spent : Type 0
  Spent = (journal : List Entry) × (ends : List PortEnd) × Routed p journal ends × (has_turns ends ≡ true) × (sa ≡ append_known sb (route_text journal ends ++ live_text (PortTurns p.most)))

  abbrev Limited : Type 0
  Limited = (journal : List Entry) × Halted p (Full 1000000) journal × (length journal ≡ 1000000) × (sa ≡ append_known sb (codes "limit entries 1000000\n"))

  reports_done : (r : Reports p status_text end rb ra sb sa) (b : Bool) → has_turns r.ends ≡ b → end ≡ end_of_ports p.most r.ends → sa ≡ append_known sb (route_text r.journal r.ends ++ status_text (end_of_ports p.most r.ends)) → code_of end ≡ 0 → Done
  reports_done r true is e sent zero = absurd (let never : code_of (Some (Live (PortTurns p.most))) ≡ 0 = code_at end (Some (Live (PortTurns p.most))) 0 (e ∙ ends_as p.most r.ends true is) zero in omega (arith, never))
  reports_done r false is e sent zero =
      (r.journal, r.ends, r.routed, is, sent ∙ ap (append_known sb) (ap (λ (w : Option RunEnd). route_text r.journal r.ends ++ status_text w) (ends_as p.most r.ends false is) ∙ append-nil (route_text r.journal r.ends)))

  reports_spent : (r : Reports p status_text end rb ra sb sa) (b : Bool) → has_turns r.ends ≡ b → end ≡ end_of_ports p.most r.ends → sa ≡ append_known sb (route_text r.journal r.ends ++ status_text (end_of_ports p.most r.ends)) → code_of end ≡ 11 → Spent
  reports_spent r true is e sent code =
      (r.journal, r.ends, r.routed, is, sent ∙ ap (append_known sb) (ap (λ (w : Option RunEnd). route_text r.journal r.ends ++ status_text w) (ends_as p.most r.ends true is)))
  reports_spent r false is e sent code = absurd (let never : code_of None ≡ 11 = code_at end None 11 (e ∙ ends_as p.most r.ends false is) code in omega (arith, never))

  reports_only : (r : Reports p status_text end rb ra sb sa) (b : Bool) → has_turns r.ends ≡ b → end ≡ end_of_ports p.most r.ends → (code_of end ≡ 0) ⊎ (code_of end ≡ 11)
  reports_only r true is e = inr (ap code_of (e ∙ ends_as p.most r.ends true is))
  reports_only r false is e = inl (ap code_of (e ∙ ends_as p.most r.ends false is))

  -- a refused write, and want of memory
  not_at_fault : {P : Type 0} (n : ℕ) → n ≢ 5 → n ≢ 7 → code_of end ≡ n → (text : List ℕ) → ((end ≡ Some WriteFault) × Rose rb ra × SentPrefix sb sa text) ⊎ ((end ≡ Some NoMemory) × (ra ≡ rb) × SentPrefix sb sa text) → P
  not_at_fault n five seven code text (inl w) = absurd (five (sym code ∙ ap code_of w.0))
  not_at_fault n five seven code text (inr w) = absurd (seven (sym code ∙ ap code_of w.0))

  stops_done : {P : Type 0} (n : ℕ) (why : SwitchFault) → n ≢ 6 → n ≢ 7 → code_of end ≡ n → end ≡ Some (end_of_fault why) → P
  stops_done n (Full entries) six seven code e = absurd (six (sym code ∙ ap code_of e))
  stops_done n NoRoom six seven code e = absurd (seven (sym code ∙ ap code_of e))

  pub done_at : Routes p status_text end rb ra sb sa → code_of end ≡ 0 → Done
  done_at (inl r) zero =
      elim r.wrote [
        | inl all ↦ reports_done r (has_turns r.ends) refl all.0 all.2 zero
        | inr other ↦ not_at_fault 0 (λ e. omega (arith, e)) (λ e. omega (arith, e)) zero (route_text r.journal r.ends ++ status_text (end_of_ports p.most r.ends)) other
      ]
  done_at (inr s) zero =
      elim s.wrote [
        | inl all ↦ stops_done 0 s.why (λ e. omega (arith, e)) (λ e. omega (arith, e)) zero all.0
        | inr other ↦ not_at_fault 0 (λ e. omega (arith, e)) (λ e. omega (arith, e)) zero (status_text (Some (end_of_fault s.why))) other
      ]

  pub spent_at : Routes p status_text end rb ra sb sa → code_of end ≡ 11 → Spent
  spent_at (inl r) code =
      elim r.wrote [
        | inl all ↦ reports_spent r (has_turns r.ends) refl all.0 all.2 code
        | inr other ↦ not_at_fault 11 (λ e. omega (arith, e)) (λ e. omega (arith, e)) code (route_text r.journal r.ends ++ status_text (end_of_ports p.most r.ends)) other
      ]
  spent_at (inr s) code =
      elim s.wrote [
        | inl all ↦ stops_done 11 s.why (λ e. omega (arith, e)) (λ e. omega (arith, e)) code all.0
        | inr other ↦ not_at_fault 11 (λ e. omega (arith, e)) (λ e. omega (arith, e)) code (status_text (Some (end_of_fault s.why))) other
      ]

  limit_by : (why : SwitchFault) (journal : List Entry) → Halted p why journal → end ≡ Some (end_of_fault why) → sa ≡ append_known sb (status_text (Some (end_of_fault why))) → code_of end ≡ 6 → Limited
  limit_by (Full entries) journal h e sent code =
      let full = (as_halted p.one p.state p.rules p.most (Full entries) journal p.before p.after h.run.stopped).cause in
      (journal, subst (λ (n : ℕ). Halted p (Full n) journal) full.0 h, full.1, sent)
  limit_by NoRoom journal h e sent code = absurd (let seven : code_of (Some NoMemory) ≡ 6 = code_at end (Some NoMemory) 6 e code in omega (arith, seven))

  pub limit_at : Routes p status_text end rb ra sb sa → code_of end ≡ 6 → Limited
  limit_at (inl r) code =
      elim r.wrote [
        | inl all ↦ elim (reports_only r (has_turns r.ends) refl all.0) [
          | inl zero ↦ absurd (let never : 0 ≡ 6 = sym zero ∙ code in omega (arith, never))
          | inr spent ↦ absurd (let never : 11 ≡ 6 = sym spent ∙ code in omega (arith, never))
        ]
        | inr other ↦ not_at_fault 6 (λ e. omega (arith, e)) (λ e. omega (arith, e)) code (route_text r.journal r.ends ++ status_text (end_of_ports p.most r.ends)) other
      ]
  limit_at (inr s) code =
      elim s.wrote [
        | inl all ↦ limit_by s.why s.journal s.halted all.0 all.2 code
        | inr other ↦ not_at_fault 6 (λ e. omega (arith, e)) (λ e. omega (arith, e)) code (status_text (Some (end_of_fault s.why))) other
      ]

  abbrev Codes : Type 0
  Codes = (code_of end ≡ 0) ⊎ ((code_of end ≡ 11) ⊎ ((code_of end ≡ 6) ⊎ ((code_of end ≡ 5) ⊎ (code_of end ≡ 7))))

  stops_only : (why : SwitchFault) → end ≡ Some (end_of_fault why) → Codes
  stops_only (Full entries) e = inr (inr (inl (ap code_of e)))
  stops_only NoRoom e = inr (inr (inr (inr (ap code_of e))))

  fault_only : (text : List ℕ) → ((end ≡ Some WriteFault) × Rose rb ra × SentPrefix sb sa text) ⊎ ((end ≡ Some NoMemory) × (ra ≡ rb) × SentPrefix sb sa text) → Codes
  fault_only text (inl w) = inr (inr (inr (inl (ap code_of w.0))))
  fault_only text (inr w) = inr (inr (inr (inr (ap code_of w.0))))

  pub only_at : Routes p status_text end rb ra sb sa → Codes
  only_at (inl r) =
      elim r.wrote [
        | inl all ↦ elim (reports_only r (has_turns r.ends) refl all.0) [
          | inl zero ↦ inl zero
          | inr spent ↦ inr (inl spent)
        ]
        | inr other ↦ fault_only (route_text r.journal r.ends ++ status_text (end_of_ports p.most r.ends)) other
      ]
  only_at (inr s) =
      elim s.wrote [
        | inl all ↦ stops_only s.why all.0
        | inr other ↦ fault_only (status_text (Some (end_of_fault s.why))) other
      ]

  -- only a refused write ends with 5
  wrote_fault : (wanted : Option RunEnd) (text : List ℕ) → (code_of wanted ≢ 5) → WroteAll wanted end text rb ra sb sa → code_of end ≡ 5 → Rose rb ra
  wrote_fault wanted text other (inl all) five = absurd (other (code_at end wanted 5 all.0 five))
  wrote_fault wanted text other (inr (inl w)) five = w.1
  wrote_fault wanted text other (inr (inr w)) five = absurd (let seven : code_of (Some NoMemory) ≡ 5 = code_at end (Some NoMemory) 5 w.0 five in omega (arith, seven))

  ports_end_other : (most : ℕ) (ends : List PortEnd) (b : Bool) → has_turns ends ≡ b → code_of (end_of_ports most ends) ≢ 5
  ports_end_other most ends true is e = let eleven : code_of (Some (Live (PortTurns most))) ≡ 5 = sym (ap code_of (ends_as most ends true is)) ∙ e in omega (arith, eleven)
  ports_end_other most ends false is e = let zero : code_of None ≡ 5 = sym (ap code_of (ends_as most ends false is)) ∙ e in omega (arith, zero)

  fault_end_other : (why : SwitchFault) → code_of (Some (end_of_fault why)) ≢ 5
  fault_end_other (Full entries) e = omega (arith, e)
  fault_end_other NoRoom e = omega (arith, e)

  pub fault_at : Routes p status_text end rb ra sb sa → code_of end ≡ 5 → Rose rb ra
  fault_at (inl r) five = wrote_fault (end_of_ports p.most r.ends) (route_text r.journal r.ends ++ status_text (end_of_ports p.most r.ends)) (ports_end_other p.most r.ends (has_turns r.ends) refl) r.wrote five
  fault_at (inr s) five = wrote_fault (Some (end_of_fault s.why)) (status_text (Some (end_of_fault s.why))) (fault_end_other s.why) s.wrote five

  -- all that is promised follows from the run
  pub promised_routes : Routes p status_text end rb ra sb sa → RoutePromises p rb ra sb sa (code_of end)
  promised_routes run = record {
    done = done_at run;
    turns_spent = spent_at run;
    limit = limit_at run;
    write_fault = fault_at run;
    only = only_at run;
    run = (end, refl, run);
  }

-- what is promised of a run once its status is written
pub reported : (p : Ports) (rb rm ra : ℕ) (sb sm sa : Option (List ℕ)) (ended told : Result (Unit {0}) RunEnd) → RoutesBeforeStatus p (result_err ended) rb rm sb sm → WritesStatus ended told rm ra sm sa → RoutePromises p rb ra sb sa (code_of (result_err told))
reported p rb rm ra sb sm sa ended told run writes =
    promised_routes p (result_err told) rb ra sb sa (routes_reported p rb rm ra sb sm sa ended told writes run)
