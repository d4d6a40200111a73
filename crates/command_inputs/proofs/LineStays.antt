-- Lines that stopped stay so, whatever follows.
use Rattle.std.proofs.Common.{◌≡◌, ◌∙◌, inl, inr, ℕ, ◌+◌, ◌≤◌, Bool, false, List, [], ◌∷◌, ◌++◌, refl, sym, ap, arith, length, length-append, Some, None, cond, ltb, eqb}
use Rattle.std.proofs.lemmas.Bool.{cases_Bool, cond-true, cond-false, ltb-false}
use Rattle.scenario_lines.specs.Grammar.{most_line_bytes}
use Rattle.run_status.specs.declared.input_errors.InputError.{InputError}
use Rattle.run_status.specs.Runs.{Steady}
use Rattle.command_inputs.specs.LineRules.{LineRules, unless_stopped, line_read, part_read, bytes_read}
use Rattle.command_inputs.specs.Takers.{Says, Read, going, rules_of, file_read, lines_spec}
use Rattle.command_inputs.specs.ByteByByte.{reads}
use Rattle.command_inputs.proofs.Lines.{Stopping, stop_cases, part_short, bytes_read_reads}
use Rattle.command_inputs.proofs.LineSteps.{stopping}

module _ {R E : Type 0} (rules : LineRules R E) (stops_by : Stopping rules) where
  -- once lines stopped, more bytes change nothing
  reads_for_good : (ended : Bool) (r : R) (number : ℕ) (part bytes more : List ℕ) (stop : E) → rules.stop r ≡ None → length part ≤ 4096 → rules.stop (reads rules false r number part bytes) ≡ Some stop → reads rules ended r number part (bytes ++ more) ≡ reads rules false r number part bytes
  reads_for_good ended r number part [] more stop going short stops =
      let none : None ≡ Some stop = sym going ∙ ap rules.stop (sym (part_short rules stops_by r number part short)) ∙ stops in
      cc
  reads_for_good ended r number part (b ∷ bs) more stop going short stops =
      let q = line_read rules r number part in
      let held = part ++ b ∷ [] in
      let onwards = reads rules false q (number + 1) [] bs in
      let further = reads rules ended q (number + 1) [] (bs ++ more) in
      let part_on = reads rules false r number held bs in
      let part_further = reads rules ended r number held (bs ++ more) in
      let longer = cond (ltb most_line_bytes (length part + 1)) (part_read rules r number held) part_on in
      let longer_on = cond (ltb most_line_bytes (length part + 1)) (part_read rules r number held) part_further in
      elim (cases_Bool (eqb b 10)) [
        | inl is ↦
            cond-true (eqb b 10) (unless_stopped (rules.stop q) q further) longer_on is
            ∙ elim (stop_cases (rules.stop q)) [
              | inl goes ↦
                  ap (λ s. unless_stopped s q further) goes
                  ∙ reads_for_good ended q (number + 1) [] bs more stop goes (omega arith)
                  (sym (ap rules.stop (cond-true (eqb b 10) (unless_stopped (rules.stop q) q onwards) longer is ∙ ap (λ s. unless_stopped s q onwards) goes)) ∙ stops)
                  ∙ ap (λ s. unless_stopped s q onwards) (sym goes)
              | inr (s, stopping) ↦ ap (λ t. unless_stopped t q further) stopping ∙ ap (λ t. unless_stopped t q onwards) (sym stopping)
            ]
            ∙ sym (cond-true (eqb b 10) (unless_stopped (rules.stop q) q onwards) longer is)
        | inr isnt ↦
            cond-false (eqb b 10) (unless_stopped (rules.stop q) q further) longer_on isnt
            ∙ elim (cases_Bool (ltb most_line_bytes (length part + 1))) [
              | inl long ↦
                  cond-true (ltb most_line_bytes (length part + 1)) (part_read rules r number held) part_further long
                  ∙ sym (cond-true (ltb most_line_bytes (length part + 1)) (part_read rules r number held) part_on long)
              | inr fits ↦
                  cond-false (ltb most_line_bytes (length part + 1)) (part_read rules r number held) part_further fits
                  ∙ reads_for_good ended r number held bs more stop going (omega (arith, ltb-false 4096 (length part + 1) fits, length-append part (b ∷ [])))
                  (sym (ap rules.stop (cond-false (eqb b 10) (unless_stopped (rules.stop q) q onwards) longer isnt ∙ cond-false (ltb most_line_bytes (length part + 1)) (part_read rules r number held) part_on fits)) ∙ stops)
                  ∙ sym (cond-false (ltb most_line_bytes (length part + 1)) (part_read rules r number held) part_on fits)
            ]
            ∙ sym (cond-false (eqb b 10) (unless_stopped (rules.stop q) q onwards) longer isnt)
      ]

  pub stopped_for_good : (start : R) (ended : Bool) (bytes more : List ℕ) (stop : E) → rules.stop start ≡ None → rules.stop (bytes_read rules start false bytes) ≡ Some stop → bytes_read rules start ended (bytes ++ more) ≡ bytes_read rules start false bytes
  stopped_for_good start ended bytes more stop going stops =
      let whole = bytes_read_reads rules stops_by start false bytes going in
      bytes_read_reads rules stops_by start ended (bytes ++ more) going
      ∙ reads_for_good ended start 1 [] bytes more stop going (omega arith) (sym (ap rules.stop whole) ∙ stops)
      ∙ sym whole

module _ {S : Type 0} (says : Says S) (start : S) where
  pub file_for_good : (ended : Bool) (bytes more : List ℕ) (stop : InputError) → (file_read says start false bytes).stop ≡ Some stop → file_read says start ended (bytes ++ more) ≡ file_read says start false bytes
  file_for_good ended bytes more stop stops = stopped_for_good (rules_of says) (stopping says) (going start) ended bytes more stop refl stops

  pub lines_steady : Steady (lines_spec says start)
  lines_steady = record { stays = λ ended taken more stop e. (ap (λ (r : Read S). r.stop) (file_for_good ended taken more stop e) ∙ e, refl) }
