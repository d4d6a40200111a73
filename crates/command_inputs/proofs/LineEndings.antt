-- How the reading of an input comes to its end.
use Rattle.std.proofs.Common.{◌≡◌, ◌∙◌, ◌≤◌, ℕ, Bool, true, false, List, [], ◌++◌, refl, sym, ap, subst, length, append-nil, Option, Some, None, Result, Ok, Err, IsTrue, arith}
use Rattle.std.specs.Io.KnownBytes.{append_known, prepend_known}
use Rattle.mav_ports.proofs.Known.{append_known_nil, sent_start}
use Rattle.run_status.specs.declared.input_errors.InputError.{InputError}
use Rattle.run_status.specs.declared.run_ends.RunEnd.{RunEnd}
use Rattle.run_status.specs.declared.run_ends.RunEnd.TheVariants.{Usage, Stopped, ReadFault, WriteFault, NoMemory, TurnsSpent, Live}
use Rattle.run_status.specs.Runs.{CommandSpec, PortOutcome, port_outcome, text_so_far, RunBeforeStatus}
use Rattle.command_inputs.specs.LineRules.{last_read}
use Rattle.command_inputs.specs.Takers.{Says, Read, going, rules_of, file_read, HaltsLines, ReadsLines}
use Rattle.command_inputs.specs.ByteByByte.{reads, HaltedAt, Leads, onwards, Fed}
use Rattle.command_inputs.specs.declared.held.HeldLine.{HeldLine}
use Rattle.command_inputs.proofs.Lines.{bytes_read_reads, part_short}
use Rattle.command_inputs.proofs.LineSteps.{stopping}

module _ {S : Type 0} (says : Says S) (start : S) (first : HeldLine) (fresh : (first.number ≡ 1) × (first.bytes.items ≡ [])) where
  -- what a file leads to is what its bytes lead to from the start of the first line
  from_start : (ended : Bool) (bytes : List ℕ) → file_read says start ended bytes ≡ onwards says ended start first bytes
  from_start ended bytes =
      bytes_read_reads (rules_of says) (stopping says) (going start) ended bytes refl
      ∙ sym (ap (λ n. reads (rules_of says) ended (going start) n first.bytes.items bytes) fresh.0 ∙ ap (λ part. reads (rules_of says) ended (going start) 1 part bytes) fresh.1)

  module _ (o : PortOutcome) (lb la : Option (List ℕ)) (taken : List ℕ) (took : lb ≡ prepend_known taken la) where
    not_ended : IsTrue false → o.spent
    not_ended never = absurd (cc never)

    -- the lines stopped, or there was no memory
    halts_at : (ended : Bool) (run_end : RunEnd) → (IsTrue ended → o.spent) → HaltedAt run_end (file_read says start ended taken) → HaltsLines says start o lb la run_end
    halts_at ended Usage at_end never = absurd never
    halts_at ended (Stopped stop) at_end h = record { taken = taken; ended = ended; took = took; at_end = at_end; cause = h }
    halts_at ended ReadFault at_end never = absurd never
    halts_at ended WriteFault at_end never = absurd never
    halts_at ended NoMemory at_end h = record { taken = taken; ended = ended; took = took; at_end = at_end; cause = tt }
    halts_at ended TurnsSpent at_end never = absurd never
    halts_at ended (Live end) at_end never = absurd never

    -- that within a piece
    pub halts_piece : (run_end : RunEnd) → ((ended : Bool) (rest : List ℕ) → HaltedAt run_end (onwards says ended start first (taken ++ rest))) → HaltsLines says start o lb la run_end
    halts_piece run_end h =
        halts_at false run_end not_ended
        (subst (HaltedAt run_end) (sym (from_start false taken ∙ ap (onwards says false start first) (sym (append-nil taken)))) (h false []))

    module _ (next : S) (held : HeldLine) (fed : Fed says taken start first next held) where
      so_far : (ended : Bool) → file_read says start ended taken ≡ onwards says ended next held []
      so_far ended = from_start ended taken ∙ ap (onwards says ended start first) (sym (append-nil taken)) ∙ fed.goes_on ended []

      -- nothing is known against bytes that end in the middle of a line that isn't too long
      open_end : length held.bytes.items ≤ 4096 → (file_read says start false taken).stop ≡ None
      open_end short = ap (λ (r : Read S). r.stop) (so_far false ∙ part_short (rules_of says) (stopping says) (going next) held.number held.bytes.items short)

      -- a read failed, or the input was idle for too long
      pub halts_fault : length held.bytes.items ≤ 4096 → o.failed → HaltsLines says start o lb la ReadFault
      halts_fault short failed = record { taken = taken; ended = false; took = took; at_end = not_ended; cause = (failed, refl, open_end short) }

      pub halts_idle : length held.bytes.items ≤ 4096 → o.idled → HaltsLines says start o lb la TurnsSpent
      halts_idle short idled = record { taken = taken; ended = false; took = took; at_end = not_ended; cause = (idled, refl, open_end short) }

      -- the last line was read
      pub reads_end : {T : Type 0} (result : Result T RunEnd) (state : S) → o.spent → Leads result (last_read (rules_of says) (going next) held.number held.bytes.items) state → ReadsLines result says start o lb la state
      reads_end (Ok done) state spent led = record { taken = taken; took = took; at_end = spent; gives = so_far true ∙ led }
      reads_end (Err run_end) state spent led = halts_at true run_end (λ e. spent) (subst (HaltedAt run_end) (sym (so_far true)) led)

-- nothing was taken, and there was no memory
pub halts_nothing : {S : Type 0} (says : Says S) (start : S) (o : PortOutcome) (lb : Option (List ℕ)) → lb ≡ prepend_known [] lb → HaltsLines says start o lb lb NoMemory
halts_nothing says start o lb none = record { taken = []; ended = false; took = none; at_end = λ never. absurd (cc never); cause = tt }

-- ---- a command that writes nothing before it has read all

-- what stops lines stops the command, and nothing else does before their end
pub record Follows {S : Type 0} (s : CommandSpec) (says : Says S) (start : S) : Type 0 where
  pub stops : (ended : Bool) (taken : List ℕ) (stop : InputError) → (file_read says start ended taken).stop ≡ Some stop → s.stop ended taken ≡ Some stop
  pub goes_on : (taken : List ℕ) → (file_read says start false taken).stop ≡ None → s.stop false taken ≡ None
  pub silent : (ended : Bool) (taken : List ℕ) → s.report ended taken ≡ []

module _ {S : Type 0} (s : CommandSpec) (says : Says S) (start : S) (follows : Follows s says start) (spent : Type 0) (fb fa ib ia refusals : ℕ) (lb la sent : Option (List ℕ)) where
  unsent : (ended : Bool) (taken : List ℕ) → sent ≡ append_known sent (s.report ended taken)
  unsent ended taken = append_known_nil sent ∙ ap (append_known sent) (sym (follows.silent ended taken))

  not_stopped : (ended : Bool) (taken : List ℕ) → ended ≡ false → (file_read says start ended taken).stop ≡ None → s.stop ended taken ≡ None
  not_stopped ended taken cut none = ap (λ e. s.stop e taken) cut ∙ follows.goes_on taken (ap (λ e. (file_read says start e taken).stop) (sym cut) ∙ none)

  -- the command halts where its lines do
  pub halts_before_status : (run_end : RunEnd) → HaltsLines says start (port_outcome spent fb fa ib ia 0 0) lb la run_end → RunBeforeStatus s (port_outcome spent fb fa ib ia refusals refusals) lb la sent sent (Some run_end)
  halts_before_status Usage h = absurd h.cause
  halts_before_status (Stopped stop) h = record { taken = h.taken; ended = h.ended; took = h.took; at_end = h.at_end; cause = follows.stops h.ended h.taken stop h.cause; wrote = unsent h.ended h.taken }
  halts_before_status ReadFault h = record { taken = h.taken; ended = h.ended; took = h.took; at_end = h.at_end; cause = (h.cause.0, h.cause.1, not_stopped h.ended h.taken h.cause.1 h.cause.2); wrote = unsent h.ended h.taken }
  halts_before_status WriteFault h = absurd (omega (arith, h.cause))
  halts_before_status NoMemory h = record { taken = h.taken; ended = h.ended; took = h.took; at_end = h.at_end; cause = tt; wrote = (text_so_far s h.ended h.taken, sent_start sent (text_so_far s h.ended h.taken)) }
  halts_before_status TurnsSpent h = record { taken = h.taken; ended = h.ended; took = h.took; at_end = h.at_end; cause = (h.cause.0, h.cause.1, not_stopped h.ended h.taken h.cause.1 h.cause.2); wrote = unsent h.ended h.taken }
  halts_before_status (Live end) h = absurd h.cause
