-- What a run of a command takes from an input, why it ends, and what it writes.
use Rattle.std.specs.Prelude.{◌≡◌, ◌≢◌, ◌<◌, ◌≤◌, ◌+◌, ◌-◌, ◌^◌, ◌⊎◌, ℕ, Bool, true, false, List, ◌++◌, ⊤, Option}
use Rattle.std.specs.Prelude.{Some, None, IsTrue, codes}
use Rattle.std.specs.Io.KnownBytes.{append_known, prepend_known}
use Rattle.mav_ports.specs.Counts.{Rose}
use Rattle.mav_ports.specs.Puts.{SentPrefix}
use Rattle.run_status.specs.declared.input_errors.Place.{Place}
use Rattle.run_status.specs.declared.input_errors.Reason.{Reason}
use Rattle.run_status.specs.declared.input_errors.Bound.{Bound}
use Rattle.run_status.specs.declared.input_errors.InputError.{InputError}
use Rattle.run_status.specs.declared.input_errors.InputError.TheVariants.{Bad, AtLimit, StampsSpent}
use Rattle.run_status.specs.declared.run_ends.RunEnd.{RunEnd}
use Rattle.run_status.specs.declared.run_ends.RunEnd.TheVariants.{Usage, Stopped, ReadFault, WriteFault, NoMemory}
use Rattle.run_status.specs.declared.run_ends.RunEnd.TheVariants.{TurnsSpent, Live}
use Rattle.run_status.specs.Endings.{code_of, text_of, error_code, error_text}

-- what a command does with the bytes of its input
pub record CommandSpec : Type 0 where
  -- why these bytes stop a run, if they do; the flag says whether the input ended after them
  pub stop : Bool → List ℕ → Option InputError
  -- what is written of them by then
  pub report : Bool → List ℕ → List ℕ
  -- what is written after that once the input ended
  pub closing : List ℕ → List ℕ

-- all that is written of an input that doesn't stop a run
abbrev pub whole : CommandSpec → List ℕ → List ℕ
whole s bytes = s.report true bytes ++ s.closing bytes

-- bytes that stop a run do so whatever follows, and what was written of them stays
pub record Steady (s : CommandSpec) : Type 0 where
  pub stays : (ended : Bool) (taken more : List ℕ) (stop : InputError) → s.stop false taken ≡ Some stop
      → (s.stop ended (taken ++ more) ≡ Some stop) × (s.report ended (taken ++ more) ≡ s.report false taken)

-- what holds of the ports at the end of the call
pub record PortOutcome : Type 1 where
  -- the input returned End, so that nothing is left of it
  pub spent : Type 0
  -- its count of faults rose
  pub failed : Type 0
  -- it returned Idle a million times in a row
  pub idled : Type 0
  -- the output's count of faults rose
  pub refused : Type 0

-- that, by the counts before and after
abbrev pub port_outcome : Type 0 → ℕ → ℕ → ℕ → ℕ → ℕ → ℕ → PortOutcome
port_outcome spent faults_before faults_after idles_before idles_after refusals_before refusals_after = record {
  spent = spent;
  failed = Rose faults_before faults_after;
  idled = (idles_after < 2 ^ 64 - 1 → idles_before + 1000000 ≤ idles_after);
  refused = Rose refusals_before refusals_after;
}

-- the text of which a prefix is written at least
abbrev pub text_so_far : CommandSpec → Bool → List ℕ → List ℕ
text_so_far s true taken = whole s taken
text_so_far s false taken = s.report false taken

-- why a run ends so, with these bytes taken from the input; no run over one input ends as one over ports
abbrev pub Cause : CommandSpec → Option RunEnd → PortOutcome → Bool → List ℕ → Type 0
Cause s None o ended taken = (ended ≡ true) × (s.stop ended taken ≡ None)
Cause s (Some Usage) o ended taken = ⊥
Cause s (Some (Stopped stop)) o ended taken = s.stop ended taken ≡ Some stop
Cause s (Some ReadFault) o ended taken = o.failed × (ended ≡ false) × (s.stop ended taken ≡ None)
Cause s (Some WriteFault) o ended taken = o.refused
Cause s (Some NoMemory) o ended taken = ⊤
Cause s (Some TurnsSpent) o ended taken = o.idled × (ended ≡ false) × (s.stop ended taken ≡ None)
Cause s (Some (Live end)) o ended taken = ⊥

-- all that a run writes that ends so
abbrev pub output_of : CommandSpec → Option RunEnd → Bool → List ℕ → List ℕ
output_of s None ended taken = s.report ended taken ++ s.closing taken
output_of s (Some run_end) ended taken = s.report ended taken ++ text_of run_end

-- what was written: all of it, or without memory a prefix of the report, or at a failed write that or a prefix of what
-- a run writes that ends for a cause that holds
abbrev pub Wrote : CommandSpec → Option RunEnd → PortOutcome → Bool → List ℕ → Option (List ℕ) → Option (List ℕ)
    → Type 0
Wrote s None o ended taken before after = after ≡ append_known before (output_of s None ended taken)
Wrote s (Some Usage) o ended taken before after = ⊥
Wrote s (Some (Stopped stop)) o ended taken before after =
    after ≡ append_known before (output_of s (Some (Stopped stop)) ended taken)
Wrote s (Some ReadFault) o ended taken before after =
    after ≡ append_known before (output_of s (Some ReadFault) ended taken)
Wrote s (Some WriteFault) o ended taken before after =
    SentPrefix before after (text_so_far s ended taken)
    ⊎ ((would : Option RunEnd) × Cause s would o ended taken
    × SentPrefix before after (output_of s would ended taken))
Wrote s (Some NoMemory) o ended taken before after = SentPrefix before after (text_so_far s ended taken)
Wrote s (Some TurnsSpent) o ended taken before after =
    after ≡ append_known before (output_of s (Some TurnsSpent) ended taken)
Wrote s (Some (Live end)) o ended taken before after = ⊥

-- one run: the bytes taken from the input, why it ended, and what it wrote; nothing is taken if nothing was read
pub record Run (s : CommandSpec) (o : PortOutcome) (left_before left_after sent_before sent_after : Option (List ℕ))
    (end : Option RunEnd) : Type 0 where
  pub taken : List ℕ
  pub ended : Bool
  pub took : left_before ≡ prepend_known taken left_after
  pub at_end : IsTrue ended → o.spent
  pub cause : Cause s end o ended taken
  pub wrote : Wrote s end o ended taken sent_before sent_after

-- the same before the text of the status
abbrev pub WroteReport : CommandSpec → Option RunEnd → Bool → List ℕ → Option (List ℕ) → Option (List ℕ) → Type 0
WroteReport s None ended taken before after = after ≡ append_known before (s.report ended taken ++ s.closing taken)
WroteReport s (Some Usage) ended taken before after = ⊥
WroteReport s (Some (Stopped stop)) ended taken before after = after ≡ append_known before (s.report ended taken)
WroteReport s (Some ReadFault) ended taken before after = after ≡ append_known before (s.report ended taken)
WroteReport s (Some WriteFault) ended taken before after = SentPrefix before after (text_so_far s ended taken)
WroteReport s (Some NoMemory) ended taken before after = SentPrefix before after (text_so_far s ended taken)
WroteReport s (Some TurnsSpent) ended taken before after = after ≡ append_known before (s.report ended taken)
WroteReport s (Some (Live end)) ended taken before after = ⊥

pub record RunBeforeStatus (s : CommandSpec) (o : PortOutcome)
    (left_before left_after sent_before sent_after : Option (List ℕ)) (end : Option RunEnd) : Type 0 where
  pub taken : List ℕ
  pub ended : Bool
  pub took : left_before ≡ prepend_known taken left_after
  pub at_end : IsTrue ended → o.spent
  pub cause : Cause s end o ended taken
  pub wrote : WroteReport s end ended taken sent_before sent_after

-- these bytes were taken from the input; if it ended after them, nothing is left of it
abbrev pub Took : Type 0 → Option (List ℕ) → Option (List ℕ) → Bool → List ℕ → Type 0
Took spent left_before left_after ended taken = (left_before ≡ prepend_known taken left_after) × (IsTrue ended → spent)

-- a run that stopped at this error, and printed it
abbrev pub ReportedError : CommandSpec → InputError → Type 0 → Option (List ℕ) → Option (List ℕ) → Option (List ℕ)
    → Option (List ℕ) → Type 0
ReportedError s stop spent left_before left_after sent_before sent_after =
    (ended : Bool) × (taken : List ℕ) × Took spent left_before left_after ended taken
    × (s.stop ended taken ≡ Some stop)
    × (sent_after ≡ append_known sent_before (s.report ended taken ++ error_text stop))

-- a run that was cut off before anything had stopped it, with this text after what it had written
abbrev pub ReportedCutoff : CommandSpec → List ℕ → Option (List ℕ) → Option (List ℕ) → Option (List ℕ)
    → Option (List ℕ) → Type 0
ReportedCutoff s text left_before left_after sent_before sent_after =
    (taken : List ℕ) × (left_before ≡ prepend_known taken left_after) × (s.stop false taken ≡ None)
    × (sent_after ≡ append_known sent_before (s.report false taken ++ text))

-- how a run ends over a whole input, if nothing fails
abbrev pub end_of : Option InputError → Option RunEnd
end_of None = None
end_of (Some stop) = Some (Stopped stop)

-- this status and all of the output, or a write failed, or memory ran out
abbrev pub OrFails : ℕ → List ℕ → ℕ → Option (List ℕ) → Option (List ℕ) → Type 0
OrFails status output code sent_before sent_after = ((code ≡ status) × (sent_after ≡ append_known sent_before output))
    ⊎ ((code ≡ 5) ⊎ (code ≡ 7))

-- what a command promises of a run that ends with this status, by its specification and the outcome of its ports
pub record Promises (s : CommandSpec) (o : PortOutcome)
    (left_before left_after sent_before sent_after : Option (List ℕ)) (code : ℕ) : Type 0 where
  -- 0: the input ended, nothing in it stopped the run, and all of its output was written
  pub done : code ≡ 0 → (taken : List ℕ) × (left_before ≡ prepend_known taken left_after) × o.spent
      × (s.stop true taken ≡ None)
      × (sent_after ≡ append_known sent_before (whole s taken))
  -- 2 is for words alone
  pub not_usage : code ≢ 2
  -- 3: the bytes taken have an error, at this place and for this reason
  pub bad : code ≡ 3 → (place : Place) × (reason : Reason)
      × ReportedError s (Bad place reason) o.spent left_before left_after sent_before sent_after
  -- 6: they pass this limit
  pub limit : code ≡ 6 → (limit : Bound) × ReportedError s
      (AtLimit limit) o.spent left_before left_after sent_before sent_after
  -- 13: at them a node has no timestamp left
  pub stamps_spent : code ≡ 13 → ReportedError s StampsSpent o.spent left_before left_after sent_before sent_after
  -- if the bytes taken stop a run, the status is that of their error, unless a write failed or memory ran out
  pub stops : (stop : InputError) (taken rest : List ℕ) → left_before ≡ Some (taken ++ rest) → left_after ≡ Some rest
      → s.stop false taken ≡ Some stop
      → OrFails (error_code stop) (s.report false taken ++ error_text stop) code sent_before sent_after
  -- 4: a read failed, and nothing had stopped the run
  pub read_fault : code ≡ 4 → o.failed × ReportedCutoff s
      (codes "read fault\n") left_before left_after sent_before sent_after
  -- 11: the input gave nothing for too long, and nothing had stopped the run
  pub turns_spent : code ≡ 11 → o.idled × ReportedCutoff s
      (codes "turns spent 1000000\n") left_before left_after sent_before sent_after
  -- 5: a prefix of the report was written, or of what a run writes that ends for a cause that holds
  pub write_fault : code ≡ 5 → o.refused × (ended : Bool) × (taken : List ℕ)
      × Took o.spent left_before left_after ended taken
      × (SentPrefix sent_before sent_after (text_so_far s ended taken)
      ⊎ ((would : Option RunEnd) × Cause s would o ended taken
      × SentPrefix sent_before sent_after (output_of s would ended taken)))
  -- 7: a prefix of the report was written
  pub no_memory : code ≡ 7 → (ended : Bool) × (taken : List ℕ) × Took o.spent left_before left_after ended taken
      × SentPrefix sent_before sent_after (text_so_far s ended taken)
  -- over an input that has observable contents and neither fails nor idles too long, the status and the output are
  -- those of its bytes, unless a write failed or memory ran out
  pub determined : (bytes : List ℕ) → left_before ≡ Some bytes → ¬ o.failed → ¬ o.idled
      → OrFails (code_of (end_of (s.stop true bytes)))
      (output_of s (end_of (s.stop true bytes)) true bytes) code sent_before sent_after
  -- so a run that nothing stops is done, unless memory runs out
  pub complete : (bytes : List ℕ) → left_before ≡ Some bytes → s.stop true bytes ≡ None → ¬ o.failed → ¬ o.idled
      → ¬ o.refused → (code ≡ 0) ⊎ (code ≡ 7)
  -- all of it, of one run
  pub run : (end : Option RunEnd) × (code ≡ code_of end) × Run s o left_before left_after sent_before sent_after end
