-- The text of a status, after what a run wrote.
use Rattle.std.specs.Prelude.{◌≡◌, ◌≢◌, ◌⊎◌, ℕ, List, Option, Result, Ok, Err}
use Rattle.std.specs.Io.KnownBytes.{append_known}
use Rattle.mav_ports.specs.Counts.{Rose}
use Rattle.mav_ports.specs.Puts.{SentPrefix}
use Rattle.run_status.specs.declared.run_ends.RunEnd.{RunEnd}
use Rattle.run_status.specs.declared.run_ends.RunEnd.TheVariants.{WriteFault, NoMemory}
use Rattle.run_status.specs.Endings.{text_of}

-- the text of a status was written, or a write of it failed, or there was no memory for it
abbrev pub StatusWritten : RunEnd → Result (Unit {0}) RunEnd → ℕ → ℕ → Option (List ℕ) → Option (List ℕ) → Type 0
StatusWritten run_end reported refusals_before refusals_after sent_before sent_after =
    ((reported ≡ Err run_end) × (refusals_after ≡ refusals_before)
    × (sent_after ≡ append_known sent_before (text_of run_end)))
    ⊎ (((reported ≡ Err WriteFault) × Rose refusals_before refusals_after
    × SentPrefix sent_before sent_after (text_of run_end))
    ⊎ ((reported ≡ Err NoMemory) × (run_end ≢ WriteFault) × (refusals_after ≡ refusals_before)
    × (sent_after ≡ sent_before)))

-- how a run ends once its status is written
abbrev pub WritesStatus : Result (Unit {0}) RunEnd → Result (Unit {0}) RunEnd → ℕ → ℕ → Option (List ℕ)
    → Option (List ℕ) → Type 0
WritesStatus (Ok done) reported refusals_before refusals_after sent_before sent_after = (reported ≡ Ok done)
    × (refusals_after ≡ refusals_before) × (sent_after ≡ sent_before)
WritesStatus (Err run_end) reported refusals_before refusals_after sent_before sent_after =
    StatusWritten run_end reported refusals_before refusals_after sent_before sent_after
