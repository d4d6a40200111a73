-- How the writing of a text ends.
use Rattle.std.specs.Prelude.{◌≡◌, ℕ, List, ◌++◌, codes, Option, Some, None}
use Rattle.std.specs.Fmt.{decimal}
use Rattle.std.specs.Io.KnownBytes.{append_known}
use Rattle.mav_ports.specs.Counts.{Rose}
use Rattle.mav_ports.specs.Puts.{SentPrefix}
use Rattle.mav_text.specs.LayoutText.{line}
use Rattle.run_status.specs.declared.run_ends.RunEnd.{RunEnd}
use Rattle.run_status.specs.declared.run_ends.RunEnd.TheVariants.{Usage, Stopped, ReadFault, WriteFault, NoMemory}
use Rattle.run_status.specs.declared.run_ends.RunEnd.TheVariants.{TurnsSpent, Live}

-- the last line of a dialect's text
abbrev pub count_line : ℕ → List ℕ
count_line messages = line (codes "messages " ++ decimal messages)

-- all of a text was written, or a prefix of it if a write failed or there was no memory
abbrev pub WroteText : List ℕ → Option RunEnd → ℕ → ℕ → Option (List ℕ) → Option (List ℕ) → Type 0
WroteText text None refusals_before refusals_after before after = (after ≡ append_known before text)
    × (refusals_after ≡ refusals_before)
WroteText text (Some Usage) refusals_before refusals_after before after = ⊥
WroteText text (Some (Stopped stop)) refusals_before refusals_after before after = ⊥
WroteText text (Some ReadFault) refusals_before refusals_after before after = ⊥
WroteText text (Some WriteFault) refusals_before refusals_after before after = SentPrefix before after text
    × Rose refusals_before refusals_after
WroteText text (Some NoMemory) refusals_before refusals_after before after = SentPrefix before after text
    × (refusals_after ≡ refusals_before)
WroteText text (Some TurnsSpent) refusals_before refusals_after before after = ⊥
WroteText text (Some (Live end)) refusals_before refusals_after before after = ⊥
