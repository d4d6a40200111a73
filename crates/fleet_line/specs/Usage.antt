-- A run over words that are of no command.
use Rattle.std.specs.Prelude.{◌≡◌, ◌⊎◌, ℕ, List, Option, codes}
use Rattle.std.specs.Io.KnownBytes.{append_known}
use Rattle.mav_ports.specs.Counts.{Rose}
use Rattle.mav_ports.specs.Puts.{SentPrefix}

-- `usage` is written with status 2, or the output refused that text, or there was no memory
abbrev pub UsageReported : ℕ → ℕ → ℕ → Option (List ℕ) → Option (List ℕ) → Type 0
UsageReported code refusals_before refusals_after sent_before sent_after =
    ((code ≡ 2) × (sent_after ≡ append_known sent_before (codes "usage\n")))
    ⊎ (((code ≡ 5) × Rose refusals_before refusals_after × SentPrefix sent_before sent_after (codes "usage\n"))
    ⊎ ((code ≡ 7) × (sent_after ≡ sent_before)))
