-- When a read of a port gives Idle.
use Rattle.std.specs.Prelude.{ℕ, Bool, true, false, List, [], ◌∷◌, if◌then◌else◌}
use Rattle.std.specs.Duration.{as_nanos}
use Rattle.std.specs.Str.{bytes_eq}
use Rattle.command_line.specs.declared.commands.Command.TheVariants.{Route}
use Rattle.command_line.specs.Commands.{command_word}
use Rattle.mav_links.specs.declared.pace.Beat.{Beat}
use Rattle.mav_links.specs.declared.pace.Beat.TheVariants.{Steady, Quiet}

-- whether it comes whatever else comes, or only once nothing has come, and after how many nanoseconds
pub record Timing : Type 0 where
  pub is_steady : Bool
  pub nanos : ℕ

abbrev pub beat_says : Beat → Timing
beat_says (Steady span) = record { is_steady = true; nanos = as_nanos span }
beat_says (Quiet span) = record { is_steady = false; nanos = as_nanos span }

abbrev pub every_quarter : Timing
every_quarter = record { is_steady = true; nanos = 250_000_000 }

-- for these words: in a router once nothing has come for 10 milliseconds, and else every 250
abbrev pub beat_for : List (List ℕ) → Timing
beat_for [] = every_quarter
beat_for (command ∷ words) =
    if bytes_eq command (command_word Route) then record { is_steady = false; nanos = 10_000_000 } else every_quarter
