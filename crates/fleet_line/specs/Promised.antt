-- What a program of `fleet` alone promises of a run.
use Rattle.std.specs.Prelude.{◌≡◌, ◌≢◌, ℕ, List, false}
use Rattle.command_line.specs.declared.commands.Command.TheVariants.{Fleet}
use Rattle.command_line.specs.declared.commands.OptionName.TheVariants.{Frames, Key}
use Rattle.command_line.specs.Built.{built}
use Rattle.command_line.specs.Forms.{has_given}
use Rattle.command_line.specs.Grammar.{Asked, Asks}
use Rattle.run_status.specs.Seen.{Input, Output, promised_over}
use Rattle.fleet_line.specs.Fleets.{Fleets, FleetsCarry, FleetsComplete}
use Rattle.fleet_line.specs.Usage.{UsageReported}

-- the words are of no line of `fleet`
abbrev pub AskNoFleet : List (List ℕ) → Type 0
AskNoFleet words = (asked : Asked) → Asks built words asked → asked.command ≢ Fleet

-- a run over these words, with its inputs, its output and its status
pub record FleetPromises (words : List (List ℕ)) (key main : Input) (out : Output) (code : ℕ) : Type 0 where
  -- `fleet` did what it does, and all that it promises of that holds
  pub does : (asked : Asked) → Asks built words asked → asked.command ≡ Fleet
      → Fleets (has_given Key asked.settings) (has_given Frames asked.settings) (promised_over out code)
      (code ≢ 0) key main
  -- the main theorem, of that same run
  pub main_theorem : (asked : Asked) → Asks built words asked → asked.command ≡ Fleet
      → FleetsCarry (has_given Key asked.settings) (has_given Frames asked.settings) out code key main
  -- completeness: if no port fails, an authentic scenario of the grammar that keeps to the limits is played to its
  -- end, unless memory ran out
  pub completeness : (asked : Asked) → Asks built words asked → asked.command ≡ Fleet
      → FleetsComplete (has_given Key asked.settings) (has_given Frames asked.settings) out code key main
  -- the words are of no `fleet` exactly if the status is 2, unless the output refused that text or there was no memory
  pub usage : code ≡ 2 → AskNoFleet words
  pub usage_only : AskNoFleet words → UsageReported code out.refusals_before out.refusals_after out.sent_before
      out.sent_after
  -- what the words don't name isn't read
  pub unread_key : (asked : Asked) → Asks built words asked → has_given Key asked.settings ≡ false → key.unread
  pub untouched : AskNoFleet words → main.unread × key.unread
  -- the output refused a write only at status 5
  pub sound : code ≢ 5 → out.refusals_after ≡ out.refusals_before
