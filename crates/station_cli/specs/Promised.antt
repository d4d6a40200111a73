-- What the program promises of a run.
use Rattle.std.specs.Prelude.{◌≡◌, ◌≢◌, ℕ, List}
use Rattle.command_line.specs.declared.commands.Command.TheVariants.{Fleet, Route, Make}
use Rattle.command_line.specs.declared.commands.OptionName.TheVariants.{Frames, Key, Defs}
use Rattle.command_line.specs.Built.{built}
use Rattle.command_line.specs.Forms.{has_given}
use Rattle.command_line.specs.Grammar.{Asked, Asks, AskNothing}
use Rattle.make_command.specs.Theorem.{GeneratedTheorem}
use Rattle.station_cli.specs.Doing.{Surroundings, Does, LeavesAlone, once_told}
use Rattle.fleet_line.specs.Fleets.{FleetsCarry, FleetsComplete}
use Rattle.station_cli.specs.Making.{Makes}
use Rattle.route_command.specs.Routing.{AllEnded}
use Rattle.run_status.specs.Seen.{Output}
use Rattle.fleet_line.specs.Usage.{UsageReported}

-- a run over these words, with its inputs, ports, stores and clock, its output and its status
pub record RunPromises {A B : Type 0} (words : List (List ℕ)) (s : Surroundings A B) (out : Output)
    (code : ℕ) : Type 0 where
  -- The command that the words name did what it does, and all that it promises of that holds: `Promises` has a field
  -- for each status, and fields that say why no other comes; the command's specification says which bytes of its input
  -- stop it and what is written of them.
  pub does : (asked : Asked) → Asks built words asked → Does (once_told out code) s asked asked.command
  -- The main theorem, of that same run: the bytes that it took, why it ended and what it wrote of
  -- them; and, if the foreign bytes among them bring no frame that verifies and wasn't sent,
  -- that this is the report of an execution of the abstract mission store, with the same plans
  -- after each event and at the end; that what it says is true; and that each uncontended upload
  -- was installed and acknowledged.
  pub main_theorem : (asked : Asked) → Asks built words asked → asked.command ≡ Fleet
      → FleetsCarry (has_given Key asked.settings) (has_given Frames asked.settings) out code s.key s.main
  -- Completeness: if no port fails, an authentic scenario of the grammar that keeps to the limits
  -- is played to its end under the key that the inputs give. The status is 0 and its whole report
  -- was written, or memory ran out.
  pub completeness : (asked : Asked) → Asks built words asked → asked.command ≡ Fleet
      → FleetsComplete (has_given Key asked.settings) (has_given Frames asked.settings) out code s.key s.main
  -- The scenario that `make` generates is played to its end and authentic, so it has the main theorem.
  pub make_theorem : (asked : Asked) → Asks built words asked → asked.command ≡ Make
      → Makes asked.plain GeneratedTheorem
  -- The words are of no command exactly if the status is 2, unless the output refused that
  -- text or there was no memory.
  pub usage : code ≡ 2 → AskNothing built words
  pub usage_only : AskNothing built words → UsageReported code out.refusals_before out.refusals_after out.sent_before
      out.sent_after
  -- What the words don't name stays as it was.
  pub leaves_alone : (asked : Asked) → Asks built words asked → LeavesAlone s asked
  pub untouched : AskNothing built words → s.main.unread × s.defs.unread × s.key.unread × s.same_ports × s.same_keepers
      × s.same_clock
  -- The ports of a router are called only once each input that the words name was read to its end.
  pub unmoved_before : (asked : Asked) → Asks built words asked → asked.command ≡ Route
      → ¬ AllEnded (has_given Defs asked.settings) s.key s.defs → s.same_ports
  -- The output refused a write only at status 5.
  pub sound : code ≢ 5 → out.refusals_after ≡ out.refusals_before
