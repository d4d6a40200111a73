-- What is promised of a run, from what holds before its status is written.
use Rattle.std.proofs.Common.{◌≡◌, ◌≢◌, ◌⊎◌, ℕ, List, false, Option, Result, IsErr, IsErrOf}
use Rattle.std.specs.Result.{result_err}
use Rattle.mav_ports.specs.Gets.{IsSpent}
use Rattle.run_status.specs.declared.run_ends.RunEnd.{RunEnd}
use Rattle.run_status.specs.declared.run_ends.RunEnd.TheVariants.{Usage, WriteFault, NoMemory}
use Rattle.run_status.specs.Endings.{code_of}
use Rattle.run_status.specs.Runs.{CommandSpec, Steady}
use Rattle.run_status.specs.Seen.{Input, Output, before_status_over, promised_over}
use Rattle.run_status.specs.StatusText.{WritesStatus}
use Rattle.run_status.proofs.RunsBeforeStatus.{sound_reported}
use Rattle.command_line.specs.declared.commands.Command.TheVariants.{Fleet}
use Rattle.command_line.specs.declared.commands.OptionName.TheVariants.{Frames, Key}
use Rattle.command_line.specs.Built.{built}
use Rattle.command_line.specs.Forms.{has_given}
use Rattle.command_line.specs.Grammar.{Asked, Asks}
use Rattle.command_inputs.proofs.NamedRuns.{reported_over}
use Rattle.fleet_line.specs.Fleets.{Fleets}
use Rattle.fleet_line.specs.Promised.{AskNoFleet, FleetPromises}
use Rattle.fleet_line.proofs.Completes.{fleets_complete}
use Rattle.fleet_line.proofs.Scenarios.{fleets_reported, fleets_carry}
use Rattle.fleet_line.proofs.Usages.{words_reported, usage_ended, halted_code, five_only}

module _ (key main : Input) (rb rm ra : ℕ) (sb sm sa : Option (List ℕ)) (ended reported : Result (Unit {0}) RunEnd) (sound : (IsErrOf ended WriteFault → ⊥) → rm ≡ rb) (writes : WritesStatus ended reported rm ra sm sa) (ks : key.spent → IsSpent key.left_after) (ms : main.spent → IsSpent main.left_after) where
  abbrev middle : Output
  middle = record { refusals_before = rb; refusals_after = rm; sent_before = sb; sent_after = sm }

  abbrev last : Output
  last = record { refusals_before = rb; refusals_after = ra; sent_before = sb; sent_after = sa }

  abbrev code : ℕ
  code = code_of (result_err reported)

  on : (c : CommandSpec) → Steady c → (i : Input) → (i.spent → IsSpent i.left_after) → before_status_over middle (result_err ended) c i → promised_over last code c i
  on c steady i spent run = reported_over rb rm ra sb sm sa ended reported sound writes c steady i spent run

  ends : IsErr ended → code ≢ 0
  ends halted = halted_code rm ra sm sa ended reported halted writes

  pub promises : (words : List (List ℕ))
      → ((asked : Asked) → Asks built words asked → asked.command ≡ Fleet → Fleets (has_given Key asked.settings) (has_given Frames asked.settings) (before_status_over middle (result_err ended)) (IsErr ended) key main)
      → ((asked : Asked) → Asks built words asked → has_given Key asked.settings ≡ false → key.unread)
      → (IsErrOf ended Usage → AskNoFleet words) → (AskNoFleet words → IsErrOf ended Usage ⊎ IsErrOf ended NoMemory)
      → (AskNoFleet words → main.unread × key.unread) → (AskNoFleet words → sm ≡ sb)
      → FleetPromises words key main last code
  promises words does alone by_words only kept unsent =
      let played : (asked : Asked) → Asks built words asked → asked.command ≡ Fleet → Fleets (has_given Key asked.settings) (has_given Frames asked.settings) (promised_over last code) (code ≢ 0) key main
      = λ asked asks is. fleets_reported (before_status_over middle (result_err ended)) (promised_over last code) (IsErr ended) (code ≢ 0) on ends (has_given Key asked.settings) (has_given Frames asked.settings) key main ks ms (does asked asks is) in
      record {
        does = played;
        main_theorem = λ asked asks is. fleets_carry (has_given Key asked.settings) (has_given Frames asked.settings) last code key main (played asked asks is);
        completeness = λ asked asks is. fleets_complete (has_given Key asked.settings) (has_given Frames asked.settings) last code key main ks (played asked asks is);
        usage = λ two. by_words (usage_ended rm ra sm sa ended reported writes two);
        usage_only = λ nothing. words_reported rb rm ra sb sm sa ended reported (only nothing) sound (unsent nothing) writes;
        unread_key = alone;
        untouched = kept;
        sound = λ other. sound_reported rb rm ra sm sa ended reported sound writes (five_only reported other);
      }
