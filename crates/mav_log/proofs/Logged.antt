-- The clauses of the commands on logs, from those of their parts.
use Rattle.std.proofs.Common.{◌≡◌, ◌∙◌, inl, inr, ℕ, Bool, true, false, List, [], ◌∷◌, ap, refl, subst, Option, Some}
use Rattle.mav_ports.specs.Gets.{IsSpent}
use Rattle.field_layout.specs.Definition.{Definition}
use Rattle.mav_profile.specs.Profile.{profile_definitions}
use Rattle.command_line.specs.declared.commands.Command.{Command}
use Rattle.command_line.specs.declared.commands.Command.TheVariants.{Fleet, Dialect, Decode, Route, Drone, Station, Make, LogShow, LogFilter, LogMake, Fence}
use Rattle.command_line.specs.declared.commands.OptionName.TheVariants.{Defs}
use Rattle.command_line.specs.Built.{built}
use Rattle.command_line.specs.Commands.{is_on_logs}
use Rattle.command_line.specs.Forms.{Given, has_given, ArePlain}
use Rattle.command_line.specs.Grammar.{Asked}
use Rattle.command_line.specs.Lines.{NumberFirst, NumberSays}
use Rattle.command_line.specs.Operations.{NumberAndFile}
use Rattle.run_status.specs.declared.run_ends.RunEnd.TheVariants.{NoMemory}
use Rattle.run_status.specs.Runs.{CommandSpec, Steady}
use Rattle.dialect_command.specs.Spec.{definitions_spec}
use Rattle.dialect_command.proofs.Stays.{reading_steady}
use Rattle.mav_log.specs.Spec.{show_telling, filter_telling, make_telling}
use Rattle.decode_command.proofs.Stays.{telling_steady}
use Rattle.run_status.specs.Seen.{Input, input_of, before_status_over}
use Rattle.mav_log.specs.Logging.{log_spec, Logs}
use Rattle.command_inputs.proofs.NamedRuns.{unmade}

-- the same line
pub logs_asked : (asked other : Asked) (runs : CommandSpec → Input → Type 0) (halted : Type 0) (defs main : Input) → asked ≡ other → Logs asked.command asked.plain (has_given Defs asked.settings) runs halted defs main → Logs other.command other.plain (has_given Defs other.settings) runs halted defs main
logs_asked asked other runs halted defs main same l = subst (λ (a : Asked). Logs a.command a.plain (has_given Defs a.settings) runs halted defs main) same l

-- an input that stopped a run stops it for good
pub log_steady : (command : Command) (known : List Definition) (number : ℕ) → Steady (log_spec command known number)
log_steady LogFilter known number = telling_steady (filter_telling known number)
log_steady LogMake known number = telling_steady (make_telling known number)
log_steady Fleet known number = telling_steady (show_telling known)
log_steady Dialect known number = telling_steady (show_telling known)
log_steady Decode known number = telling_steady (show_telling known)
log_steady Route known number = telling_steady (show_telling known)
log_steady Drone known number = telling_steady (show_telling known)
log_steady Station known number = telling_steady (show_telling known)
log_steady Make known number = telling_steady (show_telling known)
log_steady LogShow known number = telling_steady (show_telling known)
log_steady Fence known number = telling_steady (show_telling known)

-- each run's status is written
module _ (first second : CommandSpec → Input → Type 0) (halted stopped : Type 0) (on : (s : CommandSpec) → Steady s → (i : Input) → (i.spent → IsSpent i.left_after) → first s i → second s i) (ends : halted → stopped) where
  pub logs_reported : (command : Command) (plain : List (List ℕ)) (named : Bool) (defs main : Input) → (defs.spent → IsSpent defs.left_after) → (main.spent → IsSpent main.left_after) → Logs command plain named first halted defs main → Logs command plain named second stopped defs main
  logs_reported command plain false defs main ds ms (number, says, run) = (number, says, on (log_spec command profile_definitions number) (log_steady command profile_definitions number) main ms run)
  logs_reported command plain true defs main ds ms (number, says, inl (run, h, unread)) = (number, says, inl (on definitions_spec (reading_steady definitions_spec.closing) defs ds run, ends h, unread))
  logs_reported command plain true defs main ds ms (number, says, inr (known, holds, run)) = (number, says, inr (known, holds, on (log_spec command known number) (log_steady command known number) main ms run))

-- the number that the words say
first_number : (most : ℕ) (plain : List (List ℕ)) → NumberAndFile 0 most plain → (number : ℕ) × NumberFirst most plain number
first_number most plain are =
    let (number, written, least, high) = are.is_number in
    (number, record { file = are.file; plain_is = are.plain_is ∙ ap (λ word. word ∷ are.file ∷ []) written; at_most = high })

pub number_said : (command : Command) (settings : List Given) (plain : List (List ℕ)) → is_on_logs command ≡ true → ArePlain built command settings plain → (number : ℕ) × NumberSays command plain number
number_said Fleet settings plain never are = absurd (cc never)
number_said Dialect settings plain never are = absurd (cc never)
number_said Decode settings plain never are = absurd (cc never)
number_said Route settings plain never are = absurd (cc never)
number_said Drone settings plain never are = absurd (cc never)
number_said Station settings plain never are = absurd (cc never)
number_said Make settings plain never are = absurd (cc never)
number_said LogShow settings plain is are = (0, tt)
number_said LogFilter settings plain is are = first_number 255 plain are
number_said LogMake settings plain is are = first_number _ plain are
number_said Fence settings plain never are = absurd (cc never)

-- there was no memory before anything was read
module _ {A : Type 0} (has_ended : A → Type 0) (faults idles : A → ℕ) (left : A → Option (List ℕ)) (defs main : A) (refusals : ℕ) (sent : Option (List ℕ)) where
  pub logs_unread : (halted : Type 0) → halted → (command : Command) (settings : List Given) (plain : List (List ℕ)) (named : Bool) → is_on_logs command ≡ true → ArePlain built command settings plain
      → Logs command plain named (before_status_over (record { refusals_before = refusals; refusals_after = refusals; sent_before = sent; sent_after = sent }) (Some NoMemory)) halted (input_of has_ended faults idles left defs defs) (input_of has_ended faults idles left main main)
  logs_unread halted h command settings plain false is are =
      let (number, says) = number_said command settings plain is are in
      (number, says, unmade has_ended faults idles left refusals sent (log_spec command profile_definitions number) main)
  logs_unread halted h command settings plain true is are =
      let (number, says) = number_said command settings plain is are in
      (number, says, inl (unmade has_ended faults idles left refusals sent definitions_spec defs, h, refl))
