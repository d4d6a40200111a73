-- What is read of the inputs that a line on logs names, and in which order.
use Rattle.std.specs.Prelude.{ℕ, Bool, List}
use Rattle.field_layout.specs.Definition.{Definition}
use Rattle.command_line.specs.declared.commands.Command.{Command}
use Rattle.command_line.specs.declared.commands.Command.TheVariants.{LogFilter, LogMake}
use Rattle.command_line.specs.Lines.{NumberSays}
use Rattle.run_status.specs.Runs.{CommandSpec}
use Rattle.mav_log.specs.Spec.{show_spec, filter_spec, make_spec}
use Rattle.run_status.specs.Seen.{Input}
use Rattle.dialect_command.specs.Known.{WithDefinitions}

-- what the command does with its main input, by these definitions and its number
abbrev pub log_spec : Command → List Definition → ℕ → CommandSpec
log_spec LogFilter known number = filter_spec known number
log_spec LogMake known number = make_spec known number
log_spec _ known number = show_spec known

-- definitions that are named are read first; then the command runs over the main input, by the number that its words
-- say
abbrev pub Logs : Command → List (List ℕ) → (named_defs : Bool) → (CommandSpec → Input → Type 0) → (halted : Type 0)
    → (defs main : Input) → Type 0
Logs command plain named_defs runs halted defs main =
    (number : ℕ) × NumberSays command plain number
    × WithDefinitions named_defs runs halted main.unread defs (λ ds. runs (log_spec command ds number) main)
