-- What is read of the inputs that a line of `decode` names, and in which order.
use Rattle.std.specs.Prelude.{ℕ, Bool, List}
use Rattle.std.specs.declared.option.Option.{Option}
use Rattle.run_status.specs.Runs.{CommandSpec}
use Rattle.dialect_command.specs.Known.{WithDefinitions}
use Rattle.decode_command.specs.Spec.{decode_spec}
use Rattle.run_status.specs.Seen.{Input}
use Rattle.command_inputs.specs.NamedKeys.{WithKey}

-- definitions that are named are read, and then the main input is decoded by these and the key
abbrev pub DecodesWith : Option (List ℕ) → (named_defs : Bool) → (CommandSpec → Input → Type 0) → (halted : Type 0)
    → (defs main : Input) → Type 0
DecodesWith key named_defs runs halted defs main =
    WithDefinitions named_defs runs halted main.unread defs
    (λ ds. runs (decode_spec (record { dialect = ds; key = key })) main)

abbrev pub Decodes : (named_key named_defs : Bool) → (CommandSpec → Input → Type 0) → (halted : Type 0)
    → (key defs main : Input) → Type 0
Decodes named_key named_defs runs halted key defs main =
    WithKey named_key runs halted (defs.unread × main.unread) key (λ k. DecodesWith k named_defs runs halted defs main)
