-- What is read of the inputs that a line of `fleet` names, what holds of that run, and when it is done.
use Rattle.std.specs.Prelude.{◌≡◌, ◌≢◌, ℕ, Bool, true, false, List, None, Some}
use Rattle.std.specs.declared.option.Option.{Option}
use Rattle.command_inputs.specs.KeyText.{default_key, key_or_default}
use Rattle.run_status.specs.Runs.{CommandSpec}
use Rattle.fleet_command.specs.Spec.{fleet_spec}
use Rattle.fleet_theorem.specs.Theorem.{Carries}
use Rattle.fleet_theorem.specs.Completeness.{NoFault, Completes}
use Rattle.run_status.specs.Seen.{Input, Output, around, promised_over}
use Rattle.command_inputs.specs.NamedKeys.{WithKey}

-- the key of all nodes: the one that is named, or the default
abbrev pub or_default : Option (List ℕ) → List ℕ
or_default None = default_key
or_default (Some key) = key

-- the main input is played under it
abbrev pub Fleets : (named_key frames : Bool) → (CommandSpec → Input → Type 0) → (halted : Type 0) → (key main : Input)
    → Type 0
Fleets named_key frames runs halted key main =
    WithKey named_key runs halted main.unread key (λ k. runs (fleet_spec (or_default k) frames) main)

-- the main theorem of a run under a key
abbrev pub CarriesOver : List ℕ → Bool → Output → ℕ → Input → Type 0
CarriesOver key frames out code main = Carries key frames
    (around main out) main.left_before main.left_after out.sent_before out.sent_after code

-- the same run: it halts at the key, or the main theorem holds of it
abbrev pub FleetsCarry : (named_key frames : Bool) → Output → ℕ → (key main : Input) → Type 0
FleetsCarry named_key frames out code key main =
    WithKey named_key (promised_over out code) (code ≢ 0) main.unread key
    (λ k. CarriesOver (or_default k) frames out code main)

-- the key that the inputs give: that of the input that is named, whose port doesn't fail, or the default
abbrev pub GivesKey : Bool → Output → Input → List ℕ → Type 0
GivesKey false out key k = k ≡ default_key
GivesKey true out key k = (bytes : List ℕ) × (key.left_before ≡ Some bytes) × (key_or_default bytes ≡ Some k)
    × NoFault (around key out)

-- completeness, under that key
abbrev pub FleetsComplete : (named_key frames : Bool) → Output → ℕ → (key main : Input) → Type 0
FleetsComplete named_key frames out code key main =
    (k : List ℕ) → GivesKey named_key out key k
    → Completes k frames (around main out) main.left_before out.sent_before out.sent_after code
