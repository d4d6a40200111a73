-- What is read of the input of the key that a line names, or doesn't name.
use Rattle.std.specs.Prelude.{◌≡◌, ◌⊎◌, ℕ, Bool, true, false, List, None, Some}
use Rattle.std.specs.declared.option.Option.{Option}
use Rattle.run_status.specs.Runs.{CommandSpec}
use Rattle.run_status.specs.Seen.{Input}
use Rattle.command_inputs.specs.KeyInputs.{key_spec, given_key_spec, HoldsKey, HoldsGivenKey, TookAtMost}

-- a key that is named is read first: the run halts at it and reads nothing else, or it goes on with the key; without
-- one it goes on at once
abbrev pub WithKey : Bool → (CommandSpec → Input → Type 0) → (halted others : Type 0) → Input
    → (Option (List ℕ) → Type 0) → Type 0
WithKey false runs halted others key next = next None
WithKey true runs halted others key next =
    (runs key_spec key × halted × TookAtMost 67 key.left_before key.left_after × others)
    ⊎ ((bytes : List ℕ) × HoldsKey key.spent key.left_before key.left_after bytes × next (Some bytes))

-- a key was named and read, or none was named
abbrev pub KeyIs : Bool → Input → Option (List ℕ) → Type 0
KeyIs false key k = (k ≡ None) × key.unread
KeyIs true key k = (bytes : List ℕ) × (k ≡ Some bytes) × HoldsKey key.spent key.left_before key.left_after bytes

-- a key that must be named is read first: the run halts at it and reads nothing else, or it goes on with it
abbrev pub WithGivenKey : (CommandSpec → Input → Type 0) → (halted others : Type 0) → Input → (List ℕ → Type 0)
    → Type 0
WithGivenKey runs halted others key next =
    (runs given_key_spec key × halted × TookAtMost 67 key.left_before key.left_after × others)
    ⊎ ((bytes : List ℕ) × HoldsGivenKey key.spent key.left_before key.left_after bytes × next bytes)
