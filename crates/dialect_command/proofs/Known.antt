-- How a run goes on with the definitions that its line names, or halts at them.
use Rattle.std.proofs.Common.{◌≡◌, inl, inr, Bool, true, false, List, refl, subst}
use Rattle.field_layout.specs.Definition.{Definition}
use Rattle.mav_profile.specs.Profile.{profile_definitions}
use Rattle.run_status.specs.Runs.{CommandSpec}
use Rattle.run_status.specs.Seen.{Input}
use Rattle.dialect_command.specs.Spec.{definitions_spec}
use Rattle.dialect_command.specs.Known.{WithDefinitions, KnownIs}

-- the definitions were read, or they are the profile's, and then the run goes on
pub after_definitions : (named : Bool) (runs : CommandSpec → Input → Type 0) (halted others : Type 0) (defs : Input) (ds : List Definition) (next : List Definition → Type 0) → KnownIs named defs ds → next ds → WithDefinitions named runs halted others defs next
after_definitions false runs halted others defs ds next is n = subst next is.0 n
after_definitions true runs halted others defs ds next holds n = inr (ds, holds, n)

-- it halted there
pub at_definitions : (named : Bool) (runs : CommandSpec → Input → Type 0) (halted others : Type 0) (defs : Input) (next : List Definition → Type 0) → (named ≡ true → runs definitions_spec defs) → halted → others → (named ≡ false → next profile_definitions) → WithDefinitions named runs halted others defs next
at_definitions false runs halted others defs next some h o none = none refl
at_definitions true runs halted others defs next some h o none = inl (some refl, h, o)
