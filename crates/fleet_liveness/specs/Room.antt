-- A step that is done.
use Rattle.std.specs.Prelude.{Ok, Err}
use Rattle.std.specs.declared.result.Result.{Result}
use Rattle.fleet_world.specs.Steps.{Step, StepError}

-- the world met no limit, and no node lacked a timestamp
abbrev pub IsDone : Result Step StepError → Type 0
IsDone (Ok t) = Unit {0}
IsDone (Err error) = ⊥
