-- What contracts see of a server, of its answers that wait, and of a client.
use Rattle.std.specs.Prelude.{ℕ, suc, ◌-◌, Bool, true, false, List, [], ◌∷◌, length, take, drop, Option, Some, None}
use Rattle.mav_messages.specs.declared.messages.Message.{Message}
use Rattle.param_proto.specs.declared.params.Param.{Param}
use Rattle.param_proto.specs.declared.operations.Task.{Task as OpenTask}
use Rattle.param_proto.specs.declared.operations.Task.TheVariants.{Read, Set, List as Listing}
use Rattle.param_proto.specs.declared.operations.OpenOperation.{OpenOperation}
use Rattle.param_proto.specs.Server.{values_from}
use Rattle.param_proto.specs.Client.{Task, Reads, Sets_to, All_listed, Operation}

-- the values of the parameters from an index up to another
abbrev pub values_between : List Param → ℕ → ℕ → List Message
values_between params next end = values_from (length params) next (take (end - next) (drop next params))

-- the values, of which some were taken
abbrev pub value_if : Bool → Param → Option Param
value_if true p = Some p
value_if false p = None

abbrev pub values_view : List Bool → List Param → List (Option Param)
values_view [] ps = []
values_view (t ∷ ts) [] = []
values_view (t ∷ ts) (p ∷ ps) = value_if t p ∷ values_view ts ps

-- how many were taken one after another, from index 0 on
abbrev pub leading : List Bool → ℕ
leading [] = 0
leading (true ∷ ts) = suc (leading ts)
leading (false ∷ ts) = 0

abbrev pub task_view : OpenTask → Task
task_view (Read id) = Reads id
task_view (Set p) = Sets_to p
task_view Listing = All_listed

abbrev pub operation_view : OpenOperation → Operation
operation_view o = record { drone = o.drone; task = task_view o.task; idle = o.idle }

abbrev pub operations_view : Option OpenOperation → Option Operation
operations_view None = None
operations_view (Some o) = Some (operation_view o)
