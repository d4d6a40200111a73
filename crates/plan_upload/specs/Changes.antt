-- What a plan message would do to a drone's plans.
use Rattle.std.specs.Prelude.{Option, Some, None, true}
use Rattle.mav_names.specs.declared.names.Stream.{Stream}
use Rattle.plan_items.specs.Kinds.{kind_of}
use Rattle.plan_items.specs.declared.kinds.PlanKind.{PlanKind}
use Rattle.plan_items.specs.declared.messages.PlanMsg.{PlanMsg}
use Rattle.plan_upload.specs.Drone.{DroneState, PlanEvent, Quiet, Installs, Empties, Shows, drone_step}
use Rattle.plan_upload.specs.declared.changes.Change.{Change}
use Rattle.plan_upload.specs.declared.changes.Change.TheVariants.{Same, Install, Empty}

abbrev pub install_of : Option PlanKind → Change
install_of None = Same
install_of (Some kind) = Install kind

-- the change of an event
abbrev pub change_by : PlanEvent → Change
change_by Quiet = Same
change_by (Installs by kind items) = install_of (kind_of kind)
change_by (Empties by kind) = Empty (kind_of kind)
change_by (Shows to kind items) = Same

-- the change that a step makes if the store keeps new plans
abbrev pub change_of : DroneState → Stream → PlanMsg → Change
change_of d s m = change_by (drone_step true d s m).event
