-- An order to a station, and why it isn't followed.
use Rattle.std.specs.Prelude.{◌≡◌, ◌||◌, ℕ, Bool, true, false, None, is_some}
use Rattle.plan_upload.specs.declared.faults.OpFault.{OpFault}
use Rattle.plan_upload.specs.declared.faults.OpFault.TheVariants.{Busy, EmptyPlan, PingsSpent, NotFit}
use Rattle.plan_upload.specs.declared.faults.OpFault.TheVariants.{NoMemory as NoBuffer}
use Rattle.mav_nodes.specs.declared.orders.Order.{Order}
use Rattle.mav_nodes.specs.declared.faults.OrderFault.{OrderFault}
use Rattle.mav_nodes.specs.declared.faults.OrderFault.TheVariants.{Begin, Op, Command, Param, File, Node as NodeFails}
use Rattle.mav_nodes.specs.Nodes.{StationSide, order_refusal, command_refusal, params_refusal, file_refusal}
use Rattle.node_reports.specs.Nodes.{Node, Drone, Station}
use Rattle.run_status.specs.declared.input_errors.Place.TheVariants.{Operation}
use Rattle.run_status.specs.declared.input_errors.Reason.TheVariants.{Refused}
use Rattle.run_status.specs.declared.input_errors.InputError.TheVariants.{Bad, StampsSpent}
use Rattle.run_status.specs.declared.run_ends.RunEnd.{RunEnd}
use Rattle.run_status.specs.declared.run_ends.RunEnd.TheVariants.{Stopped, NoMemory}
use Rattle.live_node.specs.Calls.{node_obeys}
use Rattle.live_node.specs.Ports.{end_by}

-- a station refuses an order: its core does, or a command or a question about parameters is open, or what it asks of
-- files is refused
abbrev pub station_refuses : StationSide → Order → Bool
station_refuses n order =
    is_some (order_refusal n.core order)
    || (is_some (command_refusal n.services order)
    || (params_refusal n.services order || is_some (file_refusal n.services order)))

abbrev pub node_refuses : Node → Order → Bool
node_refuses (Drone n) order = false
node_refuses (Station n) order = station_refuses n order

-- how a run ends at a refused order
abbrev pub refused_end : RunEnd
refused_end = Stopped (Bad Operation Refused)

-- and by what its core answers
abbrev pub op_end : OpFault → RunEnd
op_end (Busy phase) = refused_end
op_end EmptyPlan = refused_end
op_end PingsSpent = refused_end
op_end (NotFit limit) = refused_end
op_end NoBuffer = NoMemory

abbrev pub order_end : OrderFault → RunEnd
order_end (Begin fault) = op_end fault.why
order_end (Op fault) = op_end fault
order_end (Command busy) = refused_end
order_end (Param busy) = refused_end
order_end (File fault) = refused_end
order_end (NodeFails fault) = end_by fault

-- an order isn't followed: it is refused, or no timestamp is left for its message, or there is no memory
pub record OrderFailsAt (clock : ℕ) (order : Order) (node : Node) (fault : OrderFault) : Type 0 where
  pub refused : order_end fault ≡ refused_end → node_refuses node order ≡ true
  pub spent : order_end fault ≡ Stopped StampsSpent → node_obeys clock order node ≡ None
