-- An order that is followed, or isn't.
use Rattle.std.proofs.Common.{◌≡◌, inl, inr, ℕ, List, [], ◌∷◌, ◌++◌, Bool, true, false, Option, Some, None, refl, sym, ap, ◌∙◌}
use Rattle.std.specs.Prelude.{◌||◌, is_some}
use Rattle.std.proofs.lemmas.List.{append-nil}
use Rattle.plan_upload.specs.declared.faults.OpFault.{OpFault}
use Rattle.plan_upload.specs.declared.faults.OpFault.TheVariants.{Busy, EmptyPlan, PingsSpent, NotFit, NoMemory as NoBuffer}
use Rattle.plan_upload.specs.Station.{StationState}
use Rattle.plan_upload.specs.Refusals.{first_of, refusal}
use Rattle.mav_nodes.specs.declared.orders.Order.{Order}
use Rattle.mav_nodes.specs.declared.orders.Order.TheVariants.{Begin as BeginOrder, Cancel, Clear, Get, Command as CommandOrder, ParamRead, ParamSet, ParamList, File as FileOrder}
use Rattle.mav_nodes.specs.declared.faults.NodeFault.{NodeFault}
use Rattle.mav_nodes.specs.declared.faults.NodeFault.TheVariants.{StampsSpent as NoStamp, Store, NoMemory as NoNodeMemory}
use Rattle.mav_nodes.specs.declared.faults.OrderFault.{OrderFault}
use Rattle.mav_nodes.specs.declared.faults.OrderFault.TheVariants.{Begin, Op, Command, Param, File, Node as NodeFails}
use Rattle.mav_ftp.specs.declared.client.faults.FtpFault.{FtpFault}
use Rattle.mav_nodes.specs.Nodes.{StationSide, StationView, IsStation, order_refusal, order_fault, command_refusal, params_refusal, file_refusal}
use Rattle.mav_nodes.specs.Promises.{OrderFails}
use Rattle.node_reports.specs.Nodes.{Node, Station}
use Rattle.node_reports.specs.Calls.{as_station}
use Rattle.run_status.specs.declared.input_errors.InputError.TheVariants.{StampsSpent}
use Rattle.run_status.specs.declared.live_ends.LiveEnd.TheVariants.{StoreFault}
use Rattle.run_status.specs.declared.run_ends.RunEnd.{RunEnd}
use Rattle.run_status.specs.declared.run_ends.RunEnd.TheVariants.{Stopped, Live}
use Rattle.live_node.specs.declared.nodes.LiveNode.{LiveNode}
use Rattle.live_node.specs.declared.run_log.RunLog.{RunLog}
use Rattle.live_node.specs.Calls.{LiveCall, call_does}
use Rattle.live_node.specs.Ports.{IsTellingEnd, end_by}
use Rattle.live_node.specs.Runs.{Outside, Stores}
use Rattle.live_node.specs.Orders.{refused_end, op_end, OrderFailsAt}
use Rattle.live_node.specs.Progress.{Output, CallsStopped}
use Rattle.live_node.proofs.Results.{because}
use Rattle.live_node.proofs.Calls.{written, regroup}
use Rattle.live_node.specs.GivenUp.{CallLeaves}

-- ---- refusals

by_core : (x : Option OpFault) (fault : OpFault) (more : Bool) → x ≡ Some fault → (is_some x || more) ≡ true
by_core None fault more e = cc
by_core (Some other) fault more e = refl

by_command : (x : Bool) (y : Option ℕ) (number : ℕ) (z : Bool) → y ≡ Some number → (x || (is_some y || z)) ≡ true
by_command true y number z e = refl
by_command false None number z e = cc
by_command false (Some other) number z e = refl

by_params : (x y z w : Bool) → z ≡ true → (x || (y || (z || w))) ≡ true
by_params true y z w e = refl
by_params false true z w e = refl
by_params false false true w e = refl
by_params false false false w e = cc

by_file : (x y z : Bool) (w : Option FtpFault) (fault : FtpFault) → w ≡ Some fault → (x || (y || (z || is_some w))) ≡ true
by_file true y z w fault e = refl
by_file false true z w fault e = refl
by_file false false true w fault e = refl
by_file false false false None fault e = cc
by_file false false false (Some other) fault e = refl

-- ---- faults

op_not_stamps : (fault : OpFault) → op_end fault ≡ Stopped StampsSpent → ⊥
op_not_stamps (Busy phase) e = cc
op_not_stamps EmptyPlan e = cc
op_not_stamps PingsSpent e = cc
op_not_stamps (NotFit limit) e = cc
op_not_stamps NoBuffer e = cc

refused_not_stamps : refused_end ≡ Stopped StampsSpent → ⊥
refused_not_stamps e = cc

node_not_refused : (fault : NodeFault) → end_by fault ≡ refused_end → ⊥
node_not_refused NoStamp e = cc
node_not_refused Store e = cc
node_not_refused NoNodeMemory e = cc

-- want of memory for a download's buffer is no refusal
get_refused : (known : Option OpFault) (fault : OpFault) → first_of known (Some NoBuffer) ≡ Some fault → op_end fault ≡ refused_end → known ≡ Some fault
get_refused (Some other) fault e end = e
get_refused None (Busy phase) e end = cc
get_refused None EmptyPlan e end = cc
get_refused None PingsSpent e end = cc
get_refused None (NotFit limit) e end = cc
get_refused None NoBuffer e end = cc

never_fails : (fault : OpFault) (A : Type 0) → ◌≡◌ {A = Option OpFault} None (Some fault) → A
never_fails fault A e = cc

core_refuses : (order : Order) (s : StationState) (fault : OpFault) → order_fault s order ≡ Some fault → op_end fault ≡ refused_end → order_refusal s order ≡ Some fault
core_refuses (BeginOrder drone kind plan) s fault e end = never_fails fault _ e
core_refuses Cancel s fault e end = never_fails fault _ e
core_refuses (Clear drone kind) s fault e end = e
core_refuses (Get drone kind) s fault e end = get_refused (refusal s) fault e end
core_refuses (CommandOrder drone number word) s fault e end = never_fails fault _ e
core_refuses (ParamRead drone id) s fault e end = never_fails fault _ e
core_refuses (ParamSet drone param) s fault e end = never_fails fault _ e
core_refuses (ParamList drone) s fault e end = never_fails fault _ e
core_refuses (FileOrder drone op) s fault e end = never_fails fault _ e

fails : (clock : ℕ) (order : Order) (view : StationView) (fault : OrderFault) → OrderFails clock order view fault → (n : StationSide) → IsStation n view → OrderFailsAt clock order (Station n) fault
fails clock order view (Begin f) h n is = record {
  refused = λ e. by_core (order_refusal n.core order) f.why _ (ap (λ s. order_refusal s order) (sym is.core) ∙ h.0);
  spent = λ e. absurd (op_not_stamps f.why e);
}
fails clock order view (Op f) h n is = record {
  refused = λ e. by_core (order_refusal n.core order) f _ (ap (λ s. order_refusal s order) (sym is.core) ∙ core_refuses order view.station f h e);
  spent = λ e. absurd (op_not_stamps f e);
}
fails clock order view (Command busy) h n is = record {
  refused = λ e. by_command (is_some (order_refusal n.core order)) (command_refusal n.services order) busy.command _ (ap (λ v. command_refusal v order) (sym is.services) ∙ h);
  spent = λ e. absurd (refused_not_stamps e);
}
fails clock order view (Param busy) h n is = record {
  refused = λ e. by_params (is_some (order_refusal n.core order)) (is_some (command_refusal n.services order)) (params_refusal n.services order) (is_some (file_refusal n.services order)) (ap (λ v. params_refusal v order) (sym is.services) ∙ h);
  spent = λ e. absurd (refused_not_stamps e);
}
fails clock order view (File fault) h n is = record {
  refused = λ e. by_file (is_some (order_refusal n.core order)) (is_some (command_refusal n.services order)) (params_refusal n.services order) (file_refusal n.services order) fault (ap (λ v. file_refusal v order) (sym is.services) ∙ h);
  spent = λ e. absurd (refused_not_stamps e);
}
fails clock order view (NodeFails NoStamp) h n is = record {
  refused = λ e. absurd (node_not_refused NoStamp e);
  spent = λ e. ap as_station (h.1 n is);
}
fails clock order view (NodeFails Store) h n is = absurd h.1
fails clock order view (NodeFails NoNodeMemory) h n is = record {
  refused = λ e. absurd (node_not_refused NoNodeMemory e);
  spent = λ e. absurd (memory e);
}
  where
    memory : end_by NoNodeMemory ≡ Stopped StampsSpent → ⊥
    memory e = cc

-- ---- ends

pub not_refused : (end : RunEnd) → IsTellingEnd end → end ≡ refused_end → ⊥
not_refused end (inl e) h = cc
not_refused end (inr (inl e)) h = cc
not_refused end (inr (inr e)) h = cc

-- ---- a call that wasn't made

abbrev pub not_followed : {S : Type 0} (stores : Stores S) (before now : S) (end : RunEnd) (start : Node) (made : List LiveCall) (call : LiveCall) (live : LiveNode) (t : RunLog) (first last : Outside) → (o : Output stores before now start made live t first last) → (end ≡ Stopped StampsSpent → call_does call o.node ≡ None) → (end ≡ Live StoreFault → ⊥) → CallLeaves (stores.contents now) o.node (call ∷ []) → CallsStopped stores before now end start made (call ∷ []) first last
not_followed stores before now end start made call live t first last o spent store left = record {
  more = [];
  rest = call ∷ [];
  are = refl;
  written = regroup stores before now (Some end) start made (made ++ []) first last (sym (append-nil made)) (written stores before now (Some end) start made live t first last o (λ e. store (because e)));
  spent = spent;
  leaves = λ up. left;
}
