use Rattle.std.proofs.Common.{Some, ap, ◌∙◌}
use Rattle.plan_items.specs.declared.messages.PlanMsg.{PlanMsg}
use Rattle.plan_items.specs.declared.messages.PlanMsg.TheVariants.{Count}
use Rattle.plan_upload.specs.Drone.{DroneStep}
use Rattle.plan_upload.specs.DroneView.{drone_view}
use Rattle.plan_upload.proofs.DroneCalls.{unknown_list, denied_list, shown_list}
use Rattle.plan_upload.proofs.drone.Drone.list.Goals as goal

pub returns-in_default-clause-drone : goal.returns-in_default-clause-drone
returns-in_default-clause-drone c = ap (λ (t : DroneStep). t.drone) (unknown_list c.args.self.now c.args.from c.args.kind c.of.result c.of.ensures c.in_default.is)

pub returns-in_default-clause-answer : goal.returns-in_default-clause-answer
returns-in_default-clause-answer c = ap (λ (m : PlanMsg). Some m) c.acknowledge.ensures ∙ ap (λ (t : DroneStep). t.answer) (unknown_list c.args.self.now c.args.from c.args.kind c.of.result c.of.ensures c.in_default.is)

pub returns-then-is_of_other-clause-drone : goal.returns-then-is_of_other-clause-drone
returns-then-is_of_other-clause-drone c = ap (λ (t : DroneStep). t.drone) (denied_list (drone_view c.self.inside) c.args.self.now c.args.from c.args.kind c.of.result c.in-Some.known c.is_of_other.result c.self.view_is c.of.ensures c.in-Some.is c.is_of_other.ensures c.if-is_of_other.true)

pub returns-then-is_of_other-clause-answer : goal.returns-then-is_of_other-clause-answer
returns-then-is_of_other-clause-answer c = ap (λ (m : PlanMsg). Some m) c.acknowledge-then-is_of_other.ensures ∙ ap (λ (t : DroneStep). t.answer) (denied_list (drone_view c.self.inside) c.args.self.now c.args.from c.args.kind c.of.result c.in-Some.known c.is_of_other.result c.self.view_is c.of.ensures c.in-Some.is c.is_of_other.ensures c.if-is_of_other.true)

pub returns-clause-drone : goal.returns-clause-drone
returns-clause-drone c = ap (λ (t : DroneStep). t.drone) (shown_list (drone_view c.self.inside) c.args.self.now c.args.from c.args.kind c.of.result c.in-Some.known c.is_of_other.result _ c.copy.new.self c.self.view_is c.of.ensures c.in-Some.is c.is_of_other.ensures c.if-is_of_other.false c.of-plan.ensures.items c.copy.ensures)

pub returns-clause-answer : goal.returns-clause-answer
returns-clause-answer c = (λ k. Some (Count (c.node_of.ensures k) (c.len.ensures k) c.args.kind)) ∙ ap (λ (t : DroneStep). t.answer) (shown_list (drone_view c.self.inside) c.args.self.now c.args.from c.args.kind c.of.result c.in-Some.known c.is_of_other.result _ c.copy.new.self c.self.view_is c.of.ensures c.in-Some.is c.is_of_other.ensures c.if-is_of_other.false c.of-plan.ensures.items c.copy.ensures)
