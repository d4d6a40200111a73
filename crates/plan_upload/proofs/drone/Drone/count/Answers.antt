use Rattle.std.proofs.Common.{ℕ, Bool, false, Some, sym, ap, ◌∙◌, arith, not}
use Rattle.plan_items.specs.declared.messages.PlanMsg.{PlanMsg}
use Rattle.plan_items.proofs.KindNumbers.{number_of-kind_of}
use Rattle.plan_upload.specs.Drone.{DroneStep, opened}
use Rattle.plan_upload.specs.DroneView.{drone_view}
use Rattle.plan_upload.proofs.DroneCalls.{known_count, unknown_count, denied_count, empty_count, long_count, full_count}
use Rattle.plan_upload.proofs.drone.Drone.count.Goals as goal

pub returns-in_default-clause-drone : goal.returns-in_default-clause-drone
returns-in_default-clause-drone c = c.close.ensures ∙ ap (λ (t : DroneStep). t.drone) (unknown_count c.args.self.now c.args.from c.args.count c.args.kind c.of.result c.of.ensures c.in_default.is)

pub returns-in_default-clause-answer : goal.returns-in_default-clause-answer
returns-in_default-clause-answer c = ap (λ (m : PlanMsg). Some m) c.acknowledge.ensures ∙ ap (λ (t : DroneStep). t.answer) (unknown_count c.args.self.now c.args.from c.args.count c.args.kind c.of.result c.of.ensures c.in_default.is)

pub returns-then-is_of_other-clause-drone : goal.returns-then-is_of_other-clause-drone
returns-then-is_of_other-clause-drone c = ap (λ (t : DroneStep). t.drone) (denied_count (drone_view c.self.inside) c.args.self.now c.args.from c.args.count c.args.kind c.of.result c.in-Some.known c.is_of_other.result c.self.view_is c.of.ensures c.in-Some.is c.is_of_other.ensures c.if-is_of_other.true)

pub returns-then-is_of_other-clause-answer : goal.returns-then-is_of_other-clause-answer
returns-then-is_of_other-clause-answer c = ap (λ (m : PlanMsg). Some m) c.acknowledge-then-is_of_other.ensures ∙ ap (λ (t : DroneStep). t.answer) (denied_count (drone_view c.self.inside) c.args.self.now c.args.from c.args.count c.args.kind c.of.result c.in-Some.known c.is_of_other.result c.self.view_is c.of.ensures c.in-Some.is c.is_of_other.ensures c.if-is_of_other.true)

pub returns-then-count-eq0-clause-drone : goal.returns-then-count-eq0-clause-drone
returns-then-count-eq0-clause-drone c = c.close-then-count-eq0.ensures ∙ ap (λ (t : DroneStep). t.drone) (empty_count (drone_view c.self.inside) c.args.self.now c.args.from c.args.count c.args.kind c.of.result c.in-Some.known c.is_of_other.result c.self.view_is c.of.ensures c.in-Some.is c.is_of_other.ensures c.if-is_of_other.false c.if-count-eq0.true)

pub returns-then-count-eq0-clause-answer : goal.returns-then-count-eq0-clause-answer
returns-then-count-eq0-clause-answer c = ap (λ (m : PlanMsg). Some m) c.acknowledge-then-count-eq0.ensures ∙ ap (λ (t : DroneStep). t.answer) (empty_count (drone_view c.self.inside) c.args.self.now c.args.from c.args.count c.args.kind c.of.result c.in-Some.known c.is_of_other.result c.self.view_is c.of.ensures c.in-Some.is c.is_of_other.ensures c.if-is_of_other.false c.if-count-eq0.true)

pub returns-then-count-limit-clause-drone : goal.returns-then-count-limit-clause-drone
returns-then-count-limit-clause-drone c = c.close-then-count-limit.ensures ∙ ap (λ (t : DroneStep). t.drone) (long_count (drone_view c.self.inside) c.args.self.now c.args.from c.args.count c.args.kind c.of.result c.in-Some.known c.is_of_other.result c.limit.result c.self.view_is c.of.ensures c.in-Some.is c.is_of_other.ensures c.if-is_of_other.false (omega arith) c.limit.ensures c.if-count-limit.true)

pub returns-then-count-limit-clause-answer : goal.returns-then-count-limit-clause-answer
returns-then-count-limit-clause-answer c = ap (λ (m : PlanMsg). Some m) c.acknowledge-then-count-limit.ensures ∙ ap (λ (t : DroneStep). t.answer) (long_count (drone_view c.self.inside) c.args.self.now c.args.from c.args.count c.args.kind c.of.result c.in-Some.known c.is_of_other.result c.limit.result c.self.view_is c.of.ensures c.in-Some.is c.is_of_other.ensures c.if-is_of_other.false (omega arith) c.limit.ensures c.if-count-limit.true)

pub returns-then-not-has_place-clause-drone : goal.returns-then-not-has_place-clause-drone
returns-then-not-has_place-clause-drone c = ap (λ (t : DroneStep). t.drone) (ap (λ (place : Bool). known_count c.args.self.now c.args.from c.args.count c.args.kind false false false (not place)) (sym c.if-not-has_place.true) ∙ full_count (drone_view c.self.inside) c.args.self.now c.args.from c.args.count c.args.kind c.of.result c.in-Some.known c.is_of_other.result c.limit.result c.has_place.result c.self.view_is c.of.ensures c.in-Some.is c.is_of_other.ensures c.if-is_of_other.false (omega arith) c.limit.ensures c.if-count-limit.false c.has_place.ensures)

pub returns-then-not-has_place-clause-answer : goal.returns-then-not-has_place-clause-answer
returns-then-not-has_place-clause-answer c = ap (λ (m : PlanMsg). Some m) c.acknowledge-then-not-has_place.ensures ∙ ap (λ (t : DroneStep). t.answer) (ap (λ (place : Bool). known_count c.args.self.now c.args.from c.args.count c.args.kind false false false (not place)) (sym c.if-not-has_place.true) ∙ full_count (drone_view c.self.inside) c.args.self.now c.args.from c.args.count c.args.kind c.of.result c.in-Some.known c.is_of_other.result c.limit.result c.has_place.result c.self.view_is c.of.ensures c.in-Some.is c.is_of_other.ensures c.if-is_of_other.false (omega arith) c.limit.ensures c.if-count-limit.false c.has_place.ensures)

pub returns-clause-drone : goal.returns-clause-drone
returns-clause-drone c = c.open_upload.ensures ∙ ap (λ (n : ℕ). opened c.args.self.now c.args.from n c.args.count) (number_of-kind_of c.args.kind c.in-Some.known (sym c.of.ensures ∙ c.in-Some.is)) ∙ ap (λ (t : DroneStep). t.drone) (ap (λ (place : Bool). known_count c.args.self.now c.args.from c.args.count c.args.kind false false false (not place)) (sym c.if-not-has_place.false) ∙ full_count (drone_view c.self.inside) c.args.self.now c.args.from c.args.count c.args.kind c.of.result c.in-Some.known c.is_of_other.result c.limit.result c.has_place.result c.self.view_is c.of.ensures c.in-Some.is c.is_of_other.ensures c.if-is_of_other.false (omega arith) c.limit.ensures c.if-count-limit.false c.has_place.ensures)

pub returns-clause-answer : goal.returns-clause-answer
returns-clause-answer c = ap (λ (m : PlanMsg). Some m) c.request.ensures ∙ ap (λ (t : DroneStep). t.answer) (ap (λ (place : Bool). known_count c.args.self.now c.args.from c.args.count c.args.kind false false false (not place)) (sym c.if-not-has_place.false) ∙ full_count (drone_view c.self.inside) c.args.self.now c.args.from c.args.count c.args.kind c.of.result c.in-Some.known c.is_of_other.result c.limit.result c.has_place.result c.self.view_is c.of.ensures c.in-Some.is c.is_of_other.ensures c.if-is_of_other.false (omega arith) c.limit.ensures c.if-count-limit.false c.has_place.ensures)
