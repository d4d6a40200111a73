use Rattle.std.proofs.Common.{Some, sym, ap, ◌∙◌}
use Rattle.mav_names.specs.declared.names.Name.{Name}
use Rattle.plan_items.specs.declared.messages.PlanMsg.TheVariants.{Ping}
use Rattle.plan_upload.specs.Changes.{change_by}
use Rattle.plan_upload.specs.Drone.{DroneStep}
use Rattle.plan_upload.proofs.DroneCalls.{called, unheard}
use Rattle.plan_upload.proofs.Unkept.{count_quiet, ack_quiet, list_quiet, request_quiet}
use Rattle.plan_upload.proofs.drone.Drone.step.Goals as goal

pub returns-then-not-hears : goal.returns-then-not-hears
returns-then-not-hears c =
    let t = unheard c.args.keeps c.args.self.now c.args.from c.args.msg.now c.hears.result c.hears.ensures c.if-not-hears.true in
    record {
      drone = ap (λ (t : DroneStep). t.drone) t;
      answer = c.unchanging.ensures.answer ∙ ap (λ (t : DroneStep). t.answer) t;
      change = c.unchanging.ensures.change ∙ ap (λ (t : DroneStep). change_by t.event) t;
    }

pub returns-in-Ping : goal.returns-in-Ping
returns-in-Ping c =
    let t = called c.args.keeps c.args.self.now c.args.from c.args.msg.now _ c.hears.result c.hears.ensures c.if-not-hears.false c.in-Ping.is in
    record {
      drone = ap (λ (t : DroneStep). t.drone) t;
      answer = c.unchanging-in-Ping.ensures.answer ∙ ap (λ (to : Name). Some (Ping to c.in-Ping.usec c.in-Ping.seq)) c.node_of.ensures ∙ ap (λ (t : DroneStep). t.answer) t;
      change = c.unchanging-in-Ping.ensures.change ∙ ap (λ (t : DroneStep). change_by t.event) t;
    }

pub returns-in-Count : goal.returns-in-Count
returns-in-Count c =
    let t = called c.args.keeps c.args.self.now c.args.from c.args.msg.now _ c.hears.result c.hears.ensures c.if-not-hears.false c.in-Count.is in
    record {
      drone = c.count.ensures.drone ∙ ap (λ (t : DroneStep). t.drone) t;
      answer = c.unchanging-in-Count.ensures.answer ∙ c.count.ensures.answer ∙ ap (λ (t : DroneStep). t.answer) t;
      change = c.unchanging-in-Count.ensures.change ∙ sym (count_quiet c.args.self.now c.args.from c.in-Count.count c.in-Count.kind) ∙ ap (λ (t : DroneStep). change_by t.event) t;
    }

pub returns-in-Item : goal.returns-in-Item
returns-in-Item c =
    let t = called c.args.keeps c.args.self.now c.args.from c.args.msg.now _ c.hears.result c.hears.ensures c.if-not-hears.false c.in-Item.is in
    record {
      drone = c.item.ensures.drone ∙ ap (λ (t : DroneStep). t.drone) t;
      answer = c.item.ensures.answer ∙ ap (λ (t : DroneStep). t.answer) t;
      change = c.item.ensures.change ∙ ap (λ (t : DroneStep). change_by t.event) t;
    }

pub returns-in-Ack : goal.returns-in-Ack
returns-in-Ack c =
    let t = called c.args.keeps c.args.self.now c.args.from c.args.msg.now _ c.hears.result c.hears.ensures c.if-not-hears.false c.in-Ack.is in
    record {
      drone = c.ack.ensures.drone ∙ ap (λ (t : DroneStep). t.drone) t;
      answer = c.unchanging-in-Ack.ensures.answer ∙ c.ack.ensures.answer ∙ ap (λ (t : DroneStep). t.answer) t;
      change = c.unchanging-in-Ack.ensures.change ∙ sym (ack_quiet c.args.self.now c.args.from c.in-Ack.code c.in-Ack.kind) ∙ ap (λ (t : DroneStep). change_by t.event) t;
    }

pub returns-in-Clear : goal.returns-in-Clear
returns-in-Clear c =
    let t = called c.args.keeps c.args.self.now c.args.from c.args.msg.now _ c.hears.result c.hears.ensures c.if-not-hears.false c.in-Clear.is in
    record {
      drone = c.clear.ensures.drone ∙ ap (λ (t : DroneStep). t.drone) t;
      answer = c.clear.ensures.answer ∙ ap (λ (t : DroneStep). t.answer) t;
      change = c.clear.ensures.change ∙ ap (λ (t : DroneStep). change_by t.event) t;
    }

pub returns-in-List : goal.returns-in-List
returns-in-List c =
    let t = called c.args.keeps c.args.self.now c.args.from c.args.msg.now _ c.hears.result c.hears.ensures c.if-not-hears.false c.in-List.is in
    record {
      drone = c.list.ensures.drone ∙ ap (λ (t : DroneStep). t.drone) t;
      answer = c.unchanging-in-List.ensures.answer ∙ c.list.ensures.answer ∙ ap (λ (t : DroneStep). t.answer) t;
      change = c.unchanging-in-List.ensures.change ∙ sym (list_quiet c.args.self.now c.args.from c.in-List.kind) ∙ ap (λ (t : DroneStep). change_by t.event) t;
    }

pub returns-in-Request : goal.returns-in-Request
returns-in-Request c =
    let t = called c.args.keeps c.args.self.now c.args.from c.args.msg.now _ c.hears.result c.hears.ensures c.if-not-hears.false c.in-Request.is in
    record {
      drone = c.request.ensures.drone ∙ ap (λ (t : DroneStep). t.drone) t;
      answer = c.unchanging-in-Request.ensures.answer ∙ c.request.ensures.answer ∙ ap (λ (t : DroneStep). t.answer) t;
      change = c.unchanging-in-Request.ensures.change ∙ sym (request_quiet c.args.self.now c.args.from c.args.self.now.download c.in-Request.seq c.in-Request.kind) ∙ ap (λ (t : DroneStep). change_by t.event) t;
    }
