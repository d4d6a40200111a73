use Rattle.std.proofs.Common.{true, false, Option, refl, sym, ap, ◌∙◌}
use Rattle.plan_upload.specs.Changes.{install_of, change_by}
use Rattle.plan_upload.specs.Drone.{DroneState, DroneStep, Upload, closed}
use Rattle.plan_upload.specs.DroneView.{drone_view}
use Rattle.plan_upload.specs.Gathering.{asked_of, acked_of, installed_by, kind_in}
use Rattle.plan_upload.proofs.DroneCalls.{judged, installs_kind}
use Rattle.plan_upload.proofs.drone.Drone.item.Goals as goal

pub returns-in-NotOwn : goal.returns-in-NotOwn
returns-in-NotOwn c =
    let t = judged c.args.keeps c.args.keeps (drone_view c.self.inside) c.args.self.now c.args.from c.args.seq c.args.kind c.args.item.now c.judge.result _ refl c.self.view_is c.judge.ensures c.in-NotOwn.is in
    record {
      drone = sym c.self.view_is ∙ ap (λ (t : DroneStep). t.drone) t;
      answer = c.unchanging.ensures.answer ∙ ap (λ (t : DroneStep). t.answer) t;
      change = c.unchanging.ensures.change ∙ ap (λ (t : DroneStep). change_by t.event) t;
    }

pub returns-in-AskAgain : goal.returns-in-AskAgain
returns-in-AskAgain c =
    let t = judged c.args.keeps c.args.keeps (drone_view c.self.inside) c.args.self.now c.args.from c.args.seq c.args.kind c.args.item.now c.judge.result _ refl c.self.view_is c.judge.ensures c.in-AskAgain.is in
    record {
      drone = sym c.self.view_is ∙ ap (λ (t : DroneStep). t.drone) t;
      answer = c.unchanging-in-AskAgain.ensures.answer ∙ c.asked.ensures ∙ ap (λ (t : DroneStep). t.answer) t;
      change = c.unchanging-in-AskAgain.ensures.change ∙ ap (λ (t : DroneStep). change_by t.event) t;
    }

pub returns-in-Refuse : goal.returns-in-Refuse
returns-in-Refuse c =
    let t = judged c.args.keeps c.args.keeps (drone_view c.self.inside) c.args.self.now c.args.from c.args.seq c.args.kind c.args.item.now c.judge.result _ refl c.self.view_is c.judge.ensures c.in-Refuse.is in
    record {
      drone = c.refuse.ensures.drone ∙ ap (λ (d : DroneState). closed d c.args.from) (sym c.self.view_is) ∙ ap (λ (t : DroneStep). t.drone) t;
      answer = c.refuse.ensures.answer ∙ ap (λ (d : DroneState). acked_of d.upload c.args.from c.in-Refuse.code) (sym c.self.view_is) ∙ ap (λ (t : DroneStep). t.answer) t;
      change = c.refuse.ensures.change ∙ ap (λ (t : DroneStep). change_by t.event) t;
    }

pub returns-in-Gather : goal.returns-in-Gather
returns-in-Gather c =
    let t = judged c.args.keeps c.args.keeps (drone_view c.self.inside) c.args.self.now c.args.from c.args.seq c.args.kind c.args.item.now c.judge.result _ refl c.self.view_is c.judge.ensures c.in-Gather.is in
    record {
      drone = ap (λ (u : Option Upload). record (drone_view c.self.inside) { upload = u }) c.gather.ensures ∙ ap (λ (t : DroneStep). t.drone) t;
      answer = c.unchanging-in-Gather.ensures.answer ∙ (c.asked-in-Gather.ensures ∙ ap (λ (u : Option Upload). asked_of u c.args.from) c.gather.ensures) ∙ ap (λ (t : DroneStep). t.answer) t;
      change = c.unchanging-in-Gather.ensures.change ∙ ap (λ (t : DroneStep). change_by t.event) t;
    }

pub returns-in-Install : goal.returns-in-Install
returns-in-Install c =
    let t = judged c.args.keeps true (drone_view c.self.inside) c.args.self.now c.args.from c.args.seq c.args.kind c.args.item.now c.judge.result _ c.if-keeps.true c.self.view_is c.judge.ensures c.in-Install.is in
    record {
      drone = c.install.ensures.drone ∙ ap (λ (d : DroneState). installed_by d c.args.from d.upload c.args.item.now) (sym c.self.view_is) ∙ ap (λ (t : DroneStep). t.drone) t;
      answer = c.install.ensures.answer ∙ ap (λ (d : DroneState). acked_of d.upload c.args.from 0) (sym c.self.view_is) ∙ ap (λ (t : DroneStep). t.answer) t;
      change = c.install.ensures.change ∙ ap (λ (d : DroneState). install_of (kind_in d.upload)) (sym c.self.view_is) ∙ installs_kind c.self.inside.upload c.args.from c.args.item.now ∙ ap (λ (t : DroneStep). change_by t.event) t;
    }

pub returns-in-Install-2 : goal.returns-in-Install-2
returns-in-Install-2 c =
    let t = judged c.args.keeps false (drone_view c.self.inside) c.args.self.now c.args.from c.args.seq c.args.kind c.args.item.now c.judge.result _ c.if-keeps.false c.self.view_is c.judge.ensures c.in-Install-2.is in
    record {
      drone = c.refuse-in-Install-2.ensures.drone ∙ ap (λ (d : DroneState). closed d c.args.from) (sym c.self.view_is) ∙ ap (λ (t : DroneStep). t.drone) t;
      answer = c.refuse-in-Install-2.ensures.answer ∙ ap (λ (d : DroneState). acked_of d.upload c.args.from 1) (sym c.self.view_is) ∙ ap (λ (t : DroneStep). t.answer) t;
      change = c.refuse-in-Install-2.ensures.change ∙ ap (λ (t : DroneStep). change_by t.event) t;
    }
