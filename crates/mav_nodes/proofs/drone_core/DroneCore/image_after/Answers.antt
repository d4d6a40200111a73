use Rattle.std.proofs.Common.{ℕ, true, false, ap, ◌∙◌, sym, subst, arith}
use Rattle.std.proofs.lemmas.Result.{err_from_is_err_and}
use Rattle.plan_image.specs.Image.{IsImageOf}
use Rattle.plan_upload.specs.Drone.{DroneStep, drone_step}
use Rattle.plan_upload.proofs.Unkept.{unkept_plans}
use Rattle.mav_nodes.proofs.Changes.{shapes, same_image, one_image, changes_answered}
use Rattle.mav_nodes.proofs.drone_core.DroneCore.image_after.Goals as goal

pub returns-in_err-kept_after-in_default : goal.returns-in_err-kept_after-in_default
returns-in_err-kept_after-in_default c =
    let e = err_from_is_err_and c.from_residual.result c.from_residual.ensures.1 in
    let d = c.args.self.now in
    let s = shapes d c.args.from c.args.message.now in
    rw e.1 (record {
      bytes = tt;
      short = tt;
      changed = tt;
      same = tt;
      one = tt;
      unkept = λ low bytes. same_image d (drone_step false d c.args.from c.args.message.now).drone low bytes s.unkept_sys (unkept_plans d c.args.from c.args.message.now);
    })

pub returns-in-Same-clause-same : goal.returns-in-Same-clause-same
returns-in-Same-clause-same c = λ none low bytes.
    let d = c.args.self.now in
    let s = shapes d c.args.from c.args.message.now in
    let unchanged = ap (λ (step : DroneStep). step.drone.plans) (c.change.ensures.same c.in-Same.is) ∙ unkept_plans d c.args.from c.args.message.now in
    same_image d (drone_step true d c.args.from c.args.message.now).drone low bytes s.sys unchanged

pub returns-in-Same-clause-unkept : goal.returns-in-Same-clause-unkept
returns-in-Same-clause-unkept c = λ low bytes.
    let d = c.args.self.now in
    let s = shapes d c.args.from c.args.message.now in
    same_image d (drone_step false d c.args.from c.args.message.now).drone low bytes s.unkept_sys (unkept_plans d c.args.from c.args.message.now)

pub returns-in_ok-kept_after-in_default : goal.returns-in_ok-kept_after-in_default
returns-in_ok-kept_after-in_default c =
    let d = c.args.self.now in
    let m = c.args.message.now in
    let s = shapes d c.args.from m in
    let after = (drone_step true d c.args.from m).drone in
    record {
      bytes = subst (λ (sys : ℕ). IsImageOf sys c.args.low after.plans c.in_ok-kept_after-in_default.field-0.items) (sym s.sys) c.in_ok-kept_after-in_default.ensures.image;
      short = omega (arith, c.in_ok-kept_after-in_default.ensures.short);
      changed = λ some. changes_answered d c.args.from m (λ e. c.in_default.not-Same (c.change.ensures.change ∙ e));
      same = λ none. absurd (cc);
      one = λ some low a b. one_image d low a b;
      unkept = λ low bytes. same_image d (drone_step false d c.args.from m).drone low bytes s.unkept_sys (unkept_plans d c.args.from m);
    }
