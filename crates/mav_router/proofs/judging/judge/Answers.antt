use Rattle.std.proofs.Common.{◌∙◌, ap}
use Rattle.mav_router.specs.Journal.{Rules, target_by}
use Rattle.mav_router.proofs.judging.judge.Goals as goal

pub returns-clause-target : goal.returns-clause-target
returns-clause-target c =
    let r = c.rules.inside in
    c.target.ensures r.key r.ports r.plain ∙ ap (λ (rules : Rules). target_by rules c.args.frame.now) c.rules.view_is
