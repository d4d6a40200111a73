use Rattle.std.specs.Prelude.{IfOk, IfErr}
use Rattle.std.proofs.Common.{◌≡◌, ap, ◌∙◌, subst, Some, None}
use Rattle.scenario_lines.specs.Faults.{IfBad}
use Rattle.scenario_lines.specs.Grammar.{line_of}
use Rattle.scenario_lines.specs.Reasons.{reason_against}
use Rattle.scenario_lines.specs.LineContext.{LineContext, context_of}
use Rattle.fleet_world.specs.WorldView.{names_in, context_in}
use Rattle.fleet_world.proofs.world.World.read.Goals as goal

pub returns-clause-ok : goal.returns-clause-ok
returns-clause-ok c =
    let context : context_of (names_in c.self.inside.fleet.nodes) c.len-drafted.result c.clock.result ≡ context_in c.args.self.now =
    (λ i. context_of (names_in c.self.inside.fleet.nodes) (c.len-drafted.ensures i) (c.clock.ensures i)) ∙ ap context_in c.self.view_is in
    subst (λ (s : LineContext). IfOk c.read.result (λ line. (reason_against s c.args.text.now ≡ None) × (line ≡ line_of c.args.text.now))) context c.read.ensures.ok

pub returns-clause-bad : goal.returns-clause-bad
returns-clause-bad c =
    let context : context_of (names_in c.self.inside.fleet.nodes) c.len-drafted.result c.clock.result ≡ context_in c.args.self.now =
    (λ i. context_of (names_in c.self.inside.fleet.nodes) (c.len-drafted.ensures i) (c.clock.ensures i)) ∙ ap context_in c.self.view_is in
    subst (λ (s : LineContext). IfErr c.read.result (λ e. IfBad e (λ r. reason_against s c.args.text.now ≡ Some r))) context c.read.ensures.bad
