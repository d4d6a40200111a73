use Rattle.std.proofs.Common.{sym, ◌∙◌, arith}
use Rattle.scenario_lines.specs.LineContext.{is_in_role}
use Rattle.fleet_world.specs.declared.nodes.Node.{Node}
use Rattle.fleet_world.specs.WorldView.{named_in}
use Rattle.fleet_world.proofs.Lookups.{first_more, first_here, first_none}
use Rattle.fleet_world.proofs.fleet.first_in_role.Goals as goal

pub loop-index-preserved : goal.loop-index-preserved
loop-index-preserved c =
    first_more (λ (node : Node). is_in_role c.args.role c.args.name (named_in node)) c.args.nodes.now c.loop-index.index c.loop-index.invariant _ c.loop-index-test.true c.index-nodes-index.is (sym c.is_in_role.ensures ∙ c.if-is_in_role.false)

pub returns-then-is_in_role-clause-found : goal.returns-then-is_in_role-clause-found
returns-then-is_in_role-clause-found c =
    first_here (λ (node : Node). is_in_role c.args.role c.args.name (named_in node)) c.args.nodes.now c.loop-index.index c.loop-index.invariant _ c.loop-index-test.true c.index-nodes-index.is (sym c.is_in_role.ensures ∙ c.if-is_in_role.true)

pub returns-clause-found : goal.returns-clause-found
returns-clause-found c =
    first_none (λ (node : Node). is_in_role c.args.role c.args.name (named_in node)) c.args.nodes.now c.loop-index.index c.loop-index.invariant (omega (arith, c.loop-index-test.false, c.loop-index.auto.index-end))
