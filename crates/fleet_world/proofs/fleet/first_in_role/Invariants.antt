use Rattle.std.proofs.Common.{◌≡◌, ◌+◌, drop}
use Rattle.std.specs.List.{position_or_len}
use Rattle.scenario_lines.specs.LineContext.{is_in_role}
use Rattle.fleet_world.specs.WorldView.{named_in}
use Rattle.fleet_world.proofs.fleet.first_in_role.Given as goal

abbrev pub invariant-loop-index : goal.invariant-loop-index
invariant-loop-index l =
    l.index + position_or_len (λ node. is_in_role l.role l.name (named_in node)) (drop l.index l.nodes) ≡ position_or_len (λ node. is_in_role l.role l.name (named_in node)) l.nodes
