use Rattle.std.proofs.Common.{◌≡◌, ◌+◌, drop}
use Rattle.std.specs.List.{position_or_len}
use Rattle.scenario_lines.specs.LineContext.{is_called}
use Rattle.fleet_world.specs.WorldView.{named_in}
use Rattle.fleet_world.proofs.fleet.first_called.Given as goal

abbrev pub invariant-loop-index : goal.invariant-loop-index
invariant-loop-index l =
    l.index + position_or_len (λ node. is_called l.name (named_in node)) (drop l.index l.nodes) ≡ position_or_len (λ node. is_called l.name (named_in node)) l.nodes
