use Rattle.std.proofs.Common.{◌≡◌, ◌++◌, drop, map}
use Rattle.scenario_maker.specs.Generator.{text_of}
use Rattle.scenario_maker.specs.Sums.{plans_in}
use Rattle.scenario_maker.proofs.lines.put_plans.Given as goal

abbrev pub invariant-loop-line : goal.invariant-loop-line
invariant-loop-line l =
    l.text.items ++ text_of (plans_in (map (λ line. line.now) (drop l.line-index l.lines))) ≡ l.initial.text.items ++ text_of (plans_in (map (λ line. line.now) l.lines))
