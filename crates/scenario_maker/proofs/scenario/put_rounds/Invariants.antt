use Rattle.std.proofs.Common.{◌≡◌, ◌++◌, ◌+◌, ◌-◌, string_bytes}
use Rattle.scenario_maker.specs.Generator.{lines_from, rounds, text_of}
use Rattle.scenario_maker.proofs.scenario.put_rounds.Given as goal

abbrev pub invariant-loop-index : goal.invariant-loop-index
invariant-loop-index l =
    string_bytes l.text ++ text_of (lines_from (rounds - l.index) (l.index + 1) l.state) ≡ string_bytes l.initial.text ++ text_of (lines_from rounds 1 l.number)
