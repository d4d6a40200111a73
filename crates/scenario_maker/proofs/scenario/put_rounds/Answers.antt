use Rattle.std.proofs.Common.{arith}
use Rattle.scenario_maker.proofs.RoundTexts.{more_rounds, all_rounds}
use Rattle.scenario_maker.proofs.scenario.put_rounds.Goals as goal

pub loop-index-preserved : goal.loop-index-preserved
loop-index-preserved c =
    more_rounds c.loop-index.index c.loop-index.state _ c.round_from-next.result.0 _ _ _ (omega (arith, c.loop-index-test.true)) c.loop-index.invariant
    c.round_from-next.ensures.round c.round_from-next.ensures.state c.in_ok-put_round.ensures

pub returns : goal.returns
returns c = all_rounds c.loop-index.index c.loop-index.state _ _ (omega (arith, c.loop-index-test.false)) c.loop-index.invariant
