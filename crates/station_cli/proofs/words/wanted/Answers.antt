use Rattle.station_cli.proofs.words.wanted.Goals as goal

pub returns-clause-usage_only : goal.returns-clause-usage_only
returns-clause-usage_only c = λ nothing. absurd (nothing _ c.in_ok-line.ensures.asks)
