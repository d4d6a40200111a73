use Rattle.std.proofs.Common.{refl}
use Rattle.command_inputs.proofs.NamedSame.{same_asked}
use Rattle.station_cli.proofs.Told.{leaves_same, undone, nothing_moved}
use Rattle.station_cli.proofs.runs.run_words.Goals as goal

pub returns-in-Err-NoMemory-clause-does : goal.returns-in-Err-NoMemory-clause-does
returns-in-Err-NoMemory-clause-does g c = λ asked asks.
    let inputs = c.args.inputs.now in
    undone _ _ _ g.S.Source.has_ended g.S.Source.faults g.S.Source.idles g.S.Source.left inputs.key inputs.defs inputs.main _ _ _ _ refl refl refl (g.K.Sink.faults c.args.out.now) (g.K.Sink.sent c.args.out.now) asked asks

pub returns-in-Err-NoMemory-clause-leaves_alone : goal.returns-in-Err-NoMemory-clause-leaves_alone
returns-in-Err-NoMemory-clause-leaves_alone g c = λ asked asks.
    let inputs = c.args.inputs.now in
    nothing_moved _ _ _ g.S.Source.has_ended g.S.Source.faults g.S.Source.idles g.S.Source.left inputs.key inputs.defs inputs.main _ _ _ _ refl refl refl (g.K.Sink.faults c.args.out.now) (g.K.Sink.sent c.args.out.now) asked

pub returns-clause-does : goal.returns-clause-does
returns-clause-does g c = λ asked asks. rw (same_asked _ asked _ asks c.in-Ok.ensures.asks) c.run_line.ensures.does

pub returns-clause-leaves_alone : goal.returns-clause-leaves_alone
returns-clause-leaves_alone g c = λ asked asks. leaves_same _ _ _ asked c.in-Ok.ensures.asks asks c.run_line.ensures.leaves_alone

pub returns-clause-usage : goal.returns-clause-usage
returns-clause-usage g c = λ usage. absurd (c.run_line.ensures.not_usage usage)

pub returns-clause-usage_only : goal.returns-clause-usage_only
returns-clause-usage_only g c = λ nothing. absurd (nothing _ c.in-Ok.ensures.asks)

pub returns-clause-untouched : goal.returns-clause-untouched
returns-clause-untouched g c = λ nothing. absurd (nothing _ c.in-Ok.ensures.asks)

pub returns-clause-unsent : goal.returns-clause-unsent
returns-clause-unsent g c = λ nothing. absurd (nothing _ c.in-Ok.ensures.asks)

pub run_line-requires-clause-fits : goal.run_line-requires-clause-fits
run_line-requires-clause-fits g c = c.in-Ok.ensures.asks.fits

pub run_line-requires-clause-says : goal.run_line-requires-clause-says
run_line-requires-clause-says g c = c.in-Ok.ensures.says

pub run_line-requires-clause-node : goal.run_line-requires-clause-node
run_line-requires-clause-node g c = rw c.take-task.ensures.value c.in-Ok.ensures.node

pub run_line-requires-clause-links : goal.run_line-requires-clause-links
run_line-requires-clause-links g c = (c.requires.asked _ c.in-Ok.ensures.asks).0

pub run_line-requires-clause-stores : goal.run_line-requires-clause-stores
run_line-requires-clause-stores g c = (c.requires.asked _ c.in-Ok.ensures.asks).1
