use Rattle.std.proofs.Common.{take}
use Rattle.live_node.proofs.Tellings.{TellsOf}
use Rattle.live_node.proofs.run_log.RunLog.tell_all.Given as goal

abbrev pub invariant-loop-piece : goal.invariant-loop-piece
invariant-loop-piece l = TellsOf l.values (take l.piece-index l.news) l.initial.self l.self l.initial.report l.report
