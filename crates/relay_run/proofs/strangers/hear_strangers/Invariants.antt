use Rattle.relay_run.specs.Rounds.{AreSeated, Goes}
use Rattle.relay_run.proofs.strangers.hear_strangers.Given as goal

abbrev pub invariant-loop-datagram : goal.invariant-loop-datagram
invariant-loop-datagram g l =
    Goes l.fn.rules g.W.Watcher.told l.fn.watcher l.watcher (g.H.Hub.state l.fn.hub) (g.H.Hub.state l.hub) l.fn.relay l.relay
    × AreSeated (g.H.Hub.seats l.hub) l.relay
