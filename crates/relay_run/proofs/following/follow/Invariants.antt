use Rattle.relay_run.specs.Rounds.{AreSeated, Goes}
use Rattle.relay_run.proofs.following.follow.Given as goal

abbrev pub invariant-loop-news : goal.invariant-loop-news
invariant-loop-news g l =
    Goes l.fn.rules g.W.Watcher.told l.fn.watcher l.watcher (g.H.Hub.state l.fn.hub) (g.H.Hub.state l.hub) l.fn.relay l.relay
    × AreSeated (g.H.Hub.seats l.hub) l.relay
