use Rattle.std.proofs.Common.{◌≡◌, length}
use Rattle.mav_router.specs.Journal.{Rules}
use Rattle.relay_run.specs.Rounds.{AreSeated, Goes}
use Rattle.relay_run.proofs.writing.write_link.Given as goal

abbrev pub invariant-loop-write : goal.invariant-loop-write
invariant-loop-write g l =
    ((rules : Rules) → Goes rules g.W.Watcher.told l.fn.watcher l.watcher (g.H.Hub.state l.fn.hub) (g.H.Hub.state l.hub) l.fn.relay l.relay)
    × AreSeated (g.H.Hub.seats l.hub) l.relay
    × (length l.relay.links.links ≡ length l.fn.relay.links.links)
