use Rattle.std.proofs.Common.{◌-◌, [], length}
use Rattle.mav_router.specs.Outgoing.{KeepsInput, LooksOn}
use Rattle.mav_router.proofs.writing_now.write_entries_now.Given as goal

abbrev pub invariant-loop-from : goal.invariant-loop-from
invariant-loop-from g l = record {
  looks : LooksOn l.port l.journal l.initial.from l.from (g.L.Link.state l.initial.link) (g.L.Link.state l.link) l.initial.lane l.lane [] l.batch;
  keeps : KeepsInput (g.L.Link.state l.initial.link) (g.L.Link.state l.link) l.initial.lane l.lane;
}

abbrev pub decreases-loop-from : goal.decreases-loop-from
decreases-loop-from g l = length l.journal - l.from
