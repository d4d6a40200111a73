use Rattle.std.proofs.Common.{◌≤◌, ◌-◌, List, length}
use Rattle.mav_router.specs.declared.entries.Entry.{Entry}
use Rattle.mav_router.specs.Outgoing.{KeepsInput, LooksOn}
use Rattle.mav_router.specs.Pages.{StandsIn, end_of_page}
use Rattle.mav_router.proofs.writing.pass_page.Given as goal

abbrev pub invariant-loop-from : goal.invariant-loop-from
invariant-loop-from g l = record {
  low : l.page.start ≤ l.from;
  looks : (journal : List Entry) → StandsIn journal l.page → l.page.start ≤ l.initial.from → l.initial.from ≤ length journal → LooksOn l.port journal l.initial.from l.from (g.L.Link.state l.initial.link) (g.L.Link.state l.link) l.initial.lane l.lane l.initial.batch l.batch;
  keeps : KeepsInput (g.L.Link.state l.initial.link) (g.L.Link.state l.link) l.initial.lane l.lane;
}

abbrev pub decreases-loop-from : goal.decreases-loop-from
decreases-loop-from g l = end_of_page l.page - l.from
