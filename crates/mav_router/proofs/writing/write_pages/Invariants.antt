use Rattle.std.proofs.Common.{◌≤◌, [], List, length}
use Rattle.mav_router.specs.declared.entries.Entry.{Entry}
use Rattle.mav_router.specs.Outgoing.{KeepsInput, LooksOn}
use Rattle.mav_router.specs.Pages.{IsWindow}
use Rattle.mav_router.proofs.Pages.{start_in}
use Rattle.mav_router.proofs.writing.write_pages.Given as goal

abbrev pub invariant-loop-number : goal.invariant-loop-number
invariant-loop-number g l = record {
  reaches : (journal : List Entry) → (w : IsWindow journal l.initial.from l.shared) → start_in w l.number ≤ l.from;
  looks : (journal : List Entry) → l.initial.from ≤ length journal → IsWindow journal l.initial.from l.shared → LooksOn l.port journal l.initial.from l.from (g.L.Link.state l.initial.link) (g.L.Link.state l.link) l.initial.lane l.lane [] l.batch;
  keeps : KeepsInput (g.L.Link.state l.initial.link) (g.L.Link.state l.link) l.initial.lane l.lane;
}
