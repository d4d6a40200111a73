use Rattle.std.proofs.Common.{◌≡◌, ◌≤◌, ◌-◌, ℕ, List, length, drop, map, All}
use Rattle.mav_router.specs.declared.entries.Entry.{Entry}
use Rattle.mav_router.specs.Found.{IsJudged, packets_of}
use Rattle.mav_router.specs.Journal.{Rules}
use Rattle.mav_router.specs.Runs.{Reading}
use Rattle.mav_router.specs.Spans.{AreFound, judged_of}
use Rattle.mav_router.proofs.Findings.{Finds}
use Rattle.mav_router.proofs.found.find_frames.Given as goal

abbrev pub invariant-finding : goal.invariant-finding
invariant-finding l = record {
  same : l.scan ≡ record l.initial.scan { bytes = l.scan.bytes };
  held : AreFound l.bytes l.items.items;
  judged : All (IsJudged l.rules) (map (judged_of l.bytes) l.items.items);
  inside : length l.scan.bytes ≤ length l.bytes;
  rest : l.scan.bytes ≡ drop (length l.bytes - length l.scan.bytes) l.bytes;
  finds : (by : Rules) (port : ℕ) (all : List ℕ) (journal : List Entry) → Reading by port all l.initial.scan l.initial.skipped journal
      → Finds l.initial.scan.ended by port all l.scan l.skipped journal (packets_of (map (judged_of l.bytes) l.items.items));
}

abbrev pub decreases-finding : goal.decreases-finding
decreases-finding l = length l.scan.bytes
