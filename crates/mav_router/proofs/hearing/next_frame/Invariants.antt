use Rattle.std.proofs.Common.{◌≡◌, ◌≤◌, ◌-◌, ℕ, List, length, drop}
use Rattle.mav_router.specs.declared.entries.Entry.{Entry}
use Rattle.mav_router.specs.Journal.{Rules}
use Rattle.mav_router.specs.Runs.{Reading}
use Rattle.mav_router.proofs.hearing.next_frame.Given as goal

abbrev pub invariant-reading : goal.invariant-reading
invariant-reading l = record {
  same : l.scan ≡ record l.initial.scan { bytes = l.scan.bytes };
  fewer : length l.scan.bytes ≤ length l.initial.scan.bytes;
  rest : l.scan.bytes ≡ drop (length l.initial.scan.bytes - length l.scan.bytes) l.initial.scan.bytes;
  read : (rules : Rules) (port : ℕ) (bytes : List ℕ) (journal : List Entry) → Reading rules port bytes l.initial.scan l.initial.skipped journal → Reading rules port bytes l.scan l.skipped journal;
}

abbrev pub decreases-reading : goal.decreases-reading
decreases-reading l = length l.scan.bytes
