use Rattle.std.proofs.Common.{◌≡◌, ◌≤◌, map, take, vec_len, vec_capacity}
use Rattle.mav_router.specs.Admitting.{AdmitsThese}
use Rattle.mav_router.specs.Found.{packets_of}
use Rattle.mav_router.specs.Spans.{AreHeld, entries_of, judged_of}
use Rattle.mav_router.proofs.admitting.admit_frames.Given as goal

abbrev pub invariant-loop-at : goal.invariant-loop-at
invariant-loop-at l = record {
  long : vec_len l.heads ≡ l.at;
  room : l.count ≤ vec_capacity l.heads;
  held : AreHeld l.bytes l.heads.items;
  admits : AdmitsThese l.rules l.port (take l.at (packets_of (map (judged_of l.bytes) l.found))) l.initial.stamps l.stamps l.initial.table l.table (entries_of l.bytes l.heads.items);
}
