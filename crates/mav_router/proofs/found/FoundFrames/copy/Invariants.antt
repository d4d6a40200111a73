use Rattle.std.proofs.Common.{◌≡◌, map, take}
use Rattle.mav_router.specs.Spans.{judged_of}
use Rattle.mav_router.proofs.found.FoundFrames.copy.Given as goal

abbrev pub invariant-loop-at : goal.invariant-loop-at
invariant-loop-at l = record { copied : l.self ≡ map (judged_of l.bytes) (take l.at l.items) }
