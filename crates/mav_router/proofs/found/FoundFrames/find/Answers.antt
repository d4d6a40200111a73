use Rattle.std.proofs.Common.{◌<◌, ℕ, List, length, map, take, subst, arith}
use Rattle.std.proofs.lemmas.List.{length-map}
use Rattle.mav_stream.specs.Held.{Held}
use Rattle.mav_router.specs.Finds.{FindsAll}
use Rattle.mav_router.specs.Found.{Judged, packets_of}
use Rattle.mav_router.specs.Spans.{judged_of}
use Rattle.mav_router.proofs.Buffers.{finds_untaken}
use Rattle.mav_router.proofs.found.FoundFrames.find.Goals as goal

pub returns-in-Err-hold-clause-unkept : goal.returns-in-Err-hold-clause-unkept
returns-in-Err-hold-clause-unkept c =
    let reader = c.args.reader.now in
    let size = c.args.size in
    let items = c.find_all.new.items.items in
    let before : Held = record reader { bytes = take size c.args.buf.now } in
    let frames = packets_of (map (judged_of (take size c.args.buf.now)) items) in
    let found = subst (λ (l : List ℕ). FindsAll (record reader { bytes = take size l }) c.args.skipped.now c.find_all.new.reader c.find_all.new.skipped (packets_of (map (judged_of (take size l)) items))) c.bytes.ensures.bytes c.in_default.ensures.finds in
    let some : 0 < length frames = omega (arith, c.hold.ensures.some, length-map items (judged_of (take size c.args.buf.now)), length-map (map (judged_of (take size c.args.buf.now)) items) (λ (judged : Judged). judged.frame)) in
    finds_untaken before c.args.skipped.now c.find_all.new.reader c.find_all.new.skipped frames some found
