use Rattle.std.proofs.Common.{◌≡◌, ◌∙◌, ◌-◌, ◌++◌, ◌∷◌, [], ℕ, List, length, map, drop, Bool, All, arith, ap, sym, subst, length-drop}
use Rattle.mav_frame.specs.Packet.{Packet}
use Rattle.mav_stream.specs.Held.{Held}
use Rattle.mav_stream.specs.Spans.{first_packet, held_after}
use Rattle.mav_stream.specs.declared.spans.NextSpan.TheVariants.{Frame as NextFrame}
use Rattle.mav_router.specs.Faults.{StopsReading}
use Rattle.mav_router.specs.Found.{IsJudged, packets_of}
use Rattle.mav_router.specs.Spans.{judged_of}
use Rattle.mav_router.proofs.Buffers.{rest_dropped, rest_then}
use Rattle.mav_router.proofs.Findings.{Finds, found_more, packets_more, judged_more, unkept}
use Rattle.mav_router.proofs.Readings.{only_bytes}
use Rattle.mav_router.proofs.found.find_frames.Goals as goal

pub returns-in_default-clause-finds : goal.returns-in_default-clause-finds
returns-in_default-clause-finds c =
    let r = c.finding in
    record {
      reads = λ by port all journal after first own. c.in_default.ensures.all by port all after ((r.invariant.finds by port all journal first).reads after own);
      stops = λ by port all journal after count first less own. (r.invariant.finds by port all journal first).stops count after less own;
    }

pub returns-in-Err-clause-unkept : goal.returns-in-Err-clause-unkept
returns-in-Err-clause-unkept c = λ by port all journal first.
    let r = c.finding in
    unkept c.args.scan.now.ended by port all r.scan r.skipped journal (packets_of (map (judged_of c.args.bytes.now) r.items.items))
    (λ before after read same. subst (λ (b : Bool). StopsReading b by port all after) (ap (λ (h : Held). h.ended) r.invariant.same) (c.in-Some.ensures.untaken by port all before after read same))
    (r.invariant.finds by port all journal first)

pub finding-preserved : goal.finding-preserved
finding-preserved c =
    let r = c.finding in
    let rules = c.args.rules.now in
    let bytes = c.args.bytes.now in
    let ended = c.args.scan.now.ended in
    let found = map (judged_of bytes) r.items.items in
    let next = c.in_default-find_frame.ensures in
    let judged = next.kept.judged in
    let there = c.next_frame.new.scan in
    let size = c.in-Some.size in
    let now = held_after there (NextFrame size) in
    let packet = first_packet there in
    let skips = c.next_frame.new.skipped in
    let more = map (judged_of bytes) c.find_frame.new.items.items in
    let short = ap (λ (h : Held). length h.bytes) next.scan in
    let rest = rest_then bytes r.scan.bytes there.bytes r.invariant.inside c.in-Some.ensures.fewer r.invariant.rest c.in-Some.ensures.rest in
    let left = ap (λ (h : Held). h.bytes) next.scan in
    record {
      same = only_bytes c.args.scan.now there c.find_frame.new.scan (drop size there.bytes) (only_bytes c.args.scan.now r.scan there there.bytes r.invariant.same c.next_frame.ensures.same) next.scan;
      held = next.held r.invariant.held;
      judged = subst (All (IsJudged rules)) (sym next.kept.kept) (judged_more rules found judged r.invariant.judged next.kept.right);
      inside = omega (arith, short, length-drop size there.bytes, c.in-Some.ensures.fewer, r.invariant.inside);
      rest = subst (λ (l : List ℕ). l ≡ drop (length bytes - length l) bytes) (sym left)
          (rest_then bytes there.bytes (drop size there.bytes) (omega (arith, c.in-Some.ensures.fewer, r.invariant.inside)) (omega (arith, length-drop size there.bytes)) rest (rest_dropped there.bytes size c.in-Some.ensures.size.1));
      finds = λ by port all journal first.
          let so_far = found_more ended by port all r.scan now r.skipped skips journal (packets_of found) packet
          (λ before after read own. c.in-Some.ensures.found by port all before after read own)
          (λ before after read same. subst (λ (b : Bool). StopsReading b by port all after) (ap (λ (h : Held). h.ended) r.invariant.same) (c.in-Some.ensures.untaken by port all before after read same))
          (r.invariant.finds by port all journal first) in
          subst (λ (h : Held). Finds ended by port all h skips journal (packets_of more)) (sym next.scan)
          (subst (λ (l : List Packet). Finds ended by port all now skips journal l) (ap (λ (p : Packet). packets_of found ++ p ∷ []) (sym next.kept.frame) ∙ sym (ap packets_of next.kept.kept ∙ packets_more found judged)) so_far);
    }
