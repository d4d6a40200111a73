-- Frames where a read put their bytes.
use Rattle.std.proofs.Common.{◌≡◌, ◌∙◌, ◌<◌, ◌≤◌, ◌+◌, ◌-◌, ℕ, List, [], ◌∷◌, ◌++◌, map, length, take, drop, get_or, slice_range, refl, ap, sym, subst, arith, length-drop}
use Rattle.std.proofs.lemmas.List.{append-nil, drop-drop, get_or-drop, map-append}
use Rattle.std.proofs.lemmas.List.Elements.{All-append, All-cons}
use Rattle.mav_frame.specs.Encoding.{encoding}
use Rattle.mav_frame.specs.Looks.{look_of}
use Rattle.mav_frame.specs.Packet.{Packet}
use Rattle.mav_frame.specs.Raw.{IsFrame, packet_in}
use Rattle.mav_frame.proofs.RawFrames.{found_frame}
use Rattle.mav_stream.specs.Held.{Held}
use Rattle.mav_stream.specs.Spans.{first_packet, next_span}
use Rattle.mav_stream.specs.declared.spans.NextSpan.TheVariants.{Frame as NextFrame}
use Rattle.mav_stream.proofs.NextSpans.{frame_found}
use Rattle.mav_router.specs.declared.found.FoundFrame.{FoundFrame}
use Rattle.mav_router.specs.Finds.{FindsAll, FindsUntaken}
use Rattle.mav_router.specs.Found.{IsJudged, KeepsFound}
use Rattle.mav_router.specs.Journal.{Rules, frames_from}
use Rattle.mav_router.specs.Spans.{AreFound, Holds, judged_of, packet_of}

-- ---- what is left of some bytes

pub rest_then : (bytes middle last : List ℕ) → length middle ≤ length bytes → length last ≤ length middle → middle ≡ drop (length bytes - length middle) bytes → last ≡ drop (length middle - length last) middle → last ≡ drop (length bytes - length last) bytes
rest_then bytes middle last low high first second =
    let place : (length bytes - length middle) + (length middle - length last) ≡ length bytes - length last = omega (arith, low, high) in
    second ∙ (ap (drop (length middle - length last)) first
    ∙ (drop-drop (length middle - length last) (length bytes - length middle) bytes ∙ ap (λ (n : ℕ). drop n bytes) place))

pub rest_dropped : (bytes : List ℕ) (count : ℕ) → count ≤ length bytes → drop count bytes ≡ drop (length bytes - length (drop count bytes)) bytes
rest_dropped bytes count low =
    let place : count ≡ length bytes - length (drop count bytes) = omega (arith, low, length-drop count bytes) in
    ap (λ (n : ℕ). drop n bytes) place

-- all of them
pub rest_whole : (bytes : List ℕ) → bytes ≡ drop (length bytes - length bytes) bytes
rest_whole bytes = let none : 0 ≡ length bytes - length bytes = omega arith in ap (λ (n : ℕ). drop n bytes) none

-- ---- one frame

-- the frame at the start of what is left stands in its span
pub found_there : (held : Held) (bytes : List ℕ) (start size : ℕ) → ((i : ℕ) → get_or bytes i 0 < 256) → next_span held ≡ NextFrame size → size ≤ length held.bytes → held.bytes ≡ drop start bytes → length held.bytes + start ≡ length bytes → length (encoding (first_packet held)) ≤ 280
    → Holds bytes (record { start = start; end = start + size }) × (packet_of bytes (record { start = start; end = start + size }) ≡ first_packet held)
found_there held bytes start size small next within rest place short =
    let found = frame_found held size (look_of held.extras held.reads_old held.bytes) refl next in
    let is_bytes = subst (λ (l : List ℕ). (i : ℕ) → get_or l i 0 < 256) (sym rest) (λ (i : ℕ). let e = get_or-drop start bytes i 0 in omega (arith, e, small (start + i))) in
    let frame = found_frame held.extras held.reads_old held.bytes (first_packet held) size is_bytes found in
    let count : start + size - start ≡ size = omega arith in
    let range : slice_range bytes start (start + size) ≡ take size held.bytes = (λ i. take (count i) (drop start bytes)) ∙ ap (take size) (sym rest) in
    let packet = ap packet_in range ∙ frame.1 in
    let text : take size held.bytes ≡ encoding (first_packet held) = frame.0.bytes ∙ ap encoding frame.1 in
    let long = ap length (range ∙ text) in (
      record {
        order = omega arith;
        within = omega (arith, place, within);
        frame = subst IsFrame (sym range) frame.0;
        short = omega (arith, long, short);
      },
      packet,
    )

-- it is kept with its judgement
pub kept_there : (rules : Rules) (bytes : List ℕ) (before after : List FoundFrame) (one : FoundFrame) (packet : Packet) → packet_of bytes one.span ≡ packet → IsJudged rules (record { frame = packet; judgement = one.judgement }) → after ≡ before ++ one ∷ [] → KeepsFound rules packet (map (judged_of bytes) before) (map (judged_of bytes) after)
kept_there rules bytes before after one packet is right goes = record {
  judged = judged_of bytes one;
  frame = is;
  right = subst (λ (p : Packet). IsJudged rules (record { frame = p; judgement = one.judgement })) (sym is) right;
  kept = ap (map (judged_of bytes)) goes ∙ map-append (judged_of bytes) before (one ∷ []);
}

pub held_more : (bytes : List ℕ) (before after : List FoundFrame) (one : FoundFrame) → Holds bytes one.span → after ≡ before ++ one ∷ [] → AreFound bytes before → AreFound bytes after
held_more bytes before after one holds goes held =
    subst (AreFound bytes) (sym goes)
    (All-append (λ (f : FoundFrame). Holds bytes f.span) before (one ∷ []) held
    (All-cons (λ (f : FoundFrame). Holds bytes f.span) one [] holds (λ k d less. absurd (omega (arith, less)))))

-- ---- no memory for what was found

pub finds_untaken : (held : Held) (skips : ℕ) (left : Held) (later : ℕ) (frames : List Packet) → 0 < length frames → FindsAll held skips left later frames → FindsUntaken held skips
finds_untaken held skips left later frames some f = λ by port all journal reading. f.stops by port all journal journal 0 reading some (sym (append-nil (frames_from port journal)))
