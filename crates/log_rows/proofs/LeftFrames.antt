-- The frames that are left, call by call.
use Rattle.std.proofs.Common.{◌≡◌, ℕ, ◌+◌, ◌-◌, ◌<◌, ◌≤◌, Bool, true, false, List, [], ◌∷◌, ◌++◌, length, take, drop, slice_index, refl, sym, ap, ◌∙◌, subst, arith, length-append, length-take, append_assoc, append-nil}
use Rattle.std.specs.Prelude.{flat_map}
use Rattle.std.proofs.lemmas.List.{drop-drop, drop-take, take-take}
use Rattle.std.proofs.Math.Seq.{take-add, take-append_seam, take-append-add}
use Rattle.std.proofs.lemmas.Slice.{take-put_mid}
use borrow.Rule.Slice.PartMut.{put_mid}
use Rattle.log_rows.specs.LogEvents.{log_events}
use Rattle.log_rows.specs.LogParse.{LogEvent, RowEvent, SkipEvent, BeginsLog}
use Rattle.log_rows.specs.Progress.{LogHeld, LogProgress}
use Rattle.log_rows.specs.Rows.{row_encoding, first_row, micros_at}
use Rattle.log_rows.specs.Spans.{span_events, held_behind}
use Rattle.log_rows.specs.declared.spans.RowSpan.TheVariants.{Row, Skipped}
use Rattle.log_rows.proofs.Parses.{begins_by_function, more_bytes_keep_rows, parse_begins}
use Rattle.std.specs.Int.{w64, to_be_bytes}
use Rattle.mav_frame.specs.Encoding.{encoding}
use Rattle.mav_frame.specs.declared.looks.Why.{Why}
use Rattle.log_rows.specs.Frames.{frame_bytes, log_frames, RowsHeld, frames_left}

-- what is at the start is the first event of the whole log
pub first_event : (extras : List (ℕ × ℕ)) (ended : Bool) (event : LogEvent) (left b rest : List ℕ) → BeginsLog extras ended (event ∷ []) left b → (ended ≡ true → rest ≡ []) → log_events extras true (b ++ rest) ≡ event ∷ log_events extras true (left ++ rest)
first_event extras true event left b rest h over =
    subst (λ (z : List ℕ). log_events extras true (b ++ z) ≡ event ∷ log_events extras true (left ++ z)) (sym (over refl))
    (ap (log_events extras true) (append-nil b) ∙ begins_by_function extras true (event ∷ []) left b h ∙ ap (λ (z : List ℕ). event ∷ log_events extras true z) (sym (append-nil left)))
first_event extras false event left b rest h over =
    begins_by_function extras true (event ∷ []) (left ++ rest) (b ++ rest) (parse_begins extras (event ∷ []) (left ++ rest) (b ++ rest) (more_bytes_keep_rows extras (event ∷ []) left b rest h))

module _ (extras : List (ℕ × ℕ)) (ended : Bool) (b rest : List ℕ) (over : ended ≡ true → rest ≡ []) where
  abbrev held : LogHeld
  held = record { extras = extras; bytes = b; ended = ended }

  -- a byte that is in no row
  pub byte_skipped : (why : Why) → LogProgress extras b (span_events b (Skipped why)) (held_behind held (Skipped why)) → log_frames extras (b ++ rest) ≡ log_frames extras (drop 1 b ++ rest)
  byte_skipped why h = ap (flat_map frame_bytes) (first_event extras ended (SkipEvent (slice_index b 0) why) (drop 1 b) b rest h.begins over)

  module _ (size : ℕ) (whole : size ≡ length (row_encoding (first_row b))) (bytes : take size b ≡ row_encoding (first_row b)) where
    abbrev frame : List ℕ
    frame = encoding (first_row b).frame

    long : size ≡ 8 + length frame
    long = whole ∙ length-append (to_be_bytes w64 (micros_at b)) frame

    -- a frame has bytes
    pub frame_some : 0 < size - 8
    frame_some = omega (arith, long)

    split : 8 + (size - 8) ≡ size
    split = omega (arith, long)

    frame_there : take (size - 8) (drop 8 b) ≡ frame
    frame_there = sym (drop-take 8 (size - 8) b) ∙ (λ i. drop 8 (take (split i) b)) ∙ ap (drop 8) bytes

    behind : drop (size - 8) (drop 8 b) ≡ drop size b
    behind = drop-drop (size - 8) 8 b ∙ (λ i. drop (split i) b)

    -- a row: its frame is handed out
    pub frame_found : LogProgress extras b (span_events b (Row size)) (held_behind held (Row size)) → log_frames extras (b ++ rest) ≡ take (size - 8) (drop 8 b) ++ log_frames extras (drop (size - 8) (drop 8 b) ++ rest)
    frame_found h =
        ap (flat_map frame_bytes) (first_event extras ended (RowEvent (first_row b)) (drop size b) b rest h.begins over)
        ∙ (λ i. sym frame_there i ++ log_frames extras (sym behind i ++ rest))

-- what a read appended to a buffer of which so many bytes were held
pub last_read : (count held size : ℕ) (buffer : List ℕ) → size ≡ held → take count (drop held buffer) ≡ take count (drop size (take (held + count - 0) buffer))
last_read count held size buffer same =
    let all : held + count - 0 ≡ held + count = omega arith in
    sym (take-take count count (drop held buffer) (omega arith)) ∙ ap (take count) (sym (drop-take held count buffer)) ∙ (λ i. take count (drop (sym same i) (take (sym all i) buffer)))

-- a part of a frame is handed out
pub part_handed : (count frame : ℕ) (window copied after : List ℕ) → count ≤ frame → frame ≤ length window → copied ≡ take count window → take frame window ≡ take count (copied ++ after) ++ take (frame - count) (drop count window)
part_handed count frame window copied after part whole is =
    let split : frame ≡ count + (frame - count) = omega arith in
    let size : count ≡ length copied = omega (arith, ap length is, length-take count window) in
    let front : copied ≡ take count (copied ++ after) = sym ((λ i. take (size i) (copied ++ after)) ∙ take-append_seam copied after) in
    (λ i. take (split i) window) ∙ take-add count (frame - count) window ∙ (λ i. (sym is ∙ front) i ++ take (frame - count) (drop count window))

-- a part of the buffer behind those that were written
pub part_written : (buffer part : List ℕ) (count room more : ℕ) → count ≤ length buffer → more ≤ length part → take (count + more) (put_mid count room buffer part) ≡ take count buffer ++ take more part
part_written buffer part count room more fits enough =
    let whole : take (count + length part) (put_mid count room buffer part) ≡ take count buffer ++ part = take-put_mid count room buffer part (count + length part) refl fits in
    let front : count ≡ length (take count buffer) = omega (arith, length-take count buffer) in
    sym (take-take (count + more) (count + length part) (put_mid count room buffer part) (omega arith))
    ∙ (λ i. take (front i + more) (whole i))
    ∙ take-append-add (take count buffer) part more

-- what was handed out of the frames that are left
pub handed_on : (count more : ℕ) (buffer part whole : List ℕ) (old after : RowsHeld) (rest : List ℕ) → old.frame ≡ take more part ++ after.frame → after.bytes ≡ old.bytes → after.extras ≡ old.extras → whole ≡ take count buffer ++ take more part → take count buffer ++ frames_left old rest ≡ whole ++ frames_left after rest
handed_on count more buffer part whole old after rest frame bytes extras all =
    let behind : List ℕ = log_frames after.extras (after.bytes ++ rest) in
    (λ i. take count buffer ++ (frame i ++ log_frames (sym extras i) (sym bytes i ++ rest)))
    ∙ ap (λ (z : List ℕ). take count buffer ++ z) (append_assoc (take more part) after.frame behind)
    ∙ sym (append_assoc (take count buffer) (take more part) (after.frame ++ behind))
    ∙ ap (λ (z : List ℕ). z ++ (after.frame ++ behind)) (sym all)
