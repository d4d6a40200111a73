use Rattle.std.proofs.Common.{◌≡◌, ℕ, ◌<◌, ◌≤◌, List, ◌++◌, length, take, drop, true, refl, sym, subst, arith}
use Rattle.mav_frame.specs.Looks.{is_old_at, look_of, frame_size_at}
use Rattle.log_rows.specs.Progress.{LogHeld, LogProgress, IsWholeLog}
use Rattle.log_rows.specs.Rows.{row_encoding, first_row}
use Rattle.log_rows.specs.Spans.{span_events, span_size, held_behind, IfNeed, IfSome, IfRow}
use Rattle.log_rows.specs.declared.spans.RowSpan.{RowSpan}
use Rattle.log_rows.proofs.LogSpans.{within, some, row_size, progress, whole, room}
use Rattle.log_rows.proofs.spans.row_span.Goals as goal

pub returns-clause-within : goal.returns-clause-within
returns-clause-within g c =
    let held : LogHeld = record { extras = g.T.CrcExtras.pairs c.args.extras.now; bytes = c.args.bytes.now; ended = c.args.ended } in
    subst (λ (a : RowSpan). span_size a ≤ length held.bytes) (sym c.span.ensures) (within held (λ i. omega (arith, c.type_inv.bytes i)) (look_of held.extras true (drop 8 held.bytes)) refl)

pub returns-clause-some : goal.returns-clause-some
returns-clause-some g c =
    let held : LogHeld = record { extras = g.T.CrcExtras.pairs c.args.extras.now; bytes = c.args.bytes.now; ended = c.args.ended } in
    subst (λ (a : RowSpan). IfSome a (0 < span_size a)) (sym c.span.ensures) (some held (λ i. omega (arith, c.type_inv.bytes i)) (look_of held.extras true (drop 8 held.bytes)))

pub returns-clause-row : goal.returns-clause-row
returns-clause-row g c =
    let held : LogHeld = record { extras = g.T.CrcExtras.pairs c.args.extras.now; bytes = c.args.bytes.now; ended = c.args.ended } in
    let b : List ℕ = c.args.bytes.now in
    subst (λ (a : RowSpan). IfRow a (λ size. (8 ≤ length b) × (size ≡ length (row_encoding (first_row b))) × (take size b ≡ row_encoding (first_row b)) × (frame_size_at (is_old_at true (drop 8 b)) (drop 8 b) ≤ length (drop 8 b)))) (sym c.span.ensures)
    (row_size held (λ i. omega (arith, c.type_inv.bytes i)) (look_of held.extras true (drop 8 held.bytes)) refl)

pub returns-clause-progress : goal.returns-clause-progress
returns-clause-progress g c table taken given h =
    let held : LogHeld = record { extras = g.T.CrcExtras.pairs c.args.extras.now; bytes = c.args.bytes.now; ended = c.args.ended } in
    subst (λ (a : RowSpan). LogProgress table taken (given ++ span_events held.bytes a) (held_behind held a)) (sym c.span.ensures)
    (progress held (λ i. omega (arith, c.type_inv.bytes i)) table taken given h (look_of held.extras true (drop 8 held.bytes)) refl)

pub returns-clause-whole : goal.returns-clause-whole
returns-clause-whole g c table taken given h =
    let held : LogHeld = record { extras = g.T.CrcExtras.pairs c.args.extras.now; bytes = c.args.bytes.now; ended = c.args.ended } in
    subst (λ (a : RowSpan). IfNeed a (IsWholeLog table taken given held)) (sym c.span.ensures)
    (whole held (λ i. omega (arith, c.type_inv.bytes i)) table taken given h (look_of held.extras true (drop 8 held.bytes)) refl)

pub returns-clause-room : goal.returns-clause-room
returns-clause-room g c =
    let held : LogHeld = record { extras = g.T.CrcExtras.pairs c.args.extras.now; bytes = c.args.bytes.now; ended = c.args.ended } in
    subst (λ (a : RowSpan). IfNeed a (length held.bytes < 288)) (sym c.span.ensures) (room held (λ i. omega (arith, c.type_inv.bytes i)) (look_of held.extras true (drop 8 held.bytes)) refl)
