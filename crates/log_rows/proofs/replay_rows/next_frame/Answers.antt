use Rattle.std.proofs.Common.{◌≡◌, ◌++◌, ◌-◌, ◌∙◌, ℕ, List, [], take, drop, refl, sym, ap}
use Rattle.log_rows.specs.Frames.{log_frames}
use Rattle.log_rows.proofs.LeftFrames.{byte_skipped, frame_found}
use Rattle.log_rows.proofs.replay_rows.next_frame.Goals as goal

pub loop-size-init : goal.loop-size-init
loop-size-init c rest over = refl

pub returns-in-Row-clause-left : goal.returns-in-Row-clause-left
returns-in-Row-clause-left c rest over =
    let extras = c.args.extras.now in let b : List ℕ = c.bytes.result.now in let size : ℕ = c.in-Row.size in
    let is = c.bytes.ensures.list in
    let row = c.in-Row.ensures.row in
    let after : drop 8 b ≡ c.remove.new.self = ap (drop 8) is ∙ sym c.remove.ensures in
    c.loop-size.invariant rest over
    ∙ ap (λ (z : List ℕ). log_frames extras (z ++ rest)) (sym is)
    ∙ frame_found extras c.args.ended b rest over size row.1 row.2 (c.in-Row.ensures.progress extras b [] (record { same = refl; begins = refl }))
    ∙ (λ i. take (size - 8) (after i) ++ log_frames extras (drop (size - 8) (after i) ++ rest))

pub loop-size-preserved : goal.loop-size-preserved
loop-size-preserved c rest over =
    let extras = c.args.extras.now in let b : List ℕ = c.bytes.result.now in
    let is = c.bytes.ensures.list in
    c.loop-size.invariant rest over
    ∙ ap (λ (z : List ℕ). log_frames extras (z ++ rest)) (sym is)
    ∙ byte_skipped extras c.args.ended b rest over c.in-Skipped.field-0 (c.in-Skipped.ensures.progress extras b [] (record { same = refl; begins = refl }))
    ∙ ap (λ (z : List ℕ). log_frames extras (z ++ rest)) (ap (drop 1) is ∙ sym c.remove-in-Skipped.ensures)

pub returns-in-Need-clause-left : goal.returns-in-Need-clause-left
returns-in-Need-clause-left c rest over = c.loop-size.invariant rest over
