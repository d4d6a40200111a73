use Rattle.std.proofs.Common.{◌≡◌, ℕ, ◌++◌, List, take, false, sym, subst}
use Rattle.log_rows.specs.Progress.{LogHeld, LogProgress}
use Rattle.log_rows.proofs.LogSteps.{fed_on}
use Rattle.log_rows.proofs.reader.LogReader.feed.Goals as goal

pub returns-clause-progress : goal.returns-clause-progress
returns-clause-progress c extras taken given still h =
    let i = c.self.inside in let bytes = take c.append.result c.args.piece.now in
    let held : LogHeld = record { extras = i.extras; bytes = i.window; ended = i.ended } in
    let known : (held.ended ≡ false) × LogProgress extras taken given held =
    subst (λ (z : LogHeld). (z.ended ≡ false) × LogProgress extras taken given z) (sym c.self.view_is) (still, h) in
    subst (λ (z : List ℕ). LogProgress extras (taken ++ bytes) given (record held { bytes = z })) (sym c.append.ensures.bytes) (fed_on extras taken given held known.1 bytes known.0)
