use Rattle.std.proofs.Common.{◌∙◌, List, ℕ, take, drop, sym, ap, ◌++◌, ◌-◌, arith}
use Rattle.log_rows.specs.Frames.{RowsHeld}
use Rattle.log_rows.proofs.LeftFrames.{part_handed}
use Rattle.log_rows.proofs.replay_rows.Rows.hand_out.Goals as goal

pub returns-clause-frame : goal.returns-clause-frame
returns-clause-frame c =
    let i = c.self.inside in let n : ℕ = c.min-count.result in
    ap (λ (held : RowsHeld). held.frame) (sym c.self.view_is)
    ∙ part_handed n i.frame i.window c.copy_from_slice.new.self (drop n c.args.buf.now) (omega (arith, c.min-count.ensures)) c.self.invariant (c.copy_from_slice.ensures.after ∙ ap (take n) c.bytes.ensures.list)
    ∙ ap (λ (rest : List ℕ). take n (c.copy_from_slice.new.self ++ drop n c.args.buf.now) ++ take (i.frame - n) rest) (sym c.remove.ensures)
