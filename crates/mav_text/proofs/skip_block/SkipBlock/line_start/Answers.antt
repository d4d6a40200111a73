use Rattle.std.proofs.Common.{ℕ, ◌*◌, length, sym, ap, ◌∙◌}
use Rattle.mav_frame.specs.declared.looks.Why.{Why}
use Rattle.mav_text.specs.SkipBlocks.{blank_lines}
use Rattle.mav_text.proofs.SkipBlockSteps.{blanks_length}
use Rattle.mav_text.proofs.skip_block.SkipBlock.line_start.Goals as goal

pub returns-clause-exact : goal.returns-clause-exact
returns-clause-exact c =
    let inside = c.self.inside in
    ap (λ (n : ℕ). c.args.pair * n) c.self.invariant.4
    ∙ (sym (blanks_length inside.ten_thousands inside.why c.args.pair 0)
    ∙ ap (λ (z : ℕ × Why). length (blank_lines c.args.pair z.0 0 z.1)) c.self.view_is)
