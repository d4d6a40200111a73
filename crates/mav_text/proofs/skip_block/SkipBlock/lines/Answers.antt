use Rattle.std.proofs.Common.{ℕ, ◌+◌, length, sym, ap, ◌∙◌, arith, length-append}
use Rattle.mav_frame.specs.declared.looks.Why.{Why}
use Rattle.mav_text.specs.SkipBlocks.{blank_lines}
use Rattle.mav_text.proofs.SkipBlockSteps.{blanks_append, blanks_part}
use Rattle.mav_text.proofs.skip_block.SkipBlock.lines.Goals as goal

pub part-requires-clause-order : goal.part-requires-clause-order
part-requires-clause-order c =
    let t : ℕ = c.args.self.now.0 in let why = c.args.self.now.1 in let pair : ℕ = c.args.pair in let count : ℕ = c.args.count in
    omega (arith, c.line_start-start.ensures.exact, c.line_start-end.ensures.exact, ap length (blanks_append t why pair count 0), length-append (blank_lines pair t 0 why) (blank_lines count t (0 + pair) why))

pub returns : goal.returns
returns c =
    c.part.ensures ∙ (
    let inside = c.self.inside in let pair : ℕ = c.args.pair in let count : ℕ = c.args.count in
    let start = c.line_start-start.ensures.exact ∙ ap (λ (z : ℕ × Why). length (blank_lines pair z.0 0 z.1)) (sym c.self.view_is) in
    let end = c.line_start-end.ensures.exact ∙ ap (λ (z : ℕ × Why). length (blank_lines (pair + count) z.0 0 z.1)) (sym c.self.view_is) in
    blanks_part inside.ten_thousands inside.why pair count c.line_start-start.result c.line_start-end.result inside.bytes (c.self.invariant.5 (pair + count) c.requires) start end
    ∙ ap (λ (z : ℕ × Why). blank_lines count z.0 pair z.1) c.self.view_is)
