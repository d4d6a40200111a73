use Rattle.std.proofs.Common.{◌∙◌, ℕ, length, arith, ap}
use Rattle.relay_lines.specs.Lines.{LinesState}
use Rattle.relay_lines.proofs.Firsts.{first_short}
use Rattle.relay_lines.proofs.lines.WaitingLines.wrote.Goals as goal

pub remove-requires : goal.remove-requires
remove-requires c =
    let short = first_short c.args.self.now.waiting in
    let few = c.requires in
    let same = ap (length {A = ℕ}) (c.deref_mut.ensures.value ∙ ap (λ (s : LinesState). s.waiting) c.self.view_is) in
    (omega arith, omega (arith, short, few, same))
