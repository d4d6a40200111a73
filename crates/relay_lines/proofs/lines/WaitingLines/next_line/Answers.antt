use Rattle.std.proofs.Common.{◌∙◌, ◌+◌, ◌≡◌, ℕ, suc, take, arith, ap}
use Rattle.relay_lines.specs.Lines.{LinesState, first_line}
use Rattle.relay_lines.proofs.Firsts.{first_at, first_none}
use Rattle.relay_lines.proofs.lines.WaitingLines.next_line.Goals as goal

pub returns-in-Some : goal.returns-in-Some
returns-in-Some c =
    let bytes = c.bytes-bytes.result.now in
    let at = c.in-Some.at in
    let one : at + 1 ≡ suc at = omega arith in
    let is = c.bytes-bytes.ensures.list ∙ (c.deref.ensures ∙ ap (λ (s : LinesState). s.waiting) c.self.view_is) in
    let e = c.in-Some.ensures in
    ap (λ (n : ℕ). take n bytes) one ∙ (first_at bytes at e.0.high e.0.before e.1 ∙ ap first_line is)

pub returns-in-None : goal.returns-in-None
returns-in-None c =
    let bytes = c.bytes-bytes.result.now in
    let is = c.bytes-bytes.ensures.list ∙ (c.deref.ensures ∙ ap (λ (s : LinesState). s.waiting) c.self.view_is) in
    first_none bytes c.in-None.ensures ∙ ap first_line is
