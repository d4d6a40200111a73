use Rattle.std.proofs.Common.{◌∙◌, sym, arith, length-append}
use Rattle.relay_lines.specs.Lines.{lost_before}
use Rattle.relay_lines.proofs.Firsts.{is_none, lost_few}
use Rattle.relay_lines.proofs.lines.WaitingLines.tell_last.Goals as goal

pub tell-requires : goal.tell-requires
tell-requires c =
    let lines = c.args.self.now in
    let none = is_none _ (sym c.is_empty.ensures.empty ∙ c.if-is_empty.true) in
    let few = lost_few lines.lost c.is_empty.ensures.few in
    let long = length-append lines.waiting (lost_before lines.lost) in
    omega (arith, none, few, long)
