-- The holes of a line, one after another, are the line.
use Rattle.std.proofs.Common.{subst}
use Rattle.std.specs.Fmt.{HasWritten}
use Rattle.fleet_report.proofs.ItemLines.{item_text-parts}
use Rattle.fleet_report.proofs.items.ItemTextDisplay.fmt.Goals as goal

pub returns-clause-writes : goal.returns-clause-writes
returns-clause-writes g c plain ok =
    subst (λ text. HasWritten g.W.Write.write_str_gives c.args.f.now text c.write.new.self)
    (item_text-parts c.args.self.now.seq c.args.self.now.item)
    (c.write.ensures.writes plain ok)
