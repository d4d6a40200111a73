use Rattle.std.proofs.Common.{◌≤◌, length, sym, subst}
use Rattle.mav_log.specs.Tellers.{Filtering}
use Rattle.mav_log.proofs.RowBytes.{row_gone}
use Rattle.mav_log.proofs.Steps.{byte_filtered}
use Rattle.mav_log.proofs.filter_teller.FilterTeller.tell_skips.Goals as goal

pub consume-requires : goal.consume-requires
consume-requires c = subst (λ (f : Filtering). 1 ≤ length f.reader.bytes) (sym c.self.view_is) c.requires.begins.event.some

pub returns : goal.returns
returns c =
    let inside : Filtering = record { known = c.self.inside.known; sys = c.self.inside.sys; reader = c.self.inside.reader } in
    byte_filtered c.args.self.now (record inside { reader = c.consume.new.self }) c.args._why c.args._count c.args._text.now.items c.requires.begins.event
    (row_gone c.args.self.now inside 1 c.consume.new.self c.self.view_is c.consume.ensures)
