use Rattle.std.proofs.Common.{◌≤◌, length, sym, subst}
use Rattle.mav_log.specs.Tellers.{Making}
use Rattle.mav_log.proofs.RowBytes.{frame_gone}
use Rattle.mav_log.proofs.Steps.{skips_made}
use Rattle.mav_log.proofs.make_teller.MakeTeller.tell_skips.Goals as goal

pub consume-requires : goal.consume-requires
consume-requires c = subst (λ (m : Making). c.args.count ≤ length m.reader.bytes) (sym c.self.view_is) c.requires.begins.within

pub returns : goal.returns
returns c =
    let inside : Making = record { known = c.self.inside.known; start = c.self.inside.start; reader = c.self.inside.reader; rows = c.self.inside.rows } in
    skips_made c.args.self.now (record inside { reader = c.consume.new.self }) c.args._why c.args.count c.args._text.now.items c.requires.begins
    (frame_gone c.args.self.now inside c.args.count c.consume.new.self c.self.view_is c.consume.ensures)
