use Rattle.mav_log.proofs.Steps.{byte_shown}
use Rattle.mav_log.proofs.show_teller.ShowTeller.tell_skips.Goals as goal

pub show_skip-requires-clause-some : goal.show_skip-requires-clause-some
show_skip-requires-clause-some c = c.requires.begins.event.some

pub returns : goal.returns
returns c =
    let done = c.show_skip.ensures in
    byte_shown c.args.self.now c.show_skip.new.self c.args.why c.args._count c.args.text.now.items c.show_skip.new.text.items c.show_skip.result c.requires.begins.event done.text done.unshown done.shown
