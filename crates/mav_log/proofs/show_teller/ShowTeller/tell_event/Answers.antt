use Rattle.mav_log.proofs.Steps.{row_shown}
use Rattle.mav_log.proofs.show_teller.ShowTeller.tell_event.Goals as goal

pub show_row-requires-clause-size : goal.show_row-requires-clause-size
show_row-requires-clause-size c = c.requires.begins.event.within

pub show_row-requires-clause-long : goal.show_row-requires-clause-long
show_row-requires-clause-long c = c.requires.begins.event.row.0

pub show_row-requires-clause-frame : goal.show_row-requires-clause-frame
show_row-requires-clause-frame c = c.requires.begins.event.row.3

pub returns : goal.returns
returns c =
    let done = c.show_row.ensures in
    row_shown c.args.self.now c.show_row.new.self c.args.size c.args.text.now.items c.show_row.new.text.items c.show_row.result c.requires.begins.event done.text done.unshown done.shown
