use Rattle.mav_log.proofs.Steps.{row_filtered}
use Rattle.mav_log.proofs.filter_teller.FilterTeller.tell_event.Goals as goal

pub keep_row-requires-clause-size : goal.keep_row-requires-clause-size
keep_row-requires-clause-size c = c.requires.begins.event.within

pub keep_row-requires-clause-row : goal.keep_row-requires-clause-row
keep_row-requires-clause-row c = c.requires.begins.event.row

pub returns : goal.returns
returns c =
    let done = c.keep_row.ensures in
    row_filtered c.args.self.now c.keep_row.new.self c.args.size c.args.text.now.items c.keep_row.new.text.items c.keep_row.result c.requires.begins.event done.text done.unkept done.kept
