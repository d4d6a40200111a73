use Rattle.std.proofs.Common.{drop}
use Rattle.mav_stream.specs.Spans.{first_packet}
use Rattle.mav_log.proofs.Steps.{frame_bytes, frame_made}
use Rattle.mav_log.proofs.make_teller.MakeTeller.tell_event.Goals as goal

pub make_row-requires-clause-size : goal.make_row-requires-clause-size
make_row-requires-clause-size c = c.requires.begins.within

pub make_row-requires-clause-frame : goal.make_row-requires-clause-frame
make_row-requires-clause-frame c =
    let held = c.args.self.now.reader in
    frame_bytes held (record held { bytes = drop c.args.size held.bytes }) c.args.size (first_packet held) c.requires.begins.frame.0 c.requires.begins.progress

pub returns : goal.returns
returns c =
    let done = c.make_row.ensures in
    frame_made c.args.self.now c.make_row.new.self c.args.size c.args.text.now.items c.make_row.new.text.items c.make_row.result c.requires.begins done.text done.unmade done.made
