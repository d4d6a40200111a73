use Rattle.std.proofs.Common.{sym}
use Rattle.mav_frame.proofs.EventsFound.{some_bytes, frame_event, skipped_event, short_event}
use Rattle.mav_frame.proofs.parsing.event_at.Goals as goal

pub returns-in-Frame-clause-event : goal.returns-in-Frame-clause-event
returns-in-Frame-clause-event c =
    frame_event c.args.extras.now c.args.old c.args.bytes.now c.in-Frame.frame c.in-Frame.size c.in-Frame.ensures.found

pub returns-in-NotHere-clause-event : goal.returns-in-NotHere-clause-event
returns-in-NotHere-clause-event c =
    skipped_event c.args.extras.now c.args.old c.args.bytes.now c.in-NotHere.why c.requires (sym c.in-NotHere.ensures.exact)

pub returns-in-More-clause-event : goal.returns-in-More-clause-event
returns-in-More-clause-event c =
    short_event c.args.extras.now c.args.old c.args.bytes.now _ c.requires (sym c.in-More.ensures.exact)

pub returns-in-Frame-clause-size : goal.returns-in-Frame-clause-size
returns-in-Frame-clause-size c =
    let f = c.in-Frame.ensures.found in
    (some_bytes c.in-Frame.size c.args.bytes.now c.in-Frame.frame f.1.bytes, f.0)
