use Rattle.std.proofs.Common.{slice_index, sym}
use Rattle.mav_frame.specs.declared.looks.Why.TheVariants.{Short}
use Rattle.mav_frame.proofs.EventsFound.{skipped_event, short_event}
use Rattle.mav_frame.proofs.parsing.front_at.Goals as goal

pub returns-in-NotHere-clause-front : goal.returns-in-NotHere-clause-front
returns-in-NotHere-clause-front c =
    (slice_index c.args.bytes.now 0, c.in-NotHere.field-0, skipped_event c.args.extras.now c.args.old c.args.bytes.now c.in-NotHere.field-0 c.requires (sym c.in-NotHere.ensures.exact))

pub returns-in-More-clause-front : goal.returns-in-More-clause-front
returns-in-More-clause-front c =
    (slice_index c.args.bytes.now 0, Short, short_event c.args.extras.now c.args.old c.args.bytes.now c.in-More.field-0 c.requires (sym c.in-More.ensures.exact))
