use Rattle.std.proofs.Common.{true, length, subst}
use Rattle.mav_profile.specs.Messages.{extras_of}
use Rattle.mav_stream.specs.Spans.{IsNextSpan}
use Rattle.decode_command.proofs.Loads.{room_more}
use Rattle.decode_command.proofs.Results.{if_need}
use Rattle.mav_log.specs.Tellers.{Making}
use Rattle.mav_log.proofs.Steps.{made_whole}
use Rattle.mav_log.proofs.make_teller.MakeTeller.next_span.Goals as goal

pub returns-clause-begins : goal.returns-clause-begins
returns-clause-begins c = subst (λ (m : Making). IsNextSpan m.reader c.next_span.result) c.self.view_is c.next_span.ensures

pub returns-clause-room : goal.returns-clause-room
returns-clause-room c =
    let now = c.args.self.now in
    let at = subst (λ (m : Making). IsNextSpan m.reader c.next_span.result) c.self.view_is c.next_span.ensures in
    if_need c.next_span.result at.room (room_more (length now.reader.bytes))

pub returns-clause-all : goal.returns-clause-all
returns-clause-all c ended taken told h =
    let now = c.args.self.now in
    let at = subst (λ (m : Making). IsNextSpan m.reader c.next_span.result) c.self.view_is c.next_span.ensures in
    if_need c.next_span.result (at.whole (extras_of now.known) true taken h.given h.progress) (made_whole now ended taken told h)
