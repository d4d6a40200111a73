use Rattle.std.proofs.Common.{◌<◌, true, length, subst}
use Rattle.mav_profile.specs.Messages.{extras_of}
use Rattle.mav_stream.specs.Spans.{IfNeed, IsNextSpan}
use Rattle.decode_command.specs.Decodes.{Decoding}
use Rattle.decode_command.proofs.Loads.{room_more}
use Rattle.decode_command.proofs.Results.{if_need}
use Rattle.decode_command.proofs.Steps.{decoded_whole}
use Rattle.decode_command.proofs.decoder.DecoderTeller.next_span.Goals as goal

pub returns-clause-begins : goal.returns-clause-begins
returns-clause-begins c = subst (λ (d : Decoding). IsNextSpan d.reader c.next_span.result) c.self.view_is c.next_span.ensures

pub returns-clause-room : goal.returns-clause-room
returns-clause-room c =
    subst (λ (d : Decoding). IfNeed c.next_span.result (length d.reader.bytes < 288)) c.self.view_is
    (if_need c.next_span.result c.next_span.ensures.room (room_more (length c.self.inside.reader.bytes)))

pub returns-clause-all : goal.returns-clause-all
returns-clause-all c ended taken told h =
    let now = c.args.self.now in
    let at = subst (λ (d : Decoding). IsNextSpan d.reader c.next_span.result) c.self.view_is c.next_span.ensures in
    if_need c.next_span.result (at.whole (extras_of now.known.dialect) true taken h.given h.progress) (decoded_whole now ended taken told h)
