use Rattle.decode_command.proofs.Steps.{frame_told}
use Rattle.decode_command.proofs.decoder.DecoderTeller.tell_event.Goals as goal

pub returns : goal.returns
returns c =
    let done = c.append_frame.ensures in
    frame_told c.args.self.now c.append_frame.new.self c.args.size c.args.text.now.items c.append_frame.new.text.items c.append_frame.result c.requires.begins done.text done.same done.appended
