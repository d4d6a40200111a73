use Rattle.decode_command.proofs.Steps.{skips_told}
use Rattle.decode_command.proofs.decoder.DecoderTeller.tell_skips.Goals as goal

pub returns : goal.returns
returns c =
    let done = c.append_skips.ensures in
    skips_told c.args.self.now c.append_skips.new.self c.args.why c.args.count c.args.text.now.items c.append_skips.new.text.items c.append_skips.result c.requires.begins done.text done.same done.appended
