use Rattle.mav_messages.proofs.Decoded.{padded_front}
use Rattle.mav_messages.proofs.words.padded.Goals as goal

pub returns : goal.returns
returns c =
    λ k small. padded_front c.args.payload.now c.copy_from_slice.new.self c.min-len.result c.copy_from_slice.ensures.after c.min-len.ensures k small
