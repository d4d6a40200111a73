use Rattle.std.proofs.Common.{◌-◌, ◌+◌, length, arith}
use Rattle.mav_text.proofs.ChunkSteps.{part_put}
use Rattle.mav_text.proofs.chunk.put_part.Goals as goal

pub returns-clause-text : goal.returns-clause-text
returns-clause-text g c =
    part_put c.args.at (c.args.at + length c.args.part.now - c.args.at) c.args.len c.args.chunk.now c.args.part.now c.copy_from_slice.new.self c.copy_from_slice.ensures.after (omega arith) c.requires.len
