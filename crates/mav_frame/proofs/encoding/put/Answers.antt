use Rattle.std.proofs.Common.{◌-◌, ◌+◌, length, ◌∙◌, ap, arith}
use Rattle.std.proofs.lemmas.Slice.{drop-put_mid}
use Rattle.mav_frame.proofs.encoding.put.Goals as goal

pub returns-clause-rest : goal.returns-clause-rest
returns-clause-rest g c k h =
    let at = c.args.at in let n = length c.args.bytes.now in
    let fits = c.requires in let room = c.told-out in let copied = c.copy_from_slice.ensures.after in
    drop-put_mid at (at + n - at) c.args.out.now c.copy_from_slice.new.self k (omega arith) (omega arith) (ap length copied ∙ omega arith)
