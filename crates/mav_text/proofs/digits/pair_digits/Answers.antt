use Rattle.std.proofs.Common.{refl}
use Rattle.mav_text.proofs.Tables.{pairs_at}
use Rattle.mav_text.proofs.digits.pair_digits.Goals as goal

pub returns : goal.returns
returns c = let p = pairs_at c.args.pair c.requires in rw (p.0, p.1) refl
