use Rattle.std.proofs.Common.{ℕ, ◌<◌, subst, arith}
use Rattle.std.proofs.lemmas.List.{get_or_default}
use Rattle.mav_frame.proofs.raw.are_bytes.Goals as goal

pub returns : goal.returns
returns c = λ k d l. subst (λ (z : ℕ). z < 256) (get_or_default c.args.bytes.now k 0 d l) (omega (arith, c.type_inv.bytes k))
