use Rattle.std.proofs.Common.{◌∙◌, arith}
use Rattle.mav_frame.proofs.FoundEncoded.{once_look}
use Rattle.mav_frame.proofs.EncodedFound.{found}
use Rattle.mav_frame.proofs.checking.look.Goals as goal

pub returns-clause-found : goal.returns-clause-found
returns-clause-found c = once_look c.args.extras.now c.args.old c.args.bytes.now c.answer.result (λ i. omega (arith, c.type_inv.bytes i)) c.answer.ensures

pub returns-clause-only : goal.returns-clause-only
returns-clause-only c p rest f s e = c.answer.ensures ∙ found c.args.extras.now c.args.old p c.args.bytes.now rest f s e
