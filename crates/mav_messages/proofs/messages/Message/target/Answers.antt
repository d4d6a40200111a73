use Rattle.std.proofs.Common.{◌∙◌}
use Rattle.mav_messages.specs.Messages.{definition_of, values_of}
use Rattle.mav_messages.proofs.Naming.{targets_agree}
use Rattle.mav_messages.proofs.messages.Message.target.Goals as goal

pub returns : goal.returns
returns c = λ payload of. c.target_or_zeros.ensures ∙ targets_agree (definition_of c.args.self.now) payload (values_of c.args.self.now) of
