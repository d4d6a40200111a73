use Rattle.std.proofs.Common.{◌≡◌, ◌∙◌, ◌++◌, ℕ, List, ap, OnOk, subst}
use Rattle.decode_command.specs.DecodeText.{counts_line}
use Rattle.decode_command.specs.Decodes.{Decoding}
use Rattle.decode_command.proofs.Steps.{counts_of_all}
use Rattle.decode_command.proofs.decoder.DecoderTeller.close.Goals as goal

pub returns : goal.returns
returns c taken told all =
    subst (λ (line : List ℕ). OnOk c.put_counts.result (c.put_counts.new.text.items ≡ c.args.text.now.items ++ line))
    (ap (λ (d : Decoding). counts_line d.frames d.skipped) c.self.view_is ∙ counts_of_all c.args.self.now taken told all) c.put_counts.ensures
