use Rattle.std.proofs.Common.{ap, ◌∙◌, ◌++◌}
use Rattle.std.specs.Prelude.{option_to_list}
use Rattle.plan_upload.specs.Keeping.{gathered_in}
use Rattle.plan_upload.proofs.Gathered.{joined_is_valid}
use Rattle.plan_upload.proofs.uploads.UploadSlot.items_with.Goals as goal

pub returns-clause-valid : goal.returns-clause-valid
returns-clause-valid c =
    λ item has sound.
    joined_is_valid c.self.inside.open c.self.inside.items _ item c.args.self.now c.self.invariant c.self.view_is sound
    (ap (λ l. l ++ option_to_list c.args.last) c.gathered.ensures ∙ ap (λ o. gathered_in c.args.self.now ++ option_to_list o) has)
