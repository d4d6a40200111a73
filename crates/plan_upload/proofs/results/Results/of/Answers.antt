use Rattle.std.proofs.Common.{sym, ◌∙◌}
use Rattle.plan_upload.proofs.ResultLists.{read_result, read_nothing}
use Rattle.plan_upload.proofs.results.Results.of.Goals as goal

pub returns-in_err-at : goal.returns-in_err-at
returns-in_err-at c =
    c.from_residual.ensures
    ∙ sym (read_nothing c.self.inside.entries.items c.deref.result.now c.args.self.now c.args.stream c.deref.ensures.value c.self.view_is (sym c.place.ensures ∙ c.in_err-at.was))

pub returns : goal.returns
returns c =
    read_result c.self.inside.entries.items c.deref.result.now c.args.self.now c.args.stream c.in_ok-at.at c.index.result.now c.deref.ensures.value c.self.view_is
    (sym c.place.ensures ∙ c.in_ok-at.was) c.index.ensures
