use Rattle.std.proofs.Common.{append-nil, take, ◌∙◌}
use Rattle.std.proofs.lemmas.Result.{err_from_is_err_and}
use Rattle.mav_text.proofs.SkipSteps.{kept_same, kept_prefix}
use Rattle.mav_text.proofs.chunk.append_enough.Goals as goal

pub returns-in_err-extend_from_slice-clause-room : goal.returns-in_err-extend_from_slice-clause-room
returns-in_err-extend_from_slice-clause-room c =
    let e = err_from_is_err_and c.from_residual.result c.from_residual.ensures.1 in
    rw e.1 tt

pub returns-in_err-extend_from_slice-clause-text : goal.returns-in_err-extend_from_slice-clause-text
returns-in_err-extend_from_slice-clause-text c =
    let e = err_from_is_err_and c.from_residual.result c.from_residual.ensures.1 in
    rw e.1 tt

pub returns-in_err-extend_from_slice-clause-prefix : goal.returns-in_err-extend_from_slice-clause-prefix
returns-in_err-extend_from_slice-clause-prefix c =
    kept_same c.args.out.now.items c.extend_from_slice.new.self.items _ c.args.out.now.ok.0 c.in_err-extend_from_slice.ensures.items

pub returns-clause-text : goal.returns-clause-text
returns-clause-text c = append-nil c.extend_from_slice.new.self.items ∙ c.in_ok-extend_from_slice.ensures.items

pub returns-clause-prefix : goal.returns-clause-prefix
returns-clause-prefix c =
    kept_prefix c.args.out.now.items (take c.args.end c.args.chunk.now) c.extend_from_slice.new.self.items _ c.args.out.now.ok.0 c.in_ok-extend_from_slice.ensures.items
