use Rattle.std.proofs.Common.{◌∙◌, refl, ap}
use Rattle.std.proofs.lemmas.Result.{err_from_is_err_and}
use Rattle.mav_log.specs.Tellers.{Filtering}
use Rattle.mav_log.proofs.RowBytes.{row_kept, row_left, row_gone}
use Rattle.mav_log.proofs.filter_teller.Filter.keep_row.Goals.{then-system_of-self+in_ok-extend_from_slice, else-system_of-self}
use Rattle.mav_log.proofs.filter_teller.Filter.keep_row.Goals as goal

pub returns-in_err-extend_from_slice-clause-text : goal.returns-in_err-extend_from_slice-clause-text
returns-in_err-extend_from_slice-clause-text c = let e = err_from_is_err_and c.from_residual.result c.from_residual.ensures.1 in rw e.1 tt

pub returns-in_err-extend_from_slice-clause-kept : goal.returns-in_err-extend_from_slice-clause-kept
returns-in_err-extend_from_slice-clause-kept c = let e = err_from_is_err_and c.from_residual.result c.from_residual.ensures.1 in rw e.1 tt

pub returns-in_err-extend_from_slice-clause-unkept : goal.returns-in_err-extend_from_slice-clause-unkept
returns-in_err-extend_from_slice-clause-unkept c = let e = err_from_is_err_and c.from_residual.result c.from_residual.ensures.1 in rw e.1 refl

pub returns-clause-text : goal.returns-clause-text
returns-clause-text c = elim c.if-system_of-self.branch [
  | then-system_of-self+in_ok-extend_from_slice w ↦
      row_kept c.args.self.now (record { known = c.self.inside.known; sys = c.self.inside.sys; reader = c.self.inside.reader }) c.args.size c.bytes-bytes.result.now c.args.text.now.items c.if-system_of-self.text.items c.system_of.result c.self.view_is c.bytes-bytes.ensures c.system_of.ensures
      c.requires.row w.if-system_of-self.true (ap (λ t. t.items) w.text-is ∙ w.in_ok-extend_from_slice.ensures.items)
  | else-system_of-self w ↦
      row_left c.args.self.now (record { known = c.self.inside.known; sys = c.self.inside.sys; reader = c.self.inside.reader }) c.args.size c.bytes-bytes.result.now c.args.text.now.items c.if-system_of-self.text.items c.system_of.result c.self.view_is c.bytes-bytes.ensures c.system_of.ensures
      w.if-system_of-self.false (ap (λ t. t.items) w.text-is)
]

pub returns-clause-kept : goal.returns-clause-kept
returns-clause-kept c =
    let at = c.if-system_of-self.self-inside in
    row_gone c.args.self.now (record { known = at.known; sys = at.sys; reader = at.reader }) c.args.size c.consume.new.self
    (elim c.if-system_of-self.branch [
      | then-system_of-self+in_ok-extend_from_slice w ↦ ap (λ f. let v : Filtering = record { known = f.known; sys = f.sys; reader = f.reader } in v) w.self-inside-is ∙ c.self.view_is
      | else-system_of-self w ↦ ap (λ f. let v : Filtering = record { known = f.known; sys = f.sys; reader = f.reader } in v) w.self-inside-is ∙ c.self.view_is
    ])
    c.consume.ensures

pub returns-clause-unkept : goal.returns-clause-unkept
returns-clause-unkept c = tt
