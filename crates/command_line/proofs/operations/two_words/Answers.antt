use Rattle.std.proofs.Common.{◌∙◌, sym, ap, codes, option_map}
use Rattle.std.proofs.lemmas.Bool.{and_left, and_right}
use Rattle.std.specs.Str.{bytes_eq}
use Rattle.command_line.specs.declared.operations.Operation.TheVariants.{Upload, Get, Clear}
use Rattle.command_line.proofs.TwoWords.{at_upload, at_get, at_clear, at_list, at_files, at_none}
use Rattle.command_line.proofs.operations.two_words.Goals.{else-eq-4-via-then-eq-4+else-eq-5, else-eq-4-via-else-eq-4, else-eq-6-via-then-eq-6+else-eq-7, else-eq-6-via-else-eq-6}
use Rattle.command_line.proofs.operations.two_words.Goals as goal

pub returns-in_err-plan_named : goal.returns-in_err-plan_named
returns-in_err-plan_named c =
    c.from_residual.ensures ∙ ap (option_map Upload) (sym c.in_err-plan_named.was)
    ∙ at_upload c.args.name.now c.args.word.now c.plan_named.result (sym c.eq.ensures ∙ c.if-eq.true) c.plan_named.ensures

pub returns-then-eq : goal.returns-then-eq
returns-then-eq c =
    ap (option_map Upload) (sym c.in_ok-plan_named.was)
    ∙ at_upload c.args.name.now c.args.word.now c.plan_named.result (sym c.eq.ensures ∙ c.if-eq.true) c.plan_named.ensures

pub returns-in_err-plan_named-2 : goal.returns-in_err-plan_named-2
returns-in_err-plan_named-2 c =
    c.from_residual-in_err-plan_named-2.ensures ∙ ap (option_map Get) (sym c.in_err-plan_named-2.was)
    ∙ at_get c.args.name.now c.args.word.now c.plan_named-then-eq-2.result (sym c.eq.ensures ∙ c.if-eq.false) (sym c.eq-2.ensures ∙ c.if-eq-2.true) c.plan_named-then-eq-2.ensures

pub returns-then-eq-2 : goal.returns-then-eq-2
returns-then-eq-2 c =
    ap (option_map Get) (sym c.in_ok-plan_named-2.was)
    ∙ at_get c.args.name.now c.args.word.now c.plan_named-then-eq-2.result (sym c.eq.ensures ∙ c.if-eq.false) (sym c.eq-2.ensures ∙ c.if-eq-2.true) c.plan_named-then-eq-2.ensures

pub returns-in_err-cleared_named : goal.returns-in_err-cleared_named
returns-in_err-cleared_named c =
    c.from_residual-in_err-cleared_named.ensures ∙ ap (option_map Clear) (sym c.in_err-cleared_named.was)
    ∙ at_clear c.args.name.now c.args.word.now c.cleared_named.result (sym c.eq.ensures ∙ c.if-eq.false) (sym c.eq-2.ensures ∙ c.if-eq-2.false) (sym c.eq-3.ensures ∙ c.if-eq-3.true) c.cleared_named.ensures

pub returns-then-eq-3 : goal.returns-then-eq-3
returns-then-eq-3 c =
    ap (option_map Clear) (sym c.in_ok-cleared_named.was)
    ∙ at_clear c.args.name.now c.args.word.now c.cleared_named.result (sym c.eq.ensures ∙ c.if-eq.false) (sym c.eq-2.ensures ∙ c.if-eq-2.false) (sym c.eq-3.ensures ∙ c.if-eq-3.true) c.cleared_named.ensures

pub returns-then-eq-5 : goal.returns-then-eq-5
returns-then-eq-5 c =
    at_list c.args.name.now c.args.word.now (sym c.eq.ensures ∙ c.if-eq.false) (sym c.eq-2.ensures ∙ c.if-eq-2.false) (sym c.eq-3.ensures ∙ c.if-eq-3.false)
    (sym c.eq-4.ensures ∙ c.if-eq-4.true) (sym c.eq-then-eq-4.ensures ∙ c.if-eq-5.true)

pub returns-then-eq-7 : goal.returns-then-eq-7
returns-then-eq-7 c =
    at_files c.args.name.now c.args.word.now (sym c.eq.ensures ∙ c.if-eq.false) (sym c.eq-2.ensures ∙ c.if-eq-2.false) (sym c.eq-3.ensures ∙ c.if-eq-3.false)
    (elim c.else-eq-4.branch [
      | else-eq-4-via-then-eq-4+else-eq-5 w ↦ and_right (bytes_eq c.args.name.now (codes "param")) (bytes_eq c.args.word.now (codes "list")) (sym w.eq-then-eq-4.ensures ∙ w.if-eq-5.false)
      | else-eq-4-via-else-eq-4 w ↦ and_left (bytes_eq c.args.name.now (codes "param")) (bytes_eq c.args.word.now (codes "list")) (sym c.eq-4.ensures ∙ w.if-eq-4.false)
    ])
    (sym c.eq-5.ensures ∙ c.if-eq-6.true) (sym c.eq-then-eq-6.ensures ∙ c.if-eq-7.true)

pub returns : goal.returns
returns c =
    at_none c.args.name.now c.args.word.now (sym c.eq.ensures ∙ c.if-eq.false) (sym c.eq-2.ensures ∙ c.if-eq-2.false) (sym c.eq-3.ensures ∙ c.if-eq-3.false)
    (elim c.else-eq-4.branch [
      | else-eq-4-via-then-eq-4+else-eq-5 w ↦ and_right (bytes_eq c.args.name.now (codes "param")) (bytes_eq c.args.word.now (codes "list")) (sym w.eq-then-eq-4.ensures ∙ w.if-eq-5.false)
      | else-eq-4-via-else-eq-4 w ↦ and_left (bytes_eq c.args.name.now (codes "param")) (bytes_eq c.args.word.now (codes "list")) (sym c.eq-4.ensures ∙ w.if-eq-4.false)
    ])
    (elim c.else-eq-6.branch [
      | else-eq-6-via-then-eq-6+else-eq-7 w ↦ and_right (bytes_eq c.args.name.now (codes "file")) (bytes_eq c.args.word.now (codes "list")) (sym w.eq-then-eq-6.ensures ∙ w.if-eq-7.false)
      | else-eq-6-via-else-eq-6 w ↦ and_left (bytes_eq c.args.name.now (codes "file")) (bytes_eq c.args.word.now (codes "list")) (sym c.eq-5.ensures ∙ w.if-eq-6.false)
    ])
