-- Each word is read if the words before it are; the first that isn't gives the reason.
use Rattle.std.proofs.lemmas.Result.{err_from_is_err_and}
use Rattle.scenario_lines.proofs.ReadWords.{ok_then, err_then}
use Rattle.scenario_lines.proofs.words.Words.item.Goals as goal

pub returns-in_err-frame : goal.returns-in_err-frame
returns-in_err-frame c =
    let p = err_from_is_err_and c.from_residual.result c.from_residual.ensures.1 in
    rw (p.1, p.2) (err_then _ _ _ c.in_err-frame.ensures.exact)

pub returns-in_err-command : goal.returns-in_err-command
returns-in_err-command c =
    let p = err_from_is_err_and c.from_residual-in_err-command.result c.from_residual-in_err-command.ensures.1 in
    rw (p.1, p.2) (ok_then _ _ _ _ c.in_ok-frame.ensures.exact
    (err_then _ _ _ c.in_err-command.ensures.exact))

pub returns-in_err-x : goal.returns-in_err-x
returns-in_err-x c =
    let p = err_from_is_err_and c.from_residual-in_err-x.result c.from_residual-in_err-x.ensures.1 in
    rw (p.1, p.2) (ok_then _ _ _ _ c.in_ok-frame.ensures.exact
    (ok_then _ _ _ _ c.in_ok-command.ensures.exact
    (err_then _ _ _ c.in_err-x.ensures)))

pub returns-in_err-y : goal.returns-in_err-y
returns-in_err-y c =
    let p = err_from_is_err_and c.from_residual-in_err-y.result c.from_residual-in_err-y.ensures.1 in
    rw (p.1, p.2) (ok_then _ _ _ _ c.in_ok-frame.ensures.exact
    (ok_then _ _ _ _ c.in_ok-command.ensures.exact
    (ok_then _ _ _ _ c.in_ok-x.ensures
    (err_then _ _ _ c.in_err-y.ensures))))

pub returns-in_err-z : goal.returns-in_err-z
returns-in_err-z c =
    let p = err_from_is_err_and c.from_residual-in_err-z.result c.from_residual-in_err-z.ensures.1 in
    rw (p.1, p.2) (ok_then _ _ _ _ c.in_ok-frame.ensures.exact
    (ok_then _ _ _ _ c.in_ok-command.ensures.exact
    (ok_then _ _ _ _ c.in_ok-x.ensures
    (ok_then _ _ _ _ c.in_ok-y.ensures
    (err_then _ _ _ c.in_err-z.ensures)))))

pub returns-in_err-p1 : goal.returns-in_err-p1
returns-in_err-p1 c =
    let p = err_from_is_err_and c.from_residual-in_err-p1.result c.from_residual-in_err-p1.ensures.1 in
    rw (p.1, p.2) (ok_then _ _ _ _ c.in_ok-frame.ensures.exact
    (ok_then _ _ _ _ c.in_ok-command.ensures.exact
    (ok_then _ _ _ _ c.in_ok-x.ensures
    (ok_then _ _ _ _ c.in_ok-y.ensures
    (ok_then _ _ _ _ c.in_ok-z.ensures
    (err_then _ _ _ c.in_err-p1.ensures))))))

pub returns-in_err-p2 : goal.returns-in_err-p2
returns-in_err-p2 c =
    let p = err_from_is_err_and c.from_residual-in_err-p2.result c.from_residual-in_err-p2.ensures.1 in
    rw (p.1, p.2) (ok_then _ _ _ _ c.in_ok-frame.ensures.exact
    (ok_then _ _ _ _ c.in_ok-command.ensures.exact
    (ok_then _ _ _ _ c.in_ok-x.ensures
    (ok_then _ _ _ _ c.in_ok-y.ensures
    (ok_then _ _ _ _ c.in_ok-z.ensures
    (ok_then _ _ _ _ c.in_ok-p1.ensures
    (err_then _ _ _ c.in_err-p2.ensures)))))))

pub returns-in_err-p3 : goal.returns-in_err-p3
returns-in_err-p3 c =
    let p = err_from_is_err_and c.from_residual-in_err-p3.result c.from_residual-in_err-p3.ensures.1 in
    rw (p.1, p.2) (ok_then _ _ _ _ c.in_ok-frame.ensures.exact
    (ok_then _ _ _ _ c.in_ok-command.ensures.exact
    (ok_then _ _ _ _ c.in_ok-x.ensures
    (ok_then _ _ _ _ c.in_ok-y.ensures
    (ok_then _ _ _ _ c.in_ok-z.ensures
    (ok_then _ _ _ _ c.in_ok-p1.ensures
    (ok_then _ _ _ _ c.in_ok-p2.ensures
    (err_then _ _ _ c.in_err-p3.ensures))))))))

pub returns-in_err-p4 : goal.returns-in_err-p4
returns-in_err-p4 c =
    let p = err_from_is_err_and c.from_residual-in_err-p4.result c.from_residual-in_err-p4.ensures.1 in
    rw (p.1, p.2) (ok_then _ _ _ _ c.in_ok-frame.ensures.exact
    (ok_then _ _ _ _ c.in_ok-command.ensures.exact
    (ok_then _ _ _ _ c.in_ok-x.ensures
    (ok_then _ _ _ _ c.in_ok-y.ensures
    (ok_then _ _ _ _ c.in_ok-z.ensures
    (ok_then _ _ _ _ c.in_ok-p1.ensures
    (ok_then _ _ _ _ c.in_ok-p2.ensures
    (ok_then _ _ _ _ c.in_ok-p3.ensures
    (err_then _ _ _ c.in_err-p4.ensures)))))))))
