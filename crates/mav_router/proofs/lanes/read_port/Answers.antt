use Rattle.mav_router.proofs.Findings.{grows_by, heard, takes_by, unheard}
use Rattle.mav_router.proofs.PortSteps.{on_ok, on_err}
use Rattle.mav_router.proofs.lanes.read_port.Goals as goal

pub returns-clause-grows : goal.returns-clause-grows
returns-clause-grows g c =
    let e = c.admit_found.ensures in
    grows_by c.args.port c.args.switch.now c.admit_found.new.self _ e.same.0 e.admits.kept e.given

pub returns-clause-input : goal.returns-clause-input
returns-clause-input g c =
    let before = c.args.switch.now.journal in
    let takes = takes_by c.admit_found.result c.args.port before c.admit_found.new.self.journal _ c.admit_found.ensures.admits in
    on_ok c.admit_found.result (λ all rules first i.
    heard c.admit_found.result rules c.args.port before c.admit_found.new.self.journal _ first _ c.read_lane.new.lane c.find.new.reader c.find.new.skipped _ (c.in-Some.ensures.some rules before c.args.port first i) c.in_default-find.ensures.finds c.find.ensures.ended takes all) takes.all

pub returns-clause-stopped : goal.returns-clause-stopped
returns-clause-stopped g c =
    let before = c.args.switch.now.journal in
    let takes = takes_by c.admit_found.result c.args.port before c.admit_found.new.self.journal _ c.admit_found.ensures.admits in
    on_err c.admit_found.result (λ some rules first i.
    unheard c.admit_found.result rules c.args.port before c.admit_found.new.self.journal _ first _ c.read_lane.new.lane c.find.new.reader c.find.new.skipped _ (c.in-Some.ensures.some rules before c.args.port first i) c.in_default-find.ensures.finds takes some) takes.some

pub returns-in-Err-clause-stopped : goal.returns-in-Err-clause-stopped
returns-in-Err-clause-stopped g c = λ rules first i.
    let before = c.args.switch.now.journal in
    let u = c.in-Some.ensures.some rules before c.args.port first i in
    u.stops before (c.in-Err.ensures.unkept rules c.args.port u.bytes before u.reading)
