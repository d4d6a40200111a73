use Rattle.std.proofs.Common.{List, ℕ, ◌++◌, sym, subst}
use Rattle.mav_router.specs.Outgoing.{GivenBut}
use Rattle.mav_router.proofs.Outgoing.{given_all, given_more, keeps_then}
use Rattle.mav_router.proofs.writing.pass_on.Goals as goal

pub returns-then-run-clause-given : goal.returns-then-run-clause-given
returns-then-run-clause-given g c = λ frames more first is given.
    let w = c.write_run in
    let all = frames ++ more in
    subst (λ (t : List ℕ). GivenBut all first (g.L.Link.state w.new.link) w.new.lane t) (sym c.flush.ensures.empty)
    (given_all all first (g.L.Link.state w.new.link) w.new.lane (w.ensures.output frames more first is (c.flush.ensures.output frames first given)))

pub returns-then-run-clause-keeps : goal.returns-then-run-clause-keeps
returns-then-run-clause-keeps g c =
    let f = c.flush in
    let w = c.write_run in
    keeps_then (g.L.Link.state c.args.link.now) (g.L.Link.state f.new.link) (g.L.Link.state w.new.link) c.args.lane.now f.new.lane w.new.lane f.ensures.keeps w.ensures.keeps

pub returns-clause-given : goal.returns-clause-given
returns-clause-given g c = λ frames more first is given.
    let m = c.make_room in
    subst (λ (t : List ℕ). GivenBut (frames ++ more) first (g.L.Link.state m.new.link) m.new.lane t) (sym c.push.ensures)
    (given_more frames more first (g.L.Link.state m.new.link) m.new.lane m.new.batch c.args.run.bytes.now is (m.ensures.given frames first given))

pub returns-clause-keeps : goal.returns-clause-keeps
returns-clause-keeps g c = c.make_room.ensures.keeps
