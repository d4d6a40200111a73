use Rattle.std.proofs.Common.{List, ℕ, subst, sym}
use Rattle.mav_router.specs.Outgoing.{GivenBut}
use Rattle.mav_router.proofs.Outgoing.{given_written}
use Rattle.mav_router.proofs.writing.flush.Goals as goal

pub returns-clause-output : goal.returns-clause-output
returns-clause-output g c = λ frames first given.
    let w = c.write_run in
    given_written frames first (g.L.Link.state c.args.link.now) (g.L.Link.state w.new.link) c.args.lane.now w.new.lane c.bytes.result.now w.ensures.output
    (subst (λ (t : List ℕ). GivenBut frames first (g.L.Link.state c.args.link.now) c.args.lane.now t) (sym c.bytes.ensures) given)
