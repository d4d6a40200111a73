use Rattle.mav_router.proofs.Outgoing.{keeps_same, keeps_then}
use Rattle.mav_router.proofs.WritingNow.{given_asked, keeps_asked}
use Rattle.mav_router.proofs.writing_now.room_after.Goals as goal

pub returns-then-left-size-clause-given : goal.returns-then-left-size-clause-given
returns-then-left-size-clause-given g c = λ frames first given. given

pub returns-then-left-size-clause-keeps : goal.returns-then-left-size-clause-keeps
returns-then-left-size-clause-keeps g c = keeps_same (g.L.Link.state c.args.link.now) c.args.lane.now

pub returns-clause-given : goal.returns-clause-given
returns-clause-given g c = λ frames first given.
    let f = c.flush in
    given_asked frames first (g.L.Link.state f.new.link) (g.L.Link.state c.room_of.new.link) f.new.lane f.new.batch c.room_of.ensures.kept f.ensures.empty (f.ensures.output frames first given)

pub returns-clause-keeps : goal.returns-clause-keeps
returns-clause-keeps g c =
    let f = c.flush in
    keeps_then (g.L.Link.state c.args.link.now) (g.L.Link.state f.new.link) (g.L.Link.state c.room_of.new.link) c.args.lane.now f.new.lane f.new.lane f.ensures.keeps
    (keeps_asked (g.L.Link.state f.new.link) (g.L.Link.state c.room_of.new.link) f.new.lane c.room_of.ensures.kept)
