use Rattle.std.proofs.Common.{[], refl, subst}
use Rattle.mav_links.specs.Links.{LinkState}
use Rattle.mav_router.specs.Outgoing.{LooksOn}
use Rattle.mav_router.proofs.Outgoing.{all_written, keeps_same, keeps_then, looks_more}
use Rattle.mav_router.proofs.WritingNow.{keeps_asked, looks_asked, looks_on}
use Rattle.mav_router.proofs.writing_now.write_entries_now.Goals as goal

pub loop-from-init : goal.loop-from-init
loop-from-init g c =
    let now = g.L.Link.state c.room_of-left.new.link in
    record {
      looks = looks_asked c.args.port c.args.journal.now c.args.from.now now now c.args.lane.now c.clear.new.self c.requires.within refl c.clear.ensures;
      keeps = keeps_same now c.args.lane.now;
    }

pub loop-from-preserved : goal.loop-from-preserved
loop-from-preserved g c =
    let l = c.loop-from in
    let run = c.run-run in
    let p = c.pass_on in
    let r = c.room_after-left in
    let before = g.L.Link.state c.room_of-left.new.link in
    let now = g.L.Link.state l.link in
    let passed = g.L.Link.state p.new.link in
    let after = g.L.Link.state r.new.link in
    let lane = c.args.lane.now in
    record {
      looks = looks_on c.args.port c.args.journal.now c.args.from.now run.new.from before passed after lane p.new.lane r.new.lane [] p.new.batch r.new.batch r.ensures.given
          (looks_more c.args.port c.args.journal.now c.args.from.now l.from run.new.from run.result.bytes.now before now passed lane l.lane p.new.lane [] l.batch p.new.batch run.ensures.within run.ensures.run p.ensures.given l.invariant.looks);
      keeps = keeps_then before passed after lane p.new.lane r.new.lane
          (keeps_then before now passed lane l.lane p.new.lane l.invariant.keeps p.ensures.keeps) r.ensures.keeps;
    }

pub returns-clause-writes : goal.returns-clause-writes
returns-clause-writes g c =
    let l = c.loop-from in
    let f = c.flush in
    all_written c.args.port c.args.journal.now c.args.from.now l.from (g.L.Link.state c.args.link.now) (g.L.Link.state l.link) (g.L.Link.state f.new.link) c.args.lane.now l.lane f.new.lane l.batch f.ensures.output
    (subst (λ (s : LinkState). LooksOn c.args.port c.args.journal.now c.args.from.now l.from s (g.L.Link.state l.link) c.args.lane.now l.lane [] l.batch) c.room_of-left.ensures.kept l.invariant.looks)

pub returns-clause-keeps : goal.returns-clause-keeps
returns-clause-keeps g c =
    let l = c.loop-from in
    let f = c.flush in
    keeps_then (g.L.Link.state c.args.link.now) (g.L.Link.state l.link) (g.L.Link.state f.new.link) c.args.lane.now l.lane f.new.lane
    (keeps_then (g.L.Link.state c.args.link.now) (g.L.Link.state c.room_of-left.new.link) (g.L.Link.state l.link) c.args.lane.now c.args.lane.now l.lane
    (keeps_asked (g.L.Link.state c.args.link.now) (g.L.Link.state c.room_of-left.new.link) c.args.lane.now c.room_of-left.ensures.kept) l.invariant.keeps)
    f.ensures.keeps
