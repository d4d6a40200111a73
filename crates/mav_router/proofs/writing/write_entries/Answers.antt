use Rattle.std.proofs.Common.{[]}
use Rattle.mav_router.proofs.Outgoing.{all_written, keeps_then, looks_more}
use Rattle.mav_router.proofs.writing.write_entries.Goals as goal

pub loop-from-preserved : goal.loop-from-preserved
loop-from-preserved g c =
    let l = c.loop-from in
    let run = c.run-run in
    let p = c.pass_on in
    record {
      looks = looks_more c.args.port c.args.journal.now c.args.from.now l.from run.new.from run.result.bytes.now (g.L.Link.state c.args.link.now) (g.L.Link.state l.link) (g.L.Link.state p.new.link) c.args.lane.now l.lane p.new.lane [] l.batch p.new.batch run.ensures.within run.ensures.run p.ensures.given l.invariant.looks;
      keeps = keeps_then (g.L.Link.state c.args.link.now) (g.L.Link.state l.link) (g.L.Link.state p.new.link) c.args.lane.now l.lane p.new.lane l.invariant.keeps p.ensures.keeps;
    }

pub returns-clause-writes : goal.returns-clause-writes
returns-clause-writes g c =
    let l = c.loop-from in
    let f = c.flush in
    all_written c.args.port c.args.journal.now c.args.from.now l.from (g.L.Link.state c.args.link.now) (g.L.Link.state l.link) (g.L.Link.state f.new.link) c.args.lane.now l.lane f.new.lane l.batch f.ensures.output l.invariant.looks

pub returns-clause-keeps : goal.returns-clause-keeps
returns-clause-keeps g c =
    let l = c.loop-from in
    let f = c.flush in
    keeps_then (g.L.Link.state c.args.link.now) (g.L.Link.state l.link) (g.L.Link.state f.new.link) c.args.lane.now l.lane f.new.lane l.invariant.keeps f.ensures.keeps
