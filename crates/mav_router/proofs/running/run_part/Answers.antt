use Rattle.std.proofs.Common.{rules}
use Rattle.mav_router.proofs.PartEnds.{ends_kept}
use Rattle.mav_router.proofs.running.run_part.Goals as goal

pub returns : goal.returns
returns g c = record {
  ready = search rules;
  port = c.serve-part.ensures.port;
  ends = λ first p. ends_kept c.serve-part.result c.serve-part.result g.L.Link.state c.args.crew.now.rules.now c.args.crew.now.turns first c.serve-part.new.part (c.serve-part.ensures.ends first p);
}
