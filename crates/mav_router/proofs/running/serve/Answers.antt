use Rattle.std.proofs.Common.{◌∙◌}
use Rattle.mav_router.proofs.running.serve.Goals as goal

pub returns : goal.returns
returns g c =
    let e = c.in-Done.ensures in
    record {
      ready = c.write_on.ensures.ready;
      port = c.write_on.ensures.port ∙ e.port;
      ends = λ first p. (c.write_on.ensures.so_far first (e.ends first p).0, c.write_on.ensures.turned c.args.crew.now.turns (e.ends first p).1);
    }
