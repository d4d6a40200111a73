use Rattle.std.proofs.Common.{◌∙◌, ◌+◌, arith, rules}
use Rattle.mav_router.proofs.running.read_turns.Goals as goal

pub loop-turned-preserved : goal.loop-turned-preserved
loop-turned-preserved g c =
    let i = c.loop-turned.invariant in
    let u = c.write_until_ready.ensures in
    let r = c.read_part.ensures in
    let w = c.write_or_put_off-put_off.ensures in
    record {
      ready = w.ready;
      port = w.port ∙ (r.port ∙ (u.port ∙ i.port));
      so_far = λ first p. w.so_far first (c.in_default.ensures.so_far first (u.so_far first (i.so_far first p)));
      turned = w.turned (c.loop-turned.turned + 1) (r.turned c.loop-turned.turned (search rules) (u.turned c.loop-turned.turned i.turned));
    }

pub returns-in-Err : goal.returns-in-Err
returns-in-Err g c =
    let i = c.loop-turned.invariant in
    let u = c.write_until_ready.ensures in
    let r = c.in-Err.ensures in
    record {
      ready = c.read_part.ensures.ready;
      port = c.read_part.ensures.port ∙ (u.port ∙ i.port);
      ends = λ first p.
          let had = (c.read_part.ensures.turned c.loop-turned.turned (search rules) (u.turned c.loop-turned.turned i.turned)).most in
          (r.stopped first (u.so_far first (i.so_far first p)), (r.fault, omega (arith, had, c.loop-turned-test.true)));
    }

pub returns-then-not-is_live : goal.returns-then-not-is_live
returns-then-not-is_live g c =
    let i = c.loop-turned.invariant in
    let u = c.write_until_ready.ensures in
    let had = u.turned c.loop-turned.turned i.turned in
    record {
      ready = u.ready;
      port = u.port ∙ i.port;
      ends = λ first p. (
        u.so_far first (i.so_far first p),
        record {
          most = (let most = had.most in omega (arith, most, c.loop-turned-test.true));
          fewer = λ ended. (let fewer = had.fewer ended in omega (arith, fewer, c.loop-turned-test.true));
          live = λ live fine. absurd (c.is_live.ensures.over c.if-not-is_live.true live fine);
        },
      );
    }

pub returns-then-is_stopped : goal.returns-then-is_stopped
returns-then-is_stopped g c =
    let i = c.loop-turned.invariant in
    let u = c.write_until_ready.ensures in
    let had = (u.turned c.loop-turned.turned i.turned).most in
    record {
      ready = u.ready;
      port = u.port ∙ i.port;
      ends = λ first p. (u.so_far first (i.so_far first p), omega (arith, had, c.loop-turned-test.true));
    }
