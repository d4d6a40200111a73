use Rattle.std.proofs.Common.{inl, inr, refl, ◌∙◌}
use Rattle.live_node.proofs.Starting.{begun, opened}
use Rattle.live_node.proofs.Openings.{unstarted_end, unstarted_counts}
use Rattle.live_node.proofs.drones.run_drone.Goals as goal

pub returns-in-Ok : goal.returns-in-Ok
returns-in-Ok g c =
    let e = c.in-Ok.ensures in
    let b = begun c.args.key c.args.plan.sys (g.S.Keeper.contents c.args.keeper.now) c.in-Ok.drone e.started e.from in
    record {
      runs = inl (record {
        start = b.node;
        starts = b.starts;
        lived = c.run_live-ended.ensures.ran c.args.keeper.now b.node (opened _ _ _ _ _ _ _ _ _ _ b e.serves e.stays e.stream (c.new-run_log.ensures.name ∙ c.drone_name.ensures) c.new-run_log.ensures.sent c.new-run_log.ensures.ending c.new-run_log.ensures.ticks);
      });
      end = c.run_live-ended.ensures.ends.end;
      faults = c.run_live-ended.ensures.ends.faults;
    }

pub returns-in-Err : goal.returns-in-Err
returns-in-Err g c = rw c.start_end.ensures (record {
  runs = inr (record { fault = c.in-Err.fault; end_is = refl; fails = c.in-Err.ensures.fault; stays = c.in-Err.ensures.stays; same = refl });
  end = unstarted_end c.args.plan.turns c.in-Err.fault;
  faults = unstarted_counts c.in-Err.fault _ _;
})
