use Rattle.std.proofs.Common.{inl, inr, refl, ap, ◌∙◌}
use Rattle.std.proofs.lemmas.Result.{err_from_is_err_and}
use Rattle.mav_nodes.specs.Nodes.{new_station}
use Rattle.mav_nodes.proofs.StoreCalls.{serves_same}
use Rattle.node_reports.specs.Nodes.{Station}
use Rattle.live_node.specs.Drones.{mem_stores}
use Rattle.live_node.specs.Runs.{outside}
use Rattle.live_node.specs.Stations.{stream_asked}
use Rattle.live_node.proofs.StationRuns.{opened_station, ran_station, station_ends}
use Rattle.live_node.proofs.stations.run_station.Goals as goal

pub returns : goal.returns
returns g c =
    let boot = c.now-boot.result in
    let ran = c.run_live-ended.ensures.ran c.new-keeper.result (Station (new_station c.args.key (stream_asked c.args.plan) boot))
    (opened_station mem_stores c.new-keeper.result c.new-keeper.result c.args.key (stream_asked c.args.plan) boot c.in_ok-new.field-0 c.new-run_log.result _ _ _ (serves_same _ _ _) c.in_ok-new.ensures.new c.in_ok-new.ensures.stream (c.new-run_log.ensures.name ∙ c.node_of.ensures) c.new-run_log.ensures.sent c.new-run_log.ensures.ending c.new-run_log.ensures.ticks) in
    record {
      runs = inl (ran_station c.args.key c.args.plan c.args.order boot c.new-2.result.items c.new-3.result.items c.new-keeper.result c.run_live-ended.new.keeper c.run_live-ended.result _ _ _ _ _ _ _ c.new-2.ensures.items c.new-3.ensures.items c.new-keeper.ensures.start c.now-boot.ensures.stays c.now-boot.ensures.answer ran
          (c.give.ensures.gives _ _));
      end = c.give.ensures.end (station_ends c.new-2.result.items c.new-3.result.items c.new-keeper.result c.run_live-ended.new.keeper c.args.plan c.args.order _ c.run_live-ended.result _ _ c.new-2.ensures.items c.new-3.ensures.items c.new-keeper.ensures.start ran c.run_live-ended.ensures.ends.end);
      faults = c.give.ensures.faults _ _ _ c.run_live-ended.ensures.ends.faults;
    }

pub returns-in_err-new : goal.returns-in_err-new
returns-in_err-new g c =
    let e = err_from_is_err_and c.from_residual.result c.from_residual.ensures.1 in
    rw (e.1, e.2) (record {
      runs = inr (record { end_is = refl; same = ap (λ t. outside (g.L.Link.state c.args.link.now) (g.K.Sink.sent c.args.out.now) t) c.now-boot.ensures.stays });
      end = tt;
      faults = refl;
    })
