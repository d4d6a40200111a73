use Rattle.std.proofs.Common.{◌≡◌, inl, inr, refl, None}
use Rattle.std.proofs.lemmas.Result.{err_from_is_err_and}
use Rattle.run_status.specs.declared.run_ends.RunEnd.TheVariants.{Usage}
use Rattle.command_line.specs.Lines.{asked_by}
use Rattle.live_node.proofs.DroneAsked.{no_words}
use Rattle.live_node.proofs.StationAsked.{stationed_at, sort_said, after_file, at_file, station_why}
use Rattle.live_node.proofs.station_asked.run_asked_station.Goals as goal

pub returns-in_err-key-clause-stationed : goal.returns-in_err-key-clause-stationed
returns-in_err-key-clause-stationed g c =
    let e = err_from_is_err_and c.from_residual.result c.from_residual.ensures.1 in
    rw (e.1, e.2) (inl (c.in_err-key.ensures.halts _ _, refl, c.in_err-key.ensures.within, (refl, (refl, refl, refl))))

pub returns-in_err-key-clause-not_usage : goal.returns-in_err-key-clause-not_usage
returns-in_err-key-clause-not_usage g c = λ usage.
    let e = err_from_is_err_and c.from_residual.result c.from_residual.ensures.1 in
    let is : c.in_err-key.field-0.0 ≡ Usage = cc (usage, e.1, e.2) in
    no_words _ _ _ _ _ _ c.in_err-key.field-0.0 (c.in_err-key.ensures.halts 0 None) is

pub returns-in_err-contents-clause-stationed : goal.returns-in_err-contents-clause-stationed
returns-in_err-contents-clause-stationed g c =
    let e = err_from_is_err_and c.from_residual-in_err-contents.result c.from_residual-in_err-contents.ensures.1 in
    rw (e.1, e.2) (inr (c.in_ok-key.key, c.in_ok-key.ensures.holds, at_file _ _ _ _ _ _ _ (sort_said (asked_by c.args.line.now) _ _ c.args.task c.requires.says) (c.in_err-contents.ensures.halts _ _) refl (refl, refl, refl)))

pub returns-clause-stationed : goal.returns-clause-stationed
returns-clause-stationed g c =
    let run = c.run_station in
    inr (
      c.in_ok-key.key,
      c.in_ok-key.ensures.holds,
      after_file _ _ _ _ _ _ _ _ (sort_said (asked_by c.args.line.now) _ _ c.args.task c.requires.says) c.in_ok-contents.ensures.are
          (stationed_at _ _ (asked_by c.args.line.now) c.args.ports.now.items c.index_mut.result.now run.new.link c.args.keepers.now.items _ _ _ _ _ _ (record { sys = c.args.line.now.system; comp = c.args.task.component; ticks = c.ticks.result; turns = 1000000 }) c.args.task c.order_of-order.result c.args.line.now.system c.args.line.now.ports.items c.requires.link c.index_mut.ensures.value
          c.requires.says refl c.ticks.ensures.asked refl (rw c.drone_stream.ensures at c.order_of-order.ensures) run.ensures.runs (station_why run.result run.ensures.end) run.ensures.faults),
    )
