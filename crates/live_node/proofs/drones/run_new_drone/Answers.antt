use Rattle.live_node.proofs.Starting.{ran_anew}
use Rattle.live_node.proofs.drones.run_new_drone.Goals as goal

pub returns : goal.returns
returns g c =
    let run = c.run_drone.ensures in
    record {
      runs = ran_anew c.args.key c.args.plan c.new.result.items c.new-2.result.items c.new-keeper.result c.run_drone.new.keeper _ _ _ c.new.ensures.items c.new-2.ensures.items c.new-keeper.ensures.start run.runs;
      end = run.end;
      faults = run.faults;
    }
