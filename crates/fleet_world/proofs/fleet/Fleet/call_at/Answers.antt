use Rattle.std.proofs.Common.{refl}
use Rattle.fleet_world.specs.NodeSteps.{node_called}
use Rattle.fleet_world.proofs.FleetCalls.{call_done, call_fails, call_counts}
use Rattle.fleet_world.proofs.fleet.Fleet.call_at.Goals as goal

pub returns-clause-done : goal.returns-clause-done
returns-clause-done c =
    call_done _ _ _ (λ clock. node_called c.args.call.now c.args.datagram.now clock) _ _ _ c.self.view_is c.requires c.index_mut.ensures.value _ refl c.call.ensures.done

pub returns-clause-fault : goal.returns-clause-fault
returns-clause-fault c =
    call_fails _ _ c.args.self.now (λ clock. node_called c.args.call.now c.args.datagram.now clock) _ _ c.call.new.self c.self.view_is c.requires c.index_mut.ensures.value _ c.call.ensures.fault

pub returns-clause-count : goal.returns-clause-count
returns-clause-count c = call_counts _ _ _ _ _ c.self.view_is refl
