use Rattle.test_fleet.proofs.TwoDrones as flows
use Rattle.test_fleet.proofs.flows.flows_over_two_drones.Goals as goal

pub returns : goal.returns
returns c = record {
  ten_do = flows.ten_do;
  nine_do = flows.nine_do;
  eight_do_not = flows.eight_do_not;
}
