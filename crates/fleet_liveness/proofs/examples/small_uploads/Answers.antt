use Rattle.fleet_liveness.proofs.Shown as shown
use Rattle.fleet_liveness.proofs.examples.small_uploads.Goals as goal

pub returns : goal.returns
returns c = record {
  whole_line = shown.whole_line;
  whole_authentic = shown.whole_authentic;
  last_line = shown.last_line;
  last_authentic = shown.last_authentic;
  eight_do = shown.eight_do;
  seven_do_not = shown.seven_do_not;
  ten_do_for_two = shown.ten_do;
  nine_do_not_for_two = shown.nine_do_not;
  again_uncontended = shown.again_uncontended;
  heard_again = shown.a_heard_drone;
  not_heard_again = shown.an_unheard_drone;
}
