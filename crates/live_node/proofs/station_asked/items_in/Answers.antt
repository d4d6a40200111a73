use Rattle.std.proofs.Common.{◌≡◌, None}
use Rattle.run_status.specs.declared.run_ends.RunEnd.TheVariants.{Usage}
use Rattle.live_node.proofs.DroneAsked.{no_words}
use Rattle.live_node.proofs.station_asked.items_in.Goals as goal

pub returns-in-Err-clause-not_usage : goal.returns-in-Err-clause-not_usage
returns-in-Err-clause-not_usage g c = λ usage.
    let is : c.in-Err.run_end ≡ Usage = cc usage in
    no_words _ _ _ _ _ _ c.in-Err.run_end (c.in-Err.ensures.halts 0 None) is
