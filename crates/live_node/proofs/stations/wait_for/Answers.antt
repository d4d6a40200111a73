use Rattle.live_node.proofs.StationRuns.{waited_turns, waited_rests, watch_cut, outlast_cut}
use Rattle.live_node.proofs.stations.wait_for.Goals as goal

pub returns-in-Ok-true-clause-waited : goal.returns-in-Ok-true-clause-waited
returns-in-Ok-true-clause-waited g c =
    let watched = rw c.in-Ok-true.field-0-test at c.in-Ok-true.ensures.did in
    rw c.judge.ensures (λ before start opening first b. waited_turns (watched before start opening first b))

pub returns-in-Ok-clause-waited : goal.returns-in-Ok-clause-waited
returns-in-Ok-clause-waited g c =
    let watched = rw c.in-Ok-false.field-0-test at c.in-Ok-false.ensures.did in
    rw c.judge-in-Ok.ensures (λ before start opening first b.
    let w = watched before start opening first b in
    waited_rests w.within (c.in-Ok.ensures.did before start opening w.turns first w.ended w.awaited))

pub returns-in-Err-outlast-clause-waited : goal.returns-in-Err-outlast-clause-waited
returns-in-Err-outlast-clause-waited g c =
    let watched = rw c.in-Ok-false.field-0-test at c.in-Ok-false.ensures.did in
    λ before start opening first b.
    let w = watched before start opening first b in
    outlast_cut c.in-Err-outlast.ensures.ends.end w.within (c.in-Err-outlast.ensures.did before start opening w.turns first w.ended w.awaited)

pub returns-in-Err-clause-waited : goal.returns-in-Err-clause-waited
returns-in-Err-clause-waited g c = λ before start opening first b. watch_cut c.in-Err.ensures.ends.end (c.in-Err.ensures.did before start opening first b)
