use Rattle.std.proofs.Common.{[], ◌∷◌, ◌∙◌}
use Rattle.live_node.specs.Calls.{Beats, Obeys}
use Rattle.live_node.proofs.Ports.{same_twice}
use Rattle.live_node.proofs.TurnEnds.{started}
use Rattle.live_node.proofs.StationRuns.{stopped_in_beat, stopped_in_order, lived}
use Rattle.live_node.proofs.stations.run_live.Goals as goal

pub returns-in-Err-clause-ran : goal.returns-in-Err-clause-ran
returns-in-Err-clause-ran g c = λ before start o.
    stopped_in_beat _ before _ c.in-Err.end c.args.plan c.args.order start _ _ c.in-Err.ensures.ends.end c.call.ensures.unread (c.in-Err.ensures.did before start [] _ o.output)

pub returns-in-Ok-obey-clause-ran : goal.returns-in-Ok-obey-clause-ran
returns-in-Ok-obey-clause-ran g c = λ before start o.
    let h = c.in-Ok.ensures.did before start [] _ o.output in
    let f = c.in-Ok-obey.ensures.did before start (Beats h.at ∷ []) _ h.output in
    let b = started (c.in-Ok-obey.ensures.reader ∙ c.call.ensures.reader) o (same_twice _ _ _ c.call.ensures.unread c.obey.ensures.unread) (h.timed, (f.timed, tt)) f.output in
    lived _ before _ c.args.plan c.args.order start h.output.node h.output.events h.at f.at c.wait_for.result _ _ h.output.run f.accepted c.wait_for.ensures.ends.end (c.wait_for.ensures.waited before start (Beats h.at ∷ Obeys c.args.order f.at ∷ []) _ b)

pub returns-in-Err-obey-clause-ran : goal.returns-in-Err-obey-clause-ran
returns-in-Err-obey-clause-ran g c = λ before start o.
    let h = c.in-Ok.ensures.did before start [] _ o.output in
    stopped_in_order _ before _ _ c.in-Err-obey.end c.args.plan c.args.order start h.at _ _ _ _ _ c.in-Err-obey.ensures.ends.end (same_twice _ _ _ c.call.ensures.unread c.obey.ensures.unread) h.timed h.output
    (c.in-Err-obey.ensures.did before start (Beats h.at ∷ []) _ h.output)
