use Rattle.std.proofs.Common.{[], ◌∷◌, ◌++◌, ◌∙◌, append_assoc}
use Rattle.std.proofs.lemmas.Result.{err_from_is_err_and}
use Rattle.live_node.specs.Calls.{Ticks, Beats, Flies}
use Rattle.live_node.proofs.Waits.{more_to_come, made_before, output_regroup}
use Rattle.live_node.proofs.Results.{match_on}
use Rattle.live_node.proofs.turns.wait.Goals as goal

pub returns-in_err-call-clause-did : goal.returns-in_err-call-clause-did
returns-in_err-call-clause-did g c =
    let e = err_from_is_err_and c.from_residual.result c.from_residual.ensures.1 in
    rw (e.1, e.2) (λ before start made first o.
    let t = c.in_err-call.ensures.did before start made first o in
    record { tick = t.at; beat = t.at; sim = t.at; timed = (t.timed, (t.timed, (t.timed, tt))); stopped = more_to_come _ _ _ _ start made (Ticks t.at ∷ []) (Beats t.at ∷ Flies t.at ∷ []) first _ t.stopped })

pub returns-in_err-call-2-clause-did : goal.returns-in_err-call-2-clause-did
returns-in_err-call-2-clause-did g c =
    let e = err_from_is_err_and c.from_residual-in_err-call-2.result c.from_residual-in_err-call-2.ensures.1 in
    rw (e.1, e.2) (λ before start made first o.
    let t = c.in_ok-call.ensures.did before start made first o in
    let b = c.in_err-call-2.ensures.did before start (made ++ Ticks t.at ∷ []) first t.output in
    record {
      tick = t.at;
      beat = b.at;
      sim = b.at;
      timed = (t.timed, (b.timed, (b.timed, tt)));
      stopped = more_to_come _ _ _ _ start made (Ticks t.at ∷ Beats b.at ∷ []) (Flies b.at ∷ []) first _ (made_before _ _ _ _ start made (Ticks t.at ∷ []) (Beats b.at ∷ []) first _ b.stopped);
    })

pub returns-clause-did : goal.returns-clause-did
returns-clause-did g c = λ before start made first o.
    let t = c.in_ok-call.ensures.did before start made first o in
    let ticked = made ++ Ticks t.at ∷ [] in
    let b = c.in_ok-call-2.ensures.did before start ticked first t.output in
    match_on c.call-3.result _ _ _ _
    (λ done s. record {
      tick = t.at;
      beat = b.at;
      sim = s.at;
      timed = (t.timed, (b.timed, (s.timed, tt)));
      output = output_regroup _ _ _ _ _ _ _ _ _ _ (append_assoc ticked (Beats b.at ∷ []) (Flies s.at ∷ []) ∙ append_assoc made (Ticks t.at ∷ []) (Beats b.at ∷ Flies s.at ∷ [])) s.output;
    })
    (λ end s. record {
      tick = t.at;
      beat = b.at;
      sim = s.at;
      timed = (t.timed, (b.timed, (s.timed, tt)));
      stopped = made_before _ _ _ end start made (Ticks t.at ∷ []) (Beats b.at ∷ Flies s.at ∷ []) first _ (made_before _ _ _ end start ticked (Beats b.at ∷ []) (Flies s.at ∷ []) first _ s.stopped);
    })
    (c.call-3.ensures.did before start (ticked ++ Beats b.at ∷ []) first b.output)
