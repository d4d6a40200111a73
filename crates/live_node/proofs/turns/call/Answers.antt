use Rattle.live_node.specs.Progress.{due_call}
use Rattle.live_node.proofs.Calls.{told_by, not_called, due_kept, output_later, on_time}
use Rattle.live_node.proofs.turns.call.Goals as goal

pub returns-in-Ok-clause-did : goal.returns-in-Ok-clause-did
returns-in-Ok-clause-did g c = λ before start made first o.
    let at = c.now-now.result in
    told_by (due_call c.args.due at) c.tell.result _ _ _ _
    (record { output = o; stays = c.now-now.ensures.stays; did = c.in-Ok.ensures.done o.node o.is; serves = c.call.ensures.serves; kept = due_kept _ c.args.due at; stored = c.in-Ok.ensures.stored; values_are = c.params.ensures; said = rw (c.deref.ensures.value, c.count.ensures at) at c.tell.ensures.said })
    c.tell.ensures.end c.tell.ensures.faults
    (λ told output. record { at = at; timed = on_time _ _ at o.time c.now-now.ensures.answer; output = output })
    (λ end telling stopped. record { at = at; timed = on_time _ _ at o.time c.now-now.ensures.answer; stopped = stopped })

pub returns-in-Err-clause-did : goal.returns-in-Err-clause-did
returns-in-Err-clause-did g c = λ before start made first o.
    let at = c.now-now.result in
    record {
      at = at;
      timed = on_time _ _ at o.time c.now-now.ensures.answer;
      stopped = rw c.end_by.ensures (not_called _ before _ _ start made (due_call c.args.due at) _ _ first _ c.in-Err.fault (output_later _ _ c.now-now.ensures.stays o) c.call.ensures.serves (c.in-Err.ensures.fault o.node o.is) (c.in-Err.ensures.given o.stored o.node (due_call c.args.due at) o.is));
    }
