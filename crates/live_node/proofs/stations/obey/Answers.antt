use Rattle.std.proofs.Common.{◌≡◌, inl, refl, arith, Result, Ok, Err}
use Rattle.std.specs.Prelude.{true, OnOk}
use Rattle.std.proofs.lemmas.List.Elements.{All-nil}
use Rattle.mav_nodes.proofs.StoreCalls.{serves_same}
use Rattle.live_node.specs.Calls.{Obeys}
use Rattle.live_node.proofs.Calls.{told_by, output_later, on_time}
use Rattle.live_node.proofs.Ordering.{not_followed, not_refused}
use Rattle.live_node.proofs.stations.obey.Goals as goal

always : {A E P : Type 0} (r : Result A E) → P → OnOk r P
always (Ok a) h = h
always (Err e) h = tt

pub returns-in-Ok-clause-did : goal.returns-in-Ok-clause-did
returns-in-Ok-clause-did g c = λ before start made first o.
    let at = c.now-now.result in
    told_by (Obeys c.args.order at) c.tell.result _ _ _ _
    (record { output = o; stays = c.now-now.ensures.stays; did = c.in-Ok.ensures.done o.node o.is; serves = serves_same _ _ _; kept = inl (All-nil (λ kept. kept ≡ true)); stored = c.in-Ok.ensures.stored _; values_are = c.params.ensures; said = rw c.deref.ensures.value at c.tell.ensures.said })
    c.tell.ensures.end c.tell.ensures.faults
    (λ told output. record {
      at = at;
      timed = on_time _ _ at o.time c.now-now.ensures.answer;
      accepted = c.in-Ok.ensures.accepted o.node o.is;
      output = output;
    })
    (λ end telling stopped. record {
      at = at;
      timed = on_time _ _ at o.time c.now-now.ensures.answer;
      stopped = stopped;
      refused = λ e. absurd (not_refused end telling e);
      accepted = λ long. c.in-Ok.ensures.accepted o.node o.is;
    })

pub returns-in-Err-clause-did : goal.returns-in-Err-clause-did
returns-in-Err-clause-did g c = λ before start made first o.
    let at = c.now-now.result in
    let f = c.in-Err.ensures.fault o.node o.is in
    rw c.order_end.ensures (record {
      at = at;
      timed = on_time _ _ at o.time c.now-now.ensures.answer;
      stopped = not_followed _ before _ _ start made (Obeys c.args.order at) _ _ first _ (output_later _ _ c.now-now.ensures.stays o) f.spent c.in-Err.ensures.unstored (c.in-Err.ensures.given o.node _ (Obeys c.args.order at) o.is);
      refused = λ e. (f.refused e, refl);
      accepted = λ long. absurd (omega (arith, long));
    })

pub returns-in-Ok-clause-reader : goal.returns-in-Ok-clause-reader
returns-in-Ok-clause-reader g c = always c.tell.result c.in-Ok.ensures.reader

pub returns-in-Err-clause-reader : goal.returns-in-Err-clause-reader
returns-in-Err-clause-reader g c = tt
