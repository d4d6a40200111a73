use Rattle.std.proofs.Common.{ℕ, ◌+◌, ◌≤◌, length, drop, length-drop, refl, sym, ◌∙◌, arith, Bool, List, Some, None, subst}
use Rattle.std.proofs.lemmas.Result.{err_from_is_err_and}
use Rattle.mav_nodes.specs.declared.faults.NodeFault.{NodeFault}
use Rattle.mav_nodes.specs.Stores.{IsKept, HasFailed}
use Rattle.mav_nodes.specs.Steps.{Side, hears, receives_keeping, IsNode}
use Rattle.mav_nodes.specs.Cores.{rules_of}
use Rattle.mav_nodes.specs.Promises.{FailsKeeping}
use Rattle.mav_nodes.proofs.StoreCalls.{serves_same, failed_then, then_failed, raised_same, raised_twice, serves_both, keeps_then}
use Rattle.mav_nodes.proofs.Keeping.{kept_so, receive_fails}
use Rattle.mav_nodes.proofs.Leads.{front_here, part_bytes, part_length}
use Rattle.mav_nodes.proofs.Datagrams.{to_first, to_past, to_on, to_none, to_given, to_end}
use Rattle.mav_nodes.proofs.node.receive.Goals.{in-Some+in_ok-hear-in-Some, in-None}
use Rattle.mav_nodes.proofs.node.receive.Goals as goal

pub returns-in_err-hear-in-Some-clause-fault : goal.returns-in_err-hear-in-Some-clause-fault
returns-in_err-hear-in-Some-clause-fault g c =
    let p = err_from_is_err_and c.from_residual.result c.from_residual.ensures.1 in
    let faults = g.K.Keeper.faults in
    let sure = g.K.Keeper.is_infallible in
    let old = c.args.keeper.now in
    let then = c.loop-place.keeper in
    let now = c.hear.new.keeper in
    let bytes = c.args.datagram.now in
    let place = c.loop-place.place in
    let size = c.front_at-front.result.1 in
    let frame = c.in-Some.frame in
    let small : (i : ℕ) → _ = λ i. (c.type_inv.datagram i).fits in
    let F = HasFailed faults sure then now in
    let G = HasFailed faults sure old now in
    let f = then_failed faults sure old then now c.loop-place.invariant.keeps.serves in
    rw p.1 (receive_fails (λ (kept : Bool) (node : Side g.row.C.Denot g.row.V.Denot). hears (rules_of g.C.Core.taken g.V.Services.noted g.V.Services.served kept) c.args.clock frame node) (λ (keeps : List Bool) (node : Side g.row.C.Denot g.row.V.Denot). receives_keeping (rules_of g.C.Core.taken g.V.Services.noted g.V.Services.served) c.args.clock keeps bytes node)
    (λ node. IsNode node c.args.link.now c.args.core.now c.args.services.now) (λ node. IsNode node c.loop-place.link c.loop-place.core c.loop-place.services) F G p.0 f
    (λ node is.
    let l = c.loop-place.invariant.heard node is in
    let same = c.extras.ensures ∙ (l.heard.is.link.end.extras ∙ l.heard.extras) in
    let at = front_here c.extras.result.now node.link.extras bytes place size c.front_at-front.result.0 (Some frame) same c.in-Some.is c.front_at-front.ensures.front in
    (l.heard.node, l.heard.is, to_none (rules_of g.C.Core.taken g.V.Services.noted g.V.Services.served) c.args.clock node bytes (drop place bytes) (drop (place + size) bytes) (λ n. IsNode n c.loop-place.link c.loop-place.core c.loop-place.services) (HasFailed faults sure old then) F G c.loop-place.news.items frame l (part_bytes bytes place small) (part_bytes bytes (place + size) small) at (λ failed. failed_then faults sure old then now failed c.hear.ensures.keeps.serves) f))
    (subst (λ (fault : NodeFault). FailsKeeping fault (λ (node : Side g.row.C.Denot g.row.V.Denot). IsNode node c.loop-place.link c.loop-place.core c.loop-place.services) (λ (kept : Bool) (node : Side g.row.C.Denot g.row.V.Denot). hears (rules_of g.C.Core.taken g.V.Services.noted g.V.Services.served kept) c.args.clock frame node) (λ kept. IsKept kept F) F) (sym p.2) c.in_err-hear-in-Some.ensures.fault))

pub loop-place-preserved : goal.loop-place-preserved
loop-place-preserved g c =
    let bytes = c.args.datagram.now in
    let place = c.loop-place.place in
    let size = c.front_at-front.result.1 in
    let faults = g.K.Keeper.faults in
    let sure = g.K.Keeper.is_infallible in
    let old = c.args.keeper.now in
    let then = c.loop-place.keeper in
    let small : (i : ℕ) → _ = λ i. (c.type_inv.datagram i).fits in
    let within : place + size ≤ length bytes = omega (arith, c.front_at-front.ensures.size.1, part_length bytes place, c.loop-place.invariant.within) in
    elim c.match-front.branch [
      | in-Some+in_ok-hear-in-Some w ↦
          let now = w.hear.new.keeper in
          rw (w.link-is, w.core-is, w.services-is, w.keeper-is, w.news-is) (record {
            within = within;
            keeps = keeps_then c.loop-place.invariant.keeps (λ h. h) (λ left. tt) w.in_ok-hear-in-Some.ensures.keeps;
            heard = λ node is.
                let l = c.loop-place.invariant.heard node is in
                let same = c.extras.ensures ∙ (l.heard.is.link.end.extras ∙ l.heard.extras) in
                let at = front_here c.extras.result.now node.link.extras bytes place size c.front_at-front.result.0 (Some w.in-Some.frame) same w.in-Some.is c.front_at-front.ensures.front in
                to_on (rules_of g.C.Core.taken g.V.Services.noted g.V.Services.served) c.args.clock node bytes (drop place bytes) (drop (place + size) bytes) (λ n. IsNode n c.loop-place.link c.loop-place.core c.loop-place.services) (λ n. IsNode n w.hear.new.link w.hear.new.core w.hear.new.services) (HasFailed faults sure old then) (HasFailed faults sure old now) c.loop-place.news.items w.hear.new.news.items w.in-Some.frame w.in_ok-hear-in-Some.field-0 l (part_bytes bytes place small) (part_bytes bytes (place + size) small) at
                (λ failed. failed_then faults sure old then now failed w.hear.ensures.keeps.serves)
                (kept_so w.in_ok-hear-in-Some.field-0 (then_failed faults sure old then now c.loop-place.invariant.keeps.serves) w.in_ok-hear-in-Some.ensures.unkept)
                (w.in_ok-hear-in-Some.ensures.done l.heard.node l.heard.is);
          })
      | in-None w ↦
          rw (w.link-is, w.core-is, w.services-is, w.keeper-is, w.news-is) (record {
            within = within;
            keeps = c.loop-place.invariant.keeps;
            heard = λ node is.
                let l = c.loop-place.invariant.heard node is in
                let same = c.extras.ensures ∙ (l.heard.is.link.end.extras ∙ l.heard.extras) in
                let at = front_here c.extras.result.now node.link.extras bytes place size c.front_at-front.result.0 None same w.in-None.is c.front_at-front.ensures.front in
                to_past (rules_of g.C.Core.taken g.V.Services.noted g.V.Services.served) c.args.clock node bytes (drop place bytes) (drop (place + size) bytes) (λ n. IsNode n c.loop-place.link c.loop-place.core c.loop-place.services) (HasFailed faults sure old then) c.loop-place.news.items at.0 at.1 l (part_bytes bytes place small) (part_bytes bytes (place + size) small) at.2;
          })
    ]

pub loop-place-init : goal.loop-place-init
loop-place-init g c = record {
  within = omega arith;
  keeps = record { stored = λ held. held; given = tt; raised = raised_same c.args.link.now.low; reader = refl; serves = serves_same g.K.Keeper.faults g.K.Keeper.is_infallible c.args.keeper.now };
  heard = λ node is. to_first (rules_of g.C.Core.taken g.V.Services.noted g.V.Services.served) c.args.clock node c.args.datagram.now (λ n. IsNode n c.args.link.now c.args.core.now c.args.services.now) (HasFailed g.K.Keeper.faults g.K.Keeper.is_infallible c.args.keeper.now c.args.keeper.now) c.new-news.result.items c.new-news.ensures.items is;
}

pub returns-clause-done : goal.returns-clause-done
returns-clause-done g c =
    λ node is.
    let bytes = c.args.datagram.now in
    let place = c.loop-place.place in
    to_end (rules_of g.C.Core.taken g.V.Services.noted g.V.Services.served) c.args.clock node bytes (drop place bytes) c.loop-place.link c.loop-place.core c.loop-place.services (HasFailed g.K.Keeper.faults g.K.Keeper.is_infallible c.args.keeper.now c.loop-place.keeper) c.loop-place.news.items (omega (arith, length-drop place bytes, c.loop-place-test.false)) (c.loop-place.invariant.heard node is)

pub returns-in_err-hear-in-Some-clause-keeps : goal.returns-in_err-hear-in-Some-clause-keeps
returns-in_err-hear-in-Some-clause-keeps g c =
    let p = err_from_is_err_and c.from_residual.result c.from_residual.ensures.1 in
    let faults = g.K.Keeper.faults in
    let sure = g.K.Keeper.is_infallible in
    let old = c.args.keeper.now in
    let then = c.loop-place.keeper in
    let now = c.hear.new.keeper in
    let bytes = c.args.datagram.now in
    let place = c.loop-place.place in
    let size = c.front_at-front.result.1 in
    let frame = c.in-Some.frame in
    let small : (i : ℕ) → _ = λ i. (c.type_inv.datagram i).fits in
    rw (p.1, p.2) (record {
      stored = tt;
      given = λ held node is.
          let l = c.loop-place.invariant.heard node is in
          let same = c.extras.ensures ∙ (l.heard.is.link.end.extras ∙ l.heard.extras) in
          let at = front_here c.extras.result.now node.link.extras bytes place size c.front_at-front.result.0 (Some frame) same c.in-Some.is c.front_at-front.ensures.front in
          to_given (rules_of g.C.Core.taken g.V.Services.noted g.V.Services.served) c.args.clock g.C.Core.taken g.C.Core.stored (g.K.Keeper.contents now) node bytes (drop place bytes) (drop (place + size) bytes) c.loop-place.link c.loop-place.core c.loop-place.services (HasFailed faults sure old then) (HasFailed faults sure old now) c.loop-place.news.items frame l (part_bytes bytes place small) (part_bytes bytes (place + size) small) at
          (λ failed. failed_then faults sure old then now failed c.hear.ensures.keeps.serves)
          (c.in_err-hear-in-Some.ensures.keeps.given (c.loop-place.invariant.keeps.stored held) l.heard.node l.heard.is);
      raised = raised_twice c.args.link.now.low c.loop-place.link.low c.hear.new.link.low c.loop-place.invariant.keeps.raised c.hear.ensures.keeps.raised;
      reader = c.hear.ensures.keeps.reader ∙ c.loop-place.invariant.keeps.reader;
      serves = serves_both faults sure old then now c.loop-place.invariant.keeps.serves c.hear.ensures.keeps.serves;
    })

pub returns-clause-keeps : goal.returns-clause-keeps
returns-clause-keeps g c =
    let k = c.loop-place.invariant.keeps in
    record { stored = k.stored; given = tt; raised = k.raised; reader = k.reader; serves = k.serves }
