use Rattle.std.proofs.Common.{◌≡◌, ◌+◌, ◌-◌, ℕ, [], vec_len, arith, ◌∙◌, ap, Option}
use Rattle.atomic_table.specs.Table.{Me}
use Rattle.turnstile.specs.declared.participant.ParticipantState.{ParticipantState}
use Rattle.turnstile.specs.Steps.{new_participant, after, splits, split_off}
use Rattle.turnstile.proofs.Opened.{new_outside, new_handle, one_more, all_ready}
use Rattle.turnstile.proofs.turn.Turn.new.Goals as goal

pub split-seat-requires-clause-of : goal.split-seat-requires-clause-of
split-seat-requires-clause-of g c = c.loop.invariant.0

pub split-seat-requires-clause-outside : goal.split-seat-requires-clause-outside
split-seat-requires-clause-outside g c = new_outside c.loop.first.me (g.V.Journaled.journal c.args.value) _ c.loop.invariant.1

pub split-seat-requires-clause-more : goal.split-seat-requires-clause-more
split-seat-requires-clause-more g c =
    let i = c.loop.invariant in let j = i.2 in let t = c.loop-test.true in
    let r : c.loop.first.me.0.represents ≡ c.args.seats - vec_len c.loop.all = ap (λ (m : Me (Option g.row.V.Denot) (ParticipantState g.row.V-Entry.Denot)). m.0.represents) i.1 in omega arith

pub invariant_of-push : goal.invariant_of-push
invariant_of-push g c =
    new_handle c.split-seat.result.me (g.V.Journaled.journal c.args.value)
    (c.split-seat.ensures.right ∙ ap (λ (m : Me (Option g.row.V.Denot) (ParticipantState g.row.V-Entry.Denot)). (split_off m.0, [])) c.loop.invariant.1)

pub loop-preserved : goal.loop-preserved
loop-preserved g c =
    let i = c.loop.invariant in let d = c.split-seat.ensures in let p = c.in_ok-push.ensures in
    let more : vec_len c.push.new.self ≡ vec_len c.loop.all + 1 = p.len in
    let less : (c.args.seats - vec_len c.loop.all) - 1 ≡ c.args.seats - vec_len c.push.new.self = omega arith in
    let opening = g.V.Journaled.journal c.args.value in
    let one : c.split-seat.result.me ≡ (new_participant opening 1, []) = d.right ∙ ap (λ (m : Me (Option g.row.V.Denot) (ParticipantState g.row.V-Entry.Denot)). (split_off m.0, [])) i.1 in (
      d.of.0 ∙ i.0,
      d.left ∙ (ap (λ (m : Me (Option g.row.V.Denot) (ParticipantState g.row.V-Entry.Denot)). (after splits m.0, m.1)) i.1 ∙ ap (λ (k : ℕ). (new_participant opening k, [])) less),
      (let j = i.2 in omega arith),
      one_more c.split-seat.result.table_id _ c.split-seat.result.me opening _ _ _ _ (d.of.1 ∙ i.0) one i.3 p.items (omega arith),
    )

pub invariant_of-push-2 : goal.invariant_of-push-2
invariant_of-push-2 g c =
    let i = c.loop.invariant in let j = i.2 in
    let last : c.args.seats - vec_len c.loop.all ≡ 1 = (let a = c.loop.auto in let t = c.loop-test.false in let r = c.requires in omega arith) in
    new_handle c.loop.first.me (g.V.Journaled.journal c.args.value) (i.1 ∙ ap (λ (k : ℕ). (new_participant (g.V.Journaled.journal c.args.value) k, [])) last)

pub returns-clause-seats : goal.returns-clause-seats
returns-clause-seats g c =
    let i = c.loop.invariant in let j = i.2 in
    let a = c.loop.auto in let t = c.loop-test.false in let r = c.requires in
    let last : c.args.seats - vec_len c.loop.all ≡ 1 = omega arith in
    let opening = g.V.Journaled.journal c.args.value in
    one_more c.loop.first.table_id _ c.loop.first.me opening _ _ _ _ i.0 (i.1 ∙ ap (λ (k : ℕ). (new_participant opening k, [])) last) i.3 c.in_ok-push-2.ensures.items (omega arith)

pub returns-clause-ready : goal.returns-clause-ready
returns-clause-ready g c =
    let key = c.in_ok-lock.lock.table.shared.key in
    all_ready record { id = c.in_ok-lock.lock.table.shared.table_id; opening = g.V.Journaled.journal key.value.value; handles = key.handles } (g.V.Journaled.journal c.args.value) c.args.seats c.push-2.new.self.items (returns-clause-seats g c)
