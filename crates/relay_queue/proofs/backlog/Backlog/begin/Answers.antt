use Rattle.std.proofs.Common.{◌∙◌, ◌+◌, ◌∷◌, List, ℕ, length, arith, ap, sym, subst}
use Rattle.std.specs.List.{slice_range}
use Rattle.relay_queue.specs.Queues.{AreFrames, QueueState}
use Rattle.relay_queue.proofs.Frames.{begun_is, part_less}
use Rattle.relay_queue.proofs.backlog.Backlog.begin.Goals as goal

pub overflow_add-self-inside : goal.overflow_add-self-inside
overflow_add-self-inside c =
    let q = c.self.inside in
    let is = c.in-Some.ensures.items ∙ ap (λ (n : ℕ). n ∷ c.pop_front.new.self.items) (sym c.from.ensures) in
    let l = part_less q.start c.from.result c.args.count q.bytes.items q.sizes.items c.pop_front.new.self.items c.args.self.now.waiting (ap (λ (s : QueueState). s.waiting) c.self.view_is) is c.self.invariant.3 c.requires.part in
    let few = c.deref.type_inv.0 in
    let same = ap length c.deref.ensures.value in
    omega (arith, l.0, l.1, few, same)

pub replace-requires-clause-order : goal.replace-requires-clause-order
replace-requires-clause-order c =
    let q = c.self.inside in
    let is = c.in-Some.ensures.items ∙ ap (λ (n : ℕ). n ∷ c.pop_front.new.self.items) (sym c.from.ensures) in
    let l = part_less q.start c.from.result c.args.count q.bytes.items q.sizes.items c.pop_front.new.self.items c.args.self.now.waiting (ap (λ (s : QueueState). s.waiting) c.self.view_is) is c.self.invariant.3 c.requires.part in
    omega (arith, l.0)

pub replace-requires-clause-within : goal.replace-requires-clause-within
replace-requires-clause-within c =
    let q = c.self.inside in
    let is = c.in-Some.ensures.items ∙ ap (λ (n : ℕ). n ∷ c.pop_front.new.self.items) (sym c.from.ensures) in
    let l = part_less q.start c.from.result c.args.count q.bytes.items q.sizes.items c.pop_front.new.self.items c.args.self.now.waiting (ap (λ (s : QueueState). s.waiting) c.self.view_is) is c.self.invariant.3 c.requires.part in
    let same = ap length c.deref.ensures.value in
    omega (arith, l.1, same)

pub replace-requires-clause-room : goal.replace-requires-clause-room
replace-requires-clause-room c =
    let small = subst AreFrames c.in-Some.ensures.items c.self.invariant.4 in
    omega (arith, small.1, c.from.ensures, c.self.invariant.2)

pub invariant_of-self-2 : goal.invariant_of-self-2
invariant_of-self-2 c =
    let q = c.self.inside in
    let is = c.in-Some.ensures.items ∙ ap (λ (n : ℕ). n ∷ c.pop_front.new.self.items) (sym c.from.ensures) in
    let l = part_less q.start c.from.result c.args.count q.bytes.items q.sizes.items c.pop_front.new.self.items c.args.self.now.waiting (ap (λ (s : QueueState). s.waiting) c.self.view_is) is c.self.invariant.3 c.requires.part in
    let small = subst AreFrames c.in-Some.ensures.items c.self.invariant.4 in
    let e = c.replace.ensures in
    (omega arith, omega (arith, e.len, small.1, c.from.ensures), omega (arith, e.room, c.self.invariant.2), l.2, small.2, c.self.invariant.5)

pub returns : goal.returns
returns c = λ frame frames at.
    let q = c.self.inside in
    let is = c.in-Some.ensures.items ∙ ap (λ (n : ℕ). n ∷ c.pop_front.new.self.items) (sym c.from.ensures) in
    let view = ap (λ (s : QueueState). s.waiting) c.self.view_is in
    let l = part_less q.start c.from.result c.args.count q.bytes.items q.sizes.items c.pop_front.new.self.items c.args.self.now.waiting view is c.self.invariant.3 c.requires.part in
    let part = c.replace.ensures.items ∙ ap (λ (b : List ℕ). slice_range b (q.start + c.args.count) (q.start + c.from.result)) c.deref.ensures.value in
    begun_is q.start c.from.result c.args.count q.bytes.items q.sizes.items c.pop_front.new.self.items c.replace.new.list.items c.args.self.now.waiting view is c.self.invariant.3 (omega (arith, l.0)) part frame frames at
