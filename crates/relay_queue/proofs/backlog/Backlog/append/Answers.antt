use Rattle.std.proofs.Common.{◌≡◌, ◌∙◌, ◌+◌, ◌≤◌, ◌++◌, ◌∷◌, [], List, ℕ, length, drop, refl, subst, ap, sym, arith, length-append}
use Rattle.std.proofs.lemmas.List.{length-drop}
use Rattle.relay_queue.specs.Queues.{AreFrames, QueueState, frames_in, queue_of, size_of, total}
use Rattle.relay_queue.proofs.Frames.{appended, appended_all, frames_are_more, size_frames}
use Rattle.relay_queue.proofs.backlog.Backlog.append.Goals as goal

pub invariant_of-self : goal.invariant_of-self
invariant_of-self c =
    let inv = c.self.invariant in
    let k = c.compact.ensures in
    (inv.0, inv.1, inv.2, omega (arith, inv.3, k.count), inv.4, omega (arith, inv.5, k.less))

pub invariant_of-self-in_err-reserve : goal.invariant_of-self-in_err-reserve
invariant_of-self-in_err-reserve c =
    let inv = c.self.invariant in
    let k = c.compact.ensures in
    let same = c.in_err-reserve.ensures.items in
    let sizes = ap total same in
    (inv.0, inv.1, inv.2, omega (arith, inv.3, k.count, sizes), subst AreFrames (sym same) inv.4, omega (arith, inv.5, k.less))

pub invariant_of-self-in_err-extend_from_slice : goal.invariant_of-self-in_err-extend_from_slice
invariant_of-self-in_err-extend_from_slice c =
    let inv = c.self.invariant in
    let k = c.compact.ensures in
    let same = c.in_ok-reserve.ensures.items in
    let sizes = ap total same in
    let bytes = ap length c.in_err-extend_from_slice.ensures.items in
    (inv.0, inv.1, inv.2, omega (arith, inv.3, k.count, sizes, bytes), subst AreFrames (sym same) inv.4, omega (arith, inv.5, k.less, bytes))

pub invariant_of-self-2 : goal.invariant_of-self-2
invariant_of-self-2 c =
    let q = c.self.inside in
    let inv = c.self.invariant in
    let k = c.in_ok-compact.ensures in
    let frame = c.args.frame.now in
    let all : c.compact.new.start + total q.sizes.items ≡ length c.compact.new.bytes.items = omega (arith, inv.3, k.count) in
    let counted = c.push_back_reserved.ensures.items ∙ ap (λ (l : List ℕ). l ++ length frame ∷ []) c.in_ok-reserve.ensures.items in
    let rest = length-drop q.start q.bytes.items in
    let sizes = size_frames q.sizes.items (drop q.start q.bytes.items) (omega (arith, inv.3, rest)) in
    let few : size_of (frames_in q.sizes.items (drop q.start q.bytes.items)) ≤ 1048576 = subst (λ (s : QueueState). size_of s.waiting ≤ 1048576) (sym c.self.view_is) c.requires.room in
    let more = ap length c.in_ok-extend_from_slice.ensures.items ∙ length-append c.compact.new.bytes.items frame in (
      inv.0,
      inv.1,
      inv.2,
      appended_all c.compact.new.start (length frame) c.compact.new.bytes.items c.extend_from_slice.new.self.items q.sizes.items c.push_back_reserved.new.self.items frame all c.in_ok-extend_from_slice.ensures.items counted refl,
      subst AreFrames (sym counted) (frames_are_more q.sizes.items (length frame) c.requires.some c.requires.few inv.4),
      omega (arith, more, sizes, few, k.few, all, c.requires.few),
    )

pub returns-clause-queue : goal.returns-clause-queue
returns-clause-queue c =
    let q = c.self.inside in
    let inv = c.self.invariant in
    let k = c.in_ok-compact.ensures in
    let frame = c.args.frame.now in
    let all : c.compact.new.start + total q.sizes.items ≡ length c.compact.new.bytes.items = omega (arith, inv.3, k.count) in
    let counted = c.push_back_reserved.ensures.items ∙ ap (λ (l : List ℕ). l ++ length frame ∷ []) c.in_ok-reserve.ensures.items in
    ap (queue_of (drop q.from q.part.items)) (appended c.compact.new.start (length frame) c.compact.new.bytes.items c.extend_from_slice.new.self.items q.sizes.items c.push_back_reserved.new.self.items frame all c.in_ok-extend_from_slice.ensures.items counted refl)
    ∙ (ap (λ (b : List ℕ). queue_of (drop q.from q.part.items) (frames_in q.sizes.items b ++ frame ∷ [])) k.rest
    ∙ ap (λ (s : QueueState). queue_of s.begun (s.waiting ++ frame ∷ [])) c.self.view_is)
