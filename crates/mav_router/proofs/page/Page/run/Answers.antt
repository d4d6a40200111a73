use Rattle.std.proofs.Common.{◌≡◌, ◌∙◌, List, ℕ, ap, sym, subst, take, slice_range, length, arith}
use Rattle.mav_router.specs.declared.entries.Entry.{Entry}
use Rattle.mav_router.specs.declared.page.Head.{Head}
use Rattle.mav_router.specs.Journal.{frames_to}
use Rattle.mav_router.specs.Outgoing.{IsRun, SpansRun}
use Rattle.mav_router.specs.Spans.{AreHeld, entries_of}
use Rattle.mav_router.proofs.Outgoing.{run_after}
use Rattle.mav_router.proofs.page.Page.run.Goals as goal

pub bytes_in-requires-clause-order : goal.bytes_in-requires-clause-order
bytes_in-requires-clause-order c =
    let s = c.self.inside in
    (c.run_at-span.ensures.run s.bytes.items (subst (AreHeld s.bytes.items) (sym c.deref-2.ensures.value) c.self.invariant)).order

pub bytes_in-requires-clause-within : goal.bytes_in-requires-clause-within
bytes_in-requires-clause-within c =
    let s = c.self.inside in
    let run = c.run_at-span.ensures.run s.bytes.items (subst (AreHeld s.bytes.items) (sym c.deref-2.ensures.value) c.self.invariant) in
    let long = ap length c.deref-3.ensures.value in
    omega (arith, run.within, long)

pub returns-clause-run : goal.returns-clause-run
returns-clause-run c =
    let s = c.self.inside in
    let port = c.args.port in
    let bytes = s.bytes.items in
    let heads = s.heads.items in
    let from = c.args.at.now in
    let first = c.first_to-first.result in
    let to = c.run_at-span.new.end in
    let span = c.run_at-span.result in
    let none = subst (λ (h : List Head). frames_to port (take first (entries_of bytes h)) ≡ frames_to port (take from (entries_of bytes h))) c.deref.ensures.value (c.first_to-first.ensures.none bytes) in
    let run = subst (λ (h : List Head). SpansRun port bytes h first to span) c.deref-2.ensures.value (c.run_at-span.ensures.run bytes (subst (AreHeld bytes) (sym c.deref-2.ensures.value) c.self.invariant)) in
    let text = c.bytes_in.ensures ∙ ap (λ (b : List ℕ). slice_range b span.start span.end) c.deref-3.ensures.value in
    subst (λ (j : List Entry). IsRun port j from to c.bytes_in.result.now) c.self.view_is
    (subst (λ (t : List ℕ). IsRun port (entries_of bytes heads) from to t) (sym text)
    (run_after port (entries_of bytes heads) from first to (slice_range bytes span.start span.end) none run.run))
