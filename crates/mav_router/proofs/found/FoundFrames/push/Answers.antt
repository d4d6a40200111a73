use Rattle.std.proofs.Common.{◌∙◌, ◌++◌, ◌∷◌, [], ℕ, List, map, refl, sym, ap, subst}
use Rattle.mav_frame.specs.Packet.{Packet}
use Rattle.mav_router.specs.declared.found.FoundFrame.{FoundFrame}
use Rattle.mav_router.specs.declared.spans.Span.{Span}
use Rattle.mav_router.specs.Found.{Judged}
use Rattle.mav_router.specs.Spans.{Appends, AreFound, judged_of}
use Rattle.mav_router.proofs.HeldFrames.{all_pushed, pushed}
use Rattle.mav_router.proofs.found.FoundFrames.push.Goals as goal

abbrev span_of : FoundFrame → Span
span_of found = found.span

abbrev judged_with : FoundFrame → Packet → Judged
judged_with found packet = record { frame = packet; judgement = found.judgement }

pub invariant_of-self-2 : goal.invariant_of-self-2
invariant_of-self-2 c =
    let s = c.self.inside in
    let after = c.append.new.bytes.items in
    let span = c.in_ok-span.span in
    let one : FoundFrame = record { span = span; judgement = c.args.judgement } in
    let items = c.put_last.ensures.items ∙ ap (λ (l : List FoundFrame). l ++ one ∷ []) c.make_room.ensures.items in
    let appends = subst (λ (b : List ℕ). Appends b after span c.args.frame.now) c.make_room.ensures.bytes c.in_ok-span.ensures.appends in
    subst (AreFound after) (sym items)
    (all_pushed span_of judged_with s.bytes.items after span c.args.frame.now s.items.items one appends refl c.self.invariant)

pub returns-clause-added : goal.returns-clause-added
returns-clause-added c =
    let s = c.self.inside in
    let after = c.append.new.bytes.items in
    let span = c.in_ok-span.span in
    let one : FoundFrame = record { span = span; judgement = c.args.judgement } in
    let items = c.put_last.ensures.items ∙ ap (λ (l : List FoundFrame). l ++ one ∷ []) c.make_room.ensures.items in
    let appends = subst (λ (b : List ℕ). Appends b after span c.args.frame.now) c.make_room.ensures.bytes c.in_ok-span.ensures.appends in
    ap (map (judged_of after)) items
    ∙ (pushed span_of judged_with s.bytes.items after span c.args.frame.now s.items.items one appends refl c.self.invariant
    ∙ ap (λ (l : List Judged). l ++ judged_with one c.args.frame.now ∷ []) c.self.view_is)
