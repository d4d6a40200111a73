use Rattle.std.proofs.Common.{◌≡◌, ◌∙◌, map, ap, sym, arith}
use Rattle.std.proofs.lemmas.List.{take_all}
use Rattle.std.proofs.lemmas.Option.{get_or_from_slice_get}
use Rattle.mav_router.specs.Found.{Judged}
use Rattle.mav_router.specs.Spans.{judged_of}
use Rattle.mav_router.proofs.Moving.{image_more}
use Rattle.mav_router.proofs.found.FoundFrames.copy.Goals as goal

pub loop-at-init : goal.loop-at-init
loop-at-init c = record { copied = c.self.view_is ∙ c.clear.ensures }

pub loop-at-preserved : goal.loop-at-preserved
loop-at-preserved c =
    let bytes = c.args.bytes.now in
    let items = c.args.items.now in
    let one = c.item_at-one.result in
    let judged : Judged = record { frame = c.frame_in.result; judgement = one.judgement } in
    let is : judged ≡ judged_of bytes one = (λ i. record { frame = c.frame_in.ensures i; judgement = one.judgement }) in
    record {
      copied = c.in_ok-push.ensures.added
          ∙ image_more (judged_of bytes) items c.loop-at.at one c.loop-at.self judged c.loop-at-test.true (is ∙ ap (judged_of bytes) (sym (get_or_from_slice_get items c.loop-at.at one one c.item_at-one.ensures))) c.loop-at.invariant.copied;
    }

pub returns : goal.returns
returns c =
    let items = c.args.items.now in
    c.loop-at.invariant.copied ∙ ap (map (judged_of c.args.bytes.now)) (take_all c.loop-at.at items (omega (arith, c.loop-at-test.false)))
