use Rattle.std.proofs.Common.{◌≡◌, sym, ap, ◌∙◌, subst}
use Rattle.mav_frame.proofs.FoundEncoded.{IsBytes}
use Rattle.mav_stream.specs.Held.{Held}
use Rattle.mav_stream.specs.Spans.{IsNextSpan}
use Rattle.mav_stream.specs.declared.spans.NextSpan.{NextSpan}
use Rattle.mav_stream.proofs.NextSpans.{next_span_is}
use Rattle.mav_stream.proofs.scan.Scan.next_span.Goals as goal

pub returns : goal.returns
returns c =
    let now = c.args.self.now in
    let held : c.as_bytes-held.result.now ≡ now.bytes = c.as_bytes-held.ensures.list ∙ ap (λ (h : Held). h.bytes) c.self.view_is in
    subst (λ (span : NextSpan). IsNextSpan now span) (sym c.span.ensures) (next_span_is now (subst IsBytes held c.as_bytes-held.ensures.bytes))
