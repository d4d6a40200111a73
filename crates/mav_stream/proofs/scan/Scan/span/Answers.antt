use Rattle.std.proofs.Common.{ap, ◌∙◌}
use Rattle.mav_frame.specs.declared.looks.Look.{Look}
use Rattle.mav_stream.specs.Spans.{span_by}
use Rattle.mav_stream.proofs.scan.Scan.span.Goals as goal

pub returns-in-More : goal.returns-in-More
returns-in-More c =
    let now = c.args.self.now in
    c.lacking.ensures c.in-More.field-0 ∙ ap (λ (look : Look). span_by look now) c.in-More.ensures
