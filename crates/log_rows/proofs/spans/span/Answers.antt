use Rattle.std.proofs.Common.{true, ap, ◌∙◌}
use Rattle.mav_frame.specs.Looks.{look_of}
use Rattle.mav_frame.specs.declared.looks.Look.{Look}
use Rattle.log_rows.specs.Spans.{span_by}
use Rattle.log_rows.proofs.spans.span.Goals as goal

pub returns-in-Whole : goal.returns-in-Whole
returns-in-Whole g c =
    ap (λ (look : Look). span_by look c.args.ended c.args.bytes.now) (c.in-Whole.ensures.exact ∙ ap (look_of (g.T.CrcExtras.pairs c.args.extras.now) true) c.behind_time.ensures)

pub returns-in-NotHere : goal.returns-in-NotHere
returns-in-NotHere g c =
    ap (λ (look : Look). span_by look c.args.ended c.args.bytes.now) (c.in-NotHere.ensures.exact ∙ ap (look_of (g.T.CrcExtras.pairs c.args.extras.now) true) c.behind_time.ensures)

pub returns-in-More : goal.returns-in-More
returns-in-More g c =
    c.lacking.ensures ∙ ap (λ (look : Look). span_by look c.args.ended c.args.bytes.now) (c.in-More.ensures.exact ∙ ap (look_of (g.T.CrcExtras.pairs c.args.extras.now) true) c.behind_time.ensures)
