use Rattle.std.proofs.Common.{◌∙◌, ℕ, List, ap, subst}
use Rattle.mav_stream.specs.declared.spans.NextSpan.TheVariants.{Frame, Skipped, Need}
use Rattle.log_rows.specs.Progress.{LogHeld}
use Rattle.mav_log.specs.Tellers.{IsNextOfLog}
use Rattle.mav_log.proofs.scanner.LogScanner.next_span.Goals as goal

pub returns-in-Row : goal.returns-in-Row
returns-in-Row c =
    let inside = c.self.inside in let next = c.in-Row.ensures in
    let same = ap (λ (b : List ℕ). let held : LogHeld = record { extras = inside.extras; bytes = b; ended = inside.ended } in held) c.bytes.ensures ∙ c.self.view_is in
    subst (λ (held : LogHeld). IsNextOfLog held (Frame c.in-Row.size)) same (record {
      event = record { row = next.row; some = next.some; within = next.within; gave = next.progress };
      whole = λ table taken given progress. tt;
      room = tt;
    })

pub returns-in-Skipped : goal.returns-in-Skipped
returns-in-Skipped c =
    let inside = c.self.inside in let next = c.in-Skipped.ensures in
    let same = ap (λ (b : List ℕ). let held : LogHeld = record { extras = inside.extras; bytes = b; ended = inside.ended } in held) c.bytes.ensures ∙ c.self.view_is in
    subst (λ (held : LogHeld). IsNextOfLog held (Skipped c.in-Skipped.why 1)) same (record {
      event = record { some = next.within; gave = next.progress };
      whole = λ table taken given progress. tt;
      room = tt;
    })

pub returns-in-Need : goal.returns-in-Need
returns-in-Need c =
    let inside = c.self.inside in let next = c.in-Need.ensures in
    let same = ap (λ (b : List ℕ). let held : LogHeld = record { extras = inside.extras; bytes = b; ended = inside.ended } in held) c.bytes.ensures ∙ c.self.view_is in
    subst (λ (held : LogHeld). IsNextOfLog held Need) same (record { event = tt; whole = next.whole; room = next.room })
