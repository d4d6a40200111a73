-- What holds of a result, whichever it is.
use Rattle.std.proofs.Common.{Result, Ok, Err, OnOk, IfErr}
use Rattle.mav_stream.specs.Spans.{IfNeed}
use Rattle.mav_stream.specs.declared.spans.NextSpan.{NextSpan}
use Rattle.mav_stream.specs.declared.spans.NextSpan.TheVariants.{Frame, Skipped, Need}
use Rattle.run_status.specs.declared.run_ends.RunEnd.{RunEnd}

pub on_ok : {A : Type 0} {P : Type 0} {Q : Type 0} (r : Result A RunEnd) → OnOk r P → (P → Q) → OnOk r Q
on_ok (Ok done) p f = f p
on_ok (Err halt) p f = tt

pub if_err : {A : Type 0} {P : Type 0} (r : Result A RunEnd) → P → IfErr r (λ halt. P)
if_err (Ok done) p = tt
if_err (Err halt) p = p

pub on_ok_both : {P : Type 0} {Q : Type 0} {R : Type 0} (r : Result (Unit {0}) RunEnd) → OnOk r P → OnOk r Q → (P → Q → R) → OnOk r R
on_ok_both (Ok done) p q f = f p q
on_ok_both (Err halt) p q f = tt

pub on_any : {A : Type 0} {P : Type 0} (r : Result A RunEnd) → P → OnOk r P
on_any (Ok done) p = p
on_any (Err halt) p = tt

-- at Need a fact follows from another
pub if_need : {P : Type 0} {Q : Type 0} (span : NextSpan) → IfNeed span P → (P → Q) → IfNeed span Q
if_need (Frame size) p f = tt
if_need (Skipped why count) p f = tt
if_need Need p f = f p
