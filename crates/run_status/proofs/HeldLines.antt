-- What became of the lines that were held.
use Rattle.std.proofs.Common.{◌≡◌, ◌++◌, List, ℕ, [], refl, sym, subst, append-nil, Option, Ok, Err, IsErrOf}
use Rattle.std.specs.Io.KnownBytes.{append_known}
use Rattle.mav_ports.specs.Counts.{Rose}
use Rattle.mav_ports.specs.Puts.{Sent, SentPrefix}
use Rattle.mav_ports.proofs.Known.{sent_step, sent_in}
use Rattle.run_status.specs.declared.run_ends.RunEnd.{RunEnd}
use Rattle.run_status.specs.declared.run_ends.RunEnd.TheVariants.{WriteFault}
use Rattle.run_status.specs.HeldLines.{WritesLines}
use Rattle.run_status.specs.Seen.{Output}

ok_is_no_fault : IsErrOf {T = Unit {0}} {E = RunEnd} (Ok tt) WriteFault → ⊥
ok_is_no_fault e = cc e

-- all that was held was sent
all_sent : (before middle after : Option (List ℕ)) (whole held : List ℕ) → Sent before middle whole held → after ≡ append_known middle held → Sent before after whole []
all_sent before middle after whole held s e = sent_step before middle after whole held [] (subst (Sent before middle whole) (sym (append-nil held)) s) e

pub lines_written : (out : Output) (held left : List ℕ) → out.sent_after ≡ append_known out.sent_before held → out.refusals_after ≡ out.refusals_before → left ≡ [] → WritesLines out held left (Ok tt)
lines_written out held left sent same empty = record {
  moved = λ before whole s. subst (Sent before out.sent_after whole) (sym empty) (all_sent before out.sent_before out.sent_after whole held s sent);
  front = λ before whole s. ([], all_sent before out.sent_before out.sent_after whole held s sent);
  error = tt;
  rose = λ is. absurd (ok_is_no_fault is);
  sound = same;
}

-- a write of them failed
pub lines_refused : (out : Output) (held left : List ℕ) → SentPrefix out.sent_before out.sent_after held → Rose out.refusals_before out.refusals_after → WritesLines out held left (Err WriteFault)
lines_refused out held left (more, f) rose = record {
  moved = tt;
  front = λ before whole s. (
    more ++ [],
    sent_in before out.sent_before out.sent_after whole held [] more (subst (Sent before out.sent_before whole) (sym (append-nil held)) s) f,
  );
  error = refl;
  rose = λ is. rose;
  sound = tt;
}
