use Rattle.std.proofs.Common.{ℕ, IsTrue, ◌≤◌, List, length, sym, ap, ◌∙◌, subst}
use Rattle.mav_sign.specs.Signing.{BytesVerify}
use Rattle.fleet_world.specs.Cuts.{cut}
use Rattle.fleet_world.proofs.CutBytes.{part_found, span_within, span_signed}
use Rattle.fleet_world.proofs.sent.SentFrames.datagram.Goals as goal

pub returns-in-Some : goal.returns-in-Some
returns-in-Some c =
    c.datagram_at.ensures ∙ ap (λ (l : List ℕ). (cut l c.in-Some.at).1) c.deref-in-Some.ensures.value
    ∙ part_found _ _ _ _ _ _ c.self.view_is c.deref.ensures.value c.in-Some.ensures

pub datagram_at-requires-clause-order : goal.datagram_at-requires-clause-order
datagram_at-requires-clause-order c = (span_within _ _ _ _ _ c.self.invariant.0 c.deref.ensures.value c.in-Some.ensures).order

pub datagram_at-requires-clause-below : goal.datagram_at-requires-clause-below
datagram_at-requires-clause-below c =
    subst (λ (l : List ℕ). c.in-Some.at.end ≤ length l) (sym c.deref-in-Some.ensures.value)
    (span_within _ _ _ _ _ c.self.invariant.0 c.deref.ensures.value c.in-Some.ensures).below

pub datagram_at-requires-clause-signed : goal.datagram_at-requires-clause-signed
datagram_at-requires-clause-signed c =
    subst (λ (l : List ℕ). IsTrue c.in-Some.at.signed → BytesVerify c.self.inside.key (cut l c.in-Some.at).1) (sym c.deref-in-Some.ensures.value)
    (span_signed _ _ _ _ _ _ c.self.invariant.1 c.deref.ensures.value c.in-Some.ensures)

pub returns-in-None : goal.returns-in-None
returns-in-None c = c.new.ensures ∙ part_found _ _ _ _ _ _ c.self.view_is c.deref.ensures.value c.in-None.ensures
