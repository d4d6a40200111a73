use Rattle.std.proofs.Common.{◌≡◌, ℕ, Bool, true, ltb, if◌then◌else◌, List, Option, Some, None, refl, sym, ap, ◌∙◌, length, get_or}
use Rattle.std.proofs.lemmas.Option.{slice_get_read}
use Rattle.std.proofs.lemmas.Bool.{ltb-true}
use Rattle.mav_names.specs.declared.names.Stream.{Stream}
use Rattle.mav_ftp.specs.Sessions.{Session, in_slot, session_of}
use Rattle.mav_ftp.proofs.slots.Slots.of.Goals as goal

-- the session in a slot that stands there
found_in : (slots now : List (Option Session)) (from : Stream) (number at : ℕ) (slot : Option Session) → slots ≡ now → at ≡ number → true ≡ ltb at (length slots) → slot ≡ get_or slots at slot → in_slot from (Some slot) ≡ session_of now from number
found_in slots now from number at slot view same within is =
    sym (ap (λ (xs : List (Option Session)). session_of xs from number) (sym view) ∙ (ap (session_of slots from) (sym same) ∙ ap (in_slot from) (slice_get_read slots (length slots) at slot refl (ltb-true at (length slots) (sym within)) is)))

pub returns-in-Some-Some-clause-session : goal.returns-in-Some-Some-clause-session
returns-in-Some-Some-clause-session c =
    let at = c.in-Some-Some in let session = at.session in
    ap (λ (b : Bool). if b then Some session else None) (sym c.if-is_of.true ∙ c.is_of.ensures)
    ∙ (ap (λ (slot : Option Session). in_slot c.args.stream (Some slot)) (sym at.field-0-is)
    ∙ found_in c.self.inside.slots c.args.self.now c.args.stream c.args.number c.from.result at.field-0.now c.self.view_is c.from.ensures at.ensures.lookup.0 at.ensures.lookup.1)
