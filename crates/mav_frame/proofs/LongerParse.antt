-- More bytes change no event, and a parse continues event by event.
use Rattle.std.proofs.Common.{◌≡◌, Bool, ℕ, List, [], ◌∷◌, ◌++◌, refl, sym, ap, ◌∙◌, subst, ⊎_elim, append_assoc}
use Rattle.std.specs.Prelude.{flat_map}
use Rattle.mav_frame.specs.Packet.{Packet}
use Rattle.mav_frame.specs.Encoding.{encoding}
use Rattle.mav_frame.specs.Looks.{look_of}
use Rattle.mav_frame.specs.Parse.{event_bytes, NoFrame, IsIncomplete, EventAt}
use Rattle.mav_frame.specs.ParseLaws.{MoreBytesKeep, IncrementalGoesOn, IncrementalEnds, FinalGoesOn, FinalEnds, IncrementalBeginsFinal, EventsCoverBytes}
use Rattle.mav_frame.specs.declared.looks.Look.{Look}
use Rattle.mav_frame.specs.declared.looks.Look.TheVariants.{Frame as Found, NotHere, More}
use Rattle.mav_frame.specs.declared.looks.Why.{Why}
use Rattle.mav_frame.specs.declared.looks.Why.TheVariants.{Short}
use Rattle.mav_frame.specs.declared.events.Event.{Event}
use Rattle.mav_frame.specs.declared.events.Event.TheVariants.{Frame, Skipped}
use Rattle.mav_frame.proofs.EncodedFound.{found}
use Rattle.mav_frame.proofs.MoreBytes.{stays}
use Rattle.mav_frame.proofs.Reasons.{lacks, incomplete, listed, reason}

found_more : (p : Packet) (n k : ℕ) → Found p n ≡ More k → ⊥
found_more p n k e = cc

not_more : (w : Why) (k : ℕ) → NotHere w ≡ More k → ⊥
not_more w k e = cc

not_found : (w : Why) (p : Packet) (n : ℕ) → NotHere w ≡ Found p n → ⊥
not_found w p n e = cc

module _ (extras : List (ℕ × ℕ)) (old : Bool) (b more : List ℕ) where
  never_incomplete : (r : Look) → look_of extras old b ≡ r → (IsIncomplete extras old b → ⊥) → IsIncomplete extras old (b ++ more) → ⊥
  never_incomplete (Found p n) e never h = let l = lacks extras old (b ++ more) h in found_more p n l.0 (sym (stays extras old b more (Found p n) (found_more p n) e) ∙ l.1)
  never_incomplete (NotHere w) e never h = let l = lacks extras old (b ++ more) h in not_more w l.0 (sym (stays extras old b more (NotHere w) (not_more w) e) ∙ l.1)
  never_incomplete (More k) e never h = never (incomplete extras old b k e)

-- no frame is encoded if the table has a reason, nor if it lacks bytes
pub no_frame : (extras : List (ℕ × ℕ)) (old : Bool) (b : List ℕ) (r : Look) → look_of extras old b ≡ r → ((p : Packet) (n : ℕ) → r ≡ Found p n → ⊥) → NoFrame extras old b
no_frame extras old b r e never p front rest f s is = never p _ (sym e ∙ found extras old p b rest f s.sealed (is ∙ ap (λ (l : List ℕ). l ++ rest) s.bytes))

module _ (extras : List (ℕ × ℕ)) (old : Bool) (b more : List ℕ) where
  event_longer : (m : Event) (rest : List ℕ) → (IsIncomplete extras old b → ⊥) → EventAt extras old m b rest → EventAt extras old m (b ++ more) (rest ++ more)
  event_longer (Frame p) rest never h = (h.0, h.1, ap (λ (l : List ℕ). l ++ more) h.2 ∙ append_assoc (encoding p) rest more)
  event_longer (Skipped c w) rest never h = ⊎_elim
      (λ (x : look_of extras old b ≡ NotHere w).
      let same = stays extras old b more (NotHere w) (not_more w) x in
      (ap (λ (l : List ℕ). l ++ more) h.0, no_frame extras old (b ++ more) (NotHere w) same (not_found w), reason extras old (b ++ more) w same))
      (λ (x : IsIncomplete extras old b × (w ≡ Short)). absurd (never x.0))
      (listed extras old b w h.2)

pub more_bytes_keep : MoreBytesKeep
more_bytes_keep extras old [] left b more h = ap (λ (l : List ℕ). l ++ more) h
more_bytes_keep extras old (m ∷ ms) left b more h = (never_incomplete extras old b more (look_of extras old b) refl h.0, (h.1.0 ++ more, event_longer extras old b more m h.1.0 h.0 h.1.1, more_bytes_keep extras old ms left h.1.0 more h.1.2))

pub incremental_goes_on : IncrementalGoesOn
incremental_goes_on extras old [] m left rest b h never x = ((λ l. never (subst (λ (z : List ℕ). IsIncomplete extras old z) h l)), (rest, subst (λ (z : List ℕ). EventAt extras old m z rest) (sym h) x, refl))
incremental_goes_on extras old (n ∷ ns) m left rest b h never x = (h.0, (h.1.0, h.1.1, incremental_goes_on extras old ns m left rest h.1.0 h.1.2 never x))

pub incremental_ends : IncrementalEnds
incremental_ends extras old [] left b h l = (sym h, subst (λ (z : List ℕ). IsIncomplete extras old z) (sym h) l)
incremental_ends extras old (m ∷ ms) left b h l = (h.0, (h.1.0, h.1.1, incremental_ends extras old ms left h.1.0 h.1.2 l))

pub final_goes_on : FinalGoesOn
final_goes_on extras old [] m left rest b h x = (rest, subst (λ (z : List ℕ). EventAt extras old m z rest) (sym h) x, refl)
final_goes_on extras old (n ∷ ns) m left rest b h x = (h.0, h.1, final_goes_on extras old ns m left rest h.0 h.2 x)

pub final_ends : FinalEnds
final_ends extras old [] b h = h
final_ends extras old (m ∷ ms) b h = (h.0, h.1, final_ends extras old ms h.0 h.2)

pub incremental_begins_final : IncrementalBeginsFinal
incremental_begins_final extras old [] left b h = h
incremental_begins_final extras old (m ∷ ms) left b h = (h.1.0, h.1.1, incremental_begins_final extras old ms left h.1.0 h.1.2)

event_covers : (extras : List (ℕ × ℕ)) (old : Bool) (event : Event) (b rest : List ℕ) → EventAt extras old event b rest → b ≡ event_bytes event ++ rest
event_covers extras old (Frame p) b rest h = h.2
event_covers extras old (Skipped c w) b rest h = h.0

pub events_cover_bytes : EventsCoverBytes
events_cover_bytes extras old [] left b h = h
events_cover_bytes extras old (m ∷ ms) left b h =
    event_covers extras old m b h.0 h.1
    ∙ (ap (λ (l : List ℕ). event_bytes m ++ l) (events_cover_bytes extras old ms left h.0 h.2)
    ∙ sym (append_assoc (event_bytes m) (flat_map event_bytes ms) left))
