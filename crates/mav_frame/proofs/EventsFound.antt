-- A result of `look` is an event.
use Rattle.std.proofs.Common.{◌≡◌, Bool, ℕ, zero, suc, ◌<◌, ◌≤◌, List, [], ◌∷◌, ◌++◌, length, take, drop, slice_index, sym, ap, ◌∙◌, take-append-drop, drop-cons, arith}
use Rattle.mav_frame.specs.Packet.{Packet, FitsFrame}
use Rattle.mav_frame.specs.Encoding.{encoding, Encodes}
use Rattle.mav_frame.specs.Looks.{look_of}
use Rattle.mav_frame.specs.Parse.{EventAt}
use Rattle.mav_frame.specs.declared.looks.Look.TheVariants.{Frame as Found, NotHere, More}
use Rattle.mav_frame.specs.declared.looks.Why.{Why}
use Rattle.mav_frame.specs.declared.looks.Why.TheVariants.{Short}
use Rattle.mav_frame.specs.declared.events.Event.TheVariants.{Frame, Skipped}
use Rattle.mav_frame.proofs.LongerParse.{no_frame}
use Rattle.mav_frame.proofs.Reasons.{incomplete, reason}

not_found : (w : Why) (p : Packet) (n : ℕ) → NotHere w ≡ Found p n → ⊥
not_found w p n e = cc

more_found : (k : ℕ) (p : Packet) (n : ℕ) → More k ≡ Found p n → ⊥
more_found k p n e = cc

-- a frame takes a byte at least
pub some_bytes : (n : ℕ) (b : List ℕ) (p : Packet) → take n b ≡ encoding p → 1 ≤ n
some_bytes zero b p e = absurd (let z : ◌≡◌ {A = List ℕ} [] (encoding p) = e in cc)
some_bytes (suc n) b p e = omega arith

first : (b : List ℕ) → 0 < length b → b ≡ slice_index b 0 ∷ drop 1 b
first b some = drop-cons b 0 0 some

pub frame_event : (extras : List (ℕ × ℕ)) (old : Bool) (b : List ℕ) (p : Packet) (n : ℕ) → (n ≤ length b) × Encodes extras old p (take n b) × FitsFrame p → EventAt extras old (Frame p) b (drop n b)
frame_event extras old b p n h = (h.2, h.1.sealed, sym (take-append-drop n b) ∙ ap (λ (l : List ℕ). l ++ drop n b) h.1.bytes)

pub skipped_event : (extras : List (ℕ × ℕ)) (old : Bool) (b : List ℕ) (w : Why) → 0 < length b → look_of extras old b ≡ NotHere w → EventAt extras old (Skipped (slice_index b 0) w) b (drop 1 b)
skipped_event extras old b w some e = (first b some, no_frame extras old b (NotHere w) e (not_found w), reason extras old b w e)

pub short_event : (extras : List (ℕ × ℕ)) (old : Bool) (b : List ℕ) (k : ℕ) → 0 < length b → look_of extras old b ≡ More k → EventAt extras old (Skipped (slice_index b 0) Short) b (drop 1 b)
short_event extras old b k some e = (first b some, no_frame extras old b (More k) e (more_found k), incomplete extras old b k e)
