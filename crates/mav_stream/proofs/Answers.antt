-- A result of `look` is what `next` gives.
use Rattle.std.proofs.Common.{◌≡◌, ℕ, ◌<◌, ◌≤◌, Bool, true, false, List, [], ◌∷◌, inl, inr, ◌==◌, if◌then◌else◌, length, take, drop, slice_index, refl, sym, ap, ◌∙◌, subst, arith, length-append}
use Rattle.mav_frame.specs.Packet.{Packet, FitsFrame}
use Rattle.mav_frame.specs.Encoding.{Encodes, encoding}
use Rattle.mav_frame.specs.Looks.{block_size_at, header_size, is_old_at, look_of}
use Rattle.mav_frame.specs.Parse.{IsIncompleteAs, IsIncomplete, EventAt}
use Rattle.mav_frame.specs.declared.looks.Look.TheVariants.{Frame as Found, NotHere, More}
use Rattle.mav_frame.specs.declared.looks.Why.{Why}
use Rattle.mav_frame.specs.declared.looks.Why.TheVariants.{Short}
use Rattle.mav_frame.specs.declared.events.Event.TheVariants.{Frame, Skipped}
use Rattle.mav_frame.proofs.EventsFound.{frame_event, skipped_event, short_event}
use Rattle.mav_frame.proofs.Reasons.{lacks, incomplete}
use Rattle.mav_stream.specs.Held.{Held}
use Rattle.mav_stream.specs.Nexts.{Gives, Needs, NextIs, HasRoomAfter}
use Rattle.mav_stream.specs.declared.Next.{Next}
use Rattle.mav_stream.specs.declared.Next.TheVariants.{Frame as NextFrame, Skipped as NextSkipped, Need as NextNeed}
use Rattle.std.proofs.lemmas.Bool.{cases_lt}
use Rattle.mav_frame.proofs.FoundEncoded.{IsBytes}
use Rattle.mav_frame.specs.declared.events.Event.{Event}

found_more : (p : Packet) (n k : ℕ) → Found p n ≡ More k → ⊥
found_more p n k e = cc

not_more : (w : Why) (k : ℕ) → NotHere w ≡ More k → ⊥
not_more w k e = cc

not_ended : true ≡ false → ⊥
not_ended e = cc

module _ (old : Held) where
  pub gives_frame : (p : Packet) (n : ℕ) → look_of old.extras old.reads_old old.bytes ≡ Found p n → (n ≤ length old.bytes) × Encodes old.extras old.reads_old p (take n old.bytes) × FitsFrame p → Gives old (Frame p) (record old { bytes = drop n old.bytes })
  gives_frame p n e found = record {
    stands = frame_event old.extras old.reads_old old.bytes p n found;
    decided = λ _ h. let l = lacks old.extras old.reads_old old.bytes h in found_more p n l.0 (sym e ∙ l.1);
    same = refl;
  }

  pub gives_skip : (w : Why) → 0 < length old.bytes → look_of old.extras old.reads_old old.bytes ≡ NotHere w → Gives old (Skipped (slice_index old.bytes 0) w) (record old { bytes = drop 1 old.bytes })
  gives_skip w some e = record {
    stands = skipped_event old.extras old.reads_old old.bytes w some e;
    decided = λ _ h. let l = lacks old.extras old.reads_old old.bytes h in not_more w l.0 (sym e ∙ l.1);
    same = refl;
  }

  pub gives_short : (k : ℕ) → 0 < length old.bytes → old.ended ≡ true → look_of old.extras old.reads_old old.bytes ≡ More k → Gives old (Skipped (slice_index old.bytes 0) Short) (record old { bytes = drop 1 old.bytes })
  gives_short k some over e = record {
    stands = short_event old.extras old.reads_old old.bytes k some e;
    decided = λ still. absurd (not_ended (sym over ∙ still));
    same = refl;
  }

  pub needs : (k : ℕ) → look_of old.extras old.reads_old old.bytes ≡ More k → (old.ended ≡ true → old.bytes ≡ []) → Needs old old
  needs k e empty = record { same = refl; incomplete = incomplete old.extras old.reads_old old.bytes k e; empty = empty }

-- if a byte is skipped there is one
none_held : (extras : List (ℕ × ℕ)) (reads_old : Bool) → look_of extras reads_old [] ≡ More 3
none_held extras true = refl
none_held extras false = refl

pub some_held : (extras : List (ℕ × ℕ)) (reads_old : Bool) (b : List ℕ) (w : Why) → look_of extras reads_old b ≡ NotHere w → 0 < length b
some_held extras reads_old [] w e = absurd (let t : More 3 ≡ NotHere w = sym (none_held extras reads_old) ∙ e in cc)
some_held extras reads_old (x ∷ xs) w e = omega arith

-- after an event fewer bytes are held, and an incomplete frame leaves room
fewer : (extras : List (ℕ × ℕ)) (reads_old : Bool) (event : Event) (b rest : List ℕ) → EventAt extras reads_old event b rest → length rest < length b
fewer extras reads_old (Frame p) b rest h = let l = length-append (encoding p) rest in let e = ap length h.2 in omega arith
fewer extras reads_old (Skipped c w) b rest h = let e = ap length h.0 in omega arith

at_most_13 : (unsigned : Bool) → (if unsigned then 0 else 13) ≤ 13
at_most_13 true = omega arith
at_most_13 false = omega arith

block_size : (v : Bool) (b : List ℕ) → block_size_at v b ≤ 13
block_size true b = omega arith
block_size false b = at_most_13 (slice_index b 2 == 0)

header : (v : Bool) → header_size v ≤ 10
header true = omega arith
header false = omega arith

room_as : (extras : List (ℕ × ℕ)) (v : Bool) (b : List ℕ) → IsBytes b → IsIncompleteAs extras v b → length b < 280
room_as extras v b bytes h = let most = header v in elim (cases_lt (length b) (header_size v)) [
  | inl short ↦ omega arith
  | inr long ↦ let len = bytes 1 in let short = h.short long in let block = block_size v b in omega arith
]

pub has_room : (extras : List (ℕ × ℕ)) (reads_old : Bool) (b : List ℕ) → IsBytes b → IsIncomplete extras reads_old b → length b < 280
has_room extras reads_old b bytes h = room_as extras (is_old_at reads_old b) b bytes h

pub room_after : (old new : Held) (answer : Next) → IsBytes old.bytes → NextIs old answer new → HasRoomAfter old answer new
room_after old new (NextFrame p) bytes g = fewer old.extras old.reads_old (Frame p) old.bytes new.bytes g.stands
room_after old new (NextSkipped c w) bytes g = fewer old.extras old.reads_old (Skipped c w) old.bytes new.bytes g.stands
room_after old new NextNeed bytes n = subst (λ (z : Held). length z.bytes < 280) (sym n.same) (has_room old.extras old.reads_old old.bytes bytes n.incomplete)
