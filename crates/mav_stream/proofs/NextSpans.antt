-- What is at the start continues the parse.
use Rattle.std.proofs.Common.{◌≡◌, ℕ, ◌<◌, ◌≤◌, ◌&&◌, Bool, true, false, nat_lt, List, [], ◌∷◌, ◌++◌, length, take, drop, if◌then◌else◌, refl, sym, ap, ◌∙◌, subst, arith, length-take, append-nil}
use Rattle.std.proofs.lemmas.Bool.Decides.{nat_tests}
use Rattle.mav_frame.specs.Packet.{Packet}
use Rattle.mav_frame.specs.Encoding.{encoding}
use Rattle.mav_frame.specs.Looks.{frame_size_at, is_old_at, look_of}
use Rattle.mav_frame.specs.declared.looks.Look.{Look}
use Rattle.mav_frame.specs.declared.looks.Look.TheVariants.{Frame as Found, NotHere, More}
use Rattle.mav_frame.specs.declared.looks.Why.TheVariants.{Short}
use Rattle.mav_frame.specs.declared.events.Event.{Event}
use Rattle.mav_frame.specs.declared.events.Event.TheVariants.{Frame as FrameEvent}
use Rattle.mav_frame.proofs.FoundEncoded.{IsBytes, once, found_is}
use Rattle.mav_frame.proofs.Reasons.{incomplete}
use Rattle.mav_stream.specs.Held.{Held}
use Rattle.mav_stream.specs.Progress.{Progress, IsWhole}
use Rattle.mav_stream.specs.declared.Next.TheVariants.{Frame as NextFrame, Skipped as NextSkipped}
use Rattle.mav_stream.proofs.Steps.{next_on, whole_at}
use Rattle.mav_stream.specs.Skips.{skipped_length}
use Rattle.mav_stream.specs.Spans.{first_packet, next_span, span_by, span_events, held_after, span_size, IfEvent, IfFrame, IfNeed, IsNextSpan}
use Rattle.mav_stream.specs.declared.spans.NextSpan.TheVariants.{Frame, Skipped, Need}
use Rattle.mav_stream.proofs.Answers.{gives_frame, gives_short, needs, has_room}
use Rattle.mav_stream.proofs.Skipped.{each_looks, length_within, skips_on}

-- ---- the end of the input

ended_some : (t : Bool) (n : ℕ) → (t && nat_lt 0 n) ≡ true → (t ≡ true) × (0 < n)
ended_some true n e = (refl, grind (arith, nat_tests))
ended_some false n e = absurd (let bad : false ≡ true = e in cc)

ended_none : (t : Bool) (b : List ℕ) → (t && nat_lt 0 (length b)) ≡ false → t ≡ true → b ≡ []
ended_none t [] e over = refl
ended_none true (x ∷ xs) e over = absurd (let some : nat_lt 0 (length (x ∷ xs)) ≡ true = grind (arith, nat_tests) in let bad : true ≡ false = sym some ∙ e in cc)
ended_none false (x ∷ xs) e over = absurd (let bad : false ≡ true = over in cc)

module _ (held : Held) (bytes : IsBytes held.bytes) where
  abbrev is_short : Bool
  is_short = held.ended && nat_lt 0 (length held.bytes)

  -- ---- what is at the start is held

  short_within : (t : Bool) → is_short ≡ t → span_size (if t then Skipped Short 1 else Need) ≤ length held.bytes
  short_within true e = let some = (ended_some held.ended (length held.bytes) e).1 in omega arith
  short_within false e = omega arith

  within : (look : Look) → look_of held.extras held.reads_old held.bytes ≡ look → span_size (span_by look held) ≤ length held.bytes
  within (Found p n) e = (once held.extras held.reads_old held.bytes p n bytes e).0
  within (NotHere why) e = length_within held.extras held.reads_old why held.bytes e
  within (More k) e = short_within is_short refl

  short_some : (t : Bool) → IfEvent (if t then Skipped Short 1 else Need) (0 < span_size (if t then Skipped Short 1 else Need))
  short_some true = omega arith
  short_some false = tt

  frame_some : (p : Packet) (n : ℕ) → n ≡ length (encoding p) → 0 < n
  frame_some p n e = omega (arith, e)

  -- ---- a frame at the start

  abbrev IsFrameSize : ℕ → Type 0
  IsFrameSize size = (size ≡ length (encoding (first_packet held))) × (size ≡ frame_size_at (is_old_at held.reads_old held.bytes) held.bytes)

  short_no_frame : (t : Bool) → IfFrame (if t then Skipped Short 1 else Need) IsFrameSize
  short_no_frame true = tt
  short_no_frame false = tt

  frame_size : (look : Look) → look_of held.extras held.reads_old held.bytes ≡ look → IfFrame (span_by look held) IsFrameSize
  frame_size (Found p n) e =
      let is = found_is held.extras held.reads_old held.bytes p n e in let found = once held.extras held.reads_old held.bytes p n bytes e in
      let fits : n ≤ length held.bytes = found.0 in
      let long : n ≡ length (take n held.bytes) = omega (arith, length-take n held.bytes) in
      (long ∙ (ap length found.1.bytes ∙ ap (λ (q : Packet). length (encoding q)) (sym is.0)), sym is.1)
  frame_size (NotHere why) e = tt
  frame_size (More k) e = short_no_frame is_short

  some : (look : Look) → look_of held.extras held.reads_old held.bytes ≡ look → IfEvent (span_by look held) (0 < span_size (span_by look held))
  some (Found p n) e = frame_some (first_packet held) n (frame_size (Found p n) e).0
  some (NotHere why) e = omega arith
  some (More k) e = short_some is_short

  -- ---- the room at Need

  room_at : (t : Bool) → length held.bytes < 280 → IfNeed (if t then Skipped Short 1 else Need) (length held.bytes < 280)
  room_at true h = tt
  room_at false h = h

  room : (look : Look) → look_of held.extras held.reads_old held.bytes ≡ look → IfNeed (span_by look held) (length held.bytes < 280)
  room (Found p n) e = tt
  room (NotHere why) e = tt
  room (More k) e = room_at is_short (has_room held.extras held.reads_old held.bytes bytes (incomplete held.extras held.reads_old held.bytes k e))

  -- ---- the parse

  module _ (extras : List (ℕ × ℕ)) (reads_old : Bool) (taken : List ℕ) (given : List Event) (h : Progress extras reads_old taken given held) where
    first_short : (k : ℕ) (b : List ℕ) → held.bytes ≡ b → look_of held.extras held.reads_old b ≡ More k → held.ended ≡ true → 0 < length b → Progress extras reads_old taken (given ++ span_events (record held { bytes = b }) (Skipped Short 1)) (record held { bytes = drop 1 b })
    first_short k [] is e over some = absurd (omega arith)
    first_short k (x ∷ xs) is e over some =
        let now : Held = record held { bytes = x ∷ xs } in
        let at : Progress extras reads_old taken given now = subst (λ (b : List ℕ). Progress extras reads_old taken given (record held { bytes = b })) is h in
        next_on extras reads_old taken given now at (NextSkipped x Short) (record held { bytes = xs }) (gives_short now k some over e)

    short_on : (k : ℕ) → look_of held.extras held.reads_old held.bytes ≡ More k → (t : Bool) → is_short ≡ t → Progress extras reads_old taken (given ++ span_events held (if t then Skipped Short 1 else Need)) (held_after held (if t then Skipped Short 1 else Need))
    short_on k e true is = let over = ended_some held.ended (length held.bytes) is in first_short k held.bytes refl e over.0 over.1
    short_on k e false is = subst (λ (z : List Event). Progress extras reads_old taken z held) (sym (append-nil given)) h

    -- the events at the start continue it
    progress : (look : Look) → look_of held.extras held.reads_old held.bytes ≡ look → Progress extras reads_old taken (given ++ span_events held (span_by look held)) (held_after held (span_by look held))
    progress (Found p n) e =
        let now : Held = record held { bytes = drop n held.bytes } in
        let on = next_on extras reads_old taken given held h (NextFrame p) now (gives_frame held p n e (once held.extras held.reads_old held.bytes p n bytes e)) in
        subst (λ (q : Packet). Progress extras reads_old taken (given ++ FrameEvent q ∷ []) now) (sym (found_is held.extras held.reads_old held.bytes p n e).0) on
    progress (NotHere why) e =
        skips_on extras reads_old taken held why (skipped_length why held.extras held.reads_old held.bytes) held.bytes given (length_within held.extras held.reads_old why held.bytes e) (each_looks held.extras held.reads_old why held.bytes e) h
    progress (More k) e = short_on k e is_short refl

    need_whole : (k : ℕ) → look_of held.extras held.reads_old held.bytes ≡ More k → (t : Bool) → is_short ≡ t → IfNeed (if t then Skipped Short 1 else Need) (IsWhole extras reads_old taken given held)
    need_whole k e true is = tt
    need_whole k e false is = whole_at extras reads_old taken given held h held (needs held k e (ended_none held.ended held.bytes is))

    -- and at Need it is whole
    whole : (look : Look) → look_of held.extras held.reads_old held.bytes ≡ look → IfNeed (span_by look held) (IsWhole extras reads_old taken given held)
    whole (Found p n) e = tt
    whole (NotHere why) e = tt
    whole (More k) e = need_whole k e is_short refl

  -- ---- all of it

  pub next_span_is : IsNextSpan held (next_span held)
  next_span_is =
      let look = look_of held.extras held.reads_old held.bytes in
      record {
        exact = refl;
        within = within look refl;
        some = some look refl;
        frame = frame_size look refl;
        progress = λ extras reads_old taken given h. progress extras reads_old taken given h look refl;
        whole = λ extras reads_old taken given h. whole extras reads_old taken given h look refl;
        room = room look refl;
      }

-- ---- the frame that was found

frame_span : (m n : ℕ) → Frame m ≡ Frame n → m ≡ n
frame_span m n e = cc

no_frame_short : (t : Bool) (size : ℕ) → (if t then Skipped Short 1 else Need) ≡ Frame size → ⊥
no_frame_short true size e = cc
no_frame_short false size e = cc

pub frame_found : (held : Held) (size : ℕ) (look : Look) → look_of held.extras held.reads_old held.bytes ≡ look → span_by look held ≡ Frame size → look_of held.extras held.reads_old held.bytes ≡ Found (first_packet held) size
frame_found held size (Found p n) e span =
    e ∙ (λ i. Found (sym (found_is held.extras held.reads_old held.bytes p n e).0 i) (frame_span n size span i))
frame_found held size (NotHere why) e span = absurd (let bad : Skipped why (skipped_length why held.extras held.reads_old held.bytes) ≡ Frame size = span in cc)
frame_found held size (More k) e span = absurd (no_frame_short (held.ended && nat_lt 0 (length held.bytes)) size span)
