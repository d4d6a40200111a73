-- What is at the start continues the parse.
use Rattle.std.proofs.Common.{◌≡◌, ℕ, ◌+◌, ◌<◌, ◌≤◌, ◌^◌, ◌&&◌, Bool, true, false, nat_lt, List, [], ◌∷◌, ◌++◌, inl, inr, length, take, drop, slice_index, get_or, if◌then◌else◌, refl, sym, ap, ◌∙◌, subst, arith, length-append, length-take, length-drop, take-append-drop, append_assoc, append-nil, drop-cons}
use Rattle.std.proofs.lemmas.Bool.Decides.{nat_tests}
use Rattle.std.proofs.lemmas.Bool.{cases_lt}
use Rattle.std.proofs.lemmas.List.{drop-drop, get_or-drop, get_or-take, get_or_past}
use Rattle.std.proofs.lemmas.Nat.{be_bytes_8}
use Rattle.std.proofs.Math.Seq.{take-append_seam}
use Rattle.std.specs.Int.{w64, to_be_bytes}
use Rattle.mav_frame.specs.Packet.{Packet, FitsFrame}
use Rattle.mav_frame.specs.Encoding.{encoding, Encodes}
use Rattle.mav_frame.specs.Looks.{look_of, is_old_at, packet_at, frame_size_at}
use Rattle.mav_frame.specs.Parse.{EventAt}
use Rattle.mav_frame.specs.declared.looks.Look.{Look}
use Rattle.mav_frame.specs.declared.looks.Look.TheVariants.{Frame as Found, NotHere, More}
use Rattle.mav_frame.specs.declared.looks.Why.{Why}
use Rattle.mav_frame.specs.declared.looks.Why.TheVariants.{Short}
use Rattle.mav_frame.specs.declared.events.Event.TheVariants.{Frame}
use Rattle.mav_frame.proofs.EventsFound.{frame_event}
use Rattle.mav_frame.proofs.FoundEncoded.{IsBytes, once, found_is}
use Rattle.mav_frame.proofs.LongerParse.{no_frame}
use Rattle.mav_frame.proofs.Reasons.{incomplete, reason}
use Rattle.mav_stream.proofs.Answers.{has_room}
use Rattle.log_rows.specs.LogParse.{LogEvent, RowEvent, SkipEvent, LogEventAt, IsRest}
use Rattle.log_rows.specs.Progress.{LogHeld, LogProgress, IsWholeLog}
use Rattle.log_rows.specs.Rows.{row_encoding, micros_at, first_row}
use Rattle.log_rows.specs.Spans.{span_by, span_events, span_size, held_behind, IfNeed, IfSome, IfRow}
use Rattle.log_rows.specs.declared.spans.RowSpan.TheVariants.{Skipped, Need}
use Rattle.log_rows.proofs.RowEvents.{no_row, not_found, more_found, decided, long}
use Rattle.log_rows.proofs.Parses.{goes_on, ends}

-- ---- a time

time_fits : (b : List ℕ) → IsBytes b → 8 ≤ length b → micros_at b < 2 ^ 64
time_fits (x0 ∷ x1 ∷ x2 ∷ x3 ∷ x4 ∷ x5 ∷ x6 ∷ x7 ∷ rest) bytes enough =
    let h0 = bytes 0 in let h1 = bytes 1 in let h2 = bytes 2 in let h3 = bytes 3 in let h4 = bytes 4 in let h5 = bytes 5 in let h6 = bytes 6 in let h7 = bytes 7 in
    omega arith
time_fits _ bytes enough = absurd (omega arith)

small : (b : List ℕ) (i : ℕ) → IsBytes b → get_or (take 8 b) i 0 < 256
small b i bytes = elim (cases_lt i 8) [
  | inl first ↦ subst (λ (n : ℕ). n < 256) (sym (get_or-take 8 b i 0 first)) (bytes i)
  | inr past ↦ subst (λ (n : ℕ). n < 256) (sym (get_or_past (take 8 b) i 0 (omega (arith, length-take 8 b)))) (omega arith)
]

time_is : (b : List ℕ) → IsBytes b → 8 ≤ length b → to_be_bytes w64 (micros_at b) ≡ take 8 b
time_is b bytes enough = be_bytes_8 (take 8 b) (micros_at b) (omega (arith, length-take 8 b)) (λ i. small b i bytes) refl

behind_bytes : (b : List ℕ) → IsBytes b → IsBytes (drop 8 b)
behind_bytes b bytes = λ i. subst (λ (n : ℕ). n < 256) (sym (get_or-drop 8 b i 0)) (bytes (8 + i))

-- ---- the event at the start

module _ (extras : List (ℕ × ℕ)) (b : List ℕ) (bytes : IsBytes b) where
  abbrev x : List ℕ
  x = drop 8 b

  -- a row
  module _ (p : Packet) (n : ℕ) (e : look_of extras true x ≡ Found p n) where
    enough : 8 ≤ length b
    enough = long extras b (decided extras b (Found p n) e (λ k. is_more p n k))
      where
        is_more : (q : Packet) (m k : ℕ) → Found q m ≡ More k → ⊥
        is_more q m k is = cc

    there : (n ≤ length x) × Encodes extras true p (take n x) × FitsFrame p
    there = once extras true x p n (behind_bytes b bytes) e

    packet : packet_at (is_old_at true x) x ≡ p
    packet = (found_is extras true x p n e).0

    pub row_is : LogEventAt extras (RowEvent (first_row b)) b (drop (n + 8) b)
    row_is =
        let at : EventAt extras true (Frame p) x (drop n x) = frame_event extras true x p n there in
        let parts : b ≡ to_be_bytes w64 (micros_at b) ++ (encoding p ++ drop (n + 8) b) =
        sym (take-append-drop 8 b) ∙ (λ i. sym (time_is b bytes enough) i ++ (at.2 ∙ ap (λ (l : List ℕ). encoding p ++ l) (drop-drop n 8 b ∙ ap (λ (k : ℕ). drop k b) (let k : 8 + n ≡ n + 8 = omega arith in k))) i) in
        subst (λ (q : Packet). LogEventAt extras (RowEvent (record { micros = micros_at b; frame = q })) b (drop (n + 8) b)) (sym packet)
        (record { micros = time_fits b bytes enough; frame = at.0 }, at.1, parts ∙ sym (append_assoc (to_be_bytes w64 (micros_at b)) (encoding p) (drop (n + 8) b)))

    pub row_facts : (8 ≤ length b) × (n + 8 ≡ length (row_encoding (first_row b))) × (take (n + 8) b ≡ row_encoding (first_row b)) × (frame_size_at (is_old_at true x) x ≤ length x)
    row_facts =
        let fits : n ≤ length x = there.0 in
        let size : n ≡ length (encoding p) = omega (arith, length-take n x, ap length there.1.bytes) in
        let all : length (to_be_bytes w64 (micros_at b) ++ encoding p) ≡ 8 + length (encoding p) = length-append (to_be_bytes w64 (micros_at b)) (encoding p) in
        let whole : n + 8 ≡ length (row_encoding (first_row b)) = omega (arith, size, all) ∙ ap (λ (q : Packet). length (to_be_bytes w64 (micros_at b) ++ encoding q)) (sym packet) in (
          enough,
          whole,
          (λ i. take (whole i) (row_is.2 i)) ∙ take-append_seam (row_encoding (first_row b)) (drop (n + 8) b),
          subst (λ (m : ℕ). m ≤ length x) (sym (found_is extras true x p n e).1) fits,
        )

    pub row_within : n + 8 ≤ length b
    row_within = let fits = there.0 in omega (arith, length-drop 8 b, enough)

  -- a byte that is in none
  first : 0 < length b → b ≡ slice_index b 0 ∷ drop 1 b
  first some = drop-cons b 0 0 some

  pub some_held : (why : Why) → look_of extras true x ≡ NotHere why → 0 < length b
  some_held why e = let h = long extras b (decided extras b (NotHere why) e (λ k is. cc is)) in omega arith

  pub skip_is : (why : Why) → look_of extras true x ≡ NotHere why → LogEventAt extras (SkipEvent (slice_index b 0) why) b (drop 1 b)
  skip_is why e = (first (some_held why e), no_row extras b (no_frame extras true x (NotHere why) e (not_found why)), reason extras true x why e)

  pub short_is : (k : ℕ) → 0 < length b → look_of extras true x ≡ More k → LogEventAt extras (SkipEvent (slice_index b 0) Short) b (drop 1 b)
  short_is k some e = (first some, no_row extras b (no_frame extras true x (More k) e (more_found k)), incomplete extras true x k e)

-- ---- the end of the input

ended_some : (t : Bool) (n : ℕ) → (t && nat_lt 0 n) ≡ true → (t ≡ true) × (0 < n)
ended_some true n e = (refl, grind (arith, nat_tests))
ended_some false n e = absurd (let bad : false ≡ true = e in cc)

not_rest : (extras : List (ℕ × ℕ)) (b : List ℕ) → 0 < length b → IsRest extras true b → ⊥
not_rest extras b some none = let e = ap length none in omega arith

module _ (held : LogHeld) (bytes : IsBytes held.bytes) where
  abbrev b : List ℕ
  b = held.bytes

  abbrev look : Look
  look = look_of held.extras true (drop 8 b)

  -- ---- what is at the start is held

  short_within : (t : Bool) → (held.ended && nat_lt 0 (length b)) ≡ t → span_size (if t then Skipped Short else Need) ≤ length b
  short_within true e = let some = (ended_some held.ended (length b) e).1 in omega arith
  short_within false e = omega arith

  pub within : (l : Look) → look ≡ l → span_size (span_by l held.ended b) ≤ length b
  within (Found p n) e = row_within held.extras b bytes p n e
  within (NotHere why) e = let some = some_held held.extras b bytes why e in omega arith
  within (More k) e = short_within (held.ended && nat_lt 0 (length b)) refl

  short_some : (t : Bool) → IfSome (if t then Skipped Short else Need) (0 < span_size (if t then Skipped Short else Need))
  short_some true = omega arith
  short_some false = tt

  pub some : (l : Look) → IfSome (span_by l held.ended b) (0 < span_size (span_by l held.ended b))
  some (Found p n) = omega arith
  some (NotHere why) = omega arith
  some (More k) = short_some (held.ended && nat_lt 0 (length b))

  abbrev IsRow : ℕ → Type 0
  IsRow size = (8 ≤ length b) × (size ≡ length (row_encoding (first_row b))) × (take size b ≡ row_encoding (first_row b)) × (frame_size_at (is_old_at true (drop 8 b)) (drop 8 b) ≤ length (drop 8 b))

  short_no_row : (t : Bool) → IfRow (if t then Skipped Short else Need) IsRow
  short_no_row true = tt
  short_no_row false = tt

  pub row_size : (l : Look) → look ≡ l → IfRow (span_by l held.ended b) IsRow
  row_size (Found p n) e = row_facts held.extras b bytes p n e
  row_size (NotHere why) e = tt
  row_size (More k) e = short_no_row (held.ended && nat_lt 0 (length b))

  -- ---- the room at Need

  room_at : (t : Bool) → length b < 288 → IfNeed (if t then Skipped Short else Need) (length b < 288)
  room_at true h = tt
  room_at false h = h

  pub room : (l : Look) → look ≡ l → IfNeed (span_by l held.ended b) (length b < 288)
  room (Found p n) e = tt
  room (NotHere why) e = tt
  room (More k) e =
      let less = has_room held.extras true (drop 8 b) (behind_bytes b bytes) (incomplete held.extras true (drop 8 b) k e) in
      room_at (held.ended && nat_lt 0 (length b)) (omega (arith, less, length-drop 8 b))

  -- ---- the parse

  module _ (extras : List (ℕ × ℕ)) (taken : List ℕ) (given : List LogEvent) (h : LogProgress extras taken given held) where
    event_on : (event : LogEvent) (rest : List ℕ) → (IsRest held.extras held.ended b → ⊥) → LogEventAt held.extras event b rest → LogProgress extras taken (given ++ event ∷ []) (record held { bytes = rest })
    event_on event rest never at = record {
      same = h.same;
      begins = goes_on extras held.ended given event b rest taken h.begins
          (λ r. never (subst (λ (z : List (ℕ × ℕ)). IsRest z held.ended b) (sym h.same) r)) (subst (λ (z : List (ℕ × ℕ)). LogEventAt z event b rest) h.same at);
    }

    not_need : (v : Bool) (l : Look) → look ≡ l → 0 < length b → ((k : ℕ) → l ≡ More k → ⊥) → IsRest held.extras v b → ⊥
    not_need true l e some never = not_rest held.extras b some
    not_need false l e some never = decided held.extras b l e never

    is_ended : (t : Bool) → t ≡ true → 0 < length b → IsRest held.extras t b → ⊥
    is_ended t over some = subst (λ (v : Bool). IsRest held.extras v b → ⊥) (sym over) (not_rest held.extras b some)

    short_on : (k : ℕ) → look ≡ More k → (t : Bool) → (held.ended && nat_lt 0 (length b)) ≡ t → LogProgress extras taken (given ++ span_events b (if t then Skipped Short else Need)) (held_behind held (if t then Skipped Short else Need))
    short_on k e true is =
        let over = ended_some held.ended (length b) is in
        event_on (SkipEvent (slice_index b 0) Short) (drop 1 b) (is_ended held.ended over.0 over.1) (short_is held.extras b bytes k over.1 e)
    short_on k e false is = subst (λ (z : List LogEvent). LogProgress extras taken z held) (sym (append-nil given)) h

    row_more : (p : Packet) (n k : ℕ) → Found p n ≡ More k → ⊥
    row_more p n k e = cc

    skip_more : (w : Why) (k : ℕ) → NotHere w ≡ More k → ⊥
    skip_more w k e = cc

    -- the event at the start continues it
    pub progress : (l : Look) → look ≡ l → LogProgress extras taken (given ++ span_events b (span_by l held.ended b)) (held_behind held (span_by l held.ended b))
    progress (Found p n) e =
        let fits = row_within held.extras b bytes p n e in
        event_on (RowEvent (first_row b)) (drop (n + 8) b) (not_need held.ended (Found p n) e (omega (arith, fits)) (row_more p n)) (row_is held.extras b bytes p n e)
    progress (NotHere why) e =
        event_on (SkipEvent (slice_index b 0) why) (drop 1 b) (not_need held.ended (NotHere why) e (some_held held.extras b bytes why e) (skip_more why)) (skip_is held.extras b bytes why e)
    progress (More k) e = short_on k e (held.ended && nat_lt 0 (length b)) refl

    -- at Need it is whole
    none : (t : Bool) (k : ℕ) → look ≡ More k → (t && nat_lt 0 (length b)) ≡ false → IsRest held.extras t b
    none false k e is = incomplete held.extras true (drop 8 b) k e
    none true k e is = nothing b is
      where
        nothing : (xs : List ℕ) → (true && nat_lt 0 (length xs)) ≡ false → xs ≡ []
        nothing [] is = refl
        nothing (x ∷ xs) is = absurd (let some : nat_lt 0 (length (x ∷ xs)) ≡ true = grind (arith, nat_tests) in let bad : true ≡ false = sym some ∙ is in cc)

    need_whole : (k : ℕ) → look ≡ More k → (t : Bool) → (held.ended && nat_lt 0 (length b)) ≡ t → IfNeed (if t then Skipped Short else Need) (IsWholeLog extras taken given held)
    need_whole k e true is = tt
    need_whole k e false is = ends extras held.ended given b taken h.begins (subst (λ (z : List (ℕ × ℕ)). IsRest z held.ended b) h.same (none held.ended k e is))

    pub whole : (l : Look) → look ≡ l → IfNeed (span_by l held.ended b) (IsWholeLog extras taken given held)
    whole (Found p n) e = tt
    whole (NotHere why) e = tt
    whole (More k) e = need_whole k e (held.ended && nat_lt 0 (length b)) refl
