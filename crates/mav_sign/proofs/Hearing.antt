-- What is reported of frames, one after another.
use Rattle.std.proofs.Common.{◌≡◌, Bool, true, false, ℕ, ◌+◌, ◌-◌, ◌≤◌, List, [], ◌∷◌, ◌++◌, length, take, drop, slice_range, refl, sym, ap, ◌∙◌, subst, arith, append_assoc, length-append, length-take, length-drop}
use Rattle.std.proofs.lemmas.List.{append-nil, drop-drop, take_all}
use Rattle.std.proofs.lemmas.List.Elements.{filter_map-append}
use Rattle.std.proofs.lemmas.List.Sums.{fold-append}
use Rattle.mav_frame.specs.Packet.{Packet}
use Rattle.mav_frame.specs.Encoding.{encoding, Encodes, block_bytes, checked_bytes, header_of}
use Rattle.mav_frame.specs.Numbers.{little_endian}
use Rattle.mav_frame.specs.Parse.{EventAt, BeginsFinal}
use Rattle.mav_frame.specs.declared.events.Event.{Event}
use Rattle.mav_frame.specs.declared.events.Event.TheVariants.{Frame as FrameEvent}
use Rattle.mav_frame.proofs.LongerParse.{final_goes_on, final_ends}
use Rattle.mav_sign.specs.declared.heard.Heard.{Heard}
use Rattle.mav_sign.specs.History.{Entry}
use Rattle.mav_sign.specs.Kept.{Kept, Represents}
use Rattle.mav_sign.specs.Endpoints.{HeardIs, HeardAll, after_frame, after_frames, frame_in, frames_of, Told, FrontHeard, HeardTo, Received, FrontFrames, FramesTo, FramesOf}

-- nothing was tried
pub told_none : (key : List ℕ) (history : List Entry) (before : List Heard) (stamps : Kept) → Represents stamps history → Told key history [] before before stamps
told_none key history before stamps of = record { heard = []; each = tt; appended = sym (append-nil before); represents = of }

-- one frame was tried
pub told_one : (key : List ℕ) (history : List Entry) (packet : Packet) (heard : Heard) (before after : List Heard) (stamps : Kept) → HeardIs key history packet heard → after ≡ before ++ heard ∷ [] → Represents stamps (after_frame key history packet) → Told key history (packet ∷ []) before after stamps
told_one key history packet heard before after stamps is appended of = record {
  heard = heard ∷ [];
  each = (is, tt);
  appended = appended;
  represents = of;
}

heard_more : (key : List ℕ) (history : List Entry) (first second : List Packet) (told more : List Heard) → HeardAll key history first told → HeardAll key (after_frames key history first) second more → HeardAll key history (first ++ second) (told ++ more)
heard_more key history [] second [] more each next = next
heard_more key history [] second (x ∷ told) more each next = absurd each
heard_more key history (p ∷ first) second [] more each next = absurd each
heard_more key history (p ∷ first) second (x ∷ told) more each next =
    (each.0, heard_more key (after_frame key history p) first second told more each.1 next)

-- more frames were tried
pub told_more : (key : List ℕ) (history : List Entry) (first second : List Packet) (before between after : List Heard) (middle stamps : Kept) → Told key history first before between middle → Told key (after_frames key history first) second between after stamps → Told key history (first ++ second) before after stamps
told_more key history first second before between after middle stamps told more = record {
  heard = told.heard ++ more.heard;
  each = heard_more key history first second told.heard more.heard told.each more.each;
  appended = more.appended ∙ (ap (λ (l : List Heard). l ++ more.heard) told.appended ∙ append_assoc before told.heard more.heard);
  represents = subst (Represents stamps) (sym (fold-append (after_frame key) history first second)) more.represents;
}

pub frames_more : (events : List Event) (event : Event) → frames_of (events ++ event ∷ []) ≡ frames_of events ++ frames_of (event ∷ [])
frames_more events event = filter_map-append frame_in events (event ∷ [])

-- a frame of MAVLink 2 has at least 12 bytes
header_is : (packet : Packet) (old : Bool) → (old ≡ true → false ≡ true) → 9 ≤ length (header_of old packet)
header_is packet true never = absurd (let bad : false ≡ true = never refl in cc)
header_is packet false never = omega arith

least_encoding : (packet : Packet) → (packet.old ≡ true → false ≡ true) → 12 ≤ length (encoding packet)
least_encoding packet version =
    let header = header_is packet packet.old version in
    let rest : length (checked_bytes packet ++ little_endian 2 packet.check ++ block_bytes packet.block) ≡ length (checked_bytes packet ++ little_endian 2 packet.check) + length (block_bytes packet.block) = length-append (checked_bytes packet ++ little_endian 2 packet.check) (block_bytes packet.block) in
    let front : length (checked_bytes packet ++ little_endian 2 packet.check) ≡ length (checked_bytes packet) + 2 = length-append (checked_bytes packet) (little_endian 2 packet.check) in
    let checked : length (checked_bytes packet) ≡ length (header_of packet.old packet) + length packet.payload = length-append (header_of packet.old packet) packet.payload in
    omega (arith, header, rest, front, checked)

pub least_frame : (extras : List (ℕ × ℕ)) (packet : Packet) (bytes : List ℕ) (size : ℕ) → size ≤ length bytes → Encodes extras false packet (take size bytes) → 12 ≤ size
least_frame extras packet bytes size within encodes =
    let long : length (take size bytes) ≡ length (encoding packet) = ap length encodes.bytes in
    omega (arith, long, least_encoding packet encodes.sealed.version, length-take size bytes)

pub least_event : (extras : List (ℕ × ℕ)) (packet : Packet) (bytes : List ℕ) (size : ℕ) → size ≤ length bytes → EventAt extras false (FrameEvent packet) bytes (drop size bytes) → 12 ≤ size
least_event extras packet bytes size within event =
    let long : length bytes ≡ length (encoding packet) + length (drop size bytes) = ap length event.2 ∙ length-append (encoding packet) (drop size bytes) in
    omega (arith, long, least_encoding packet event.1.version, length-drop size bytes)

-- the parse continues after the bytes that were received at the start
pub heard_on : (extras : List (ℕ × ℕ)) (key : List ℕ) (history : List Entry) (bytes : List ℕ) (place size : ℕ) (before between after : List Heard) (middle stamps : Kept) → (to : HeardTo extras key history bytes place before between middle) → FrontHeard extras key (after_frames key history (frames_of to.events)) (slice_range bytes place (length bytes)) size between after stamps → HeardTo extras key history bytes (place + size) before after stamps
heard_on extras key history bytes place size before between after middle stamps to front =
    let all : slice_range bytes place (length bytes) ≡ drop place bytes = take_all (length bytes - place) (drop place bytes) (omega (arith, length-drop place bytes)) in
    let there : EventAt extras false front.event (drop place bytes) (drop size (drop place bytes)) = subst (λ (z : List ℕ). EventAt extras false front.event z (drop size z)) all front.stands in
    let e : drop size (drop place bytes) ≡ drop (place + size) bytes = drop-drop size place bytes in
    record {
      events = to.events ++ front.event ∷ [];
      begun = subst (λ (z : List ℕ). BeginsFinal extras false (to.events ++ front.event ∷ []) z bytes) e (final_goes_on extras false to.events front.event (drop place bytes) (drop size (drop place bytes)) bytes to.begun there);
      told = subst (λ (packets : List Packet). Told key history packets before after stamps) (sym (frames_more to.events front.event)) (told_more key history (frames_of to.events) (frames_of (front.event ∷ [])) before between after middle stamps to.told front.told);
    }

pub heard_at_start : (extras : List (ℕ × ℕ)) (key : List ℕ) (history : List Entry) (bytes : List ℕ) (before : List Heard) (stamps : Kept) → Represents stamps history → HeardTo extras key history bytes 0 before before stamps
heard_at_start extras key history bytes before stamps of = record { events = []; begun = refl; told = told_none key history before stamps of }

nothing_left : (bytes : List ℕ) (place : ℕ) → length bytes ≤ place → drop place bytes ≡ []
nothing_left bytes place past = nothing (drop place bytes) (omega (arith, length-drop place bytes))
  where
    nothing : (xs : List ℕ) → length xs ≡ 0 → xs ≡ []
    nothing [] e = refl
    nothing (x ∷ xs) e = absurd (omega arith)

pub heard_whole : (extras : List (ℕ × ℕ)) (key : List ℕ) (history : List Entry) (bytes : List ℕ) (place : ℕ) (before after : List Heard) (stamps : Kept) → length bytes ≤ place → HeardTo extras key history bytes place before after stamps → Received extras key history bytes before after stamps
heard_whole extras key history bytes place before after stamps past to =
    record {
      events = to.events;
      parse = final_ends extras false to.events bytes (subst (λ (z : List ℕ). BeginsFinal extras false to.events z bytes) (nothing_left bytes place past) to.begun);
      told = to.told;
    }

-- ---- frames that aren't tried

pub frames_at_start : (extras : List (ℕ × ℕ)) (bytes : List ℕ) (before : List Packet) → FramesTo extras bytes 0 before before
frames_at_start extras bytes before = record { events = []; begun = refl; appended = sym (append-nil before) }

pub frames_on : (extras : List (ℕ × ℕ)) (bytes : List ℕ) (index size : ℕ) (before between after : List Packet) → FramesTo extras bytes index before between → FrontFrames extras (slice_range bytes index (length bytes)) size between after → FramesTo extras bytes (index + size) before after
frames_on extras bytes index size before between after to front =
    let all : slice_range bytes index (length bytes) ≡ drop index bytes = take_all (length bytes - index) (drop index bytes) (omega (arith, length-drop index bytes)) in
    let there : EventAt extras false front.event (drop index bytes) (drop size (drop index bytes)) = subst (λ (z : List ℕ). EventAt extras false front.event z (drop size z)) all front.stands in
    let e : drop size (drop index bytes) ≡ drop (index + size) bytes = drop-drop size index bytes in
    record {
      events = to.events ++ front.event ∷ [];
      begun = subst (λ (z : List ℕ). BeginsFinal extras false (to.events ++ front.event ∷ []) z bytes) e (final_goes_on extras false to.events front.event (drop index bytes) (drop size (drop index bytes)) bytes to.begun there);
      appended = front.appended ∙ (ap (λ (l : List Packet). l ++ frames_of (front.event ∷ [])) to.appended ∙ (append_assoc before (frames_of to.events) (frames_of (front.event ∷ [])) ∙ ap (λ (l : List Packet). before ++ l) (sym (frames_more to.events front.event))));
    }

pub frames_whole : (extras : List (ℕ × ℕ)) (bytes : List ℕ) (index : ℕ) (before after : List Packet) → length bytes ≤ index → FramesTo extras bytes index before after → FramesOf extras bytes before after
frames_whole extras bytes index before after past to = record {
  events = to.events;
  parse = final_ends extras false to.events bytes (subst (λ (z : List ℕ). BeginsFinal extras false to.events z bytes) (nothing_left bytes index past) to.begun);
  appended = to.appended;
}
