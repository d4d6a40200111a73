-- How the incremental parse of a stream grows with more bytes.
use Rattle.std.proofs.Common.{◌≡◌, ℕ, ◌+◌, ◌-◌, ◌<◌, ◌≤◌, Bool, false, List, [], ◌∷◌, ◌++◌, length, take, drop, slice_range, Some, refl, sym, ap, ◌∙◌, subst, ⊎_elim, arith, append_assoc, take-add, length-append}
use Rattle.std.specs.Prelude.{flat_map}
use Rattle.std.proofs.lemmas.List.{append-nil, take-take}
use Rattle.std.proofs.lemmas.List.Elements.{filter_map-append}
use Rattle.mav_frame.specs.Packet.{Packet}
use Rattle.mav_frame.specs.Encoding.{encoding}
use Rattle.mav_frame.specs.Looks.{look_of}
use Rattle.mav_frame.specs.Parse.{IsIncomplete, EventAt, Incremental, BeginsIncremental, event_bytes}
use Rattle.mav_frame.specs.declared.looks.Look.{Look}
use Rattle.mav_frame.specs.declared.looks.Look.TheVariants.{Frame as Found, NotHere}
use Rattle.mav_frame.specs.declared.events.Event.{Event}
use Rattle.mav_frame.specs.declared.events.Event.TheVariants.{Frame, Skipped}
use Rattle.mav_frame.proofs.EncodedFound.{found}
use Rattle.mav_frame.proofs.Reasons.{listed}
use Rattle.mav_frame.proofs.LongerParse.{more_bytes_keep, events_cover_bytes}
use Rattle.mav_stream.specs.Held.{Held}
use Rattle.mav_stream.specs.Progress.{Progress}
use Rattle.mav_sign.specs.Endpoints.{EndpointState, frame_in, frames_of}
use Rattle.mav_sign.specs.Streams.{ReadTo, reader_of}
use Rattle.mav_nodes.specs.Streams.{GrowsBy}

same_rest : {A : Type 0} (xs ys zs : List A) → xs ++ ys ≡ xs ++ zs → ys ≡ zs
same_rest [] ys zs e = e
same_rest (x ∷ xs) ys zs e = same_rest xs ys zs (ap (drop 1) e)

-- what stands at the start of the bytes of an event, if they aren't an incomplete frame
abbrev look_by : Event → Look
look_by (Frame packet) = Found packet (length (encoding packet))
look_by (Skipped byte why) = NotHere why

module _ (extras : List (ℕ × ℕ)) (old : Bool) where
  looked : (event : Event) (b rest : List ℕ) → (IsIncomplete extras old b → ⊥) → EventAt extras old event b rest → look_of extras old b ≡ look_by event
  looked (Frame p) b rest never at = found extras old p b rest at.0 at.1 at.2
  looked (Skipped c w) b rest never at = ⊎_elim
      (λ (e : look_of extras old b ≡ NotHere w). e)
      (λ (h : IsIncomplete extras old b × (w ≡ _)). absurd (never h.0)) (listed extras old b w at.2)

  event_once : (one other : Event) (b rest also : List ℕ) → look_by one ≡ look_by other → EventAt extras old one b rest → EventAt extras old other b also → (one ≡ other) × (rest ≡ also)
  event_once (Frame p) (Frame q) b rest also e x y =
      let same : p ≡ q = cc in
      (ap Frame same, same_rest (encoding p) rest also (sym x.2 ∙ (y.2 ∙ ap (λ z. encoding z ++ also) (sym same))))
  event_once (Frame p) (Skipped c w) b rest also e x y = absurd (cc)
  event_once (Skipped c v) (Frame q) b rest also e x y = absurd (cc)
  event_once (Skipped c v) (Skipped d w) b rest also e x y =
      let same : c ∷ rest ≡ d ∷ also = sym x.0 ∙ y.0 in
      let head : c ≡ d = cc in
      let tail : rest ≡ also = cc in
      let why : v ≡ w = cc in
      ((λ i. Skipped (head i) (why i)), tail)

  -- the events of a prefix of the incremental parse are the first of all its events
  first_of : (ms ns : List Event) (left also b : List ℕ) → BeginsIncremental extras old ms left b → Incremental extras old ns also b → (rest : List Event) × (ns ≡ ms ++ rest)
  first_of [] ns left also b h x = (ns, refl)
  first_of (m ∷ ms) [] left also b h x = absurd (h.0 x.1)
  first_of (m ∷ ms) (n ∷ ns) left also b h x =
      let one = event_once m n b h.1.0 x.1.0 (sym (looked m b h.1.0 h.0 h.1.1) ∙ looked n b x.1.0 x.0 x.1.1) h.1.1 x.1.1 in
      let more = first_of ms ns left also h.1.0 h.1.2 (subst (λ (z : List ℕ). Incremental extras old ns also z) (sym one.1) x.1.2) in
      (more.0, λ i. sym one.0 i ∷ more.1 i)

frames_append : (events others : List Event) → frames_of (events ++ others) ≡ frames_of events ++ frames_of others
frames_append events others = filter_map-append frame_in events others

-- the frames of the events so far are the first of those by which the parse grows
pub frames_first : (extras : List (ℕ × ℕ)) (bytes more held : List ℕ) (given events others : List Event) → BeginsIncremental extras false (given ++ events) held bytes → GrowsBy extras (bytes ++ more) given others → (rest : List Packet) × (frames_of others ≡ frames_of events ++ rest)
frames_first extras bytes more held given events others h grows =
    let whole = first_of extras false (given ++ events) (given ++ others) (held ++ more) grows.0 (bytes ++ more) (more_bytes_keep extras false (given ++ events) held bytes more h) grows.1 in
    let same : others ≡ events ++ whole.0 = same_rest given others (events ++ whole.0) (whole.1 ∙ append_assoc given events whole.0) in
    (frames_of whole.0, ap frames_of same ∙ frames_append events whole.0)

-- with one frame more
pub one_frame : (events more : List Event) (packet : Packet) → frames_of more ≡ packet ∷ [] → frames_of (events ++ more) ≡ frames_of events ++ packet ∷ []
one_frame events more packet e = frames_append events more ∙ ap (λ (l : List Packet). frames_of events ++ l) e

-- or without one
pub no_frame : (events more : List Event) → frames_of more ≡ [] → frames_of (events ++ more) ≡ frames_of events
no_frame events more e = frames_append events more ∙ (ap (λ (l : List Packet). frames_of events ++ l) e ∙ append-nil (frames_of events))

-- ---- bytes

-- more bytes of a piece
pub bytes_on : (taken piece : List ℕ) (place size : ℕ) → size ≤ length piece - place → (taken ++ take place piece) ++ take size (slice_range piece place (length piece)) ≡ taken ++ take (place + size) piece
bytes_on taken piece place size few =
    let part : take size (slice_range piece place (length piece)) ≡ take size (drop place piece) = take-take size (length piece - place) (drop place piece) few in
    append_assoc taken (take place piece) (take size (slice_range piece place (length piece)))
    ∙ ap (λ (l : List ℕ). taken ++ l) (ap (λ (l : List ℕ). take place piece ++ l) part ∙ sym (take-add place size piece))

-- what an endpoint holds is what it has taken, if nothing was given
pub holds_taken : (endpoint : EndpointState) → Progress endpoint.extras false endpoint.held [] (reader_of endpoint)
holds_taken endpoint = record { same = refl; version = refl; incremental = λ still. refl; final = refl }

event_long : (event : Event) → 1 ≤ length (event_bytes event)
event_long (Frame packet) = omega arith
event_long (Skipped byte why) = omega arith

frames_long : (events : List Event) (packet : Packet) → frames_of events ≡ packet ∷ [] → 1 ≤ length (flat_map event_bytes events)
frames_long [] packet e = absurd (cc)
frames_long (event ∷ events) packet e = omega (arith, event_long event, length-append (event_bytes event) (flat_map event_bytes events))

-- a frame that was read takes bytes
pub frame_takes : (extras : List (ℕ × ℕ)) (held more : List ℕ) (packet : Packet) (new : Held) → ReadTo extras (held ++ more) [] (Some packet) new → length new.bytes < length held + length more
frame_takes extras held more packet new r =
    let cover : held ++ more ≡ flat_map event_bytes r.events ++ new.bytes = events_cover_bytes extras false r.events new.bytes (held ++ more) r.progress.final in
    omega (arith, ap length cover, length-append held more, length-append (flat_map event_bytes r.events) new.bytes, frames_long r.events packet r.frames)
