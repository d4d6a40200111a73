-- How the reading of a stream continues.
use Rattle.std.proofs.Common.{◌≡◌, ℕ, ◌+◌, ◌-◌, ◌≤◌, List, [], ◌∷◌, ◌++◌, Option, Some, None, false, length, take, drop, slice_range, refl, sym, ap, ◌∙◌, subst, append_assoc, take-add}
use Rattle.std.proofs.lemmas.List.{append-nil, take-take}
use Rattle.mav_frame.specs.Packet.{Packet}
use Rattle.mav_frame.specs.declared.events.Event.{Event}
use Rattle.mav_frame.specs.declared.events.Event.TheVariants.{Frame, Skipped}
use Rattle.mav_frame.specs.declared.looks.Why.{Why}
use Rattle.mav_stream.specs.Held.{Held}
use Rattle.mav_stream.specs.Progress.{Progress, IsWhole}
use Rattle.mav_sign.specs.Endpoints.{frames_of}
use Rattle.mav_sign.specs.Streams.{ReadTo, SkippedTo}
use Rattle.mav_sign.proofs.Hearing.{frames_more}

pub skipped_start : (extras : List (ℕ × ℕ)) (taken piece : List ℕ) (given : List Event) (held : Held) → Progress extras false taken given held → SkippedTo extras (taken ++ take 0 piece) given held
skipped_start extras taken piece given held progress = record {
  events = [];
  frames = refl;
  progress =
      subst (λ (t : List ℕ). Progress extras false t (given ++ []) held) (sym (append-nil taken)) (subst (λ (g : List Event). Progress extras false taken g held) (sym (append-nil given)) progress);
}

-- one more skipped byte
pub skipped_more : (extras : List (ℕ × ℕ)) (taken : List ℕ) (given : List Event) (held new : Held) (byte : ℕ) (why : Why) → (to : SkippedTo extras taken given held) → Progress extras false taken ((given ++ to.events) ++ Skipped byte why ∷ []) new → SkippedTo extras taken given new
skipped_more extras taken given held new byte why to progress = record {
  events = to.events ++ Skipped byte why ∷ [];
  frames = frames_more to.events (Skipped byte why) ∙ (append-nil (frames_of to.events) ∙ to.frames);
  progress = subst (λ (g : List Event). Progress extras false taken g new) (append_assoc given to.events (Skipped byte why ∷ [])) progress;
}

-- more bytes are taken
pub skipped_fed : (extras : List (ℕ × ℕ)) (taken piece : List ℕ) (given : List Event) (held new : Held) (place count : ℕ) → count ≤ length piece - place → (to : SkippedTo extras (taken ++ take place piece) given held) → Progress extras false ((taken ++ take place piece) ++ take count (slice_range piece place (length piece))) (given ++ to.events) new → SkippedTo extras (taken ++ take (place + count) piece) given new
skipped_fed extras taken piece given held new place count few to progress =
    let part : take count (slice_range piece place (length piece)) ≡ take count (drop place piece) = take-take count (length piece - place) (drop place piece) few in
    let all : (taken ++ take place piece) ++ take count (slice_range piece place (length piece)) ≡ taken ++ take (place + count) piece =
    append_assoc taken (take place piece) (take count (slice_range piece place (length piece))) ∙ ap (λ (l : List ℕ). taken ++ l) (ap (λ (l : List ℕ). take place piece ++ l) part ∙ sym (take-add place count piece)) in
    record {
      events = to.events;
      frames = to.frames;
      progress = subst (λ (t : List ℕ). Progress extras false t (given ++ to.events) new) all progress;
    }

-- a frame ends the reading
pub frame_read : (extras : List (ℕ × ℕ)) (taken : List ℕ) (given : List Event) (held new : Held) (packet : Packet) → (to : SkippedTo extras taken given held) → Progress extras false taken ((given ++ to.events) ++ Frame packet ∷ []) new → ReadTo extras taken given (Some packet) new
frame_read extras taken given held new packet to progress = record {
  events = to.events ++ Frame packet ∷ [];
  frames = frames_more to.events (Frame packet) ∙ ap (λ (l : List Packet). l ++ packet ∷ []) to.frames;
  progress = subst (λ (g : List Event). Progress extras false taken g new) (append_assoc given to.events (Frame packet ∷ [])) progress;
  whole = λ none. absurd (let wrong : ◌≡◌ {A = Option Packet} (Some packet) None = none in cc);
}

-- or the need for more bytes does
pub all_read : (extras : List (ℕ × ℕ)) (taken : List ℕ) (given : List Event) (held new : Held) → new.ended ≡ false → (to : SkippedTo extras taken given held) → Progress extras false taken (given ++ to.events) new → IsWhole extras false taken (given ++ to.events) new → ReadTo extras taken given None new
all_read extras taken given held new still to progress whole = record {
  events = to.events;
  frames = to.frames;
  progress = progress;
  whole = λ _. whole.incremental still;
}
