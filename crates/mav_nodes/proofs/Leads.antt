-- What was done before, and parts of a datagram.
use Rattle.std.proofs.Common.{false, ◌≡◌, ℕ, suc, ◌+◌, ◌-◌, ◌<◌, List, [], ◌∷◌, ◌++◌, length, drop, get_or, slice_range, length-take, length-drop, Option, Some, None, refl, sym, ap, subst, arith, append_assoc}
use Rattle.std.specs.Prelude.{All}
use Rattle.std.proofs.lemmas.List.{drop-drop, take_all}
use Rattle.std.proofs.lemmas.List.Elements.{All-nil, All-cons, All-drop}
use Rattle.mav_frame.specs.Packet.{Packet}
use Rattle.mav_frame.specs.Parse.{FrontAt}
use Rattle.mav_nodes.specs.News.{NodeEvent}
use Rattle.mav_nodes.specs.Links.{Outcome, after_events}

pub behind_twice : {A : Type 0} (first next : List NodeEvent) (outcome : Outcome A) → after_events first (after_events next outcome) ≡ after_events (first ++ next) outcome
behind_twice first next None = refl
behind_twice first next (Some d) = ap (λ (l : List NodeEvent). Some (record { node = d.node; events = l })) (sym (append_assoc first next d.events))

pub behind_none : {A : Type 0} (outcome : Outcome A) → after_events [] outcome ≡ outcome
behind_none None = refl
behind_none (Some d) = refl

-- the bytes of a part of a datagram
pub part_bytes : (bytes : List ℕ) (place : ℕ) → ((i : ℕ) → get_or bytes i 0 < 256) → All (λ x. x < 256) (drop place bytes)
part_bytes bytes place small = All-drop (λ x. x < 256) place bytes (all_small bytes small)
  where
    all_small : (b : List ℕ) → ((i : ℕ) → get_or b i 0 < 256) → All (λ x. x < 256) b
    all_small [] h = All-nil (λ x. x < 256)
    all_small (x ∷ xs) h = All-cons (λ x. x < 256) x xs (h 0) (all_small xs (λ i. h (suc i)))

-- what is at an index of the datagram, by the part of it that was checked
pub front_here : (known extras : List (ℕ × ℕ)) (bytes : List ℕ) (place size : ℕ) (seen front : Option Packet) → known ≡ extras → seen ≡ front → FrontAt known false seen (slice_range bytes place (length bytes)) (drop size (slice_range bytes place (length bytes))) → FrontAt extras false front (drop place bytes) (drop (place + size) bytes)
front_here known extras bytes place size seen front same is at =
    let all : slice_range bytes place (length bytes) ≡ drop place bytes = take_all (length bytes - place) (drop place bytes) (omega (arith, length-drop place bytes)) in
    let on : drop size (drop place bytes) ≡ drop (place + size) bytes = drop-drop size place bytes in
    let one = subst (λ (z : List (ℕ × ℕ)). FrontAt z false seen (slice_range bytes place (length bytes)) (drop size (slice_range bytes place (length bytes)))) same at in
    let two = subst (λ (z : Option Packet). FrontAt extras false z (slice_range bytes place (length bytes)) (drop size (slice_range bytes place (length bytes)))) is one in
    let three = subst (λ (z : List ℕ). FrontAt extras false front z (drop size z)) all two in
    subst (λ (z : List ℕ). FrontAt extras false front (drop place bytes) z) on three

-- how long the part is
pub part_length : (bytes : List ℕ) (place : ℕ) → length (slice_range bytes place (length bytes)) ≡ length bytes - place
part_length bytes place = omega (arith, length-take (length bytes - place) (drop place bytes), length-drop place bytes)
