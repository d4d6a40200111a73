-- The packets that were sent, and the frames of the world.
use Rattle.std.proofs.Common.{◌≡◌, ℕ, zero, suc, ◌+◌, ◌≤◌, inl, inr, false, List, [], ◌∷◌, ◌++◌, length, slice_get, Option, Some, None, refl, sym, ap, subst, arith, ◌∙◌, length-append}
use Rattle.std.specs.Prelude.{IfSome}
use Rattle.std.specs.Str.{bytes_eq}
use Rattle.std.proofs.lemmas.List.{append-nil}
use Rattle.std.proofs.lemmas.Slice.Eq.{bytes_eq-Decides}
use Rattle.mav_frame.specs.Packet.{Packet, SignatureBlock}
use Rattle.mav_frame.specs.Encoding.{encoding}
use Rattle.plan_safety.specs.Frames.{Frame}
use Rattle.plan_safety.proofs.Keys.{bool_split, differ}
use Rattle.plan_safety.proofs.FleetMoves.{plus}
use Rattle.plan_ranges.specs.Ranges.{StreamInRange, InRange}
use Rattle.mav_nodes.specs.Payloads.{plan_in}
use Rattle.fleet_world.specs.WorldState.{stream_of}
use Rattle.fleet_safety.specs.Actions.{index_of}
use Rattle.fleet_safety.proofs.Lists.{some_is, by_both, at_end, still_there}

-- a packet and a frame of the world are one: of one node, with one timestamp and one plan message, or none
pub record SameFrame (p : Packet) (f : Frame) : Type 0 where
  pub from : f.from ≡ stream_of p.from
  pub message : f.message ≡ plan_in p.id p.payload
  pub some : 1 ≤ f.timestamp
  pub stream : StreamInRange f.from
  pub range : IfSome f.message InRange
  pub block : (b : SignatureBlock) → p.block ≡ Some b → (b.link ≡ 0) × (b.stamp ≡ f.timestamp)

-- the packets, the first sent first, are the world's frames
abbrev pub SameFrames : List Packet → List Frame → Type 0
SameFrames sent [] = sent ≡ []
SameFrames sent (f ∷ fs) = (earlier : List Packet) × (p : Packet) × (sent ≡ earlier ++ p ∷ []) × SameFrame p f × SameFrames earlier fs

pub same_length : (sent : List Packet) (fs : List Frame) → SameFrames sent fs → length sent ≡ length fs
same_length sent [] h = ap length h
same_length sent (f ∷ fs) h =
    let l : length (h.0 ++ h.1 ∷ []) ≡ length h.0 + 1 = length-append h.0 (h.1 ∷ []) in
    let s : length sent ≡ length (h.0 ++ h.1 ∷ []) = ap length h.2 in
    let r : length h.0 ≡ length fs = same_length h.0 fs h.4 in
    omega arith

-- one packet more, or none
abbrev pub SameNew : List Packet → Option Frame → Type 0
SameNew packets None = packets ≡ []
SameNew packets (Some f) = (p : Packet) × (packets ≡ p ∷ []) × SameFrame p f

pub same_more : (sent packets : List Packet) (fs : List Frame) (f : Option Frame) → SameFrames sent fs → SameNew packets f → SameFrames (sent ++ packets) (plus f fs)
same_more sent packets fs None h new = subst (λ (xs : List Packet). SameFrames xs fs) (sym (ap (λ ps. sent ++ ps) new ∙ append-nil sent)) h
same_more sent packets fs (Some f) h new = (sent, new.0, ap (λ ps. sent ++ ps) new.1, new.2, h)

-- the world's frame of the packet with this number of earlier ones; the frame's index is counted from the newest
pub record Found (p : Packet) (i : ℕ) (fs : List Frame) : Type 0 where
  pub index : ℕ
  pub counts : index + (i + 1) ≡ length fs
  pub frame : Frame
  pub there : slice_get fs index ≡ Some frame
  pub same : SameFrame p frame

pub found : (sent : List Packet) (fs : List Frame) (i : ℕ) (p : Packet) → SameFrames sent fs → slice_get sent i ≡ Some p → Found p i fs
found sent [] i p h e = let z : slice_get [] i ≡ Some p = subst (λ (xs : List Packet). slice_get xs i ≡ Some p) h e in nowhere i z
  where
    nowhere : (i : ℕ) → slice_get [] i ≡ Some p → Found p i []
    nowhere zero e = absurd (cc)
    nowhere (suc i) e = absurd (cc)
found sent (f ∷ fs) i p h e =
    elim (at_end h.0 h.1 p i (subst (λ xs. slice_get xs i ≡ Some p) h.2 e)) [
      | inl x ↦ (let z = found h.0 fs i p h.4 x in record { index = suc z.index; counts = one_more z.index i (length fs) z.counts; frame = z.frame; there = z.there; same = z.same })
      | inr x ↦ record { index = 0; counts = newest i (length h.0) (length fs) x.0 (same_length h.0 fs h.4); frame = f; there = refl; same = subst (λ y. SameFrame y f) x.1 h.3 }
    ]
  where
    one_more : (index i k : ℕ) → index + (i + 1) ≡ k → suc index + (i + 1) ≡ suc k
    one_more index i k e = omega arith

    newest : (i j k : ℕ) → i ≡ j → j ≡ k → 0 + (i + 1) ≡ suc k
    newest i j k e f = omega arith

-- a packet that was sent, by the number of earlier ones, and the index that its bytes have
pub record IsFirst (sent : List Packet) (p : Packet) : Type 0 where
  pub earlier : ℕ
  pub found : slice_get sent earlier ≡ Some p
  pub index : ℕ
  pub index_is : index_of (encoding p) sent ≡ Some index
  pub counts : index + (earlier + 1) ≡ length sent

-- more that is sent leaves it there
pub place_more : (bytes : List ℕ) (sent more : List Packet) (index : ℕ) → index_of bytes sent ≡ Some index → index_of bytes (sent ++ more) ≡ Some (index + length more)
place_more bytes [] more index e = absurd (cc)
place_more bytes (q ∷ qs) more index e =
    by_both (λ (x y : Option ℕ). x ≡ Some index → y ≡ Some (index + length more)) (bytes_eq (encoding q) bytes) (Some (length qs)) (index_of bytes qs) (Some (length (qs ++ more))) (index_of bytes (qs ++ more))
    (λ h. let is : length qs ≡ index = some_is h in ap Some (length-append qs more ∙ ap (λ k. k + length more) is))
    (λ h. place_more bytes qs more index h) e

pub first_more : (sent more : List Packet) (p : Packet) → IsFirst sent p → IsFirst (sent ++ more) p
first_more sent more p h = record {
  earlier = h.earlier;
  found = still_there sent more p h.earlier h.found;
  index = h.index + length more;
  index_is = place_more (encoding p) sent more h.index h.index_is;
  counts = grown h.index h.earlier (length more) (length sent) (length (sent ++ more)) h.counts (length-append sent more);
}
  where
    grown : (index earlier more sent both : ℕ) → index + (earlier + 1) ≡ sent → both ≡ sent + more → index + more + (earlier + 1) ≡ both
    grown index earlier more sent both e f = omega arith

-- if packets with the same bytes are the same
pub sent_first : (sent : List Packet) (p : Packet) (i : ℕ) → slice_get sent i ≡ Some p → ((j : ℕ) (q : Packet) → slice_get sent j ≡ Some q → encoding q ≡ encoding p → q ≡ p) → IsFirst sent p
sent_first [] p i e same = absurd (nowhere i e)
  where
    nowhere : (i : ℕ) → slice_get [] i ≡ Some p → ⊥
    nowhere zero e = absurd (cc)
    nowhere (suc i) e = absurd (cc)
sent_first (q ∷ qs) p i e same = elim (bool_split (bytes_eq (encoding q) (encoding p))) [
  | inl t ↦ record {
    earlier = 0;
    found = ap Some (same 0 q refl ((bytes_eq-Decides (encoding q) (encoding p)).0 t));
    index = length qs;
    index_is = rw t refl;
    counts = one (length qs);
  }
  | inr f ↦ later f (λ i e. sent_first qs p i e (λ j r h. same (suc j) r h)) i e
]
  where
    one : (k : ℕ) → k + (0 + 1) ≡ suc k
    one k = omega arith

    two : (index earlier k : ℕ) → index + (earlier + 1) ≡ k → index + (suc earlier + 1) ≡ suc k
    two index earlier k e = omega arith

    later : bytes_eq (encoding q) (encoding p) ≡ false → ((i : ℕ) → slice_get qs i ≡ Some p → IsFirst qs p) → (i : ℕ) → slice_get (q ∷ qs) i ≡ Some p → IsFirst (q ∷ qs) p
    later f rest zero e = absurd (differ _ ((bytes_eq-Decides (encoding q) (encoding p)).1 (ap encoding (some_is e))) f)
    later f rest (suc i) e =
        let z = rest i e in
        record { earlier = suc z.earlier; found = z.found; index = z.index; index_is = rw f z.index_is; counts = two z.index z.earlier (length qs) z.counts }
