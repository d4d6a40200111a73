-- What one more entry does to what is known of a history.
use Rattle.std.proofs.Common.{◌≡◌, ℕ, ◌+◌, ◌≤◌, ◌⊎◌, inl, inr, max, true, false, List, [], ◌∷◌, ◌++◌, Option, Some, None, map, fold, sym, ap, ◌∙◌, refl, subst, arith}
use Rattle.std.specs.Prelude.{option_map}
use Rattle.std.proofs.lemmas.List.{map-append}
use Rattle.mav_names.specs.declared.names.Stream.{Stream}
use Rattle.mav_frame.specs.Packet.{Packet, SignatureBlock}
use Rattle.mav_sign.specs.declared.admission.Admit.{Admit}
use Rattle.mav_sign.specs.declared.admission.Admit.TheVariants.{Admitted, Unsigned, BadSignature, BelowFloor, NotLater, TooOld, TooManyStreams}
use Rattle.mav_sign.specs.History.{Entry, tried, sent, Stamped, stream_of, stamped, admitted_by, admitted_in, sent_in, same_stream, greatest, greatest_of, latest, stamps_of, last_of, accepted_in, previous_in, local_of, next_in, greatest_stamp}
use Rattle.mav_sign.proofs.Histories.{admitted_more, admitted_same, sent_more, sent_same, greatest_more, greatest_of_more, latest_more, same_is, stamps_more, stamps_same}
use Rattle.mav_nodes.specs.LowBounds.{raised, raised_by, stored_low}
use Rattle.fleet_invariants.proofs.Lists.{some_is}
use Rattle.fleet_invariants.proofs.LowBounds.{stored_more, Bounds, bounds_same, bounds_raised}

-- the previous timestamp is at most the local one
latest_within : (xs : List ℕ) (a b : ℕ) → a ≤ b → fold (λ _ number. number) a xs ≤ fold max b xs
latest_within [] a b h = h
latest_within (x ∷ xs) a b h = latest_within xs x (max b x) (grind arith)

max_right : (a b c : ℕ) → c ≤ b → c ≤ max a b
max_right a b c h = grind arith

pub previous_local : (history : List Entry) → previous_in history ≤ local_of history
previous_local history =
    max_right (accepted_in history) (greatest (sent_in history)) (previous_in history) (latest_within (sent_in history) 0 0 (omega arith))

-- ---- a frame that isn't admitted, and a timestamp that is sent

-- what an entry that admits nothing leaves
pub record AdmitsNothing (before after : List Entry) : Type 0 where
  pub lasts : (stream : Stream) → last_of stream after ≡ last_of stream before
  pub accepted : accepted_in after ≡ accepted_in before

nothing_admitted : (history : List Entry) (entry : Entry) → admitted_by entry ≡ None → AdmitsNothing history (history ++ entry ∷ [])
nothing_admitted history entry none =
    let same : admitted_in (history ++ entry ∷ []) ≡ admitted_in history = admitted_same history entry none in
    record {
      lasts = λ stream. ap (λ (l : List Stamped). greatest_of (stamps_of stream l)) same;
      accepted = ap (λ (l : List Stamped). greatest (map (λ (t : Stamped). t.stamp) l)) same;
    }

pub sending_admits : (history : List Entry) (stamp : ℕ) → AdmitsNothing history (history ++ sent stamp ∷ [])
sending_admits history stamp = nothing_admitted history (sent stamp) refl

pub sending_is : (history : List Entry) (stamp : ℕ) → previous_in (history ++ sent stamp ∷ []) ≡ stamp
sending_is history stamp = ap latest (sent_more history (sent stamp) stamp refl) ∙ latest_more (sent_in history) stamp

greatest_with : (history : List Entry) (stamp : ℕ) → greatest (sent_in (history ++ sent stamp ∷ [])) ≡ max (greatest (sent_in history)) stamp
greatest_with history stamp = ap greatest (sent_more history (sent stamp) stamp refl) ∙ greatest_more (sent_in history) stamp

max_last : (accepted most stamp : ℕ) → max accepted (max most stamp) ≡ max (max accepted most) stamp
max_last accepted most stamp = grind arith

sending_local : (history : List Entry) (stamp : ℕ) → local_of (history ++ sent stamp ∷ []) ≡ max (local_of history) stamp
sending_local history stamp =
    ap (λ a. max a (greatest (sent_in (history ++ sent stamp ∷ [])))) (sending_admits history stamp).accepted ∙ ap (max (accepted_in history)) (greatest_with history stamp) ∙ max_last (accepted_in history) (greatest (sent_in history)) stamp

-- no timestamp is ahead of the clock by more than the frames
near : (accepted most previous clock n : ℕ) → max accepted most ≤ clock + n → previous ≤ max accepted most → max (max accepted most) (max (previous + 1) (max clock accepted)) ≤ clock + (n + 1)
near accepted most previous clock n h k = grind arith

pub sending_near : (history : List Entry) (clock n : ℕ) → local_of history ≤ clock + n → local_of (history ++ sent (next_in history clock) ∷ []) ≤ clock + (n + 1)
sending_near history clock n h =
    subst (λ local. local ≤ clock + (n + 1)) (sym (sending_local history (next_in history clock))) (near (accepted_in history) (greatest (sent_in history)) (previous_in history) clock n h (previous_local history))

pub sending_bounds : (history : List Entry) (stamp : ℕ) → stamp ≤ greatest_stamp → Bounds (stored_low history) (local_of history) → Bounds (stored_low (history ++ sent stamp ∷ [])) (local_of (history ++ sent stamp ∷ []))
sending_bounds history stamp fits b =
    bounds_same _ _ _ _ (stored_more history (sent stamp)) (sending_local history stamp) (bounds_raised (stored_low history) (local_of history) stamp fits b)

next_after : (previous q : ℕ) → previous + 1 ≤ max (previous + 1) q
next_after previous q = grind arith

pub next_later : (history : List Entry) (clock : ℕ) → previous_in history + 1 ≤ next_in history clock
next_later history clock = next_after (previous_in history) (max clock (accepted_in history))

-- ---- a frame that was tried

pub trying_sends : (history : List Entry) (packet : Packet) (answer : Admit) → sent_in (history ++ tried packet answer ∷ []) ≡ sent_in history
trying_sends history packet answer = sent_same history (tried packet answer) refl

pub trying_previous : (history : List Entry) (packet : Packet) (answer : Admit) → previous_in (history ++ tried packet answer ∷ []) ≡ previous_in history
trying_previous history packet answer = ap latest (trying_sends history packet answer)

-- what an answer to a frame leaves: nothing is admitted, or its timestamp is
pub data Leaves (before after : List Entry) (packet : Packet) (answer : Admit) : Type 0 where
  Nothing : AdmitsNothing before after → stored_low after ≡ stored_low before → Leaves before after packet answer
  Stamp : (block : SignatureBlock) → answer ≡ Admitted → packet.block ≡ Some block
      → ((stream : Stream) (stamp : ℕ) → last_of stream after ≡ Some stamp → (last_of stream before ≡ Some stamp) ⊎ ((stream ≡ stream_of packet block) × (stamp ≡ block.stamp)))
      → accepted_in after ≡ max (accepted_in before) block.stamp → stored_low after ≡ raised (stored_low before) block.stamp → Leaves before after packet answer

pick : (g x t : ℕ) → max g x ≡ t → (g ≡ t) ⊎ (t ≡ x)
pick g x t is = grind arith

-- the greatest of numbers with one more is an old one or the new one
either_greatest : (xs : List ℕ) (x t : ℕ) → greatest_of (xs ++ x ∷ []) ≡ Some t → (greatest_of xs ≡ Some t) ⊎ (t ≡ x)
either_greatest [] x t e = let is : max 0 x ≡ t = some_is (sym (greatest_of_more [] x) ∙ e) in inr (grind arith)
either_greatest (y ∷ ys) x t e =
    let is : max (greatest (y ∷ ys)) x ≡ t = some_is (sym (greatest_of_more (y ∷ ys) x) ∙ e) in
    elim (pick (greatest (y ∷ ys)) x t is) [ inl h ↦ inl (ap Some h) | inr h ↦ inr h ]

module _ (history : List Entry) (packet : Packet) (block : SignatureBlock) (signed : packet.block ≡ Some block) where
  entry_is : admitted_by (tried packet Admitted) ≡ Some (stamped packet block)
  entry_is = ap (option_map (stamped packet)) signed

  more : admitted_in (history ++ tried packet Admitted ∷ []) ≡ admitted_in history ++ stamped packet block ∷ []
  more = admitted_more history (tried packet Admitted) (stamped packet block) entry_is

  accepted_more : accepted_in (history ++ tried packet Admitted ∷ []) ≡ max (accepted_in history) block.stamp
  accepted_more = ap (λ (l : List Stamped). greatest (map (λ (t : Stamped). t.stamp) l)) more ∙ (ap greatest (map-append (λ (t : Stamped). t.stamp) (admitted_in history) (stamped packet block ∷ [])) ∙ greatest_more (map (λ (t : Stamped). t.stamp) (admitted_in history)) block.stamp)

  last_more : (stream : Stream) (stamp : ℕ) → last_of stream (history ++ tried packet Admitted ∷ []) ≡ Some stamp → (last_of stream history ≡ Some stamp) ⊎ ((stream ≡ stream_of packet block) × (stamp ≡ block.stamp))
  last_more stream stamp e =
      let s : Stamped = stamped packet block in
      let is : greatest_of (stamps_of stream (admitted_in history ++ s ∷ [])) ≡ Some stamp = sym (ap (λ (l : List Stamped). greatest_of (stamps_of stream l)) more) ∙ e in
      elim (same_stream stream s.stream) as (λ t. same_stream stream s.stream ≡ t → (last_of stream history ≡ Some stamp) ⊎ ((stream ≡ stream_of packet block) × (stamp ≡ block.stamp))) [
        | true ↦ λ same. elim (either_greatest (stamps_of stream (admitted_in history)) s.stamp stamp (sym (ap greatest_of (stamps_more stream (admitted_in history) s same)) ∙ is)) [
          | inl old ↦ inl old
          | inr new ↦ inr (same_is stream s.stream same, new)
        ]
        | false ↦ λ apart. inl (sym (ap greatest_of (stamps_same stream (admitted_in history) s apart)) ∙ is)
      ] refl

  pub admitting_stores : stored_low (history ++ tried packet Admitted ∷ []) ≡ raised (stored_low history) block.stamp
  admitting_stores = stored_more history (tried packet Admitted) ∙ ap (raised_by (stored_low history)) signed

  pub admitting : Leaves history (history ++ tried packet Admitted ∷ []) packet Admitted
  admitting = Stamp block refl signed last_more accepted_more admitting_stores

max_middle : (accepted most stamp : ℕ) → max (max accepted stamp) most ≡ max (max accepted most) stamp
max_middle accepted most stamp = grind arith

admitting_local : (before after : List Entry) (stamp : ℕ) → sent_in after ≡ sent_in before → accepted_in after ≡ max (accepted_in before) stamp → local_of after ≡ max (local_of before) stamp
admitting_local before after stamp sends is =
    ap (λ a. max a (greatest (sent_in after))) is ∙ ap (λ (l : List ℕ). max (max (accepted_in before) stamp) (greatest l)) sends ∙ max_middle (accepted_in before) (greatest (sent_in before)) stamp

max_near : (local stamp limit : ℕ) → local ≤ limit → stamp ≤ limit → max local stamp ≤ limit
max_near local stamp limit h k = grind arith

-- an admitted timestamp that isn't ahead leaves the local one so
pub admitting_near : (before after : List Entry) (stamp limit : ℕ) → sent_in after ≡ sent_in before → accepted_in after ≡ max (accepted_in before) stamp → local_of before ≤ limit → stamp ≤ limit → local_of after ≤ limit
admitting_near before after stamp limit sends is h k =
    subst (λ local. local ≤ limit) (sym (admitting_local before after stamp sends is)) (max_near (local_of before) stamp limit h k)

pub admitting_bounds : (before after : List Entry) (stamp : ℕ) → sent_in after ≡ sent_in before → accepted_in after ≡ max (accepted_in before) stamp → stored_low after ≡ raised (stored_low before) stamp → stamp ≤ greatest_stamp
    → Bounds (stored_low before) (local_of before) → Bounds (stored_low after) (local_of after)
admitting_bounds before after stamp sends is stores fits b =
    bounds_same _ _ _ _ stores (admitting_local before after stamp sends is) (bounds_raised (stored_low before) (local_of before) stamp fits b)

pub nothing_near : (before after : List Entry) → sent_in after ≡ sent_in before → AdmitsNothing before after → local_of after ≡ local_of before
nothing_near before after sends none = ap (λ a. max a (greatest (sent_in after))) none.accepted ∙ ap (λ (l : List ℕ). max (accepted_in before) (greatest l)) sends

-- by the answer
pub leaves : (history : List Entry) (packet : Packet) (answer : Admit) (block : Option SignatureBlock) → packet.block ≡ block → Leaves history (history ++ tried packet answer ∷ []) packet answer
leaves history packet Admitted None signed = Nothing (nothing_admitted history (tried packet Admitted) (ap (option_map (stamped packet)) signed)) (stored_more history (tried packet Admitted) ∙ ap (raised_by (stored_low history)) signed)
leaves history packet Admitted (Some block) signed = admitting history packet block signed
leaves history packet Unsigned block signed = Nothing (nothing_admitted history (tried packet Unsigned) refl) (stored_more history (tried packet Unsigned))
leaves history packet BadSignature block signed = Nothing (nothing_admitted history (tried packet BadSignature) refl) (stored_more history (tried packet BadSignature))
leaves history packet (BelowFloor floor) block signed = Nothing (nothing_admitted history (tried packet (BelowFloor floor)) refl) (stored_more history (tried packet (BelowFloor floor)))
leaves history packet (NotLater last) block signed = Nothing (nothing_admitted history (tried packet (NotLater last)) refl) (stored_more history (tried packet (NotLater last)))
leaves history packet (TooOld local) block signed = Nothing (nothing_admitted history (tried packet (TooOld local)) refl) (stored_more history (tried packet (TooOld local)))
leaves history packet TooManyStreams block signed = Nothing (nothing_admitted history (tried packet TooManyStreams) refl) (stored_more history (tried packet TooManyStreams))
