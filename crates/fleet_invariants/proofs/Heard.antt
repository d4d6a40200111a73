-- Sent frames are heard as they were sent, and authentic bytes bring nothing else.
use Rattle.std.proofs.Common.{false, ◌≡◌, ℕ, zero, suc, ◌<◌, inl, inr, List, [], ◌∷◌, slice_get, Some, refl, sym, ap, subst, arith, ◌∙◌}
use Rattle.std.specs.Prelude.{All}
use Rattle.std.proofs.lemmas.List.Elements.{All-get_or}
use Rattle.std.proofs.lemmas.Option.{get_or_from_slice_get}
use Rattle.mav_profile.specs.Messages.{extras_of}
use Rattle.mav_profile.specs.Profile.{profile_definitions}
use Rattle.mav_frame.specs.Packet.{Packet}
use Rattle.mav_frame.specs.Encoding.{encoding}
use Rattle.mav_frame.specs.FinalParse.{final_parse}
use Rattle.mav_frame.specs.declared.events.Event.{Event}
use Rattle.mav_frame.specs.declared.events.Event.TheVariants.{Frame}
use Rattle.mav_sign.specs.Kept.{IsStream}
use Rattle.mav_sign.specs.Signing.{Verifies, signature_of}
use Rattle.mav_sign.specs.Endpoints.{frames_of}
use Rattle.mav_nodes.specs.Laws.{ReadsAlone, sent_packet}
use Rattle.mav_nodes.proofs.Sendings.{parses_alone, every_sending_reads_back, every_frame_reads_alone, same_bytes_same_frame}
use Rattle.fleet_world.specs.WorldState.{WorldState, stream_of}
use Rattle.fleet_world.specs.Authentic.{WasSent}
use Rattle.fleet_invariants.specs.Sound.{IsSent, Sound}
use Rattle.fleet_invariants.specs.Kept.{IsAmong}
use Rattle.fleet_invariants.specs.Laws.{EachHeard, SentKnown, AuthenticKnown, KnownAuthentic, SentAuthentic, UnsentForeign}
use Rattle.fleet_invariants.proofs.Lists.{some_is, nowhere, within}
use Rattle.fleet_invariants.proofs.Moves.{steady_of}
use Rattle.fleet_invariants.proofs.Hearing.{from_in_range, carries, serves_as}

-- a table of CRC_EXTRA, without its entries
abbrev frames_in : List (ℕ × ℕ) → List ℕ → List Packet
frames_in extras bytes = frames_of (final_parse extras false bytes)

-- ---- each sent frame reads alone, and verifies

pub reads_alone : (s : WorldState) → Sound s → (p : Packet) (q : IsSent s p) → ReadsAlone (extras_of profile_definitions) p
reads_alone s sound p q =
    let range = from_in_range s (steady_of s sound) p q in
    let stream : IsStream (stream_of p.from) = record { sys = range.sys; comp = range.comp; link = small } in
    subst (ReadsAlone (extras_of profile_definitions)) (sym q.is) (every_sending_reads_back s.key (stream_of p.from) q.seq q.stamp q.message stream q.seq_fits q.stamp_fits (record { values = q.fits; item = q.item_fits; service = q.service_fits })).frame
  where
    small : 0 < 256
    small = omega arith

-- the block of a frame, as an equation
verifying : (key : List ℕ) (p : Packet) (signed : Packet) → p ≡ signed → Verifies key signed signed.block → Verifies key p p.block
verifying key p signed e h = subst (λ (x : Packet). Verifies key x x.block) (sym e) h

pub verifies : (s : WorldState) (p : Packet) → IsSent s p → Verifies s.key p p.block
verifies s p q = verifying s.key p (sent_packet s.key (stream_of p.from) q.seq q.stamp q.message) q.is refl

-- the only frame of some events
one_frame : (events : List Event) (p : Packet) → events ≡ Frame p ∷ [] → frames_of events ≡ p ∷ []
one_frame events p e = ap frames_of e

pub heard_is : EachHeard
heard_is s sound p q = record {
  frames = one_frame _ p (reads_alone s sound p q).parses;
  block = ap (λ (x : Packet). x.block) q.is ∙ ap (λ (x : Packet). Some (record { link = 0; stamp = q.stamp; sig = signature_of s.key x 0 q.stamp })) (sym q.is);
  verifies = verifies s p q;
  plan = carries s p q;
  service = serves_as s p q;
}

-- ---- the frames of bytes

only : (xs : List Packet) (p q : Packet) (i : ℕ) → xs ≡ p ∷ [] → slice_get xs i ≡ Some q → p ≡ q
only xs p q i e f = first i (sym (ap (λ (l : List Packet). slice_get l i) e) ∙ f)
  where
    first : (i : ℕ) → slice_get (p ∷ []) i ≡ Some q → p ≡ q
    first zero h = some_is h
    first (suc i) h = absurd (nowhere i q h)

among_sent : (s : WorldState) (i : ℕ) (p q : Packet) → slice_get s.sent i ≡ Some p → p ≡ q → IsAmong s.sent q
among_sent s i p q found e = record { index = i; found = found ∙ ap Some e }

pub sent_known : SentKnown
sent_known s sound i p found index q e v =
    among_sent s i p q found (only _ p q index (heard_is s sound p (sound.sent i p found)).frames e)

-- a frame whose bytes were sent
pub record SentBytes (sent : List Packet) (p : Packet) : Type 0 where
  pub index : ℕ
  pub packet : Packet
  pub found : slice_get sent index ≡ Some packet
  pub same : encoding packet ≡ encoding p

where_sent : (sent : List Packet) (p : Packet) → WasSent sent p → SentBytes sent p
where_sent [] p h = absurd h
where_sent (q ∷ qs) p (inl same) = record { index = 0; packet = q; found = refl; same = same }
where_sent (q ∷ qs) p (inr h) = let r = where_sent qs p h in record { index = suc r.index; packet = r.packet; found = r.found; same = r.same }

was_sent : (sent : List Packet) (p : Packet) (i : ℕ) → slice_get sent i ≡ Some p → WasSent sent p
was_sent [] p i e = absurd (nowhere i p e)
was_sent (q ∷ qs) p zero e = inl (ap encoding (some_is e))
was_sent (q ∷ qs) p (suc i) e = inr (was_sent qs p i e)

each_alone : (extras : List (ℕ × ℕ)) (packets : List Packet) → All (ReadsAlone extras) packets → (index : ℕ) (p : Packet) → slice_get packets index ≡ Some p → ReadsAlone extras p
each_alone extras packets all index p e =
    subst (ReadsAlone extras) (get_or_from_slice_get packets index p p e) (All-get_or (ReadsAlone extras) packets index p (within packets index p e) all)

pub authentic_known : AuthenticKnown
authentic_known s sound bytes small authentic index p e v =
    let r = where_sent s.sent p (authentic index p e v) in
    among_sent s r.index r.packet p r.found
    (same_bytes_same_frame (extras_of profile_definitions) r.packet p (reads_alone s sound r.packet (sound.sent r.index r.packet r.found)) (each_alone (extras_of profile_definitions) _ (every_frame_reads_alone (extras_of profile_definitions) bytes small) index p e) r.same)

pub known_authentic : KnownAuthentic
known_authentic s bytes known index p e v =
    let r = known index p e v in
    was_sent s.sent p r.index r.found

pub sent_authentic : SentAuthentic
sent_authentic s sound i p found index q e v =
    was_sent s.sent q i (found ∙ ap Some (only _ p q index (heard_is s sound p (sound.sent i p found)).frames e))

pub unsent_foreign : UnsentForeign
unsent_foreign s sound p fits sealed v unsent authentic =
    let alone : ReadsAlone (extras_of profile_definitions) p = record { fits = fits; sealed = sealed; parses = parses_alone (extras_of profile_definitions) p fits sealed } in
    let frames = one_frame _ p alone.parses in
    let r = where_sent s.sent p (authentic 0 p (ap (λ (l : List Packet). slice_get l 0) frames) v) in
    let same = same_bytes_same_frame (extras_of profile_definitions) r.packet p (reads_alone s sound r.packet (sound.sent r.index r.packet r.found)) alone r.same in
    unsent r.index (r.found ∙ ap Some same)
