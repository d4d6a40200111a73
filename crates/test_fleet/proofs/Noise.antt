-- The premise of authenticity at a noise line: the bytes of a frame that was sent meet it, and those of a frame that verifies
-- and wasn't sent don't.
use Rattle.std.proofs.Common.{false, ◌≡◌, inl, ℕ, zero, suc, true, List, [], ◌∷◌, Some, codes, refl, sym, subst}
use Rattle.std.specs.Prelude.{slice_get}
use Rattle.hex.specs.Hex.{decode_pairs}
use Rattle.sha2.specs.Sha256.{first_words, schedule, rounds, compress, hash_after, digest_bytes, sha256}
use Rattle.x25_check.specs.Check as check
use Rattle.plan_items.specs.Validation.{item_fault, whole_fault, plan_fault}
use Rattle.mav_profile.specs.Messages.{extras_of}
use Rattle.mav_profile.specs.Profile.{profile_definitions}
use Rattle.mav_frame.specs.Packet.{Packet}
use Rattle.mav_frame.specs.FinalParse.{final_parse}
use Rattle.mav_sign.specs.Endpoints.{frames_of}
use Rattle.mav_sign.specs.Signing.{Verifies}
use Rattle.fleet_world.specs.WorldState.{WorldState}
use Rattle.fleet_world.specs.Scenario.{at_start, lines_played}
use Rattle.fleet_world.specs.Authentic.{Authentic, AuthenticBytes, WasSent}
use Rattle.test_fleet.specs.Scenarios.{the_key, text}

-- the PING of 255.190 at timestamp 1, signed by Python's hashlib under the key of the bytes 0 to 31
abbrev ping_bytes : List ℕ
ping_bytes =
    0xFD ∷ 0x09 ∷ 0x01 ∷ 0x00 ∷ 0x00 ∷ 0xFF ∷ 0xBE ∷ 0x04 ∷ 0x00 ∷ 0x00 ∷ 0x00 ∷ 0x00 ∷ 0x00 ∷ 0x00 ∷ 0x00 ∷ 0x00 ∷ 0x00 ∷ 0x00 ∷ 0x01 ∷ 0x1F ∷ 0x9A ∷
    0x00 ∷ 0x01 ∷ 0x00 ∷ 0x00 ∷ 0x00 ∷ 0x00 ∷ 0x00 ∷ 0x6A ∷ 0x65 ∷ 0xBC ∷ 0xAD ∷ 0xAC ∷ 0xD3 ∷ []

abbrev ping : Packet
ping = record {
  old = false;
  compat = 0;
  seq = 0;
  from = record { sys = 255; comp = 190 };
  id = 4;
  payload = 0 ∷ 0 ∷ 0 ∷ 0 ∷ 0 ∷ 0 ∷ 0 ∷ 0 ∷ 1 ∷ [];
  check = 0x9A1F;
  block = Some (record { link = 0; stamp = 1; sig = 0x6A ∷ 0x65 ∷ 0xBC ∷ 0xAD ∷ 0xAC ∷ 0xD3 ∷ [] });
}

abbrev noise : List ℕ
noise = codes "noise 1.1 fd09010000ffbe0400000000000000000000011f9a000100000000006a65bcadacd3"

-- the bytes are that frame alone, and it verifies
one_frame : frames_of (final_parse (extras_of profile_definitions) false ping_bytes) ≡ ping ∷ []
unfolding check.after_byte
one_frame = refl

verifies : Verifies the_key ping ping.block
unfolding first_words schedule rounds compress hash_after digest_bytes sha256
verifies = refl

-- lines before the noise, which send no frame, or that one
abbrev nothing_sent : List (List ℕ)
nothing_sent = codes "drone 1" ∷ codes "station 255 190" ∷ []

abbrev ping_sent : List (List ℕ)
ping_sent = codes "drone 1" ∷ codes "station 255 190" ∷ codes "item 6 16 473977420 85455940" ∷ codes "begin 255.190 1.1 mission" ∷ []

abbrev state_after : List (List ℕ) → WorldState
state_after lines = (lines_played (at_start the_key) 1 lines).state

ping_was_sent : WasSent (state_after ping_sent).sent ping
unfolding item_fault whole_fault plan_fault decode_pairs first_words schedule rounds compress hash_after digest_bytes sha256 check.after_byte
ping_was_sent = inl refl

repeats : (s : WorldState) → WasSent s.sent ping → AuthenticBytes s ping_bytes
repeats s was_sent = λ index p found _. at index p (subst (λ fs. slice_get fs index ≡ Some p) one_frame found)
  where
    at : (index : ℕ) (p : Packet) → slice_get (ping ∷ []) index ≡ Some p → WasSent s.sent p
    at zero p e = let same : ping ≡ p = cc in subst (WasSent s.sent) same was_sent
    at (suc index) p e = absurd (cc)

pub a_sent_frame_again : Authentic the_key true (text (codes "drone 1" ∷ codes "station 255 190" ∷ codes "item 6 16 473977420 85455940" ∷ codes "begin 255.190 1.1 mission" ∷ noise ∷ []))
unfolding item_fault whole_fault plan_fault decode_pairs first_words schedule rounds compress hash_after digest_bytes sha256 check.after_byte
a_sent_frame_again = record { lines = (tt, (tt, (tt, (tt, (repeats (state_after ping_sent) ping_was_sent, tt))))); last = tt }

-- the second and the rest of some facts
rest : {A B : Type 0} → A × B → B
rest h = h.1

first : {A B : Type 0} → A × B → A
first h = h.0

not_sent : AuthenticBytes (state_after nothing_sent) ping_bytes → ⊥
unfolding decode_pairs
not_sent h = h 0 ping (subst (λ fs. slice_get fs 0 ≡ Some ping) (sym one_frame) refl) verifies

pub an_unsent_frame : Authentic the_key true (text (codes "drone 1" ∷ codes "station 255 190" ∷ noise ∷ [])) → ⊥
unfolding item_fault whole_fault plan_fault decode_pairs
an_unsent_frame h = not_sent (first (rest (rest h.lines)))
