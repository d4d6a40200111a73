-- A frame's bytes, read again.
use Rattle.std.proofs.Common.{Bool, true, false, length, ◌≡◌, ℕ, zero, suc, ◌%◌, ◌/◌, ◌^◌, ◌<◌, List, [], ◌∷◌, ◌++◌, Option, Some, None, refl, sym, ap, ◌∙◌, arith}
use Rattle.std.specs.Prelude.{All, IfSome}
use Rattle.std.proofs.lemmas.List.{append-nil}
use Rattle.std.proofs.lemmas.List.Elements.{All-nil, All-cons, All-append}
use Rattle.mav_frame.specs.Numbers.{little_endian}
use Rattle.mav_frame.specs.Packet.{Packet, SignatureBlock, FitsFrame, FitsBlock}
use Rattle.mav_frame.specs.Encoding.{stx_of, incompat_flags, block_bytes, header_of, checked_bytes, encoding, IsSealed}
use Rattle.mav_frame.specs.declared.events.Event.TheVariants.{Frame}
use Rattle.field_layout.specs.Payload.{serialised, truncated}
use Rattle.field_layout.proofs.Unique.{truncated_represents}
use Rattle.mav_frame.proofs.ParsedByFunction.{bytes_at, parse_goes_on}
use Rattle.mav_messages.specs.Messages.{definition_of, values_of}
use Rattle.mav_nodes.proofs.PlanPayloads.{plan_read, service_read}
use Rattle.std.specs.List.{AllByRecursion}
use Rattle.std.proofs.lemmas.List.Elements.{All-from_recursion}
use Rattle.x25_check.specs.Extras.{extra_of}
use Rattle.field_layout.specs.CrcExtra.{crc_extra_of}
use Rattle.field_layout.specs.Definition.{Definition, all_fields}
use Rattle.field_layout.specs.Payload.{FitsLayout}
use Rattle.mav_profile.specs.Messages.{extras_of}
use Rattle.mav_profile.specs.Profile.{profile_definitions}
use Rattle.mav_names.specs.declared.names.Stream.{Stream}
use Rattle.mav_frame.specs.Encoding.{checksum}
use Rattle.mav_frame.specs.Parse.{Final}
use Rattle.mav_frame.specs.declared.events.Event.{Event}
use Rattle.mav_frame.specs.declared.events.Event.TheVariants.{Skipped}
use Rattle.mav_frame.specs.FinalParse.{final_parse}
use Rattle.mav_frame.proofs.ParsedByFunction.{final_is_function}
use Rattle.mav_messages.specs.declared.messages.Message.{Message}
use Rattle.mav_sign.specs.Endpoints.{frames_of}
use Rattle.mav_sign.specs.Kept.{IsStream}
use Rattle.mav_messages.proofs.Decoded.{fits_layout}
use Rattle.mav_sign.proofs.Profiles.{profile_has}
use Rattle.mav_nodes.specs.Nodes.{drone_heartbeat, station_heartbeat}
use Rattle.mav_nodes.proofs.Bounds.{Small, check_small, signature_small, signature_length, payload_small, id_small, payload_short}
use Rattle.mav_nodes.proofs.Tables.{profile_known}
use Rattle.mav_nodes.specs.Signed.{known_extra, unsealed_packet, sealed_packet, signed_packet}
use Rattle.mav_nodes.specs.Laws.{ParsesAlone, SignedVerifies, PlanReadsBack, ServiceReadsBack, ReadsAlone, EverySendingReadsBack, EveryFrameReadsAlone, SameBytesSameFrame, HeartbeatsFit, FlightsFit}
use Rattle.std.specs.Prelude.{ℤ, FitsSigned}
use Rattle.std.specs.Int.{w32, cast_unsigned}
use Rattle.std.proofs.lemmas.Int.{ints}
use Rattle.drone_sim.specs.declared.points.Point.{Point}
use Rattle.drone_sim.specs.Laws.{PointInRange}
use Rattle.mav_nodes.specs.Services.{position_message, reached_message}

digits : (count number : ℕ) → All Small (little_endian count number)
digits zero number = All-nil Small
digits (suc count) number = All-cons Small (number % 256) (little_endian count (number / 256)) (omega arith) (digits count (number / 256))

of_block : (block : Option SignatureBlock) → IfSome block FitsBlock → All Small (block_bytes block)
of_block None fits = All-nil Small
of_block (Some b) fits =
    All-cons Small b.link (little_endian 6 b.stamp ++ b.sig) fits.link (All-append Small (little_endian 6 b.stamp) b.sig (digits 6 b.stamp) fits.bytes)

flags : (block : Option SignatureBlock) → incompat_flags block < 256
flags None = omega arith
flags (Some b) = omega arith

of_header : (old : Bool) (p : Packet) → FitsFrame p → All Small (stx_of old ∷ header_of old p)
of_header true p f =
    let id = little_endian 1 p.id in
    let h1 = All-cons Small p.from.comp id f.comp (digits 1 p.id) in
    let h2 = All-cons Small p.from.sys (p.from.comp ∷ id) f.sys h1 in
    let h3 = All-cons Small p.seq (p.from.sys ∷ p.from.comp ∷ id) f.seq h2 in
    let h4 = All-cons Small (length p.payload) (p.seq ∷ p.from.sys ∷ p.from.comp ∷ id) f.length h3 in
    All-cons Small 0xFE (length p.payload ∷ p.seq ∷ p.from.sys ∷ p.from.comp ∷ id) (omega arith) h4
of_header false p f =
    let id = little_endian 3 p.id in
    let h1 = All-cons Small p.from.comp id f.comp (digits 3 p.id) in
    let h2 = All-cons Small p.from.sys (p.from.comp ∷ id) f.sys h1 in
    let h3 = All-cons Small p.seq (p.from.sys ∷ p.from.comp ∷ id) f.seq h2 in
    let h4 = All-cons Small p.compat (p.seq ∷ p.from.sys ∷ p.from.comp ∷ id) f.compat h3 in
    let h5 = All-cons Small (incompat_flags p.block) (p.compat ∷ p.seq ∷ p.from.sys ∷ p.from.comp ∷ id) (flags p.block) h4 in
    let h6 = All-cons Small (length p.payload) (incompat_flags p.block ∷ p.compat ∷ p.seq ∷ p.from.sys ∷ p.from.comp ∷ id) f.length h5 in
    All-cons Small 0xFD (length p.payload ∷ incompat_flags p.block ∷ p.compat ∷ p.seq ∷ p.from.sys ∷ p.from.comp ∷ id) (omega arith) h6

of_encoding : (p : Packet) → FitsFrame p → All Small (encoding p)
of_encoding p f =
    let start : List ℕ = stx_of p.old ∷ header_of p.old p in
    let h7 = All-append Small start p.payload (of_header p.old p f) f.payload in
    let h8 = All-append Small (start ++ p.payload) (little_endian 2 p.check) h7 (digits 2 p.check) in
    All-append Small ((start ++ p.payload) ++ little_endian 2 p.check) (block_bytes p.block) h8 (of_block p.block f.block)

pub parses_alone : ParsesAlone
parses_alone extras p f s =
    parse_goes_on extras false (Frame p) (encoding p) [] (of_encoding p f) (All-nil Small) (f, s, sym (append-nil (encoding p)))

pub signed_verifies : SignedVerifies
signed_verifies key extras me seq stamp message = refl

pub plan_reads_back : PlanReadsBack
plan_reads_back message fits item small =
    sym (plan_read message (truncated (serialised (definition_of message) (values_of message))) (bytes_at _ small) item (truncated_represents (definition_of message) (values_of message) fits))

pub service_reads_back : ServiceReadsBack
service_reads_back message fits service small =
    sym (service_read message (truncated (serialised (definition_of message) (values_of message))) (bytes_at _ small) service (truncated_represents (definition_of message) (values_of message) fits))

alone : (extras : List (ℕ × ℕ)) (packet : Packet) → FitsFrame packet → IsSealed extras false packet → ReadsAlone extras packet
alone extras packet fits sealed = record { fits = fits; sealed = sealed; parses = parses_alone extras packet fits sealed }

-- ---- what a node sends

not_old : false ≡ true → ⊥
not_old e = cc

module _ (key : List ℕ) (extras : List (ℕ × ℕ)) (me : Stream) (seq stamp : ℕ) (message : Message) where
  sent_fits : IsStream me → seq < 256 → stamp < 2 ^ 48 → FitsLayout (definition_of message) (values_of message) → FitsFrame (signed_packet key extras me seq stamp message)
  sent_fits is seq_small stamp_small fits = record {
    compat = omega arith;
    seq = seq_small;
    sys = is.sys;
    comp = is.comp;
    id = id_small message;
    length = payload_short message fits;
    payload = payload_small message;
    check = check_small (checked_bytes (unsealed_packet me seq stamp message) ++ known_extra (extra_of (definition_of message).id extras) ∷ []);
    block = record {
      link = is.link;
      stamp = stamp_small;
      length = signature_length key (sealed_packet extras (unsealed_packet me seq stamp message)) me.link stamp;
      bytes = signature_small key (sealed_packet extras (unsealed_packet me seq stamp message)) me.link stamp;
    };
    old = λ bad. absurd (not_old bad);
  }

  sent_sealed : (extra : ℕ) → extra_of (definition_of message).id extras ≡ Some extra → IsSealed extras false (signed_packet key extras me seq stamp message)
  sent_sealed extra known = record {
    extra = extra;
    known = known;
    right = ap (λ found. checksum (unsealed_packet me seq stamp message) (known_extra found)) known;
    version = λ bad. absurd (not_old bad);
  }

  sent_alone : (extra : ℕ) → extra_of (definition_of message).id extras ≡ Some extra → IsStream me → seq < 256 → stamp < 2 ^ 48 → FitsLayout (definition_of message) (values_of message) → ReadsAlone extras (signed_packet key extras me seq stamp message)
  sent_alone extra known is seq_small stamp_small fits =
      alone extras (signed_packet key extras me seq stamp message) (sent_fits is seq_small stamp_small fits) (sent_sealed extra known)

pub every_sending_reads_back : EverySendingReadsBack
every_sending_reads_back key me seq stamp message is seq_small stamp_small fits = record {
  frame = sent_alone key (extras_of profile_definitions) me seq stamp message (crc_extra_of (definition_of message)) (profile_has (λ (def : Definition). extra_of def.id (extras_of profile_definitions) ≡ Some (crc_extra_of def)) profile_known message) is seq_small stamp_small fits.values;
  verifies = signed_verifies key (extras_of profile_definitions) me seq stamp message;
  plan = plan_reads_back message fits.values fits.item (payload_small message);
  service = service_reads_back message fits.values fits.service (payload_small message);
}

-- ---- what a parse finds

found_alone : (extras : List (ℕ × ℕ)) (events : List Event) (bytes : List ℕ) → Final extras false events bytes → AllByRecursion (ReadsAlone extras) (frames_of events)
found_alone extras [] bytes final = tt
found_alone extras (Frame packet ∷ events) bytes final =
    (alone extras packet final.1.0 final.1.1, found_alone extras events final.0 final.2)
found_alone extras (Skipped byte why ∷ events) bytes final = found_alone extras events final.0 final.2

pub every_frame_reads_alone : EveryFrameReadsAlone
every_frame_reads_alone extras bytes small =
    All-from_recursion (ReadsAlone extras) (frames_of (final_parse extras false bytes)) (found_alone extras (final_parse extras false bytes) bytes (final_is_function extras false bytes small))

one_event : (one other : Packet) → ◌≡◌ {A = List Event} (Frame one ∷ []) (Frame other ∷ []) → one ≡ other
one_event one other same = cc

pub same_bytes_same_frame : SameBytesSameFrame
same_bytes_same_frame extras one other reads also same =
    one_event one other (sym reads.parses ∙ (ap (final_parse extras false) same ∙ also.parses))

-- ---- the HEARTBEATs

drone_values : (armed : Bool) → FitsLayout (definition_of (drone_heartbeat armed)) (values_of (drone_heartbeat armed))
drone_values true =
    fits_layout (all_fields (definition_of (drone_heartbeat true))) (values_of (drone_heartbeat true)) ((refl, omega arith), ((refl, omega arith), ((refl, omega arith), ((refl, omega arith), ((refl, omega arith), ((refl, omega arith), tt))))))
drone_values false =
    fits_layout (all_fields (definition_of (drone_heartbeat false))) (values_of (drone_heartbeat false)) ((refl, omega arith), ((refl, omega arith), ((refl, omega arith), ((refl, omega arith), ((refl, omega arith), ((refl, omega arith), tt))))))

station_values : FitsLayout (definition_of station_heartbeat) (values_of station_heartbeat)
station_values =
    fits_layout (all_fields (definition_of station_heartbeat)) (values_of station_heartbeat) ((refl, omega arith), ((refl, omega arith), ((refl, omega arith), ((refl, omega arith), ((refl, omega arith), ((refl, omega arith), tt))))))

pub heartbeats_fit : HeartbeatsFit
heartbeats_fit = record {
  drone = λ armed. record { values = drone_values armed; item = tt; service = tt };
  drone_plan = λ armed. refl;
  station = record { values = station_values; item = tt; service = tt };
  station_plan = refl;
}

-- ---- what a drone says at a tick of its simulator

word_fits : (n : ℤ) → FitsSigned w32 n → cast_unsigned w32 n < 256 ^ 4
word_fits n fits = omega (arith, ints, fits)

position_values : (time : ℕ) (position : Point) → time < 2 ^ 32 → PointInRange position → FitsLayout (definition_of (position_message time position)) (values_of (position_message time position))
position_values time position fits range =
    let x = word_fits position.x range.x in
    let y = word_fits position.y range.y in
    fits_layout (all_fields (definition_of (position_message time position))) (values_of (position_message time position)) ((refl, omega (arith, fits)), ((refl, omega (arith, x)), ((refl, omega (arith, y)), ((refl, omega arith), ((refl, omega arith), ((refl, omega arith), ((refl, omega arith), ((refl, omega arith), ((refl, omega arith), tt)))))))))

reached_values : (number : ℕ) → number < 65536 → FitsLayout (definition_of (reached_message number)) (values_of (reached_message number))
reached_values number fits =
    fits_layout (all_fields (definition_of (reached_message number))) (values_of (reached_message number)) ((refl, omega (arith, fits)), tt)

pub flights_fit : FlightsFit
flights_fit = record {
  position = λ time position fits range. record { values = position_values time position fits range; item = tt; service = tt };
  position_plan = λ time position. refl;
  position_service = λ time position. refl;
  reached = λ number fits. record { values = reached_values number fits; item = tt; service = tt };
  reached_plan = λ number. refl;
  reached_service = λ number. refl;
}
