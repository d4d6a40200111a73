-- What a node does at the bytes of a frame that was sent: the frame is admitted and its message taken, or it is dropped.
use Rattle.std.proofs.Common.{◌≡◌, ◌∙◌, ℕ, ◌+◌, ◌<◌, ◌≤◌, ◌⊎◌, inl, inr, true, false, nat_lt, List, [], ◌∷◌, ◌++◌, length, Option, Some, None, refl, ap, arith}
use Rattle.std.proofs.lemmas.Bool.{cond-true, cond-false}
use Rattle.std.proofs.lemmas.List.{append-nil}
use Rattle.std.specs.Str.{bytes_eq}
use Rattle.mav_profile.specs.Messages.{extras_of}
use Rattle.mav_profile.specs.Profile.{profile_definitions}
use Rattle.mav_frame.specs.Packet.{Packet, SignatureBlock}
use Rattle.mav_frame.specs.Encoding.{encoding}
use Rattle.mav_frame.specs.FinalParse.{final_parse}
use Rattle.plan_items.specs.declared.messages.PlanMsg.{PlanMsg}
use Rattle.mav_messages.specs.Plans.{message_of_plan}
use Rattle.mav_sign.specs.declared.admission.Admit.{Admit}
use Rattle.mav_sign.specs.declared.admission.Admit.TheVariants.{Admitted, Unsigned, BadSignature, BelowFloor, NotLater, TooOld, TooManyStreams}
use Rattle.mav_sign.specs.Signing.{signature_of}
use Rattle.mav_sign.specs.Endpoints.{frames_of}
use Rattle.mav_sign.specs.History.{Entry, answer_to, block_answer, stamp_answer, answer_after, unless_below, low_of, one_minute, stream_limit, last_of, local_of, streams_of, next_in, greatest_stamp}
use Rattle.mav_nodes.specs.News.{NodeEvent, Sends, Installs, Empties, Drops, Ends, Ends_command, Gives_param, Ends_params, Reaches, Captures, Ends_file}
use Rattle.mav_nodes.specs.Payloads.{plan_in, service_in}
use Rattle.mav_nodes.specs.Links.{Link, Outcome, done, after_events, and_then, tries, sent_at, sends}
use Rattle.mav_nodes.specs.Signed.{signed_packet}
use Rattle.mav_nodes.specs.Steps.{Side, Rules, CoreStep, with_core, steps, takes, admits, hears, hears_all, receives}
use Rattle.fleet_world.specs.WorldState.{stream_of}
use Rattle.fleet_world.specs.Steps.{packets_in}
use Rattle.fleet_invariants.proofs.Tests.{by_test, number_same}

-- the bytes of a frame parse to it alone; it is signed under the key at this timestamp, and carries the message
pub record Carries (key : List ℕ) (p : Packet) (stamp : ℕ) (m : PlanMsg) : Type 0 where
  pub frames : frames_of (final_parse (extras_of profile_definitions) false (encoding p)) ≡ p ∷ []
  pub block : p.block ≡ Some (record { link = 0; stamp = stamp; sig = signature_of key p 0 stamp })
  pub plan : plan_in p.id p.payload ≡ Some m

-- a fresh timestamp is admitted: it is later than the last of its stream, not too old, and there is room for its stream
fresh_answer : (last : Option ℕ) (streams local stamp : ℕ) → ((l : ℕ) → last ≡ Some l → l < stamp) → streams < stream_limit → local ≤ stamp + one_minute → answer_after last streams local stamp ≡ Admitted
fresh_answer None streams local stamp later room recent =
    cond-false (nat_lt (stamp + one_minute) local) _ _ (not_lt _ _ recent) ∙ cond-true (nat_lt streams stream_limit) _ _ (lt _ _ room)
  where
    lt : (a b : ℕ) → a < b → nat_lt a b ≡ true
    lt a b h = grind arith

    not_lt : (a b : ℕ) → b ≤ a → nat_lt a b ≡ false
    not_lt a b h = grind arith
fresh_answer (Some l) streams local stamp later room recent =
    cond-true (nat_lt l stamp) _ _ (lt _ _ (later l refl)) ∙ cond-false (nat_lt (stamp + one_minute) local) _ _ (not_lt _ _ recent)
  where
    lt : (a b : ℕ) → a < b → nat_lt a b ≡ true
    lt a b h = grind arith

    not_lt : (a b : ℕ) → b ≤ a → nat_lt a b ≡ false
    not_lt a b h = grind arith

-- above the low bound the other tests decide
above_low : (low : Option ℕ) (stamp : ℕ) (answer : Admit) → ((l : ℕ) → low ≡ Some l → l < stamp) → unless_below low stamp answer ≡ answer
above_low None stamp answer above = refl
above_low (Some l) stamp answer above = cond-true (nat_lt l stamp) _ _ (lt _ _ (above l refl))
  where
    lt : (a b : ℕ) → a < b → nat_lt a b ≡ true
    lt a b h = grind arith

bytes_same : (xs : List ℕ) → bytes_eq xs xs ≡ true
bytes_same [] = refl
bytes_same (x ∷ xs) = rw (number_same x) (bytes_same xs)

-- the frames of events, one after another
pub packets_append : (es fs : List NodeEvent) → packets_in (es ++ fs) ≡ packets_in es ++ packets_in fs
packets_append [] fs = refl
packets_append (Sends packet message ∷ es) fs = ap (λ ps. packet ∷ ps) (packets_append es fs)
packets_append (Installs kind items by ∷ es) fs = packets_append es fs
packets_append (Empties kind ∷ es) fs = packets_append es fs
packets_append (Drops answer ∷ es) fs = packets_append es fs
packets_append (Ends told ∷ es) fs = packets_append es fs
packets_append (Ends_command result ∷ es) fs = packets_append es fs
packets_append (Gives_param param ∷ es) fs = packets_append es fs
packets_append (Ends_params values ∷ es) fs = packets_append es fs
packets_append (Reaches number ∷ es) fs = packets_append es fs
packets_append (Captures total ∷ es) fs = packets_append es fs
packets_append (Ends_file end ∷ es) fs = packets_append es fs

module _ (key : List ℕ) (p : Packet) (stamp : ℕ) (m : PlanMsg) (c : Carries key p stamp m) where
  abbrev block : SignatureBlock
  block = record { link = 0; stamp = stamp; sig = signature_of key p 0 stamp }

  -- the result is by the timestamp
  pub answer_is : (history : List Entry) → answer_to key history p ≡ stamp_answer (stream_of p.from) stamp history
  answer_is history =
      ap (block_answer key (λ stream t. stamp_answer stream t history) p) c.block
      ∙ cond-true (bytes_eq (signature_of key p 0 stamp) (signature_of key p 0 stamp)) _ _ (bytes_same (signature_of key p 0 stamp))

  pub admitted : (history : List Entry) → ((low : ℕ) → low_of history ≡ Some low → low < stamp) → ((l : ℕ) → last_of (stream_of p.from) history ≡ Some l → l < stamp) → length (streams_of history) < stream_limit → local_of history ≤ stamp + one_minute → answer_to key history p ≡ Admitted
  admitted history above later room recent = answer_is history ∙ above_low (low_of history) stamp _ above ∙ fresh_answer (last_of (stream_of p.from) history) (length (streams_of history)) (local_of history) stamp later room recent

  module _ {Core Services : Type 0} (rules : Rules Core Services) (clock : ℕ) (y : Side Core Services) (same_key : y.link.key ≡ key) (extras : y.link.extras ≡ extras_of profile_definitions) where
    abbrev after : Link
    after = tries p y.link

    abbrev Received : Outcome (Side Core Services)
    Received = receives rules clock (encoding p) y

    received : Received ≡ and_then (hears rules clock p y) (hears_all rules clock [])
    received =
        ap (λ x. hears_all rules clock (frames_of (final_parse x false (encoding p))) y) extras
        ∙ ap (λ ps. hears_all rules clock ps y) c.frames

    heard : (a : Admit) → answer_to y.link.key y.link.history p ≡ a → hears rules clock p y ≡ admits rules clock (record y { link = after }) p a (Some block)
    heard a is =
        ap (λ x. admits rules clock (record y { link = after }) p x p.block) is
        ∙ ap (admits rules clock (record y { link = after }) p a) c.block

    -- what its services make of a step of its core
    abbrev noted : CoreStep Core → Services
    noted r = rules.note y.services r.first

    taken : answer_to y.link.key y.link.history p ≡ Admitted → Received ≡ and_then (steps clock after (noted (rules.take y.core (stream_of p.from) m)) (rules.take y.core (stream_of p.from) m)) (hears_all rules clock [])
    taken is =
        received
        ∙ ap (λ o. and_then o (hears_all rules clock [])) (heard Admitted is ∙ ap (λ o. takes rules clock (record y { link = after }) (stream_of p.from) o (service_in p.id p.payload)) c.plan)

    -- nothing is sent
    pub record Quiet (core : Core) : Type 0 where
      pub services : Services
      pub events : List NodeEvent
      pub is : Received ≡ done (record { link = after; core = core; services = services }) events
      pub none : packets_in events ≡ []

    dropped : (a : Admit) → answer_to y.link.key y.link.history p ≡ a → hears rules clock p y ≡ done (record y { link = after }) (Drops a ∷ []) → Quiet y.core
    dropped a is h = record {
      services = y.services;
      events = Drops a ∷ [];
      is = received ∙ ap (λ o. and_then o (hears_all rules clock [])) h;
      none = refl;
    }

    pub none_of : (first last : List NodeEvent) → packets_in first ≡ [] → packets_in last ≡ [] → packets_in ((first ++ last) ++ []) ≡ []
    none_of first last f l = ap packets_in (append-nil (first ++ last)) ∙ packets_append first last ∙ ap (λ ps. ps ++ packets_in last) f ∙ l

    pub ended : (r : CoreStep Core) → rules.take y.core (stream_of p.from) m ≡ r → r.answer ≡ None → answer_to y.link.key y.link.history p ≡ Admitted → Received ≡ done (record { link = after; core = r.core; services = noted r }) ((r.first ++ r.last) ++ [])
    ended r is no_answer admitted =
        taken admitted
        ∙ ap (λ z. and_then (steps clock after (noted z) z) (hears_all rules clock [])) is
        ∙ ap (λ z. and_then (steps clock after (noted r) (record r { answer = z })) (hears_all rules clock [])) no_answer

    silent : (r : CoreStep Core) → rules.take y.core (stream_of p.from) m ≡ r → r.answer ≡ None → packets_in r.first ≡ [] → packets_in r.last ≡ [] → answer_to y.link.key y.link.history p ≡ Admitted → Quiet r.core
    silent r is no_answer first last admitted = record {
      services = noted r;
      events = (r.first ++ r.last) ++ [];
      is = ended r is no_answer admitted;
      none = none_of r.first r.last first last;
    }

    -- the frame is admitted, or dropped
    pub unless_dropped : (answer_to y.link.key y.link.history p ≡ Admitted) ⊎ Quiet y.core
    unless_dropped = by_answer (answer_to y.link.key y.link.history p) refl
      where
        by_answer : (a : Admit) → answer_to y.link.key y.link.history p ≡ a → (answer_to y.link.key y.link.history p ≡ Admitted) ⊎ Quiet y.core
        by_answer Admitted e = inl e
        by_answer Unsigned e = inr (dropped Unsigned e (heard Unsigned e))
        by_answer BadSignature e = inr (dropped BadSignature e (heard BadSignature e))
        by_answer (BelowFloor floor) e = inr (dropped (BelowFloor floor) e (heard (BelowFloor floor) e))
        by_answer (NotLater l) e = inr (dropped (NotLater l) e (heard (NotLater l) e))
        by_answer (TooOld l) e = inr (dropped (TooOld l) e (heard (TooOld l) e))
        by_answer TooManyStreams e = inr (dropped TooManyStreams e (heard TooManyStreams e))

    pub quiet : (r : CoreStep Core) → rules.take y.core (stream_of p.from) m ≡ r → r.answer ≡ None → packets_in r.first ≡ [] → packets_in r.last ≡ [] → Quiet y.core ⊎ Quiet r.core
    quiet r is no_answer first last = elim unless_dropped [ inl e ↦ inr (silent r is no_answer first last e) | inr q ↦ inl q ]

    -- a message is sent, or no timestamp was left for it
    pub data Says (r : CoreStep Core) (answer : PlanMsg) : Type 0 where
      Spent : Received ≡ None → Says r answer
      Said : (packet : Packet) → packet ≡ signed_packet y.link.key y.link.extras y.link.me y.link.seq (next_in after.history clock) (message_of_plan answer)
          → Received ≡ done (record { link = sent_at (next_in after.history clock) after; core = r.core; services = noted r }) (r.first ++ Sends packet (message_of_plan answer) ∷ r.last) → Says r answer

    pub says : (r : CoreStep Core) → rules.take y.core (stream_of p.from) m ≡ r → (answer : PlanMsg) → r.answer ≡ Some answer → answer_to y.link.key y.link.history p ≡ Admitted → Says r answer
    says r is answer answers admitted =
        let stamp = next_in after.history clock in
        let packet = signed_packet y.link.key y.link.extras y.link.me y.link.seq stamp (message_of_plan answer) in
        let whole : Received ≡ and_then (after_events r.first (with_core r.core (noted r) r.last (sends clock (message_of_plan answer) after))) (hears_all rules clock []) =
        taken admitted
        ∙ ap (λ z. and_then (steps clock after (noted z) z) (hears_all rules clock [])) is
        ∙ ap (λ z. and_then (steps clock after (noted r) (record r { answer = z })) (hears_all rules clock [])) answers in
        by_test (λ (o : Outcome Link). Received ≡ and_then (after_events r.first (with_core r.core (noted r) r.last o)) (hears_all rules clock []) → Says r answer) (nat_lt greatest_stamp stamp) _ _
        (λ _ e. Spent e)
        (λ _ e. Said packet refl (e ∙ ap (done (record { link = sent_at stamp after; core = r.core; services = noted r })) (append-nil (r.first ++ Sends packet (message_of_plan answer) ∷ r.last))))
        whole
