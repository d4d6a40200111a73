-- What is kept still represents the history.
use Rattle.std.proofs.Common.{◌≡◌, ℕ, ◌+◌, ◌<◌, max, Bool, true, false, ◌==◌, List, [], ◌∷◌, ◌++◌, Option, Some, None, length, map, sym, ap, ◌∙◌, refl, subst, arith}
use Rattle.std.specs.Prelude.{is_some, if◌then◌else◌, nat_lt, option_map}
use Rattle.std.specs.Str.{bytes_eq}
use Rattle.std.proofs.lemmas.Bool.Decides.{nat_tests}
use Rattle.std.proofs.lemmas.List.{map-append}
use Rattle.mav_names.specs.declared.names.Stream.{Stream}
use Rattle.mav_frame.specs.Packet.{Packet, SignatureBlock}
use Rattle.mav_sign.specs.declared.admission.Admit.{Admit}
use Rattle.mav_sign.specs.declared.admission.Admit.TheVariants.{Admitted, Unsigned, BadSignature, BelowFloor, NotLater, TooOld, TooManyStreams}
use Rattle.mav_sign.specs.Signing.{signature_of}
use Rattle.mav_sign.specs.History.{Entry, tried, sent, one_minute, stream_limit, block_answer, answer_to, Stamped, stream_of, stamped, admitted_by, admitted_in, sent_in, low_of, unless_below, same_stream, greatest, greatest_of, latest, stamps_of, last_of, accepted_in, streams_of, answer_after, unless_old, stamp_answer, local_of, is_admitted}
use Rattle.mav_sign.specs.Kept.{Kept, IsStream, Represents, Admits, KeptAfter, stream_number, stamp_at, kept_answer, kept_answer_to, local_kept}
use Rattle.mav_sign.proofs.Histories.{low_same, admitted_more, admitted_same, sent_more, sent_same, greatest_more, greatest_of_more, latest_more, same_self, same_is, stamps_more, stamps_same, streams_more, streams_unchanged}

-- ---- a stream and its number

pub same_number : (a b : Stream) → IsStream a → IsStream b → stream_number a ≡ stream_number b → a ≡ b
same_number a b of_a of_b same =
    let sys : a.sys ≡ b.sys = omega (arith, of_a.sys, of_a.comp, of_a.link, of_b.sys, of_b.comp, of_b.link) in
    let comp : a.comp ≡ b.comp = omega (arith, of_a.sys, of_a.comp, of_a.link, of_b.sys, of_b.comp, of_b.link) in
    let link : a.link ≡ b.link = omega (arith, of_a.sys, of_a.comp, of_a.link, of_b.sys, of_b.comp, of_b.link) in
    λ i. record { sys = sys i; comp = comp i; link = link i }

-- two streams have one number if they are the same
pub number_test : (a b : Stream) → IsStream a → IsStream b → (stream_number a == stream_number b) ≡ same_stream b a
number_test a b of_a of_b =
    elim (same_stream b a) as (λ t. same_stream b a ≡ t → (stream_number a == stream_number b) ≡ t) [
      | true ↦ λ same.
          let self : (stream_number a == stream_number a) ≡ true = grind (arith, nat_tests) in
          ap (λ (s : Stream). stream_number a == stream_number s) (same_is b a same) ∙ self
      | false ↦ λ other.
          elim (stream_number a == stream_number b) as (λ t. (stream_number a == stream_number b) ≡ t → t ≡ false) [
            | true ↦ λ equal.
                let number : stream_number a ≡ stream_number b = grind (arith, nat_tests) in
                let yes : same_stream b a ≡ true = ap (same_stream b) (same_number a b of_a of_b number) ∙ same_self b in
                sym yes ∙ other
            | false ↦ λ apart. refl
          ] refl
    ] refl

-- ---- the verdict

-- the local timestamp is that of the history
pub local_same : (kept : Kept) (history : List Entry) → Represents kept history → local_kept kept ≡ local_of history
local_same kept history of =
    ap (λ (n : ℕ). max n kept.previous) of.accepted ∙ ap (max (accepted_in history)) of.sent

-- the verdict by what is kept is that by the history
pub answer_same : (kept : Kept) (history : List Entry) (stream : Stream) (stamp : ℕ) → IsStream stream → Represents kept history → kept_answer kept stream stamp ≡ stamp_answer stream stamp history
answer_same kept history stream stamp bytes of =
    let answer = ap (λ (o : Option ℕ). answer_after o (length kept.last) (local_kept kept) stamp) (of.last stream bytes) ∙ (ap (λ (n : ℕ). answer_after (last_of stream history) n (local_kept kept) stamp) of.streams ∙ ap (λ (n : ℕ). answer_after (last_of stream history) (length (streams_of history)) n stamp) (local_same kept history of)) in
    ap (λ (o : Option ℕ). unless_below o stamp (answer_after (stamp_at (stream_number stream) kept.last) (length kept.last) (local_kept kept) stamp)) of.low
    ∙ ap (unless_below (low_of history) stamp) answer

-- what is admitted is above the low bound, and would be admitted without one
pub above_low : (low : Option ℕ) (stamp : ℕ) (answer : Admit) → unless_below low stamp answer ≡ Admitted → answer ≡ Admitted
above_low None stamp answer admitted = admitted
above_low (Some low) stamp answer admitted =
    elim (nat_lt low stamp) as (λ t. (if t then answer else BelowFloor low) ≡ Admitted → answer ≡ Admitted) [
      | true ↦ λ is. is
      | false ↦ λ wrong. absurd (cc)
    ] admitted

-- an admitted timestamp is greater than those of its stream
later : (xs : List ℕ) (streams local stamp : ℕ) → answer_after (greatest_of xs) streams local stamp ≡ Admitted → max (greatest xs) stamp ≡ stamp
later [] streams local stamp admitted = omega arith
later (y ∷ ys) streams local stamp admitted =
    let last = greatest (y ∷ ys) in
    elim (nat_lt last stamp) as (λ t. nat_lt last stamp ≡ t → (if t then unless_old local stamp Admitted else NotLater last) ≡ Admitted → max last stamp ≡ stamp) [
      | true ↦ λ test _. grind (arith, nat_tests)
      | false ↦ λ test wrong. absurd (cc)
    ] refl admitted

-- the verdict on a signed frame is
pub verdict_same : (key : List ℕ) (kept : Kept) (history : List Entry) (packet : Packet) (block : SignatureBlock) → packet.block ≡ Some block → IsStream (stream_of packet block) → Represents kept history → kept_answer_to key kept packet ≡ answer_to key history packet
verdict_same key kept history packet block signed bytes of =
    let right = bytes_eq block.sig (signature_of key packet block.link block.stamp) in
    ap (λ (o : Option SignatureBlock). block_answer key (kept_answer kept) packet o) signed
    ∙ (ap (λ (a : Admit). if right then a else BadSignature) (answer_same kept history (stream_of packet block) block.stamp bytes of)
    ∙ sym (ap (λ (o : Option SignatureBlock). block_answer key (λ stream stamp. stamp_answer stream stamp history) packet o) signed))

-- a signed frame is admitted by its timestamp
pub admitted_stamp : (key : List ℕ) (kept : Kept) (packet : Packet) (block : SignatureBlock) → packet.block ≡ Some block → kept_answer_to key kept packet ≡ Admitted → kept_answer kept (stream_of packet block) block.stamp ≡ Admitted
admitted_stamp key kept packet block signed admitted =
    elim (bytes_eq block.sig (signature_of key packet block.link block.stamp)) as (λ t. (if t then kept_answer kept (stream_of packet block) block.stamp else BadSignature) ≡ Admitted → kept_answer kept (stream_of packet block) block.stamp ≡ Admitted) [
      | true ↦ λ is. is
      | false ↦ λ wrong. absurd (cc)
    ] (sym (ap (λ (o : Option SignatureBlock). block_answer key (kept_answer kept) packet o) signed) ∙ admitted)

room_left : (streams : ℕ) → (if nat_lt streams stream_limit then Admitted else TooManyStreams) ≡ Admitted → streams < 256
room_left streams admitted =
    elim (nat_lt streams stream_limit) as (λ t. nat_lt streams stream_limit ≡ t → (if t then Admitted else TooManyStreams) ≡ Admitted → streams < 256) [
      | true ↦ λ test _. grind (arith, nat_tests)
      | false ↦ λ test wrong. absurd (cc)
    ] refl admitted

room_for_new : (streams local stamp : ℕ) → answer_after None streams local stamp ≡ Admitted → streams < 256
room_for_new streams local stamp admitted =
    elim (nat_lt (stamp + one_minute) local) as (λ t. (if t then TooOld local else (if nat_lt streams stream_limit then Admitted else TooManyStreams)) ≡ Admitted → streams < 256) [
      | true ↦ λ wrong. absurd (cc)
      | false ↦ λ is. room_left streams is
    ] admitted

-- a new stream that is admitted has room
pub has_room : (kept : Kept) (stream : Stream) (stamp : ℕ) → kept_answer kept stream stamp ≡ Admitted → stamp_at (stream_number stream) kept.last ≡ None → length kept.last < 256
has_room kept stream stamp admitted none =
    let last = above_low kept.low stamp (answer_after (stamp_at (stream_number stream) kept.last) (length kept.last) (local_kept kept) stamp) admitted in
    room_for_new (length kept.last) (local_kept kept) stamp (sym (ap (λ (o : Option ℕ). answer_after o (length kept.last) (local_kept kept) stamp) none) ∙ last)

-- ---- one more entry

-- the last timestamp of each stream after one was admitted
last_more : (history : List Entry) (entry : Entry) (s : Stamped) (other : Stream) → admitted_by entry ≡ Some s → max (greatest (stamps_of s.stream (admitted_in history))) s.stamp ≡ s.stamp → last_of other (history ++ entry ∷ []) ≡ (if same_stream other s.stream then Some s.stamp else last_of other history)
last_more history entry s other is most =
    let admitted = admitted_in history in
    let all : last_of other (history ++ entry ∷ []) ≡ greatest_of (stamps_of other (admitted ++ s ∷ [])) = ap (λ (l : List Stamped). greatest_of (stamps_of other l)) (admitted_more history entry s is) in
    all ∙ elim (same_stream other s.stream) as (λ t. same_stream other s.stream ≡ t → greatest_of (stamps_of other (admitted ++ s ∷ [])) ≡ (if t then Some s.stamp else last_of other history)) [
      | true ↦ λ same.
          let most_here : max (greatest (stamps_of other admitted)) s.stamp ≡ s.stamp = ap (λ (a : Stream). max (greatest (stamps_of a admitted)) s.stamp) (same_is other s.stream same) ∙ most in
          ap greatest_of (stamps_more other admitted s same) ∙ (greatest_of_more (stamps_of other admitted) s.stamp ∙ ap Some most_here)
      | false ↦ λ apart. ap greatest_of (stamps_same other admitted s apart)
    ] refl

pub after_admitted : (old new : Kept) (history : List Entry) (packet : Packet) (block : SignatureBlock) → packet.block ≡ Some block → IsStream (stream_of packet block) → kept_answer old (stream_of packet block) block.stamp ≡ Admitted → Admits (stream_of packet block) block.stamp old new → Represents old history → Represents new (history ++ tried packet Admitted ∷ [])
after_admitted old new history packet block signed bytes answer admits of =
    let stream = stream_of packet block in
    let entry : Entry = tried packet Admitted in
    let s : Stamped = stamped packet block in
    let is : admitted_by entry ≡ Some s = ap (option_map (stamped packet)) signed in
    let most : max (greatest (stamps_of stream (admitted_in history))) block.stamp ≡ block.stamp = later (stamps_of stream (admitted_in history)) (length (streams_of history)) (local_of history) block.stamp (above_low (low_of history) block.stamp _ (sym (answer_same old history stream block.stamp bytes of) ∙ answer)) in
    let more : accepted_in (history ++ entry ∷ []) ≡ max (accepted_in history) block.stamp =
    ap (λ (l : List Stamped). greatest (map (λ (t : Stamped). t.stamp) l)) (admitted_more history entry s is) ∙ (ap greatest (map-append (λ (t : Stamped). t.stamp) (admitted_in history) (s ∷ [])) ∙ greatest_more (map (λ (t : Stamped). t.stamp) (admitted_in history)) block.stamp) in
    let sent_before : sent_in (history ++ entry ∷ []) ≡ sent_in history = sent_same history entry refl in
    let count : length old.last ≡ length (streams_of history) = of.streams in
    record {
      last = λ other here.
          admits.last (stream_number other) ∙ (ap (λ (b : Bool). if b then Some block.stamp else stamp_at (stream_number other) old.last) (number_test stream other bytes here) ∙ (ap (λ (o : Option ℕ). if same_stream other stream then Some block.stamp else o) (of.last other here) ∙ sym (last_more history entry s other is most)));
      streams =
          admits.streams ∙ (ap (λ (o : Option ℕ). if is_some o then length old.last else length old.last + 1) (of.last stream bytes) ∙ (ap (λ (n : ℕ). if is_some (last_of stream history) then n else n + 1) count ∙ sym (streams_more history entry s is)));
      accepted = admits.accepted ∙ (ap (λ (n : ℕ). max n block.stamp) of.accepted ∙ sym more);
      previous = admits.previous ∙ (of.previous ∙ sym (ap latest sent_before));
      sent = admits.previous ∙ (of.sent ∙ sym (ap greatest sent_before));
      low = admits.low ∙ (of.low ∙ sym (low_same history entry refl));
    }

refused_none : (packet : Packet) (answer : Admit) → is_admitted answer ≡ false → admitted_by (tried packet answer) ≡ None
refused_none packet Admitted refused = absurd (let wrong : true ≡ false = refused in cc)
refused_none packet Unsigned refused = refl
refused_none packet BadSignature refused = refl
refused_none packet (BelowFloor floor) refused = refl
refused_none packet (NotLater last) refused = refl
refused_none packet (TooOld local) refused = refl
refused_none packet TooManyStreams refused = refl

pub after_refused : (kept : Kept) (history : List Entry) (packet : Packet) (answer : Admit) → is_admitted answer ≡ false → Represents kept history → Represents kept (history ++ tried packet answer ∷ [])
after_refused kept history packet answer refused of =
    let entry : Entry = tried packet answer in
    let none = refused_none packet answer refused in
    let same : admitted_in (history ++ entry ∷ []) ≡ admitted_in history = admitted_same history entry none in
    let sent_before : sent_in (history ++ entry ∷ []) ≡ sent_in history = sent_same history entry refl in
    record {
      last = λ other here. of.last other here ∙ sym (ap (λ (l : List Stamped). greatest_of (stamps_of other l)) same);
      streams = of.streams ∙ sym (ap length (streams_unchanged history entry none));
      accepted = of.accepted ∙ sym (ap (λ (l : List Stamped). greatest (map (λ (t : Stamped). t.stamp) l)) same);
      previous = of.previous ∙ sym (ap latest sent_before);
      sent = of.sent ∙ sym (ap greatest sent_before);
      low = of.low ∙ sym (low_same history entry refl);
    }

pub after_sent : (kept : Kept) (history : List Entry) (stamp : ℕ) → kept.previous < stamp → Represents kept history → Represents (record kept { previous = stamp }) (history ++ sent stamp ∷ [])
after_sent kept history stamp above of =
    let entry : Entry = sent stamp in
    let same : admitted_in (history ++ entry ∷ []) ≡ admitted_in history = admitted_same history entry refl in
    let more : sent_in (history ++ entry ∷ []) ≡ sent_in history ++ stamp ∷ [] = sent_more history entry stamp refl in
    let most : max (greatest (sent_in history)) stamp ≡ stamp = omega (arith, of.sent) in
    record {
      last = λ other here. of.last other here ∙ sym (ap (λ (l : List Stamped). greatest_of (stamps_of other l)) same);
      streams = of.streams ∙ sym (ap length (streams_unchanged history entry refl));
      accepted = of.accepted ∙ sym (ap (λ (l : List Stamped). greatest (map (λ (t : Stamped). t.stamp) l)) same);
      previous = sym (ap latest more ∙ latest_more (sent_in history) stamp);
      sent = sym (ap greatest more ∙ (greatest_more (sent_in history) stamp ∙ most));
      low = of.low ∙ sym (low_same history entry refl);
    }

-- ---- a tried frame

-- what isn't admitted changes nothing
pub kept_same : (answer : Admit) (stream : Stream) (stamp : ℕ) (old new : Kept) → is_admitted answer ≡ false → KeptAfter answer stream stamp old new → new ≡ old
kept_same Admitted stream stamp old new refused kept = absurd (let wrong : true ≡ false = refused in cc)
kept_same Unsigned stream stamp old new refused kept = kept
kept_same BadSignature stream stamp old new refused kept = kept
kept_same (BelowFloor floor) stream stamp old new refused kept = kept
kept_same (NotLater last) stream stamp old new refused kept = kept
kept_same (TooOld local) stream stamp old new refused kept = kept
kept_same TooManyStreams stream stamp old new refused kept = kept

pub after_tried : (old new : Kept) (history : List Entry) (packet : Packet) (block : SignatureBlock) (answer : Admit) → packet.block ≡ Some block → IsStream (stream_of packet block) → (answer ≡ Admitted → kept_answer old (stream_of packet block) block.stamp ≡ Admitted) → KeptAfter answer (stream_of packet block) block.stamp old new → Represents old history → Represents new (history ++ tried packet answer ∷ [])
after_tried old new history packet block Admitted signed bytes answer kept of = after_admitted old new history packet block signed bytes (answer refl) kept of
after_tried old new history packet block Unsigned signed bytes answer kept of = subst (λ k. Represents k (history ++ tried packet Unsigned ∷ [])) (sym kept) (after_refused old history packet Unsigned refl of)
after_tried old new history packet block BadSignature signed bytes answer kept of = subst (λ k. Represents k (history ++ tried packet BadSignature ∷ [])) (sym kept) (after_refused old history packet BadSignature refl of)
after_tried old new history packet block (BelowFloor floor) signed bytes answer kept of = subst (λ k. Represents k (history ++ tried packet (BelowFloor floor) ∷ [])) (sym kept) (after_refused old history packet (BelowFloor floor) refl of)
after_tried old new history packet block (NotLater last) signed bytes answer kept of = subst (λ k. Represents k (history ++ tried packet (NotLater last) ∷ [])) (sym kept) (after_refused old history packet (NotLater last) refl of)
after_tried old new history packet block (TooOld local) signed bytes answer kept of = subst (λ k. Represents k (history ++ tried packet (TooOld local) ∷ [])) (sym kept) (after_refused old history packet (TooOld local) refl of)
after_tried old new history packet block TooManyStreams signed bytes answer kept of = subst (λ k. Represents k (history ++ tried packet TooManyStreams ∷ [])) (sym kept) (after_refused old history packet TooManyStreams refl of)
