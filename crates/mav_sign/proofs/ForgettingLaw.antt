-- A verifier that has forgotten streams beside one that hasn't.
use Rattle.std.proofs.Common.{◌≡◌, ◌∙◌, ◌<◌, ◌≤◌, ◌⊎◌, inl, inr, ◌+◌, ◌-◌, ◌==◌, ℕ, Bool, true, false, max, nat_lt, if◌then◌else◌, List, Option, Some, None, length, refl, sym, ap, arith}
use Rattle.std.specs.Str.{bytes_eq}
use Rattle.std.proofs.lemmas.Bool.Decides.{nat_tests}
use Rattle.mav_names.specs.declared.names.Stream.{Stream}
use Rattle.mav_frame.specs.Packet.{Packet, SignatureBlock}
use Rattle.mav_sign.specs.declared.admission.Admit.{Admit}
use Rattle.mav_sign.specs.declared.admission.Admit.TheVariants.{Admitted, Unsigned, BadSignature, BelowFloor, NotLater, TooOld, TooManyStreams}
use Rattle.mav_sign.specs.Signing.{signature_of}
use Rattle.mav_sign.specs.History.{answer_after, block_answer, is_admitted, one_minute, stream_limit, stream_of, unless_below, unless_old}
use Rattle.mav_sign.specs.Forgetting.{AdmitsTheSame, Forgot, LearnsAlike, StaysForgetful}
use Rattle.mav_sign.specs.Kept.{Admits, HasRoom, Kept, is_past, kept_answer, kept_answer_to, local_kept, present, stamp_at, stream_number}

-- a test, with what it says of the numbers
test : (m n : ℕ) → ((m < n) × (nat_lt m n ≡ true)) ⊎ ((n ≤ m) × (nat_lt m n ≡ false))
test m n = elim (nat_lt m n) as (λ b. nat_lt m n ≡ b → ((m < n) × (b ≡ true)) ⊎ ((n ≤ m) × (b ≡ false))) [
  | true ↦ λ e. inl (grind (arith, nat_tests), refl)
  | false ↦ λ e. inr (grind (arith, nat_tests), refl)
] refl

-- the verdict on a timestamp that isn't too old, and on one that is
late : (last : Option ℕ) (streams local stamp : ℕ) → nat_lt (stamp + one_minute) local ≡ true → is_admitted (answer_after last streams local stamp) ≡ false
late None streams local stamp old = ap (λ (b : Bool). is_admitted (if b then TooOld local else (if nat_lt streams stream_limit then Admitted else TooManyStreams))) old
late (Some last) streams local stamp old = either (nat_lt last stamp)
  where
    either : (b : Bool) → is_admitted (if b then unless_old local stamp Admitted else NotLater last) ≡ false
    either true = ap (λ (b : Bool). is_admitted (if b then TooOld local else Admitted)) old
    either false = refl

-- whether the last timestamp of the stream lets this one in
abbrev is_later : Option ℕ → ℕ → Bool
is_later None stamp = true
is_later (Some last) stamp = nat_lt last stamp

room : (b : Bool) → (b ≡ false → ⊥) → is_admitted (if b then Admitted else TooManyStreams) ≡ true
room true few = refl
room false few = absurd (few refl)

timely : (last : Option ℕ) (streams local stamp : ℕ) → nat_lt (stamp + one_minute) local ≡ false → (answer_after last streams local stamp ≡ TooManyStreams → ⊥) → is_admitted (answer_after last streams local stamp) ≡ is_later last stamp
timely None streams local stamp young few =
    let is : answer_after None streams local stamp ≡ (if nat_lt streams stream_limit then Admitted else TooManyStreams) =
    ap (λ (b : Bool). if b then TooOld local else (if nat_lt streams stream_limit then Admitted else TooManyStreams)) young in
    ap is_admitted is ∙ room (nat_lt streams stream_limit) (λ full. few (is ∙ ap (λ (b : Bool). if b then Admitted else TooManyStreams) full))
timely (Some last) streams local stamp young few = later (nat_lt last stamp)
  where
    later : (b : Bool) → is_admitted (if b then unless_old local stamp Admitted else NotLater last) ≡ b
    later true = ap (λ (b : Bool). is_admitted (if b then TooOld local else Admitted)) young
    later false = refl

-- a past timestamp keeps none out that isn't too old
present_later : (accepted local stamp : ℕ) (last : Option ℕ) → accepted ≤ local → nat_lt (stamp + one_minute) local ≡ false → is_later (present accepted last) stamp ≡ is_later last stamp
present_later accepted local stamp None most young = refl
present_later accepted local stamp (Some last) most young = elim (test last (accepted - one_minute)) [
  | inl e ↦ ap (λ (b : Bool). is_later (if b then None else Some last) stamp) e.1 ∙ sym (above last stamp (past e.0 (enough young)))
  | inr e ↦ ap (λ (b : Bool). is_later (if b then None else Some last) stamp) e.1
]
  where
    enough : {m n : ℕ} → nat_lt m n ≡ false → n ≤ m
    enough {m} {n} e = grind (arith, nat_tests)

    past : last < accepted - one_minute → local ≤ stamp + one_minute → last < stamp
    past l e = omega (arith, l, e, most)

    above : (m n : ℕ) → m < n → nat_lt m n ≡ true
    above m n l = grind (arith, nat_tests)

-- two last timestamps that are the same but for past ones
same_answer : (accepted local stamp n m : ℕ) (some all : Option ℕ) → accepted ≤ local → present accepted some ≡ present accepted all → (answer_after some n local stamp ≡ TooManyStreams → ⊥) → (answer_after all m local stamp ≡ TooManyStreams → ⊥) → is_admitted (answer_after some n local stamp) ≡ is_admitted (answer_after all m local stamp)
same_answer accepted local stamp n m some all most same few other = elim (nat_lt (stamp + one_minute) local) as (λ b. nat_lt (stamp + one_minute) local ≡ b → is_admitted (answer_after some n local stamp) ≡ is_admitted (answer_after all m local stamp)) [
  | true ↦ λ old. late some n local stamp old ∙ sym (late all m local stamp old)
  | false ↦ λ young.
      timely some n local stamp young few
      ∙ (sym (present_later accepted local stamp some most young)
      ∙ (ap (λ (o : Option ℕ). is_later o stamp) same
      ∙ (present_later accepted local stamp all most young ∙ sym (timely all m local stamp young other))))
] refl

below_same : (low : Option ℕ) (stamp : ℕ) (some all : Admit) → (unless_below low stamp some ≡ TooManyStreams → ⊥) → (unless_below low stamp all ≡ TooManyStreams → ⊥) → ((some ≡ TooManyStreams → ⊥) → (all ≡ TooManyStreams → ⊥) → is_admitted some ≡ is_admitted all) → is_admitted (unless_below low stamp some) ≡ is_admitted (unless_below low stamp all)
below_same None stamp some all few other same = same few other
below_same (Some low) stamp some all few other same = either (nat_lt low stamp) few other
  where
    either : (b : Bool) → ((if b then some else BelowFloor low) ≡ TooManyStreams → ⊥) → ((if b then all else BelowFloor low) ≡ TooManyStreams → ⊥) → is_admitted (if b then some else BelowFloor low) ≡ is_admitted (if b then all else BelowFloor low)
    either true few other = same few other
    either false few other = refl

stamp_same : (all some : Kept) (stream : Stream) (stamp : ℕ) → Forgot all some → (kept_answer some stream stamp ≡ TooManyStreams → ⊥) → (kept_answer all stream stamp ≡ TooManyStreams → ⊥) → is_admitted (kept_answer some stream stamp) ≡ is_admitted (kept_answer all stream stamp)
stamp_same all some stream stamp f few other =
    let last = stamp_at (stream_number stream) some.last in
    let local : local_kept some ≡ local_kept all = (λ i. max (f.accepted i) (f.previous i)) in
    let is : kept_answer some stream stamp ≡ unless_below all.low stamp (answer_after last (length some.last) (local_kept all) stamp) =
    (λ i. unless_below (f.low i) stamp (answer_after last (length some.last) (local i) stamp)) in
    ap is_admitted is
    ∙ below_same all.low stamp (answer_after last (length some.last) (local_kept all) stamp) (answer_after (stamp_at (stream_number stream) all.last) (length all.last) (local_kept all) stamp) (λ e. few (is ∙ e)) other
    (λ a b. same_answer all.accepted (local_kept all) stamp (length some.last) (length all.last) last (stamp_at (stream_number stream) all.last) (omega arith) (f.last (stream_number stream)) a b)

pub admits_the_same : AdmitsTheSame
admits_the_same key all some packet f other few = by_block packet.block few other
  where
    by_block : (o : Option SignatureBlock) → (block_answer key (kept_answer some) packet o ≡ TooManyStreams → ⊥) → (block_answer key (kept_answer all) packet o ≡ TooManyStreams → ⊥) → is_admitted (block_answer key (kept_answer some) packet o) ≡ is_admitted (block_answer key (kept_answer all) packet o)
    by_block None few other = refl
    by_block (Some block) few other = right (bytes_eq block.sig (signature_of key packet block.link block.stamp)) few other
      where
        right : (b : Bool) → ((if b then kept_answer some (stream_of packet block) block.stamp else BadSignature) ≡ TooManyStreams → ⊥) → ((if b then kept_answer all (stream_of packet block) block.stamp else BadSignature) ≡ TooManyStreams → ⊥) → is_admitted (if b then kept_answer some (stream_of packet block) block.stamp else BadSignature) ≡ is_admitted (if b then kept_answer all (stream_of packet block) block.stamp else BadSignature)
        right true few other = stamp_same all some (stream_of packet block) block.stamp f few other
        right false few other = refl

-- ---- room

twice : (accepted : ℕ) (o : Option ℕ) → present accepted (present accepted o) ≡ present accepted o
twice accepted None = refl
twice accepted (Some stamp) = either (is_past accepted stamp) refl
  where
    either : (b : Bool) → is_past accepted stamp ≡ b → present accepted (if b then None else Some stamp) ≡ (if b then None else Some stamp)
    either true e = refl
    either false e = ap (λ (b : Bool). if b then None else Some stamp) e

pub stays_forgetful : StaysForgetful
stays_forgetful all some room f h = record {
  last = λ number.
      ap (present all.accepted) (h.last number)
      ∙ (either number (nat_lt (length some.last) stream_limit) ∙ f.last number);
  accepted = h.accepted ∙ f.accepted;
  previous = h.previous ∙ f.previous;
  low = h.low ∙ f.low;
}
  where
    either : (number : ℕ) (b : Bool) → present all.accepted (if b then stamp_at number some.last else present some.accepted (stamp_at number some.last)) ≡ present all.accepted (stamp_at number some.last)
    either number true = refl
    either number false = ap (λ (n : ℕ). present all.accepted (present n (stamp_at number some.last))) f.accepted ∙ twice all.accepted (stamp_at number some.last)

-- ---- a frame more

more_past : (accepted later : ℕ) (o : Option ℕ) → accepted ≤ later → present later (present accepted o) ≡ present later o
more_past accepted later None more = refl
more_past accepted later (Some stamp) more = elim (test stamp (accepted - one_minute)) [
  | inl e ↦
      let old : is_past later stamp ≡ true = yes (omega (arith, e.0, more)) in
      ap (λ (b : Bool). present later (if b then None else Some stamp)) e.1 ∙ sym (ap (λ (b : Bool). if b then None else Some stamp) old)
  | inr e ↦ ap (λ (b : Bool). present later (if b then None else Some stamp)) e.1
]
  where
    yes : stamp < later - one_minute → nat_lt stamp (later - one_minute) ≡ true
    yes l = grind (arith, nat_tests)

still_same : (accepted later : ℕ) (some all : Option ℕ) → accepted ≤ later → present accepted some ≡ present accepted all → present later some ≡ present later all
still_same accepted later some all more same =
    sym (more_past accepted later some more) ∙ (ap (present later) same ∙ more_past accepted later all more)

pub learns_alike : LearnsAlike
learns_alike all some all_new some_new stream stamp f a s = record {
  last = λ number.
      ap (present all_new.accepted) (s.last number)
      ∙ (either number (stream_number stream == number) ∙ sym (ap (present all_new.accepted) (a.last number)));
  accepted = s.accepted ∙ (ap (λ (n : ℕ). max n stamp) f.accepted ∙ sym a.accepted);
  previous = s.previous ∙ (f.previous ∙ sym a.previous);
  low = s.low ∙ (f.low ∙ sym a.low);
}
  where
    either : (number : ℕ) (b : Bool) → present all_new.accepted (if b then Some stamp else stamp_at number some.last) ≡ present all_new.accepted (if b then Some stamp else stamp_at number all.last)
    either number true = refl
    either number false = let more = a.accepted in still_same all.accepted all_new.accepted (stamp_at number some.last) (stamp_at number all.last) (omega (arith, more)) (f.last number)
