-- No more streams are kept than there are nodes.
use Rattle.std.proofs.Common.{◌≡◌, ℕ, zero, suc, ◌≤◌, Bool, true, false, ◌||◌, List, [], ◌∷◌, ◌++◌, Option, Some, None, length, map, fold, sym, ap, ◌∙◌, refl}
use Rattle.std.specs.Prelude.{is_some, if◌then◌else◌, slice_get}
use Rattle.std.specs.Cmp.{IsEquivalence}
use Rattle.std.specs.List.{list_any, IsDistinct}
use Rattle.std.proofs.lemmas.Map.Keys.{IsDistinct-push}
use Rattle.std.proofs.lemmas.Map.Made.{length-le_from_is_member}
use Rattle.mav_names.specs.declared.names.Stream.{Stream}
use Rattle.mav_sign.specs.History.{Entry, Stamped, admitted_in, same_stream, last_of, with_stream, streams_of}
use Rattle.mav_sign.proofs.Histories.{same_self, same_is, is_kept}
use Rattle.fleet_invariants.proofs.Lists.{nowhere, some_is}

symmetric : (a b : Stream) (x y : Bool) → same_stream a b ≡ x → same_stream b a ≡ y → x ≡ y
symmetric a b true true p q = refl
symmetric a b false false p q = refl
symmetric a b true false p q = sym (ap (same_stream b) (same_is a b p) ∙ same_self b) ∙ q
symmetric a b false true p q = sym p ∙ (ap (same_stream a) (same_is b a q) ∙ same_self a)

pub laws : IsEquivalence same_stream
laws = record {
  refl = same_self;
  symm = λ a b. symmetric a b (same_stream a b) (same_stream b a) refl refl;
  congr = λ a b c same. ap (λ (x : Stream). same_stream x c) (same_is a b same);
}

-- each is kept once
one_more : (seen : List Stream) (x : Stream) (known : Bool) → list_any (same_stream x) seen ≡ known → IsDistinct same_stream seen → IsDistinct same_stream (if known then seen else seen ++ x ∷ [])
one_more seen x true is h = h
one_more seen x false is h = IsDistinct-push laws seen x h is

all_distinct : (xs seen : List Stream) → IsDistinct same_stream seen → IsDistinct same_stream (fold with_stream seen xs)
all_distinct [] seen h = h
all_distinct (x ∷ xs) seen h = all_distinct xs (with_stream seen x) (one_more seen x (list_any (same_stream x) seen) refl h)

none_twice : IsDistinct same_stream []
unfolding IsDistinct
none_twice = tt

distinct : (history : List Entry) → IsDistinct same_stream (streams_of history)
distinct history = all_distinct (map (λ (s : Stamped). s.stream) (admitted_in history)) [] none_twice

-- each that is kept has a last timestamp
value_of : (o : Option ℕ) → is_some o ≡ true → (t : ℕ) × (o ≡ Some t)
value_of None e = absurd (let wrong : false ≡ true = e in cc)
value_of (Some t) e = (t, refl)

pub streams_among : (history : List Entry) (streams : List Stream) → ((stream : Stream) (stamp : ℕ) → last_of stream history ≡ Some stamp → list_any (same_stream stream) streams ≡ true) → length (streams_of history) ≤ length streams
streams_among history streams each =
    length-le_from_is_member laws (streams_of history) streams (distinct history) (λ q kept. let last = value_of (last_of q history) (sym (is_kept q history) ∙ kept) in each q last.0 last.1)

-- an index of a list
pub found_there : (streams : List Stream) (i : ℕ) (stream : Stream) → slice_get streams i ≡ Some stream → list_any (same_stream stream) streams ≡ true
found_there [] i stream e = absurd (nowhere i stream e)
found_there (x ∷ xs) zero stream e = rw (ap (same_stream stream) (some_is e) ∙ same_self stream) refl
found_there (x ∷ xs) (suc i) stream e = rw (found_there xs i stream e) (either (same_stream stream x))
  where
    either : (b : Bool) → (b || true) ≡ true
    either true = refl
    either false = refl
