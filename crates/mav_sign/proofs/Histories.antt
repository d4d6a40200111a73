-- What one more entry does to a history.
use Rattle.std.proofs.Common.{◌≡◌, ℕ, ◌+◌, max, Bool, true, false, ◌&&◌, ◌||◌, ◌==◌, List, [], ◌∷◌, ◌++◌, Option, Some, None, length, map, filter, fold, sym, ap, ◌∙◌, refl, cond, arith}
use Rattle.std.specs.Prelude.{is_some, if◌then◌else◌}
use Rattle.std.specs.List.{filter_map, list_any}
use Rattle.std.proofs.Math.Bool.{or-false, or_assoc}
use Rattle.std.proofs.lemmas.Bool.{and_parts}
use Rattle.std.proofs.lemmas.Bool.Decides.{nat_tests}
use Rattle.std.proofs.lemmas.List.{append-nil, map-append, length_push}
use Rattle.std.proofs.lemmas.List.Elements.{filter_map-append, filter-append}
use Rattle.std.proofs.lemmas.List.Folds.{list_any-append}
use Rattle.std.proofs.lemmas.List.Sums.{fold_push}
use Rattle.mav_names.specs.declared.names.Stream.{Stream}
use Rattle.mav_sign.specs.History.{Entry, Stamped, admitted_by, sent_by, started_by, low_of, admitted_in, sent_in, same_stream, greatest, greatest_of, latest, stamps_of, last_of, with_stream, streams_of}

-- ---- entries

pub admitted_more : (history : List Entry) (entry : Entry) (s : Stamped) → admitted_by entry ≡ Some s → admitted_in (history ++ entry ∷ []) ≡ admitted_in history ++ s ∷ []
admitted_more history entry s is =
    filter_map-append admitted_by history (entry ∷ []) ∙ ap (λ (o : Option Stamped). admitted_in history ++ filter_map {X = Option Stamped} (λ p. p) (o ∷ [])) is

pub admitted_same : (history : List Entry) (entry : Entry) → admitted_by entry ≡ None → admitted_in (history ++ entry ∷ []) ≡ admitted_in history
admitted_same history entry is =
    filter_map-append admitted_by history (entry ∷ []) ∙ (ap (λ (o : Option Stamped). admitted_in history ++ filter_map {X = Option Stamped} (λ p. p) (o ∷ [])) is ∙ append-nil (admitted_in history))

pub sent_more : (history : List Entry) (entry : Entry) (stamp : ℕ) → sent_by entry ≡ Some stamp → sent_in (history ++ entry ∷ []) ≡ sent_in history ++ stamp ∷ []
sent_more history entry stamp is =
    filter_map-append sent_by history (entry ∷ []) ∙ ap (λ (o : Option ℕ). sent_in history ++ filter_map {X = Option ℕ} (λ p. p) (o ∷ [])) is

pub sent_same : (history : List Entry) (entry : Entry) → sent_by entry ≡ None → sent_in (history ++ entry ∷ []) ≡ sent_in history
sent_same history entry is =
    filter_map-append sent_by history (entry ∷ []) ∙ (ap (λ (o : Option ℕ). sent_in history ++ filter_map {X = Option ℕ} (λ p. p) (o ∷ [])) is ∙ append-nil (sent_in history))

pub low_same : (history : List Entry) (entry : Entry) → started_by entry ≡ None → low_of (history ++ entry ∷ []) ≡ low_of history
low_same history entry is =
    ap greatest_of (filter_map-append started_by history (entry ∷ []) ∙ (ap (λ (o : Option ℕ). filter_map started_by history ++ filter_map {X = Option ℕ} (λ p. p) (o ∷ [])) is ∙ append-nil (filter_map started_by history)))

-- ---- the greatest number

pub greatest_more : (xs : List ℕ) (x : ℕ) → greatest (xs ++ x ∷ []) ≡ max (greatest xs) x
greatest_more xs x = fold_push max 0 xs x

pub greatest_of_more : (xs : List ℕ) (x : ℕ) → greatest_of (xs ++ x ∷ []) ≡ Some (max (greatest xs) x)
greatest_of_more [] x = refl
greatest_of_more (y ∷ ys) x = ap Some (greatest_more (y ∷ ys) x)

pub greatest_none : (xs : List ℕ) → greatest_of xs ≡ None → greatest xs ≡ 0
greatest_none [] none = refl
greatest_none (y ∷ ys) none = absurd (let wrong : ◌≡◌ {A = Option ℕ} (Some (greatest (y ∷ ys))) None = none in cc)

pub greatest_some : (xs : List ℕ) (last : ℕ) → greatest_of xs ≡ Some last → greatest xs ≡ last
greatest_some [] last some = absurd (let wrong : ◌≡◌ {A = Option ℕ} None (Some last) = some in cc)
greatest_some (y ∷ ys) last some = let same : ◌≡◌ {A = Option ℕ} (Some (greatest (y ∷ ys))) (Some last) = some in cc

pub latest_more : (xs : List ℕ) (x : ℕ) → latest (xs ++ x ∷ []) ≡ x
latest_more xs x = fold_push (λ _ number. number) 0 xs x

-- ---- streams

pub same_self : (a : Stream) → same_stream a a ≡ true
same_self a =
    let sys : (a.sys == a.sys) ≡ true = grind (arith, nat_tests) in
    let comp : (a.comp == a.comp) ≡ true = grind (arith, nat_tests) in
    let link : (a.link == a.link) ≡ true = grind (arith, nat_tests) in
    rw (sys, comp, link) refl

pub same_is : (a b : Stream) → same_stream a b ≡ true → a ≡ b
same_is a b same =
    let parts = and_parts ((a.sys == b.sys) && (a.comp == b.comp)) (a.link == b.link) same in
    let first = and_parts (a.sys == b.sys) (a.comp == b.comp) parts.0 in
    let sys : a.sys ≡ b.sys = grind (arith, nat_tests, first.0) in
    let comp : a.comp ≡ b.comp = grind (arith, nat_tests, first.1) in
    let link : a.link ≡ b.link = grind (arith, nat_tests, parts.1) in
    λ i. record { sys = sys i; comp = comp i; link = link i }

-- ---- the timestamps of a stream

pub stamps_more : (stream : Stream) (admitted : List Stamped) (s : Stamped) → same_stream stream s.stream ≡ true → stamps_of stream (admitted ++ s ∷ []) ≡ stamps_of stream admitted ++ s.stamp ∷ []
stamps_more stream admitted s same =
    let test : Stamped → Bool = λ t. same_stream stream t.stream in
    let stamp : Stamped → ℕ = λ t. t.stamp in
    let one : filter test (s ∷ []) ≡ s ∷ [] = ap (λ (b : Bool). cond b (s ∷ []) []) same in
    ap (map stamp) (filter-append test admitted (s ∷ [])) ∙ (ap (λ (l : List Stamped). map stamp (filter test admitted ++ l)) one ∙ map-append stamp (filter test admitted) (s ∷ []))

pub stamps_same : (stream : Stream) (admitted : List Stamped) (s : Stamped) → same_stream stream s.stream ≡ false → stamps_of stream (admitted ++ s ∷ []) ≡ stamps_of stream admitted
stamps_same stream admitted s other =
    let test : Stamped → Bool = λ t. same_stream stream t.stream in
    let stamp : Stamped → ℕ = λ t. t.stamp in
    let none : filter test (s ∷ []) ≡ [] = ap (λ (b : Bool). cond b (s ∷ []) []) other in
    ap (map stamp) (filter-append test admitted (s ∷ []) ∙ (ap (λ (l : List Stamped). filter test admitted ++ l) none ∙ append-nil (filter test admitted)))

-- a stream has a last timestamp if it has an entry
pub has_last : (stream : Stream) (admitted : List Stamped) → is_some (greatest_of (stamps_of stream admitted)) ≡ list_any (λ s. same_stream stream s.stream) admitted
has_last stream [] = refl
has_last stream (s ∷ rest) =
    elim (same_stream stream s.stream) as (λ b. is_some (greatest_of (map (λ (t : Stamped). t.stamp) (cond b (s ∷ filter (λ t. same_stream stream t.stream) rest) (filter (λ t. same_stream stream t.stream) rest)))) ≡ (b || list_any (λ t. same_stream stream t.stream) rest)) [
      | true ↦ refl
      | false ↦ has_last stream rest
    ]

-- ---- the streams that are kept

-- the streams with one more, by whether that is among them
added : (stream x : Stream) (seen : List Stream) (known : Bool) → list_any (same_stream x) seen ≡ known → list_any (same_stream stream) (if known then seen else seen ++ x ∷ []) ≡ (list_any (same_stream stream) seen || same_stream stream x)
added stream x seen false unknown =
    list_any-append (same_stream stream) seen (x ∷ []) ∙ ap (λ (b : Bool). list_any (same_stream stream) seen || b) (or-false (same_stream stream x))
added stream x seen true known =
    elim (same_stream stream x) as (λ b. same_stream stream x ≡ b → list_any (same_stream stream) seen ≡ (list_any (same_stream stream) seen || b)) [
      | true ↦ λ same.
          let is : list_any (same_stream stream) seen ≡ true = ap (λ (a : Stream). list_any (same_stream a) seen) (same_is stream x same) ∙ known in
          is ∙ sym (ap (λ (b : Bool). b || true) is)
      | false ↦ λ other. sym (or-false (list_any (same_stream stream) seen))
    ] refl

one_more : (stream x : Stream) (seen : List Stream) → list_any (same_stream stream) (with_stream seen x) ≡ (list_any (same_stream stream) seen || same_stream stream x)
one_more stream x seen = added stream x seen (list_any (same_stream x) seen) refl

among : (stream : Stream) (admitted : List Stamped) (seen : List Stream) → list_any (same_stream stream) (fold with_stream seen (map (λ (s : Stamped). s.stream) admitted)) ≡ (list_any (same_stream stream) seen || list_any (λ s. same_stream stream s.stream) admitted)
among stream [] seen = sym (or-false (list_any (same_stream stream) seen))
among stream (s ∷ rest) seen =
    among stream rest (with_stream seen s.stream) ∙ (ap (λ (b : Bool). b || list_any (λ t. same_stream stream t.stream) rest) (one_more stream s.stream seen) ∙ or_assoc (list_any (same_stream stream) seen) (same_stream stream s.stream) (list_any (λ t. same_stream stream t.stream) rest))

-- a stream is kept if it has a last timestamp
pub is_kept : (stream : Stream) (history : List Entry) → list_any (same_stream stream) (streams_of history) ≡ is_some (last_of stream history)
is_kept stream history = among stream (admitted_in history) [] ∙ sym (has_last stream (admitted_in history))

counted : (streams : List Stream) (x : Stream) (known : Bool) → length (if known then streams else streams ++ x ∷ []) ≡ (if known then length streams else length streams + 1)
counted streams x true = refl
counted streams x false = length_push streams x

-- one more admitted timestamp adds its stream if that isn't kept yet
pub streams_more : (history : List Entry) (entry : Entry) (s : Stamped) → admitted_by entry ≡ Some s → length (streams_of (history ++ entry ∷ [])) ≡ (if is_some (last_of s.stream history) then length (streams_of history) else length (streams_of history) + 1)
streams_more history entry s is =
    let stream : Stamped → Stream = λ t. t.stream in
    let streams = streams_of history in
    let all : streams_of (history ++ entry ∷ []) ≡ with_stream streams s.stream = ap (λ (l : List Stamped). fold with_stream [] (map stream l)) (admitted_more history entry s is) ∙ (ap (fold with_stream []) (map-append stream (admitted_in history) (s ∷ [])) ∙ fold_push with_stream [] (map stream (admitted_in history)) s.stream) in
    ap length all ∙ (counted streams s.stream (list_any (same_stream s.stream) streams) ∙ ap (λ (b : Bool). if b then length streams else length streams + 1) (is_kept s.stream history))

pub streams_unchanged : (history : List Entry) (entry : Entry) → admitted_by entry ≡ None → streams_of (history ++ entry ∷ []) ≡ streams_of history
streams_unchanged history entry is =
    ap (λ (l : List Stamped). fold with_stream [] (map (λ (t : Stamped). t.stream) l)) (admitted_same history entry is)
