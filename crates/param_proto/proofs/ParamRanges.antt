-- A server and a client stay in range, and what they send fits its fields.
use Rattle.std.proofs.Common.{◌≡◌, ℕ, ℤ, pos, negsuc, suc, zero, ◌+◌, ◌*◌, ◌^◌, ◌%◌, ◌<◌, ◌≤◌, Bool, true, false, cond, nat_eq, ◌||◌, if◌then◌else◌, List, [], ◌∷◌, length, map, get_or, slice_get, Option, Some, None, IfSome, refl, ap, ◌∙◌, arith}
use Rattle.std.specs.List.{All}
use Rattle.std.proofs.lemmas.Option.{slice_get_within}
use Rattle.std.proofs.lemmas.List.{length-map}
use Rattle.std.proofs.lemmas.List.Elements.{All-nil, All-cons, All-head, All-tail, All-set, All-map, All-weaker}
use Rattle.std.proofs.Math.ListN.{length-set}
use Rattle.std.proofs.Math.Nat.{mod-lt}
use Rattle.field_layout.specs.Definition.{all_fields}
use Rattle.mav_names.specs.declared.names.Name.{Name}
use Rattle.mav_names.specs.Addresses.{is_for_node}
use Rattle.mav_messages.specs.declared.params.ParamRequestRead.{ParamRequestRead}
use Rattle.mav_messages.specs.declared.params.ParamSet.{ParamSet}
use Rattle.mav_messages.specs.declared.messages.Message.{Message}
use Rattle.mav_messages.specs.declared.messages.Message.TheVariants.{ParamRequestRead as Requests, ParamRequestList as Lists, ParamSet as Sets}
use Rattle.mav_messages.specs.Messages.{definition_of, values_of}
use Rattle.mav_messages.proofs.Decoded.{fits_layout}
use Rattle.param_proto.specs.declared.params.Param.{Param}
use Rattle.param_proto.specs.Params.{cleaned, narrowed, normal}
use Rattle.param_proto.specs.Server.{ServerState, most_params, new_server, value_message, values_from, value_of, place_of, asked_for, with_word, set_at, params_set, serves, value_set, if_for, server_step, taken_from, without_next, value_at}
use Rattle.param_proto.specs.Ranges.{ParamInRange, MessageInRange, ServerInRange}

-- ---- ids and words

pub each_byte : (id : List ℕ) → All (λ byte. byte < 256) id → (k : ℕ) → get_or id k 0 < 256
each_byte [] bytes k = omega arith
each_byte (b ∷ bs) bytes zero = All-head (λ byte. byte < 256) b bs bytes
each_byte (b ∷ bs) bytes (suc k) = each_byte bs (All-tail (λ byte. byte < 256) b bs bytes) k

cleaned_length : (id : List ℕ) → length (cleaned id) ≡ length id
cleaned_length [] = refl
cleaned_length (b ∷ bs) =
    elim (nat_eq b 0) as (λ t. length (cond t (map {B = ℕ} (λ (byte : ℕ). 0) (b ∷ bs)) (b ∷ cleaned bs)) ≡ suc (length bs)) [
      | true ↦ length-map (b ∷ bs) (λ (byte : ℕ). 0)
      | false ↦ ap suc (cleaned_length bs)
    ]

zeros_below : (bs : List ℕ) → All (λ byte. byte < 256) (map {B = ℕ} (λ (byte : ℕ). 0) bs)
zeros_below [] = All-nil (λ byte. byte < 256)
zeros_below (b ∷ bs) = All-cons (λ byte. byte < 256) 0 (map {B = ℕ} (λ (byte : ℕ). 0) bs) (omega arith) (zeros_below bs)

cleaned_below : (id : List ℕ) → All (λ byte. byte < 256) id → All (λ byte. byte < 256) (cleaned id)
cleaned_below [] bytes = All-nil (λ byte. byte < 256)
cleaned_below (b ∷ bs) bytes =
    elim (nat_eq b 0) as (λ t. All (λ byte. byte < 256) (cond t (map {B = ℕ} (λ (byte : ℕ). 0) (b ∷ bs)) (b ∷ cleaned bs))) [
      | true ↦ zeros_below (b ∷ bs)
      | false ↦ All-cons (λ byte. byte < 256) b (cleaned bs) (All-head (λ byte. byte < 256) b bs bytes) (cleaned_below bs (All-tail (λ byte. byte < 256) b bs bytes))
    ]

below_32 : (word : ℕ) (one two : Bool) → word % 2 ^ (8 * (if one then 1 else if two then 2 else 4)) < 2 ^ 32
below_32 word true two = omega (arith, mod-lt word {m = 2 ^ 8} (omega arith))
below_32 word false true = omega (arith, mod-lt word {m = 2 ^ 16} (omega arith))
below_32 word false false = mod-lt word {m = 2 ^ 32} (omega arith)

narrowed_below : (ty word : ℕ) → narrowed ty word < 2 ^ 32
narrowed_below ty word = below_32 word (nat_eq ty 1 || nat_eq ty 2) (nat_eq ty 3 || nat_eq ty 4)

pub normal_in_range : (p : Param) → ParamInRange p → ParamInRange (normal p)
normal_in_range p h = record {
  id = record { size = cleaned_length p.id ∙ h.id.size; bytes = cleaned_below p.id h.id.bytes };
  ty = h.ty;
  word = narrowed_below p.ty p.word;
}

-- ---- the server's messages

pub value_in_range : (count index : ℕ) (p : Param) → count < 65536 → index < 65536 → ParamInRange p → MessageInRange (value_message count index p)
value_in_range count index p few low h = record {
  fits =
      fits_layout (all_fields (definition_of (value_message count index p))) (values_of (value_message count index p))
      ((h.id.size, each_byte p.id h.id.bytes), ((refl, h.word), ((refl, h.ty), ((refl, few), ((refl, low), tt)))));
  index = tt;
  other = refl;
}

values_in_range : (count index : ℕ) (ps : List Param) → count < 65536 → index + length ps < 65536 → All ParamInRange ps → All MessageInRange (values_from count index ps)
values_in_range count index [] few low h = All-nil MessageInRange
values_in_range count index (p ∷ ps) few low h =
    All-cons MessageInRange (value_message count index p) (values_from count (index + 1) ps)
    (value_in_range count index p few (omega arith) (All-head ParamInRange p ps h))
    (values_in_range count (index + 1) ps few (omega arith) (All-tail ParamInRange p ps h))

one_value : (count index : ℕ) (o : Option Param) → count < 65536 → index < 65536 → IfSome o ParamInRange → All MessageInRange (value_of count index o)
one_value count index None few low h = All-nil MessageInRange
one_value count index (Some p) few low h = All-cons MessageInRange (value_message count index p) [] (value_in_range count index p few low h) (All-nil MessageInRange)

in_list : (ps : List Param) (index : ℕ) → All ParamInRange ps → IfSome (slice_get ps index) ParamInRange
in_list [] index h = tt
in_list (p ∷ ps) zero h = All-head ParamInRange p ps h
in_list (p ∷ ps) (suc index) h = in_list ps index (All-tail ParamInRange p ps h)

past_list : (ps : List Param) (count index : ℕ) → count < 65536 → length ps < 65536 → All ParamInRange ps → All MessageInRange (value_of count index (slice_get ps index))
past_list ps count index few low h =
    elim (slice_get ps index) as (λ o. slice_get ps index ≡ o → IfSome o ParamInRange → All MessageInRange (value_of count index o)) [
      | None ↦ λ e i. All-nil MessageInRange
      | Some p ↦ λ e i. one_value count index (Some p) few (let inside : index < length ps = slice_get_within ps index p e in omega arith) i
    ] refl (in_list ps index h)

at_in_range : (ps : List Param) (place : Option ℕ) → length ps < 65536 → All ParamInRange ps → All MessageInRange (value_at ps place)
at_in_range ps None low h = All-nil MessageInRange
at_in_range ps (Some index) low h = past_list ps (length ps) index low low h

asked_in_range : (ps : List Param) (m : ParamRequestRead) (z : ℤ) → length ps < 65536 → All ParamInRange ps → All MessageInRange (asked_for ps m z)
asked_in_range ps m (pos index) low h = at_in_range ps (Some index) low h
asked_in_range ps m (negsuc zero) low h = at_in_range ps (place_of ps m.param_id) low h
asked_in_range ps m (negsuc (suc n)) low h = All-nil MessageInRange

-- ---- a value that is set

written_in_range : (p : Param) (m : ParamSet) → ParamInRange p → ParamInRange (with_word p m)
written_in_range p m h =
    elim (nat_eq p.ty m.param_type) as (λ t. ParamInRange (cond t (record p { word = narrowed p.ty m.param_value }) p)) [
      | true ↦ record { id = h.id; ty = h.ty; word = narrowed_below p.ty m.param_value }
      | false ↦ h
    ]

set_length : (ps : List Param) (m : ParamSet) (place : Option ℕ) → length (params_set ps m place) ≡ length ps
set_length ps m None = refl
set_length ps m (Some index) =
    elim (slice_get ps index) as (λ o. length (set_at ps m index o) ≡ length ps) [
      | None ↦ refl
      | Some p ↦ length-set ps index (with_word p m)
    ]

set_in_range : (ps : List Param) (m : ParamSet) (place : Option ℕ) → All ParamInRange ps → All ParamInRange (params_set ps m place)
set_in_range ps m None h = h
set_in_range ps m (Some index) h =
    elim (slice_get ps index) as (λ o. IfSome o ParamInRange → All ParamInRange (set_at ps m index o)) [
      | None ↦ λ i. h
      | Some p ↦ λ i. All-set ParamInRange ps index (with_word p m) (written_in_range p m i) h
    ] (in_list ps index h)

-- ---- the server

served : (ps : List Param) (ms : List Message) → length ps ≤ most_params → All ParamInRange ps → All MessageInRange ms → ServerInRange (serves ps ms)
served ps ms few h waiting = record { few = few; params = h; waiting = waiting }

if_for_in_range : (for_me : Bool) (s t : ServerState) → ServerInRange s → ServerInRange t → ServerInRange (if_for for_me s t)
if_for_in_range true s t h answered = answered
if_for_in_range false s t h answered = served s.params [] h.few h.params (All-nil MessageInRange)

set_step : (s : ServerState) (m : ParamSet) (place : Option ℕ) → ServerInRange s → ServerInRange (value_set s m place)
set_step s m place h =
    let ps = params_set s.params m place in
    let count : length ps ≡ length s.params = set_length s.params m place in
    let all : All ParamInRange ps = set_in_range s.params m place h.params in
    served ps (value_at ps place) (omega (arith, h.few)) all (at_in_range ps place (omega (arith, h.few)) all)

dropped : (s : ServerState) → ServerInRange s → ServerInRange (serves s.params [])
dropped s h = served s.params [] h.few h.params (All-nil MessageInRange)

pub server_stays : (s : ServerState) → ServerInRange s → (me : Name) → (m : Message) → ServerInRange (server_step s me m)
server_stays s h me (Requests m) =
    if_for_in_range (is_for_node me (record { sys = m.target_system; comp = m.target_component })) s (serves s.params (asked_for s.params m m.param_index)) h
    (served s.params (asked_for s.params m m.param_index) h.few h.params (asked_in_range s.params m m.param_index (omega (arith, h.few)) h.params))
server_stays s h me (Lists m) =
    if_for_in_range (is_for_node me (record { sys = m.target_system; comp = m.target_component })) s (serves s.params (values_from (length s.params) 0 s.params)) h
    (served s.params (values_from (length s.params) 0 s.params) h.few h.params (values_in_range (length s.params) 0 s.params (omega (arith, h.few)) (omega (arith, h.few)) h.params))
server_stays s h me (Sets m) =
    if_for_in_range (is_for_node me (record { sys = m.target_system; comp = m.target_component })) s (value_set s m (place_of s.params m.param_id)) h (set_step s m (place_of s.params m.param_id) h)
server_stays s h me _ = dropped s h

pub server_taken : (s : ServerState) → ServerInRange s → ServerInRange (taken_from s)
server_taken s h = record { few = h.few; params = h.params; waiting = rest s.waiting h.waiting }
  where
    rest : (ms : List Message) → All MessageInRange ms → All MessageInRange (without_next ms)
    rest [] all = all
    rest (m ∷ ms) all = All-tail MessageInRange m ms all

pub server_starts : (ps : List Param) → length ps ≤ most_params → All ParamInRange ps → ServerInRange (new_server ps)
server_starts ps few h = record {
  few = omega (arith, length-map ps normal, few);
  params = All-map ParamInRange normal ps (All-weaker ParamInRange (λ p. ParamInRange (normal p)) normal_in_range ps h);
  waiting = All-nil MessageInRange;
}
