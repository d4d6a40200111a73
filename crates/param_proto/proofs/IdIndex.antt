-- The index of each id: a map from cleaned ids, filled one parameter after another.
use Rattle.std.proofs.Common.{◌≡◌, ℕ, ◌+◌, ◌<◌, ◌≤◌, Bool, true, false, cond, not, is_some, ◌||◌, if◌then◌else◌, List, [], ◌∷◌, ◌++◌, length, map, take, drop, get_or, position, Option, Some, None, refl, ap, sym, ◌∙◌, arith}
use Rattle.std.proofs.Math.ListN.{length-take}
use Rattle.std.specs.List.{list_any, position_from}
use Rattle.std.specs.Map.{lookup}
use Rattle.std.specs.Str.{bytes_eq}
use Rattle.std.proofs.lemmas.List.{drop_more, drop_all, take_all, take_more, length-map}
use Rattle.std.proofs.lemmas.Iterator.Adapters.{position_from-zero}
use Rattle.std.proofs.lemmas.Slice.Eq.{bytes_eq-Decides}
use Rattle.param_proto.specs.declared.params.Param.{Param}
use Rattle.param_proto.specs.Params.{cleaned, same_id, normal}
use Rattle.param_proto.specs.Server.{has_id, place_of, twice_from, twice_named}
use Rattle.param_proto.specs.Places.{place_in, HasAdded, IsIndex}
use Rattle.param_proto.proofs.Ids.{cleaned_twice}

-- ---- the first index, counted from any number

any_found : (t : Param → Bool) (i : ℕ) (ps : List Param) → list_any t ps ≡ is_some (position_from t i ps)
any_found t i [] = refl
any_found t i (p ∷ ps) =
    elim (t p) as (λ b. (b || list_any t ps) ≡ is_some (cond b (Some i) (position_from t (i + 1) ps))) [
      | true ↦ refl
      | false ↦ any_found t (i + 1) ps
    ]

-- one more at the end
found_before : (t : Param → Bool) (i k : ℕ) (ps : List Param) (q : Param) → position_from t i ps ≡ Some k → position_from t i (ps ++ q ∷ []) ≡ Some k
found_before t i k [] q = λ found. absurd (let wrong : position_from t i [] ≡ Some k = found in cc)
found_before t i k (p ∷ ps) q =
    elim (t p) as (λ b. cond b (Some i) (position_from t (i + 1) ps) ≡ Some k → cond b (Some i) (position_from t (i + 1) (ps ++ q ∷ [])) ≡ Some k) [
      | true ↦ λ found. found
      | false ↦ λ found. found_before t (i + 1) k ps q found
    ]

found_last : (t : Param → Bool) (i : ℕ) (ps : List Param) (q : Param) → position_from t i ps ≡ None → position_from t i (ps ++ q ∷ []) ≡ cond (t q) (Some (i + length ps)) None
found_last t i [] q = λ none. let e : i + 0 ≡ i = omega arith in rw e refl
found_last t i (p ∷ ps) q =
    elim (t p) as (λ b. cond b (Some i) (position_from t (i + 1) ps) ≡ None → cond b (Some i) (position_from t (i + 1) (ps ++ q ∷ [])) ≡ cond (t q) (Some (i + length (p ∷ ps))) None) [
      | true ↦ λ none. absurd (let wrong : Some i ≡ None = none in cc)
      | false ↦ λ none.
          let e : i + 1 + length ps ≡ i + length (p ∷ ps) = omega arith in
          found_last t (i + 1) ps q none ∙ ap (λ k. cond (t q) (Some k) None) e
    ]

-- over parameters that are changed, where the test is the same
found_mapped : (t : Param → Bool) (f : Param → Param) (i : ℕ) (ps : List Param) → ((p : Param) → t (f p) ≡ t p) → position_from t i (map f ps) ≡ position_from t i ps
found_mapped t f i [] same = refl
found_mapped t f i (p ∷ ps) same = rw (same p) (ap (cond (t p) (Some i)) (found_mapped t f (i + 1) ps same))

at_zero : (t : Param → Bool) (ps : List Param) → position t ps ≡ position_from t 0 ps
at_zero t ps = position_from-zero t ps

-- ---- an id and another

same_cleaned : (a b : List ℕ) → same_id a b ≡ true → cleaned a ≡ cleaned b
same_cleaned a b same = (bytes_eq-Decides (cleaned a) (cleaned b)).0 same

place_more : (ps : List Param) (q : Param) (id : List ℕ) → place_of (ps ++ q ∷ []) id ≡ cond (is_some (place_of ps id)) (place_of ps id) (cond (same_id q.id id) (Some (length ps)) None)
place_more ps q id =
    let t = has_id id in
    let split : position_from t 0 (ps ++ q ∷ []) ≡ cond (is_some (position_from t 0 ps)) (position_from t 0 ps) (cond (t q) (Some (length ps)) None) =
    elim (position_from t 0 ps) as (λ o. position_from t 0 ps ≡ o → position_from t 0 (ps ++ q ∷ []) ≡ cond (is_some o) o (cond (t q) (Some (length ps)) None)) [
      | Some k ↦ λ e. found_before t 0 k ps q e
      | None ↦ λ e. let zero_more : 0 + length ps ≡ length ps = omega arith in found_last t 0 ps q e ∙ ap (λ k. cond (t q) (Some k) None) zero_more
    ] refl in
    at_zero t (ps ++ q ∷ []) ∙ (split ∙ sym (ap (λ o. cond (is_some o) o (cond (t q) (Some (length ps)) None)) (at_zero t ps)))

-- ---- the index

index_more : (before after : List (List ℕ × ℕ)) (ps : List Param) (q : Param) → IsIndex before ps → place_in before q.id ≡ None → HasAdded before after (cleaned q.id) (length ps) → IsIndex after (ps ++ q ∷ [])
index_more before after ps q index new added id =
    elim (same_id q.id id) as (λ b. same_id q.id id ≡ b → place_in after id ≡ place_of (ps ++ q ∷ []) id) [
      | true ↦ λ e.
          let same : cleaned q.id ≡ cleaned id = same_cleaned q.id id e in
          let none : place_of ps id ≡ None = sym (index id) ∙ (ap (λ l. lookup (bytes_eq l) before) (sym same) ∙ new) in
          let here : place_in after id ≡ Some (length ps) = added (cleaned id) ∙ ap (λ b. cond b (Some (length ps)) (place_in before id)) e in
          here ∙ sym (place_more ps q id ∙ (rw (none, e) refl))
      | false ↦ λ e.
          let here : place_in after id ≡ place_in before id = added (cleaned id) ∙ ap (λ b. cond b (Some (length ps)) (place_in before id)) e in
          here ∙ (index id ∙ sym (place_more ps q id ∙ (rw e (kept (place_of ps id)))))
    ] refl
  where
    kept : (o : Option ℕ) → cond (is_some o) o None ≡ o
    kept None = refl
    kept (Some k) = refl

-- what holds once the parameters before an index were added
pub record Indexed (ps : List Param) (pairs : List (List ℕ × ℕ)) (at : ℕ) : Type 0 where
  pub places : IsIndex pairs (take at ps)
  pub twice : twice_from (take at ps) at (drop at ps) ≡ twice_named ps

pub indexed_none : (ps : List Param) (pairs : List (List ℕ × ℕ)) → pairs ≡ [] → Indexed ps pairs 0
indexed_none ps pairs empty = record { places = λ id. ap (λ l. place_in l id) empty; twice = refl }

has_earlier : (ps : List Param) (pairs : List (List ℕ × ℕ)) (p : Param) → IsIndex pairs ps → list_any (has_id p.id) ps ≡ is_some (place_in pairs p.id)
has_earlier ps pairs p index = any_found (has_id p.id) 0 ps ∙ ap is_some (sym (at_zero (has_id p.id) ps) ∙ sym (index p.id))

-- the next one is compared with these
next_twice : (ps : List Param) (pairs : List (List ℕ × ℕ)) (at : ℕ) (d : Param) → Indexed ps pairs at → at < length ps
    → twice_named ps ≡ (if is_some (place_in pairs (get_or ps at d).id) then Some at else twice_from (take at ps ++ get_or ps at d ∷ []) (at + 1) (drop (at + 1) ps))
next_twice ps pairs at d of inside =
    let p : Param = get_or ps at d in
    sym of.twice
    ∙ (ap (twice_from (take at ps) at) (drop_more ps at d inside)
    ∙ ap (λ b. if b then Some at else twice_from (take at ps ++ p ∷ []) (at + 1) (drop (at + 1) ps)) (has_earlier (take at ps) pairs p of.places))

is_known : (b : Bool) → false ≡ not b → b ≡ true
is_known true e = refl
is_known false e = absurd (cc)

is_new : {X : Type 0} (o : Option X) → true ≡ not (is_some o) → o ≡ None
is_new None e = refl
is_new (Some x) e = absurd (let wrong : true ≡ false = e in cc)

pub indexed_twice : (ps : List Param) (pairs : List (List ℕ × ℕ)) (at : ℕ) (d : Param) → Indexed ps pairs at → at < length ps → false ≡ not (is_some (place_in pairs (get_or ps at d).id)) → twice_named ps ≡ Some at
indexed_twice ps pairs at d of inside known =
    next_twice ps pairs at d of inside
    ∙ ap (λ b. if b then Some at else twice_from (take at ps ++ get_or ps at d ∷ []) (at + 1) (drop (at + 1) ps)) (is_known (is_some (place_in pairs (get_or ps at d).id)) known)

pub indexed_more : (ps : List Param) (pairs after : List (List ℕ × ℕ)) (at : ℕ) (d : Param) → Indexed ps pairs at → at < length ps → true ≡ not (is_some (place_in pairs (get_or ps at d).id)) → HasAdded pairs after (cleaned (get_or ps at d).id) at → Indexed ps after (at + 1)
indexed_more ps pairs after at d of inside new added =
    let p : Param = get_or ps at d in
    let none : place_in pairs p.id ≡ None = is_new (place_in pairs p.id) new in
    let count : length (take at ps) ≡ at = omega (arith, length-take at ps) in
    let more : take (at + 1) ps ≡ take at ps ++ p ∷ [] = take_more ps at d inside in
    let put : HasAdded pairs after (cleaned p.id) (length (take at ps)) = rw count added in
    record {
      places = rw more (index_more pairs after (take at ps) p of.places none put);
      twice = rw more (sym (next_twice ps pairs at d of inside ∙ ap (λ o. if is_some o then Some at else twice_from (take at ps ++ p ∷ []) (at + 1) (drop (at + 1) ps)) none));
    }

pub indexed_all : (ps : List Param) (pairs : List (List ℕ × ℕ)) (at : ℕ) → Indexed ps pairs at → length ps ≤ at → IsIndex pairs ps
indexed_all ps pairs at of past = rw (take_all at ps past) at of.places

pub indexed_apart : (ps : List Param) (pairs : List (List ℕ × ℕ)) (at : ℕ) → Indexed ps pairs at → length ps ≤ at → twice_named ps ≡ None
indexed_apart ps pairs at of past = sym of.twice ∙ ap (twice_from (take at ps) at) (drop_all at ps past)

-- ---- normalised parameters have the same ids

has_id_normal : (id : List ℕ) (p : Param) → has_id id (normal p) ≡ has_id id p
has_id_normal id p = ap (λ l. bytes_eq l (cleaned id)) (cleaned_twice p.id)

pub index_normal : (pairs : List (List ℕ × ℕ)) (ps qs : List Param) → IsIndex pairs ps → qs ≡ map normal ps → IsIndex pairs qs
index_normal pairs ps qs index normalised id =
    let t = has_id id in
    index id ∙ (at_zero t ps ∙ (sym (found_mapped t normal 0 ps (has_id_normal id)) ∙ (sym (at_zero t (map normal ps)) ∙ ap (position t) (sym normalised))))

pub length_normal : (ps qs : List Param) → qs ≡ map normal ps → length qs ≡ length ps
length_normal ps qs normalised = ap length normalised ∙ length-map ps normal
