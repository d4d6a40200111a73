-- Lists of keys that are kept with the elements that have them.
use Rattle.std.proofs.Common.{◌≡◌, ◌==◌, ℕ, suc, ◌+◌, ◌<◌, ◌≤◌, Bool, true, false, not, ◌||◌, if◌then◌else◌, cond, ltb, eqb, List, [], ◌∷◌, ◌++◌, length, get_or, take, map, slice_get, position, find, Option, Some, None, Ok, Err, OnOk, refl, sym, ap, ◌∙◌, arith}
use Rattle.std.proofs.lemmas.Bool.Decides.{nat_tests}
use Rattle.std.proofs.lemmas.List.{map-append, append-nil, length-map, length-append, take_at, take_more}
use Rattle.std.proofs.lemmas.List.Elements.{filter_map-append}
use Rattle.std.proofs.lemmas.List.Folds.{find_at, position_or_len_push}
use Rattle.std.proofs.lemmas.List.Sums.{fold_more}
use Rattle.std.proofs.lemmas.Option.{none-some, slice_get_past}
use Rattle.std.specs.Global.{Vec}
use Rattle.std.specs.Result.{is_err, OnErr}
use Rattle.std.specs.declared.result.Result.{Result}
use Rattle.std.specs.List.{list_any, filter_map, position_or_len}
use Rattle.std.specs.Str.{bytes_eq}
use Rattle.std.specs.BTreeMap.{insert_entry}
use Rattle.std.specs.Ordering.{nat_cmp}
use Rattle.indexmap.specs.IndexSet.{insert_key}
use Rattle.std.specs.Option.{is_some}
use Rattle.field_layout.specs.Definition.{Definition}
use Rattle.dialect.specs.Grammar.{has_id}
use Rattle.dialect.specs.Indices.{index_with}
use Rattle.field_layout.specs.CrcExtra.{crc_extra_of}
use Rattle.mav_profile.specs.Messages.{with_extra, extras_of}
use Rattle.dialect.specs.Spelled.{bytes_of}

pub list_any-map : {X Y : Type 0} (f : X → Y) (p : Y → Bool) (xs : List X) → list_any p (map f xs) ≡ list_any (λ x. p (f x)) xs
list_any-map f p [] = refl
list_any-map f p (x ∷ xs) = ap (λ others. p (f x) || others) (list_any-map f p xs)

less_again : (k n : ℕ) → ltb (1 + k) (suc n) ≡ ltb k n
less_again k n = by (ltb k n) refl
  where
    by : (b : Bool) → ltb k n ≡ b → ltb (1 + k) (suc n) ≡ b
    by true h = grind (arith, nat_tests)
    by false h = grind (arith, nat_tests)

place_new : (k n : ℕ) → k ≤ n → ltb k n ≡ false → cond (ltb (cond (eqb k n) (n + 0) k) (n + 1)) (Some (cond (eqb k n) (n + 0) k)) None ≡ Some n
place_new k n within past =
    let same : eqb k n ≡ true = grind (arith, nat_tests) in
    let below : ltb (n + 0) (n + 1) ≡ true = grind (arith, nat_tests) in
    rw same (rw below (ap Some (omega arith)))

place_kept : (k n : ℕ) → k ≤ n → cond (ltb (cond (eqb k n) (n + 1) k) (n + 1)) (Some (cond (eqb k n) (n + 1) k)) None ≡ cond (ltb k n) (Some k) None
place_kept k n within = by (eqb k n) refl
  where
    by : (b : Bool) → eqb k n ≡ b → cond (ltb (cond b (n + 1) k) (n + 1)) (Some (cond b (n + 1) k)) None ≡ cond (ltb k n) (Some k) None
    by true same =
        let past : ltb (n + 1) (n + 1) ≡ false = grind (arith, nat_tests) in
        let end : ltb k n ≡ false = grind (arith, nat_tests) in
        rw past (rw end refl)
    by false other =
        let below : ltb k (n + 1) ≡ true = grind (arith, nat_tests) in
        let there : ltb k n ≡ true = grind (arith, nat_tests) in
        rw below (rw there refl)

module _ {X : Type 0} (p : X → Bool) where
  position_within : (xs : List X) → position_or_len p xs ≤ length xs
  position_within [] = omega arith
  position_within (x ∷ xs) = by (p x) (position_within xs)
    where
      by : (b : Bool) → position_or_len p xs ≤ length xs → cond (not b) (1 + position_or_len p xs) 0 ≤ length (x ∷ xs)
      by true h = omega arith
      by false h = omega (arith, h)

  any_at : (xs : List X) → ltb (position_or_len p xs) (length xs) ≡ list_any p xs
  any_at [] = refl
  any_at (x ∷ xs) = by (p x) (any_at xs)
    where
      by : (b : Bool) → ltb (position_or_len p xs) (length xs) ≡ list_any p xs → ltb (cond (not b) (1 + position_or_len p xs) 0) (length (x ∷ xs)) ≡ (b || list_any p xs)
      by true h = grind (arith, nat_tests)
      by false h = less_again (position_or_len p xs) (length xs) ∙ h

  -- there is a first index of an element that passes if one does
  pub position-any : (xs : List X) → is_some (position p xs) ≡ list_any p xs
  position-any xs = by (ltb (position_or_len p xs) (length xs)) ∙ any_at xs
    where
      by : (b : Bool) → is_some (cond b (Some (position_or_len p xs)) None) ≡ b
      by true = refl
      by false = refl

  -- with one element more it is the same, or that of the new one if no other passes
  pub position-push : (xs : List X) (y : X) → (p y ≡ true → list_any p xs ≡ false) → position p (xs ++ y ∷ []) ≡ cond (p y) (Some (length xs)) (position p xs)
  position-push xs y new =
      let first : ℕ → ℕ = λ n. cond (eqb (position_or_len p xs) n) (n + cond (p y) 0 1) (position_or_len p xs) in
      ap (λ k. cond (ltb k (length (xs ++ y ∷ []))) (Some k) None) (position_or_len_push p xs y)
      ∙ ap (λ count. cond (ltb (first (length xs)) count) (Some (first (length xs))) None) (length-append xs (y ∷ []))
      ∙ by (p y) (λ passes. any_at xs ∙ new passes)
    where
      by : (b : Bool) → (b ≡ true → ltb (position_or_len p xs) (length xs) ≡ false)
          → cond (ltb (cond (eqb (position_or_len p xs) (length xs)) (length xs + cond b 0 1) (position_or_len p xs)) (length xs + 1)) (Some (cond (eqb (position_or_len p xs) (length xs)) (length xs + cond b 0 1) (position_or_len p xs))) None
          ≡ cond b (Some (length xs)) (position p xs)
      by true none = place_new (position_or_len p xs) (length xs) (position_within xs) (none refl)
      by false none = place_kept (position_or_len p xs) (length xs) (position_within xs)

module _ {X : Type 0} (p : X → Bool) (xs : List X) where
  -- the first element that passes is at the first index of one
  pub find-position : (k : ℕ) → position p xs ≡ Some k → find p xs ≡ slice_get xs k
  find-position k there =
      let at : position_or_len p xs ≡ k =
      elim (ltb (position_or_len p xs) (length xs)) as (λ below. cond below (Some (position_or_len p xs)) None ≡ Some k → position_or_len p xs ≡ k) [
        | true ↦ λ h. cc
        | false ↦ λ h. absurd (cc)
      ] there in
      find_at p xs ∙ ap (slice_get xs) at

  -- and no element passes if there is no such index
  pub find-nowhere : position p xs ≡ None → find p xs ≡ None
  find-nowhere none =
      let end = position_or_len p xs in
      let past : length xs ≤ end =
      elim (ltb end (length xs)) as (λ below. ltb end (length xs) ≡ below → cond below (Some end) None ≡ None → length xs ≤ end) [
        | true ↦ λ t h. absurd (none-some end (sym h))
        | false ↦ λ t h. grind (arith, nat_tests)
      ] refl none in
      find_at p xs ∙ slice_get_past xs end past

-- the index of an id once a message of another id is added
pub index-more : (defs : List Definition) (def : Definition) (id : ℕ) → has_id defs def.id ≡ false → cond (def.id == id) (Some (length defs)) (index_with id defs) ≡ index_with id (defs ++ def ∷ [])
index-more defs def id new =
    let turned : (def.id == id) ≡ (id == def.id) = grind (arith, nat_tests) in
    ap (λ b. cond b (Some (length defs)) (index_with id defs)) turned
    ∙ sym (position-push (λ other. id == other.id) defs def (λ same.
    let is : id ≡ def.id = grind (arith, nat_tests) in
    ap (has_id defs) is ∙ new))

-- a new name is added after the others
pub names-insert_key : (keys : List (Vec ℕ)) (text : Vec ℕ) (name : List ℕ) (known : List (List ℕ))
    → text.items ≡ name → map bytes_of keys ≡ known → list_any (bytes_eq name) known ≡ false
    → map bytes_of (insert_key (λ (k other : Vec ℕ). bytes_eq k.items other.items) keys text) ≡ known ++ name ∷ []
names-insert_key keys text name known same view new =
    let absent : list_any (λ (other : Vec ℕ). bytes_eq text.items other.items) keys ≡ false =
    sym (list_any-map bytes_of (bytes_eq text.items) keys) ∙ ap (λ names. list_any (bytes_eq text.items) names) view
    ∙ ap (λ bytes. list_any (bytes_eq bytes) known) same ∙ new in
    ap (λ there. map bytes_of (if there then keys else keys ++ text ∷ [])) absent
    ∙ map-append bytes_of keys (text ∷ [])
    ∙ ap (λ names. names ++ text.items ∷ []) view
    ∙ ap (λ bytes. known ++ bytes ∷ []) same

module _ {X Y : Type 0} (h : X → Option Y) (xs : List X) (i : ℕ) (x : X) (within : i < length xs) (at : x ≡ get_or xs i x) where
  one-more : take (i + 1) xs ≡ take i xs ++ x ∷ []
  one-more = take_more xs i x within ∙ ap (λ y. take i xs ++ y ∷ []) (sym at)

  -- what is given of one more element is last
  pub filter_map-more : (y : Y) → h x ≡ Some y → filter_map h (take (i + 1) xs) ≡ filter_map h (take i xs) ++ y ∷ []
  filter_map-more y given = ap (filter_map h) one-more ∙ filter_map-append h (take i xs) (x ∷ []) ∙ rw given refl

  -- and if nothing is given, nothing is added
  pub filter_map-no_more : h x ≡ None → filter_map h (take (i + 1) xs) ≡ filter_map h (take i xs)
  filter_map-no_more none = ap (filter_map h) one-more ∙ filter_map-append h (take i xs) (x ∷ []) ∙ rw none (append-nil _)

-- what holds whether a call fails or not
when_err : {Fault P : Type 0} (r : Result Unit Fault) → true ≡ is_err r → OnErr r P → P
when_err (Ok _) failed h = absurd (cc)
when_err (Err _) failed h = h

when_ok : {Fault P : Type 0} (r : Result Unit Fault) → false ≡ is_err r → OnOk r P → P
when_ok (Ok _) well h = h
when_ok (Err _) well h = absurd (cc)

-- a name that was added is removed again, or its message is added too
module _ {Fault : Type 0} {X : Type 0} (key : X → List ℕ) (names added : List (List ℕ)) (name : List ℕ) (old new : List X) (r : Result Unit Fault)
    (more : added ≡ names ++ name ∷ []) (were : names ≡ map key old) where
  pub names-cut : (cut : List (List ℕ)) (count : ℕ) → cut ≡ take count added → count ≡ length old
      → true ≡ is_err r → OnErr r (new ≡ old) → cut ≡ map key new
  names-cut cut count taken counted failed unchanged =
      let kept : take count (map key old ++ name ∷ []) ≡ map key old =
      take_at (map key old) (name ∷ []) count (length-map old key ∙ sym counted) in
      taken ∙ ap (take count) (more ∙ ap (λ names. names ++ name ∷ []) were) ∙ kept ∙ ap (map key) (sym (when_err r failed unchanged))

  pub names-added : (x : X) → name ≡ key x → false ≡ is_err r → OnOk r (new ≡ old ++ x ∷ []) → added ≡ map key new
  names-added x is well kept =
      more
      ∙ ap (λ names. names ++ name ∷ []) were
      ∙ ap (λ name. map key old ++ name ∷ []) is
      ∙ sym (ap (map key) (when_ok r well kept) ∙ map-append key old (x ∷ []))

-- the CRC_EXTRA of one more message
pub one-extra : (defs : List Definition) (i : ℕ) (def : Definition) (before more : List (ℕ × ℕ)) (id crc : ℕ) → i < length defs → def ≡ get_or defs i def
    → before ≡ extras_of (take i defs) → more ≡ insert_entry nat_cmp before id crc → id ≡ def.id → crc ≡ crc_extra_of def
    → more ≡ extras_of (take (i + 1) defs)
one-extra defs i def before more id crc within here were inserted is_id is_crc =
    let pairs = extras_of (take i defs) in
    inserted
    ∙ ap (λ pairs. insert_entry nat_cmp pairs id crc) were
    ∙ ap (λ id. insert_entry nat_cmp pairs id crc) is_id
    ∙ ap (λ crc. insert_entry nat_cmp pairs def.id crc) is_crc
    ∙ ap (with_extra pairs) here
    ∙ sym (fold_more with_extra [] defs i def within)
