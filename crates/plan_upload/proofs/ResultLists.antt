-- The kept results: what they say of a stream, by the index of its result in the list.
use Rattle.std.proofs.Common.{◌≡◌, ℕ, suc, zero, ◌<◌, ◌≤◌, Bool, true, false, cond, nat_lt, is_some, IsTrue, List, [], ◌∷◌, ◌++◌, length, Some, None, refl, ap, sym, ◌∙◌, get_or, position, arith}
use borrow.Author.Tests.{ltb-true}
use Rattle.std.specs.List.{position_or_len}
use Rattle.std.proofs.Math.ListN.{set}
use Rattle.std.proofs.lemmas.List.{length-map}
use Rattle.std.proofs.lemmas.List.Quantifiers.{position-Some}
use Rattle.std.proofs.lemmas.List.Sums.{fails_before_first}
use Rattle.std.proofs.lemmas.List.Recursion.{found_at, found_nowhere}
use Rattle.mav_names.specs.declared.names.Stream.{Stream}
use Rattle.plan_upload.specs.Addresses.{same_stream}
use Rattle.plan_upload.specs.Drone.{UploadResult, result_of, with_result}
use Rattle.plan_upload.specs.Room.{has_place}
use Rattle.plan_upload.specs.Results.{result_view, results_view}
use Rattle.plan_upload.specs.declared.results.StreamResult.{StreamResult}

-- a result is that of the stream
abbrev pub is_for : Stream → StreamResult → Bool
is_for s r = same_stream r.stream s

-- if no index is found, the search went past the end
past_end : (rs : List StreamResult) (s : Stream) → position (is_for s) rs ≡ None → length rs ≤ position_or_len (is_for s) rs
past_end rs s none = grind arith

-- and none of the results is that of the stream
pub all_others : (rs : List StreamResult) (s : Stream) (d : StreamResult) → position (is_for s) rs ≡ None → (k : ℕ) → k < length rs → is_for s (get_or rs k d) ≡ false
all_others rs s d none k inside =
    let past : length rs ≤ position_or_len (is_for s) rs = past_end rs s none in
    fails_before_first (is_for s) rs k d (omega arith)

-- what is kept at the index that was found
pub result_of-Some : (rs : List StreamResult) (s : Stream) (i : ℕ) (d : StreamResult) → position (is_for s) rs ≡ Some i → result_of (results_view rs) s ≡ Some (get_or rs i d).installed
result_of-Some rs s i d some =
    let at : (i < length rs) × (is_for s (get_or rs i d) ≡ true) × ((k : ℕ) → k < i → is_for s (get_or rs k d) ≡ false) = position-Some (is_for s) rs i d some in
    found_at (λ xs. result_of (results_view xs) s) (is_for s) (λ r. Some r.installed) None refl (λ x xs. refl) rs i d at.0 at.2 at.1

pub result_of-None : (rs : List StreamResult) (s : Stream) (d : StreamResult) → position (is_for s) rs ≡ None → result_of (results_view rs) s ≡ None
result_of-None rs s d none =
    found_nowhere (λ xs. result_of (results_view xs) s) (is_for s) (λ r. Some r.installed) None refl (λ x xs. refl) rs d (all_others rs s d none)

-- a result that replaces an earlier one
with_result-at : (rs : List StreamResult) (s : Stream) (b : Bool) (i : ℕ) (d : StreamResult) → i < length rs → is_for s (get_or rs i d) ≡ true → ((k : ℕ) → k < i → is_for s (get_or rs k d) ≡ false)
    → results_view (set rs i (record { stream = (get_or rs i d).stream; installed = b })) ≡ with_result (results_view rs) s b
with_result-at [] s b i d inside here below = absurd (omega arith)
with_result-at (r ∷ rs) s b zero d inside here below = rw here refl
with_result-at (r ∷ rs) s b (suc i) d inside here below =
    let first : is_for s r ≡ false = below 0 (omega arith) in
    let rest : results_view (set rs i (record { stream = (get_or rs i d).stream; installed = b })) ≡ with_result (results_view rs) s b =
    with_result-at rs s b i d (omega arith) here (λ k h. below (suc k) (omega arith)) in
    rw first (ap (λ xs. result_view r ∷ xs) rest)

pub with_result-Some : (rs : List StreamResult) (s : Stream) (b : Bool) (i : ℕ) (d : StreamResult) → position (is_for s) rs ≡ Some i
    → results_view (set rs i (record { stream = (get_or rs i d).stream; installed = b })) ≡ with_result (results_view rs) s b
with_result-Some rs s b i d some =
    let at : (i < length rs) × (is_for s (get_or rs i d) ≡ true) × ((k : ℕ) → k < i → is_for s (get_or rs k d) ≡ false) = position-Some (is_for s) rs i d some in
    with_result-at rs s b i d at.0 at.1 at.2

-- a result after all others
with_result-end : (rs : List StreamResult) (s : Stream) (b : Bool) (d : StreamResult) → ((k : ℕ) → k < length rs → is_for s (get_or rs k d) ≡ false)
    → results_view (rs ++ record { stream = s; installed = b } ∷ []) ≡ with_result (results_view rs) s b
with_result-end [] s b d others = refl
with_result-end (r ∷ rs) s b d others =
    let first : is_for s r ≡ false = others 0 (omega arith) in
    let rest : results_view (rs ++ record { stream = s; installed = b } ∷ []) ≡ with_result (results_view rs) s b =
    with_result-end rs s b d (λ k h. others (suc k) (omega arith)) in
    rw first (ap (λ xs. result_view r ∷ xs) rest)

pub with_result-None : (rs : List StreamResult) (s : Stream) (b : Bool) → position (is_for s) rs ≡ None
    → results_view (rs ++ record { stream = s; installed = b } ∷ []) ≡ with_result (results_view rs) s b
with_result-None rs s b none =
    with_result-end rs s b (record { stream = s; installed = b }) (all_others rs s (record { stream = s; installed = b }) none)

-- a new result of the stream is found at the stream's own index
pub result_of-with_result : (rs : List UploadResult) (s : Stream) (b : Bool) → same_stream s s ≡ true → result_of (with_result rs s b) s ≡ Some b
result_of-with_result [] s b same = rw same refl
result_of-with_result (r ∷ rs) s b same =
    elim (same_stream r.stream s) as (λ t. same_stream r.stream s ≡ t → result_of (cond t (record { stream = r.stream; installed = b } ∷ rs) (r ∷ with_result rs s b)) s ≡ Some b) [
      | true ↦ λ e. rw e refl
      | false ↦ λ e. rw e (result_of-with_result rs s b same)
    ] refl

-- a stream that has none yet, but room for one, leaves room for one result more
pub room_left : (rs : List StreamResult) (s : Stream) (d : StreamResult) → position (is_for s) rs ≡ None → IsTrue (has_place (results_view rs) s) → length rs < 256
room_left rs s d none place =
    let missing : result_of (results_view rs) s ≡ None = result_of-None rs s d none in
    let short : IsTrue (nat_lt (length (results_view rs)) 256) = rw missing at place in
    let same : length (results_view rs) ≡ length rs = length-map rs result_view in
    omega (arith, same, ltb-true, short)

-- the same for a list `xs` that is read in place of `rs`, whose view is `seen`
pub read_result : (rs xs : List StreamResult) (seen : List UploadResult) (s : Stream) (i : ℕ) (d : StreamResult) → xs ≡ rs → results_view rs ≡ seen → position (is_for s) xs ≡ Some i → d ≡ get_or rs i d
    → Some d.installed ≡ result_of seen s
read_result rs xs seen s i d same view some read =
    let found : position (is_for s) rs ≡ Some i = rw (← same) some in
    let answer : result_of (results_view rs) s ≡ Some (get_or rs i d).installed = result_of-Some rs s i d found in
    rw (← view) (ap (λ r. Some r.installed) read ∙ sym answer)

pub read_nothing : (rs xs : List StreamResult) (seen : List UploadResult) (s : Stream) → xs ≡ rs → results_view rs ≡ seen → position (is_for s) xs ≡ None → result_of seen s ≡ None
read_nothing rs xs seen s same view none =
    let missing : position (is_for s) rs ≡ None = rw (← same) none in
    rw (← view) (result_of-None rs s (record { stream = s; installed = false }) missing)

pub write_result : (rs xs : List StreamResult) (seen : List UploadResult) (s : Stream) (b : Bool) (i : ℕ) (d : StreamResult) → xs ≡ rs → results_view rs ≡ seen → position (is_for s) xs ≡ Some i → d ≡ get_or rs i d
    → results_view (set rs i (record { stream = d.stream; installed = b })) ≡ with_result seen s b
write_result rs xs seen s b i d same view some read =
    let found : position (is_for s) rs ≡ Some i = rw (← same) some in
    ap (λ r. results_view (set rs i (record { stream = r.stream; installed = b }))) read
    ∙ with_result-Some rs s b i d found ∙ ap (λ v. with_result v s b) view

pub write_new : (rs xs ys : List StreamResult) (seen : List UploadResult) (s : Stream) (b : Bool) → xs ≡ rs → results_view rs ≡ seen → position (is_for s) xs ≡ None → ys ≡ rs ++ record { stream = s; installed = b } ∷ []
    → results_view ys ≡ with_result seen s b
write_new rs xs ys seen s b same view none pushed =
    let missing : position (is_for s) rs ≡ None = rw (← same) none in
    ap results_view pushed ∙ with_result-None rs s b missing ∙ ap (λ v. with_result v s b) view

pub room_for_new : (rs xs : List StreamResult) (seen : List UploadResult) (s : Stream) → xs ≡ rs → results_view rs ≡ seen → position (is_for s) xs ≡ None → IsTrue (has_place seen s) → length rs < 256
room_for_new rs xs seen s same view none place =
    let missing : position (is_for s) rs ≡ None = rw (← same) none in
    let here : IsTrue (has_place (results_view rs) s) = rw view place in
    room_left rs s (record { stream = s; installed = false }) missing here

same_stream-self : (s : Stream) → same_stream s s ≡ true
same_stream-self s = grind arith

-- a stream has a result once one of it was added
pub has_result_now : (rs : List UploadResult) (s : Stream) (b : Bool) → IsTrue (is_some (result_of (with_result rs s b) s))
has_result_now rs s b = rw (result_of-with_result rs s b (same_stream-self s)) refl
