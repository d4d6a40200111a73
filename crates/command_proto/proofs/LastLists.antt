-- The last commands that are kept: what they say of a stream, by the index of its entry in the list.
use Rattle.std.proofs.Common.{◌≡◌, ℕ, suc, zero, ◌<◌, ◌≤◌, Bool, true, false, List, [], ◌∷◌, ◌++◌, length, Some, None, refl, ap, sym, ◌∙◌, get_or, position, arith}
use Rattle.std.specs.Prelude.{IsFalse}
use Rattle.std.specs.List.{position_or_len}
use Rattle.std.proofs.Math.ListN.{set}
use Rattle.std.proofs.lemmas.List.Quantifiers.{position-Some}
use Rattle.std.proofs.lemmas.List.Sums.{fails_before_first}
use Rattle.std.proofs.lemmas.List.Recursion.{found_at, found_nowhere}
use Rattle.mav_names.specs.declared.names.Stream.{Stream}
use Rattle.mav_names.specs.Addresses.{same_stream}
use Rattle.command_proto.specs.Executor.{LastCommand, last_in, with_last, has_no_room}

-- an entry is that of the stream
abbrev pub is_for : Stream → LastCommand → Bool
is_for s l = same_stream l.stream s

-- if no index is found, the search went past the end
past_end : (ls : List LastCommand) (s : Stream) → position (is_for s) ls ≡ None → length ls ≤ position_or_len (is_for s) ls
past_end ls s none = grind arith

-- and none of the entries is that of the stream
all_others : (ls : List LastCommand) (s : Stream) (d : LastCommand) → position (is_for s) ls ≡ None → (k : ℕ) → k < length ls → is_for s (get_or ls k d) ≡ false
all_others ls s d none k inside =
    let past : length ls ≤ position_or_len (is_for s) ls = past_end ls s none in
    fails_before_first (is_for s) ls k d (omega arith)

-- what is kept at the index that was found
last_in-Some : (ls : List LastCommand) (s : Stream) (i : ℕ) (d : LastCommand) → position (is_for s) ls ≡ Some i → last_in ls s ≡ Some (get_or ls i d)
last_in-Some ls s i d some =
    let at : (i < length ls) × (is_for s (get_or ls i d) ≡ true) × ((k : ℕ) → k < i → is_for s (get_or ls k d) ≡ false) = position-Some (is_for s) ls i d some in
    found_at (λ xs. last_in xs s) (is_for s) (λ l. Some l) None refl (λ x xs. refl) ls i d at.0 at.2 at.1

last_in-None : (ls : List LastCommand) (s : Stream) (d : LastCommand) → position (is_for s) ls ≡ None → last_in ls s ≡ None
last_in-None ls s d none =
    found_nowhere (λ xs. last_in xs s) (is_for s) (λ l. Some l) None refl (λ x xs. refl) ls d (all_others ls s d none)

-- an entry that replaces an earlier one
with_last-at : (ls : List LastCommand) (new : LastCommand) (i : ℕ) → i < length ls → is_for new.stream (get_or ls i new) ≡ true → ((k : ℕ) → k < i → is_for new.stream (get_or ls k new) ≡ false)
    → set ls i new ≡ with_last ls new
with_last-at [] new i inside here below = absurd (omega arith)
with_last-at (l ∷ ls) new zero inside here below = rw here refl
with_last-at (l ∷ ls) new (suc i) inside here below =
    let first : is_for new.stream l ≡ false = below 0 (omega arith) in
    rw first (ap (λ xs. l ∷ xs) (with_last-at ls new i (omega arith) here (λ k h. below (suc k) (omega arith))))

-- an entry after all others
with_last-end : (ls : List LastCommand) (new : LastCommand) → ((k : ℕ) → k < length ls → is_for new.stream (get_or ls k new) ≡ false) → ls ++ new ∷ [] ≡ with_last ls new
with_last-end [] new others = refl
with_last-end (l ∷ ls) new others =
    let first : is_for new.stream l ≡ false = others 0 (omega arith) in
    rw first (ap (λ xs. l ∷ xs) (with_last-end ls new (λ k h. others (suc k) (omega arith))))

-- the same for a list `xs` that is read in place of `ls`
pub read_last : (ls xs : List LastCommand) (s : Stream) (i : ℕ) (d : LastCommand) → xs ≡ ls → position (is_for s) xs ≡ Some i → d ≡ get_or ls i d → Some d ≡ last_in ls s
read_last ls xs s i d same some read =
    let found : position (is_for s) ls ≡ Some i = rw (← same) some in
    ap (λ l. Some l) read ∙ sym (last_in-Some ls s i d found)

pub read_nothing : (ls xs : List LastCommand) (s : Stream) → xs ≡ ls → position (is_for s) xs ≡ None → last_in ls s ≡ None
read_nothing ls xs s same none =
    let missing : position (is_for s) ls ≡ None = rw (← same) none in
    last_in-None ls s (record { stream = s; command = record { number = 0; params = [] }; result = 0 }) missing

pub replaced : (ls xs : List LastCommand) (new : LastCommand) (i : ℕ) → xs ≡ ls → position (is_for new.stream) xs ≡ Some i → set ls i new ≡ with_last ls new
replaced ls xs new i same some =
    let found : position (is_for new.stream) ls ≡ Some i = rw (← same) some in
    let at : (i < length ls) × (is_for new.stream (get_or ls i new) ≡ true) × ((k : ℕ) → k < i → is_for new.stream (get_or ls k new) ≡ false) = position-Some (is_for new.stream) ls i new found in
    with_last-at ls new i at.0 at.1 at.2

pub added : (ls xs ys : List LastCommand) (new : LastCommand) → xs ≡ ls → position (is_for new.stream) xs ≡ None → ys ≡ ls ++ new ∷ [] → ys ≡ with_last ls new
added ls xs ys new same none pushed =
    let missing : position (is_for new.stream) ls ≡ None = rw (← same) none in
    pushed ∙ with_last-end ls new (all_others ls new.stream new missing)

-- a stream without an entry has room for one if one more is kept
pub room_for_new : (ls xs : List LastCommand) (new : LastCommand) → xs ≡ ls → position (is_for new.stream) xs ≡ None → IsFalse (has_no_room (last_in ls new.stream) ls) → length ls < 256
room_for_new ls xs new same none room =
    let missing : last_in ls new.stream ≡ None = read_nothing ls xs new.stream same none in
    let short : IsFalse (has_no_room None ls) = rw missing at room in
    grind arith
