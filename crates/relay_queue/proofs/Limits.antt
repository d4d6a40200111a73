-- No more waits than may.
use Rattle.std.proofs.Common.{◌≡◌, ◌≤◌, ℕ, ◌+◌, ◌-◌, ◌==◌, nat_lt, Bool, true, false, if◌then◌else◌, List, [], ◌∷◌, ◌++◌, length, drop, Result, Ok, Err, OnOk, OnErr, refl, sym, subst, arith}
use Rattle.std.proofs.lemmas.Bool.Decides.{nat_tests}
use Rattle.std.proofs.lemmas.List.{length-drop}
use Rattle.std.specs.declared.alloc.AllocError.{AllocError}
use Rattle.relay_queue.specs.Queues.{QueueState, has_begun, newest, pushed, queue_of, size_of, taken, written}

-- a condition's two cases
pub by_cases : {A : Type 0} (P : A → Type 0) (b : Bool) (x y : A) → (b ≡ true → P x) → (b ≡ false → P y) → P (if b then x else y)
by_cases P true x y f g = f refl
by_cases P false x y f g = g refl

is_fit : (room size : ℕ) → nat_lt room size ≡ false → size ≤ room
is_fit room size e = grind (arith, nat_tests, e)

pub newest_few : (room : ℕ) (frames : List (List ℕ)) → size_of (newest room frames) ≤ room
newest_few room [] = omega arith
newest_few room (f ∷ fs) = by_cases (λ (l : List (List ℕ)). size_of l ≤ room) (nat_lt room (size_of (f ∷ fs))) (newest room fs) (f ∷ fs) (λ over. newest_few room fs) (λ fits. is_fit room (size_of (f ∷ fs)) fits)

pub push_few : (frame : List ℕ) (old new : QueueState) (result : Result ℕ AllocError) → length old.begun + size_of old.waiting ≤ 1048576 → OnOk result (new ≡ pushed frame old) → OnErr result (new ≡ old) → length new.begun + size_of new.waiting ≤ 1048576
push_few frame old new (Ok n) few is same =
    let fits = newest_few (1048576 - length old.begun) (old.waiting ++ frame ∷ []) in
    subst (λ (s : QueueState). length s.begun + size_of s.waiting ≤ 1048576) (sym is) (omega (arith, few, fits))
push_few frame old new (Err e) few is same = subst (λ (s : QueueState). length s.begun + size_of s.waiting ≤ 1048576) (sym same) few

pub written_fewer : (count : ℕ) (frames : List (List ℕ)) → length (written count frames).begun + size_of (written count frames).waiting ≤ size_of frames
written_fewer count [] = omega arith
written_fewer count (f ∷ fs) =
    by_cases (λ (s : QueueState). length s.begun + size_of s.waiting ≤ size_of (f ∷ fs)) (count == 0) (queue_of [] (f ∷ fs)) (if nat_lt count (length f) then queue_of (drop count f) fs else written (count - length f) fs)
    (λ none. omega arith)
    (λ some. by_cases (λ (s : QueueState). length s.begun + size_of s.waiting ≤ size_of (f ∷ fs)) (nat_lt count (length f)) (queue_of (drop count f) fs) (written (count - length f) fs)
    (λ part. let rest = length-drop count f in omega (arith, rest))
    (λ whole. let less = written_fewer (count - length f) fs in omega (arith, less)))

pub taken_fewer : (count : ℕ) (queue : QueueState) → length (taken count queue).begun + size_of (taken count queue).waiting ≤ length queue.begun + size_of queue.waiting
taken_fewer count queue =
    by_cases (λ (s : QueueState). length s.begun + size_of s.waiting ≤ length queue.begun + size_of queue.waiting) (has_begun queue) (queue_of (drop count queue.begun) queue.waiting) (written count queue.waiting)
    (λ begun. let rest = length-drop count queue.begun in omega (arith, rest))
    (λ none. let less = written_fewer count queue.waiting in omega (arith, less))
