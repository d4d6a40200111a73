-- What a push, a write and a close leave of what was delivered.
use Rattle.std.proofs.Common.{◌≡◌, ◌∙◌, ◌<◌, ◌≤◌, inl, inr, ℕ, zero, suc, ◌+◌, ◌-◌, ◌==◌, nat_lt, Bool, true, false, if◌then◌else◌, List, [], ◌∷◌, ◌++◌, length, take, drop, refl, sym, ap, subst, arith, append_assoc, length-append}
use Rattle.std.specs.List.{concat}
use Rattle.std.proofs.lemmas.Bool.{cases_Bool}
use Rattle.std.proofs.lemmas.Bool.Decides.{nat_tests}
use Rattle.std.proofs.lemmas.List.{append-nil, length-drop, take-append-drop, take-append-le}
use Rattle.relay_queue.specs.Queues.{QueueState, count_of, has_begun, newest, next_bytes, pushed, queue_of, size_of, taken, written}
use Rattle.relay_queue.specs.Deliveries.{Delivered, Delivers, LeavesOut}
use Rattle.relay_queue.proofs.Frames.{is_empty, is_less, next_begun, next_waiting}
use Rattle.relay_queue.proofs.Limits.{by_cases}

-- ---- lists without some of their items

nil_or : {A : Type 0} (xs : List A) (y : A) (ys : List A) → xs ++ y ∷ ys ≡ [] → ⊥
nil_or [] y ys e = absurd (cc)
nil_or (x ∷ xs) y ys e = absurd (cc)

pub leaves_one_more : {A : Type 0} (x : A) (n : ℕ) (xs kept : List A) → LeavesOut n xs kept → LeavesOut n (xs ++ x ∷ []) (kept ++ x ∷ [])
leaves_one_more x n [] kept l = inl ([], ap (λ k. k ++ x ∷ []) l.1, (l.0, refl))
leaves_one_more x n (y ∷ xs) kept (inl l) = inl (l.0 ++ x ∷ [], ap (λ k. k ++ x ∷ []) l.1, leaves_one_more x n xs l.0 l.2)
leaves_one_more x n (y ∷ xs) kept (inr l) = inr (l.0, l.1, leaves_one_more x l.0 xs kept l.2)

same_tail : {A : Type 0} {x y : A} {xs ys : List A} → x ∷ xs ≡ y ∷ ys → xs ≡ ys
same_tail {A} {x} {y} {xs} {ys} e = cc

same_head : {A : Type 0} {x y : A} {xs ys : List A} → x ∷ xs ≡ y ∷ ys → x ≡ y
same_head {A} {x} {y} {xs} {ys} e = cc

pub leaves_one_less : {A : Type 0} (b : A) (n : ℕ) (xs front rest : List A) → LeavesOut n xs (front ++ b ∷ rest) → LeavesOut (suc n) xs (front ++ rest)
leaves_one_less b n [] front rest l = absurd (nil_or front b rest l.1)
leaves_one_less b n (x ∷ xs) [] rest (inl l) = inr (n, refl, subst (λ k. LeavesOut n xs k) (sym (same_tail l.1)) l.2)
leaves_one_less b n (x ∷ xs) (a ∷ front) rest (inl l) =
    inl (front ++ rest, ap (λ y. y ∷ (front ++ rest)) (same_head l.1), leaves_one_less b n xs front rest (subst (λ k. LeavesOut n xs k) (sym (same_tail l.1)) l.2))
leaves_one_less b n (x ∷ xs) front rest (inr l) = inr (suc l.0, ap suc l.1, leaves_one_less b l.0 xs front rest l.2)

-- ---- the oldest frames are dropped

less_or : (n m : ℕ) → m ≤ n → suc (n - m) ≡ suc n - m
less_or n m l = omega (arith, l)

newest_fewer : (room : ℕ) (frames : List (List ℕ)) → length (newest room frames) ≤ length frames
newest_fewer room [] = omega arith
newest_fewer room (f ∷ fs) =
    let fewer = newest_fewer room fs in
    by_cases (λ (l : List (List ℕ)). length l ≤ suc (length fs)) (nat_lt room (size_of (f ∷ fs))) (newest room fs) (f ∷ fs) (λ over. omega (arith, fewer)) (λ fits. omega arith)

pub leaves_newest : (room n : ℕ) (all front frames : List (List ℕ)) → LeavesOut n all (front ++ frames) → LeavesOut (n + (length frames - length (newest room frames))) all (front ++ newest room frames)
leaves_newest room n all front [] l = let same : n ≡ n + (0 - 0) = omega arith in subst (λ (k : ℕ). LeavesOut k all (front ++ [])) same l
leaves_newest room n all front (f ∷ fs) l =
    let fewer = newest_fewer room fs in
    let more : suc n + (length fs - length (newest room fs)) ≡ n + (suc (length fs) - length (newest room fs)) = omega (arith, fewer) in
    let none : n ≡ n + (suc (length fs) - suc (length fs)) = omega arith in
    by_cases (λ (k : List (List ℕ)). LeavesOut (n + (suc (length fs) - length k)) all (front ++ k)) (nat_lt room (size_of (f ∷ fs))) (newest room fs) (f ∷ fs)
    (λ over. subst (λ (k : ℕ). LeavesOut k all (front ++ newest room fs)) more (leaves_newest room (suc n) all front fs (leaves_one_less f n all front fs l)))
    (λ fits. subst (λ (k : ℕ). LeavesOut k all (front ++ f ∷ fs)) none l)

pub delivers_new : Delivers [] 0 [] (queue_of [] [])
delivers_new = record { whole = []; begun = []; part = []; bytes = refl; rest = refl; one = refl; kept = (refl, refl) }

pub delivers_push : (all : List (List ℕ)) (dropped : ℕ) (bytes frame : List ℕ) (queue : QueueState) → Delivers all dropped bytes queue → Delivers (all ++ frame ∷ []) (dropped + (length queue.waiting + 1 - length (pushed frame queue).waiting)) bytes (pushed frame queue)
delivers_push all dropped bytes frame queue d =
    let room = 1048576 - length queue.begun in
    let waiting = queue.waiting ++ frame ∷ [] in
    let front = d.whole ++ d.begun in
    let longer = length-append queue.waiting (frame ∷ []) in
    let more = leaves_one_more frame dropped all (d.whole ++ (d.begun ++ queue.waiting)) d.kept in
    let joined : (d.whole ++ (d.begun ++ queue.waiting)) ++ frame ∷ [] ≡ front ++ waiting = simp append_assoc refl in
    let fewer = leaves_newest room dropped (all ++ frame ∷ []) front waiting (subst (λ (k : List (List ℕ)). LeavesOut dropped (all ++ frame ∷ []) k) joined more) in
    let count : dropped + (length waiting - length (newest room waiting)) ≡ dropped + (length queue.waiting + 1 - length (newest room waiting)) = ap (λ (n : ℕ). dropped + (n - length (newest room waiting))) longer in
    record {
      whole = d.whole;
      begun = d.begun;
      part = d.part;
      bytes = d.bytes;
      rest = d.rest;
      one = d.one;
      kept = subst (λ (k : List (List ℕ)). LeavesOut (dropped + (length queue.waiting + 1 - length (newest room waiting))) (all ++ frame ∷ []) k) (append_assoc d.whole d.begun (newest room waiting)) (subst (λ (n : ℕ). LeavesOut n (all ++ frame ∷ []) (front ++ newest room waiting)) count fewer);
    }

-- ---- bytes are written

pub concat_more : (frames : List (List ℕ)) (f : List ℕ) → concat (frames ++ f ∷ []) ≡ concat frames ++ f
concat_more [] f = append-nil f
concat_more (g ∷ frames) f = ap (λ (l : List ℕ). g ++ l) (concat_more frames f) ∙ sym (append_assoc g (concat frames) f)

pub take_past : (count : ℕ) (xs ys : List ℕ) → length xs ≤ count → take count (xs ++ ys) ≡ xs ++ take (count - length xs) ys
take_past count [] ys l = ap (λ (n : ℕ). take n ys) (same count)
  where
    same : (n : ℕ) → n ≡ n - 0
    same n = omega arith
take_past zero (x ∷ xs) ys l = absurd (omega (arith, l))
take_past (suc count) (x ∷ xs) ys l =
    let same : count - length xs ≡ suc count - suc (length xs) = omega arith in
    ap (λ (k : List ℕ). x ∷ k) (take_past count xs ys (omega (arith, l)) ∙ ap (λ (n : ℕ). xs ++ take n ys) same)

take_none : (xs : List ℕ) → take 0 xs ≡ []
take_none [] = refl
take_none (x ∷ xs) = refl

is_zero : (n : ℕ) → (n == 0) ≡ true → n ≡ 0
is_zero n e = grind (arith, nat_tests, e)

is_below : (m n : ℕ) → nat_lt m n ≡ true → m < n
is_below m n e = grind (arith, nat_tests, e)

is_above : (m n : ℕ) → nat_lt m n ≡ false → n ≤ m
is_above m n e = grind (arith, nat_tests, e)

pub delivers_written : (all : List (List ℕ)) (dropped : ℕ) (whole waiting : List (List ℕ)) (count : ℕ) → LeavesOut dropped all (whole ++ waiting) → Delivers all dropped (concat whole ++ take count (concat waiting)) (written count waiting)
delivers_written all dropped whole [] count l = record { whole = whole; begun = []; part = take count []; bytes = refl; rest = sym (nothing count); one = refl; kept = l }
  where
    nothing : (n : ℕ) → take {A = ℕ} n [] ++ [] ≡ []
    nothing zero = refl
    nothing (suc n) = refl
delivers_written all dropped whole (f ∷ fs) count l =
    let bytes = concat whole ++ take count (f ++ concat fs) in
    by_cases (λ (s : QueueState). Delivers all dropped bytes s) (count == 0) (queue_of [] (f ∷ fs)) (if nat_lt count (length f) then queue_of (drop count f) fs else written (count - length f) fs)
    (λ none. record {
      whole = whole;
      begun = [];
      part = [];
      bytes = ap (λ (n : ℕ). concat whole ++ take n (f ++ concat fs)) (is_zero count none) ∙ ap (λ (k : List ℕ). concat whole ++ k) (take_none (f ++ concat fs));
      rest = refl;
      one = refl;
      kept = l;
    })
    (λ some. by_cases (λ (s : QueueState). Delivers all dropped bytes s) (nat_lt count (length f)) (queue_of (drop count f) fs) (written (count - length f) fs)
    (λ part.
    let less = is_below count (length f) part in
    let left = length-drop count f in
    let is_begun : nat_lt 0 (length (drop count f)) ≡ true = is_less 0 (length (drop count f)) (omega (arith, less, left)) in
    record {
      whole = whole;
      begun = f ∷ [];
      part = take count f;
      bytes = ap (λ (k : List ℕ). concat whole ++ k) (take-append-le count f (concat fs) (omega (arith, less)));
      rest = append-nil f ∙ sym (take-append-drop count f);
      one = sym (ap (λ (b : Bool). if b then 1 else 0) is_begun);
      kept = l;
    })
    (λ past.
    let more = is_above count (length f) past in
    let next = delivers_written all dropped (whole ++ f ∷ []) fs (count - length f) (subst (λ (k : List (List ℕ)). LeavesOut dropped all k) (sym (append_assoc whole (f ∷ []) fs)) l) in
    let same : concat (whole ++ f ∷ []) ++ take (count - length f) (concat fs) ≡ bytes = ap (λ (k : List ℕ). k ++ take (count - length f) (concat fs)) (concat_more whole f) ∙ (append_assoc (concat whole) f (take (count - length f) (concat fs)) ∙ ap (λ (k : List ℕ). concat whole ++ k) (sym (take_past count f (concat fs) more))) in
    subst (λ (b : List ℕ). Delivers all dropped b (written (count - length f) fs)) same next))

no_list : (xs ys : List ℕ) → [] ≡ xs ++ ys → xs ≡ []
no_list [] ys e = refl
no_list (x ∷ xs) ys e = absurd (cc)

no_frames : (frames : List (List ℕ)) → length frames ≡ 0 → frames ≡ []
no_frames [] e = refl
no_frames (f ∷ fs) e = absurd (omega (arith, e))

-- no part was written of any
none_begun : (all : List (List ℕ)) (dropped : ℕ) (bytes : List ℕ) (queue : QueueState) (d : Delivers all dropped bytes queue) → has_begun queue ≡ false → (d.begun ≡ []) × (d.part ≡ [])
none_begun all dropped bytes queue d none =
    let nothing = no_frames d.begun (d.one ∙ ap (λ (b : Bool). if b then 1 else 0) none) in
    (nothing, no_list d.part queue.begun (sym (ap concat nothing) ∙ d.rest))

pub concat_append : (xs ys : List (List ℕ)) → concat (xs ++ ys) ≡ concat xs ++ concat ys
concat_append [] ys = refl
concat_append (x ∷ xs) ys = ap (λ (l : List ℕ). x ++ l) (concat_append xs ys) ∙ sym (append_assoc x (concat xs) (concat ys))

all_taken : (count : ℕ) (xs : List ℕ) → drop count xs ≡ [] → take count xs ≡ xs
all_taken count xs e = sym (append-nil (take count xs)) ∙ (ap (λ (l : List ℕ). take count xs ++ l) (sym e) ∙ take-append-drop count xs)

-- more of the frame of which a part was written
wrote_part : (all : List (List ℕ)) (dropped : ℕ) (bytes : List ℕ) (count : ℕ) (queue : QueueState) → has_begun queue ≡ true → nat_lt 0 (length (drop count queue.begun)) ≡ true → Delivers all dropped bytes queue → Delivers all dropped (bytes ++ take count queue.begun) (queue_of (drop count queue.begun) queue.waiting)
wrote_part all dropped bytes count queue is left d = record {
  whole = d.whole;
  begun = d.begun;
  part = d.part ++ take count queue.begun;
  bytes = ap (λ (b : List ℕ). b ++ take count queue.begun) d.bytes ∙ append_assoc (concat d.whole) d.part (take count queue.begun);
  rest = d.rest ∙ (ap (λ (b : List ℕ). d.part ++ b) (sym (take-append-drop count queue.begun)) ∙ sym (append_assoc d.part (take count queue.begun) (drop count queue.begun)));
  one = d.one ∙ (ap (λ (b : Bool). if b then 1 else 0) is ∙ sym (ap (λ (b : Bool). if b then 1 else 0) left));
  kept = d.kept;
}

-- the rest of it
wrote_rest : (all : List (List ℕ)) (dropped : ℕ) (bytes : List ℕ) (count : ℕ) (queue : QueueState) → nat_lt 0 (length (drop count queue.begun)) ≡ false → Delivers all dropped bytes queue → Delivers all dropped (bytes ++ take count queue.begun) (queue_of (drop count queue.begun) queue.waiting)
wrote_rest all dropped bytes count queue left d =
    let none = is_empty (drop count queue.begun) left in
    record {
      whole = d.whole ++ d.begun;
      begun = [];
      part = [];
      bytes = (λ i. d.bytes i ++ all_taken count queue.begun none i)
          ∙ (append_assoc (concat d.whole) d.part queue.begun
          ∙ (ap (λ (b : List ℕ). concat d.whole ++ b) (sym d.rest)
          ∙ (sym (concat_append d.whole d.begun) ∙ sym (append-nil (concat (d.whole ++ d.begun))))));
      rest = sym none;
      one = sym (ap (λ (b : Bool). if b then 1 else 0) left);
      kept = subst (λ (k : List (List ℕ)). LeavesOut dropped all k) (sym (append_assoc d.whole d.begun queue.waiting)) d.kept;
    }

pub delivers_wrote : (all : List (List ℕ)) (dropped : ℕ) (bytes : List ℕ) (count : ℕ) (queue : QueueState) → Delivers all dropped bytes queue → Delivers all dropped (bytes ++ take count (next_bytes queue)) (taken count queue)
delivers_wrote all dropped bytes count queue d =
    by_cases (λ (s : QueueState). Delivers all dropped (bytes ++ take count (next_bytes queue)) s) (has_begun queue) (queue_of (drop count queue.begun) queue.waiting) (written count queue.waiting)
    (λ is. subst (λ (b : List ℕ). Delivers all dropped (bytes ++ take count b) (queue_of (drop count queue.begun) queue.waiting)) (next_begun queue is)
    (elim (cases_Bool (nat_lt 0 (length (drop count queue.begun)))) [
      | inl left ↦ wrote_part all dropped bytes count queue is left d
      | inr left ↦ wrote_rest all dropped bytes count queue left d
    ]))
    (λ none.
    let nothing = none_begun all dropped bytes queue d none in
    let kept = subst (λ (k : List (List ℕ)). LeavesOut dropped all (d.whole ++ (k ++ queue.waiting))) nothing.0 d.kept in
    let same : bytes ≡ concat d.whole = d.bytes ∙ (ap (λ (b : List ℕ). concat d.whole ++ b) nothing.1 ∙ append-nil (concat d.whole)) in
    subst (λ (b : List ℕ). Delivers all dropped b (written count queue.waiting)) (λ i. sym same i ++ take count (next_waiting queue none i)) (delivers_written all dropped d.whole queue.waiting count kept))

-- ---- a close

pub delivers_closed : (all : List (List ℕ)) (dropped : ℕ) (bytes : List ℕ) (queue : QueueState) → Delivers all dropped bytes queue → Delivered all (dropped + count_of queue) bytes
delivers_closed all dropped bytes queue d =
    let count = length-append d.begun queue.waiting in
    let one = d.one in
    record {
      whole = d.whole;
      lost = d.begun ++ queue.waiting;
      part = d.part;
      rest = queue.begun ++ concat queue.waiting;
      bytes = d.bytes;
      next = concat_append d.begun queue.waiting ∙ (ap (λ (b : List ℕ). b ++ concat queue.waiting) d.rest ∙ append_assoc d.part queue.begun (concat queue.waiting));
      before = dropped;
      all = ap (λ (n : ℕ). dropped + n) (counted (length queue.waiting) (length d.begun) (if has_begun queue then 1 else 0) one ∙ sym count);
      kept = d.kept;
    }
  where
    counted : (m n k : ℕ) → n ≡ k → m + k ≡ n + m
    counted m n k e = omega (arith, e)

pub delivers_bytes : (all : List (List ℕ)) (dropped : ℕ) (bytes : List ℕ) (queue : QueueState) → Delivers all dropped bytes queue → (kept : List (List ℕ)) × LeavesOut dropped all kept × (concat kept ≡ bytes ++ (queue.begun ++ concat queue.waiting))
unfolding delivers_closed
delivers_bytes all dropped bytes queue d =
    let e = delivers_closed all dropped bytes queue d in
    (d.whole ++ (d.begun ++ queue.waiting), d.kept, concat_append d.whole (d.begun ++ queue.waiting) ∙ (ap (λ (b : List ℕ). concat d.whole ++ b) e.next ∙ (sym (append_assoc (concat d.whole) d.part (queue.begun ++ concat queue.waiting)) ∙ ap (λ (b : List ℕ). b ++ (queue.begun ++ concat queue.waiting)) (sym d.bytes))))
