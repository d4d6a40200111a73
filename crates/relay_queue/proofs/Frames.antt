-- The frames that stand one after another in some bytes.
use Rattle.std.proofs.Common.{◌≡◌, ◌∙◌, ◌<◌, ◌≤◌, ℕ, zero, suc, ◌+◌, ◌-◌, ◌==◌, nat_lt, Bool, true, false, if◌then◌else◌, List, [], ◌∷◌, ◌++◌, length, take, drop, refl, sym, ap, arith, length-append}
use Rattle.std.specs.List.{concat}
use Rattle.std.proofs.lemmas.Bool.Decides.{nat_tests}
use Rattle.std.proofs.lemmas.List.{length-drop, length-take-le, drop-drop, take-append-drop, take-append-le, drop-append-le}
use Rattle.relay_queue.specs.Queues.{AreFrames, QueueState, count_of, frames_in, has_begun, next_bytes, taken, newest, queue_of, size_of, total, written}

-- ---- sizes

pub size_frames : (sizes bytes : List ℕ) → total sizes ≡ length bytes → size_of (frames_in sizes bytes) ≡ total sizes
size_frames [] bytes e = refl
size_frames (n ∷ ns) bytes e =
    let first = length-take-le n bytes (omega (arith, e)) in
    let rest = length-drop n bytes in
    (λ i. first i + size_frames ns (drop n bytes) (omega (arith, e, rest)) i)

pub count_frames : (sizes bytes : List ℕ) → length (frames_in sizes bytes) ≡ length sizes
count_frames [] bytes = refl
count_frames (n ∷ ns) bytes = ap suc (count_frames ns (drop n bytes))

-- ---- all of them are the bytes

pub all_frames : (sizes bytes : List ℕ) → total sizes ≡ length bytes → concat (frames_in sizes bytes) ≡ bytes
all_frames [] [] e = refl
all_frames [] (b ∷ bytes) e = absurd (omega (arith, e))
all_frames (n ∷ ns) bytes e =
    let rest = length-drop n bytes in
    ap (λ (l : List ℕ). take n bytes ++ l) (all_frames ns (drop n bytes) (omega (arith, e, rest))) ∙ take-append-drop n bytes

-- ---- a frame more

pub frames_are_more : (sizes : List ℕ) (n : ℕ) → 0 < n → n ≤ 280 → AreFrames sizes → AreFrames (sizes ++ n ∷ [])
frames_are_more [] n some few all = (some, few, tt)
frames_are_more (m ∷ ms) n some few all = (all.0, all.1, frames_are_more ms n some few all.2)

pub total_more : (sizes : List ℕ) (n : ℕ) → total (sizes ++ n ∷ []) ≡ total sizes + n
total_more [] n = omega arith
total_more (m ∷ ms) n = let e = total_more ms n in omega (arith, e)

pub frames_more : (sizes bytes frame : List ℕ) (n : ℕ) → total sizes ≡ length bytes → n ≡ length frame → frames_in (sizes ++ n ∷ []) (bytes ++ frame) ≡ frames_in sizes bytes ++ frame ∷ []
frames_more [] [] frame n e is = ap (λ (l : List ℕ). l ∷ []) (ap (λ (m : ℕ). take m frame) is ∙ whole frame)
  where
    whole : (xs : List ℕ) → take (length xs) xs ≡ xs
    whole [] = refl
    whole (x ∷ xs) = ap (λ (l : List ℕ). x ∷ l) (whole xs)
frames_more [] (b ∷ bytes) frame n e is = absurd (omega (arith, e))
frames_more (m ∷ ms) bytes frame n e is =
    let within : m ≤ length bytes = omega (arith, e) in
    let rest = length-drop m bytes in
    (λ i. take-append-le m bytes frame within i ∷ (ap (frames_in (ms ++ n ∷ [])) (drop-append-le m bytes frame within) ∙ frames_more ms (drop m bytes) frame n (omega (arith, e, rest)) is) i)

-- ---- the oldest is dropped

pub drop_one : (frames : List (List ℕ)) (room : ℕ) → nat_lt room (size_of frames) ≡ true → newest room (drop 1 frames) ≡ newest room frames
drop_one [] room e = refl
drop_one (f ∷ fs) room e = sym (ap (λ (b : Bool). if b then newest room fs else f ∷ fs) e)

pub all_fit : (frames : List (List ℕ)) (room : ℕ) → nat_lt room (size_of frames) ≡ false → newest room frames ≡ frames
all_fit [] room e = refl
all_fit (f ∷ fs) room e = ap (λ (b : Bool). if b then newest room fs else f ∷ fs) e

pub some_over : (frames : List (List ℕ)) (room : ℕ) → nat_lt room (size_of frames) ≡ true → 0 < length frames
some_over [] room e = absurd (let n : nat_lt room 0 ≡ false = below room in cc)
  where
    below : (room : ℕ) → nat_lt room 0 ≡ false
    below room = grind (arith, nat_tests)
some_over (f ∷ fs) room e = omega arith

pub over_is : (begun waiting length : ℕ) → begun ≤ 280 → length ≡ begun + waiting → nat_lt 1048576 length ≡ nat_lt (1048576 - begun) waiting
over_is begun waiting length few e = ap (nat_lt 1048576) e ∙ moved begun waiting few
  where
    moved : (b w : ℕ) → b ≤ 280 → nat_lt 1048576 (b + w) ≡ nat_lt (1048576 - b) w
    moved b w few = grind (arith, nat_tests)

-- ---- a frame that is appended to the bytes

pub appended : (start n : ℕ) (bytes more sizes counts frame : List ℕ) → start + total sizes ≡ length bytes → more ≡ bytes ++ frame → counts ≡ sizes ++ n ∷ [] → n ≡ length frame → frames_in counts (drop start more) ≡ frames_in sizes (drop start bytes) ++ frame ∷ []
appended start n bytes more sizes counts frame all is counted size =
    let rest = length-drop start bytes in
    (λ i. frames_in (counted i) (drop start (is i)))
    ∙ (ap (frames_in (sizes ++ n ∷ [])) (drop-append-le start bytes frame (omega (arith, all)))
    ∙ frames_more sizes (drop start bytes) frame n (omega (arith, all, rest)) size)

pub appended_all : (start n : ℕ) (bytes more sizes counts frame : List ℕ) → start + total sizes ≡ length bytes → more ≡ bytes ++ frame → counts ≡ sizes ++ n ∷ [] → n ≡ length frame → start + total counts ≡ length more
appended_all start n bytes more sizes counts frame all is counted size =
    let a = ap total counted ∙ total_more sizes n in
    let b = ap length is ∙ length-append bytes frame in
    omega (arith, all, a, b, size)

-- ---- the first frame

pub first_is : (start size : ℕ) (bytes sizes left : List ℕ) → sizes ≡ size ∷ left → start + total sizes ≡ length bytes → (frames_in sizes (drop start bytes) ≡ take size (drop start bytes) ∷ frames_in left (drop (start + size) bytes)) × (length (take size (drop start bytes)) ≡ size) × (start + size + total left ≡ length bytes)
first_is start size bytes sizes left is all =
    let t = ap total is in
    let rest = length-drop start bytes in (
      ap (λ (ns : List ℕ). frames_in ns (drop start bytes)) is ∙ ap (λ (l : List ℕ). take size (drop start bytes) ∷ frames_in left l) (drop-drop size start bytes),
      length-take-le size (drop start bytes) (omega (arith, t, all, rest)),
      omega (arith, t, all),
    )

drop-take : (n m : ℕ) (xs : List ℕ) → drop m (take n xs) ≡ take (n - m) (drop m xs)
drop-take n zero xs = let same : n ≡ n - 0 = omega arith in ap (λ (k : ℕ). take k xs) same
drop-take zero (suc m) xs = let none : 0 - suc m ≡ 0 = omega arith in sym (ap (λ (k : ℕ). take k (drop (suc m) xs)) none)
drop-take (suc n) (suc m) [] = nothing (suc n - suc m)
  where
    nothing : (k : ℕ) → take {A = ℕ} 0 [] ≡ take k []
    nothing zero = refl
    nothing (suc k) = refl
drop-take (suc n) (suc m) (x ∷ xs) = let less : n - m ≡ suc n - suc m = omega arith in drop-take n m xs ∙ ap (λ (k : ℕ). take k (drop m xs)) less

-- its end is what stands from a place in it on
pub rest_is : (start count size : ℕ) (bytes : List ℕ) → count ≤ size → take (start + size - (start + count)) (drop (start + count) bytes) ≡ drop count (take size (drop start bytes))
rest_is start count size bytes within =
    let fewer : start + size - (start + count) ≡ size - count = omega (arith, within) in
    (λ i. take (fewer i) (sym (drop-drop count start bytes) i)) ∙ sym (drop-take size count (drop start bytes))

-- ---- a part of the first frame was written

same_head : (x y : List ℕ) (xs ys : List (List ℕ)) → x ∷ xs ≡ y ∷ ys → x ≡ y
same_head x y xs ys e = cc

same_tail : (x y : List ℕ) (xs ys : List (List ℕ)) → x ∷ xs ≡ y ∷ ys → xs ≡ ys
same_tail x y xs ys e = cc

pub part_less : (start size count : ℕ) (bytes sizes left : List ℕ) (waiting : List (List ℕ)) → frames_in sizes (drop start bytes) ≡ waiting → sizes ≡ size ∷ left → start + total sizes ≡ length bytes → ((frame : List ℕ) (frames : List (List ℕ)) → waiting ≡ frame ∷ frames → count < length frame) → (count < size) × (start + size ≤ length bytes) × (start + size + total left ≡ length bytes)
part_less start size count bytes sizes left waiting view is all less =
    let f = first_is start size bytes sizes left is all in
    let it = less (take size (drop start bytes)) (frames_in left (drop (start + size) bytes)) (sym view ∙ f.0) in
    (omega (arith, it, f.1), omega (arith, f.2), f.2)

pub begun_is : (start size count : ℕ) (bytes sizes left part : List ℕ) (waiting : List (List ℕ)) → frames_in sizes (drop start bytes) ≡ waiting → sizes ≡ size ∷ left → start + total sizes ≡ length bytes → count ≤ size → part ≡ take (start + size - (start + count)) (drop (start + count) bytes) → (frame : List ℕ) (frames : List (List ℕ)) → waiting ≡ frame ∷ frames → queue_of (drop 0 part) (frames_in left (drop (start + size) bytes)) ≡ queue_of (drop count frame) frames
begun_is start size count bytes sizes left part waiting view is all within part_is frame frames e =
    let first = take size (drop start bytes) in
    let others = frames_in left (drop (start + size) bytes) in
    let f = first_is start size bytes sizes left is all in
    let both = sym f.0 ∙ (view ∙ e) in
    (λ i. queue_of ((part_is ∙ (rest_is start count size bytes within ∙ ap (drop count) (same_head first frame others frames both))) i) (same_tail first frame others frames both i))

-- ---- tests

pub is_some : (n : ℕ) → 0 < n → (n == 0) ≡ false
is_some n l = grind (arith, nat_tests)

pub is_less : (m n : ℕ) → m < n → nat_lt m n ≡ true
is_less m n l = grind (arith, nat_tests)

pub not_less : (m n : ℕ) → n ≤ m → nat_lt m n ≡ false
not_less m n l = grind (arith, nat_tests)

-- ---- frames that were written

pub written_none : (frames : List (List ℕ)) → written 0 frames ≡ queue_of [] frames
written_none [] = refl
written_none (f ∷ fs) = refl

pub written_part : (count : ℕ) (frame : List ℕ) (frames : List (List ℕ)) → 0 < count → count < length frame → written count (frame ∷ frames) ≡ queue_of (drop count frame) frames
written_part count frame frames some less =
    ap (λ (b : Bool). if b then queue_of [] (frame ∷ frames) else (if nat_lt count (length frame) then queue_of (drop count frame) frames else written (count - length frame) frames)) (is_some count some)
    ∙ ap (λ (b : Bool). if b then queue_of (drop count frame) frames else written (count - length frame) frames) (is_less count (length frame) less)

pub written_whole : (count : ℕ) (frame : List ℕ) (frames : List (List ℕ)) → 0 < count → length frame ≤ count → written count (frame ∷ frames) ≡ written (count - length frame) frames
written_whole count frame frames some more =
    ap (λ (b : Bool). if b then queue_of [] (frame ∷ frames) else (if nat_lt count (length frame) then queue_of (drop count frame) frames else written (count - length frame) frames)) (is_some count some)
    ∙ ap (λ (b : Bool). if b then queue_of (drop count frame) frames else written (count - length frame) frames) (not_less count (length frame) more)

-- ---- one frame after another was written

pub whole_written : (left size : ℕ) (frames : List (List ℕ)) → 0 < length frames → ((frame : List ℕ) (rest : List (List ℕ)) → frames ≡ frame ∷ rest → size ≡ length frame) → 0 < left → size ≤ left → written (left - size) (drop 1 frames) ≡ written left frames
whole_written left size [] some is more within = absurd (omega (arith, some))
whole_written left size (frame ∷ frames) some is more within =
    let e = is frame frames refl in
    ap (λ (n : ℕ). written (left - n) frames) e ∙ sym (written_whole left frame frames more (omega (arith, e, within)))

pub part_written : (left size : ℕ) (frames : List (List ℕ)) (new : QueueState) → 0 < length frames → ((frame : List ℕ) (rest : List (List ℕ)) → frames ≡ frame ∷ rest → size ≡ length frame) → 0 < left → left < size → ((frame : List ℕ) (rest : List (List ℕ)) → frames ≡ frame ∷ rest → new ≡ queue_of (drop left frame) rest) → new ≡ written left frames
part_written left size [] new some is more less begun = absurd (omega (arith, some))
part_written left size (frame ∷ frames) new some is more less begun =
    let e = is frame frames refl in
    begun frame frames refl ∙ sym (written_part left frame frames more (omega (arith, e, less)))

pub none_left : (queue : QueueState) (left : ℕ) → queue.begun ≡ [] → queue.waiting ≡ [] → queue ≡ written left queue.waiting
none_left queue left b w = (λ i. queue_of (b i) (w i)) ∙ sym (ap (written left) w)

pub all_left : (queue : QueueState) (left : ℕ) → queue.begun ≡ [] → left ≡ 0 → queue ≡ written left queue.waiting
all_left queue left b none = (λ i. queue_of (b i) queue.waiting) ∙ (sym (written_none queue.waiting) ∙ ap (λ (n : ℕ). written n queue.waiting) (sym none))

pub not_begun : (queue : QueueState) → queue.begun ≡ [] → has_begun queue ≡ false
not_begun queue e = ap (λ (b : List ℕ). nat_lt 0 (length b)) e

pub is_empty : (bytes : List ℕ) → nat_lt 0 (length bytes) ≡ false → bytes ≡ []
is_empty [] e = refl
is_empty (b ∷ bytes) e = absurd (let some = is_less 0 (suc (length bytes)) (omega arith) in wrong (sym some ∙ e))
  where
    wrong : true ≡ false → ⊥
    wrong e = absurd (cc)

-- ---- the bytes that are next

pub begun_is_some : (from : ℕ) (part : List ℕ) → nat_lt from (length part) ≡ nat_lt 0 (length (drop from part))
begun_is_some from part = moved from (length part) ∙ ap (nat_lt 0) (sym (length-drop from part))
  where
    moved : (m n : ℕ) → nat_lt m n ≡ nat_lt 0 (n - m)
    moved m n = grind (arith, nat_tests)

all_of : (n : ℕ) (xs : List ℕ) → length xs ≡ n → take n xs ≡ xs
all_of n [] e = ap (λ (m : ℕ). take m []) (sym e)
all_of n (x ∷ xs) e = ap (λ (m : ℕ). take m (x ∷ xs)) (sym e) ∙ ap (λ (l : List ℕ). x ∷ l) (all_of (length xs) xs refl)

pub rest_of : (from : ℕ) (bytes same : List ℕ) → same ≡ bytes → take (length same - from) (drop from same) ≡ drop from bytes
rest_of from bytes same e = all_of (length same - from) (drop from same) (length-drop from same) ∙ ap (drop from) e

pub next_begun : (queue : QueueState) → has_begun queue ≡ true → queue.begun ≡ next_bytes queue
next_begun queue e = sym (ap (λ (b : Bool). if b then queue.begun else concat queue.waiting) e)

pub next_waiting : (queue : QueueState) → has_begun queue ≡ false → concat queue.waiting ≡ next_bytes queue
next_waiting queue e = sym (ap (λ (b : Bool). if b then queue.begun else concat queue.waiting) e)

pub taken_begun : (count : ℕ) (queue : QueueState) → has_begun queue ≡ true → queue_of (drop count queue.begun) queue.waiting ≡ taken count queue
taken_begun count queue e = sym (ap (λ (b : Bool). if b then queue_of (drop count queue.begun) queue.waiting else written count queue.waiting) e)

pub taken_waiting : (count : ℕ) (queue : QueueState) → has_begun queue ≡ false → written count queue.waiting ≡ taken count queue
taken_waiting count queue e = sym (ap (λ (b : Bool). if b then queue_of (drop count queue.begun) queue.waiting else written count queue.waiting) e)

pub count_begun : (queue : QueueState) (b : Bool) → has_begun queue ≡ b → length queue.waiting + (if b then 1 else 0) ≡ count_of queue
count_begun queue b e = ap (λ (t : Bool). length queue.waiting + (if t then 1 else 0)) (sym e)
