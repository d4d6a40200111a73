-- One call of a disk after another.
use Rattle.std.proofs.Common.{◌≡◌, ◌==◌, ℕ, List, [], ◌∷◌, Result, Ok, Err, refl, sym, ap, ◌∙◌, subst, arith}
use Rattle.std.specs.Prelude.{OnOk}
use Rattle.slot_store.specs.declared.disks.DiskFault.{DiskFault}
use Rattle.slot_store.specs.Disks.{SameOutside, Writes, LeavesAlone, LeavesOnly, Elapses, CountsDiskFault}
use Rattle.slot_store.specs.declared.headers.Header.{Header}
use Rattle.slot_store.specs.declared.headers.Headers.{Headers}
use Rattle.slot_store.specs.Layout.{header_at, headers_of, Closes}
use Rattle.slot_store.proofs.Images.{one_of}
use Rattle.slot_store.proofs.Moments.{started, goes_on}

pub same_image : (at n : ℕ) (s x : List ℕ) → x ≡ s → SameOutside at n s x
same_image at n s x is = subst (SameOutside at n s) (sym is) (record { size = refl; bytes = λ i outside. refl })

-- what a write may leave of the one image that a crash left before it
pub torn : (at n : ℕ) (s x : List ℕ) (may_leave : List ℕ → Type 0) → LeavesAlone s may_leave → (d : List ℕ) × may_leave d × SameOutside at n d x → SameOutside at n s x
torn at n s x may_leave alone tears = subst (λ d. SameOutside at n d x) (alone tears.0 tears.1) tears.2

-- what a write wrote stays if a sync ends well
pub still_written : {E : Type 0} (r : Result Unit E) (at : ℕ) (written s mid new : List ℕ) → Writes at written s mid → OnOk r (new ≡ mid) → OnOk r (Writes at written s new)
still_written (Ok done) at written s mid new writes same = subst (Writes at written s) (sym same) writes
still_written (Err fault) at written s mid new writes same = tt

-- a call that ends well doesn't count, so the next one counts from where it stood
pub counts_on : {A : Type 0} (r : Result A DiskFault) (before mid now : ℕ) → mid ≡ before → CountsDiskFault r mid now → CountsDiskFault r before now
counts_on r before mid now same counts = subst (λ n. CountsDiskFault r n now) same counts

-- a run of one call, and the image that it begins with
pub one_call : {D : Type 0} (moment : D → ℕ) (left_since : D → ℕ → List ℕ → Type 0) (old new : D) (P may_leave : List ℕ → Type 0) → ((c : List ℕ) → left_since old (moment old) c → P c)
    → Elapses (moment old) (moment new) (left_since old) (left_since new) may_leave → ((c : List ℕ) → may_leave c → P c) → LeavesOnly moment left_since old new P
one_call moment left_since old new P may_leave first time here = goes_on moment left_since old old new P may_leave (started moment left_since old P first) time here

-- a write of one byte that isn't the open flag
pub closes : (at : ℕ) (s t : List ℕ) → Writes at (0 ∷ []) s t → Closes at s t
closes at s t writes = record { outside = writes.outside; closed = ap (λ (flag : ℕ). flag == 165) (one_of at 1 0 at t (0 ∷ []) (omega arith) writes.inside (omega arith)) }

pub closed_if : {E : Type 0} (r : Result Unit E) (at : ℕ) (s t : List ℕ) → OnOk r (Writes at (0 ∷ []) s t) → OnOk r (Closes at s t)
closed_if (Ok done) at s t writes = closes at s t writes
closed_if (Err fault) at s t writes = tt

-- two headers of one image
pub both_read : (a b : Header) (s s1 s2 : List ℕ) → a ≡ header_at 0 s → b ≡ header_at 65546 s1 → s1 ≡ s → s2 ≡ s1 → ◌≡◌ {A = Headers} (record { first = a; second = b }) (headers_of s2)
both_read a b s s1 s2 first second same more =
    let first_now : a ≡ header_at 0 s2 = first ∙ ap (header_at 0) (sym (more ∙ same)) in
    let second_now : b ≡ header_at 65546 s2 = second ∙ ap (header_at 65546) (sym more) in
    λ i. record { first = first_now i; second = second_now i }
