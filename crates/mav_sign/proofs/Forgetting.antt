-- Streams that are forgotten.
use Rattle.std.proofs.Common.{◌≡◌, ◌∙◌, ◌<◌, ◌≤◌, ◌-◌, ℕ, Bool, true, false, not, nat_le, nat_lt, nat_eq, List, Option, Some, None, length, filter, if◌then◌else◌, refl, sym, ap, subst, arith}
use Rattle.std.specs.List.{IsDistinct, count_by}
use Rattle.std.specs.List.Sorted.{IsPermutation}
use Rattle.std.specs.Map.{keys_of, lookup}
use Rattle.std.specs.Cmp.{nat_eq_equiv}
use Rattle.std.proofs.lemmas.Bool.Decides.{nat_tests}
use Rattle.std.proofs.lemmas.List.Sums.{length-filter}
use Rattle.std.proofs.lemmas.List.Sorted.{sum_by-IsPermutation}
use Rattle.std.proofs.lemmas.Map.Entries.{lookup-filter-values, option_filter}
use Rattle.mav_sign.specs.History.{one_minute, stream_limit}
use Rattle.mav_sign.specs.Kept.{Forgets, HasRoom, Kept, count_present, is_past, present, stamp_at}

-- a timestamp isn't past
pub is_present : ℕ → ℕ → Bool
is_present accepted stamp = not (is_past accepted stamp)

filtered : (accepted : ℕ) (o : Option ℕ) → option_filter (λ (stamp : ℕ). not (is_past accepted stamp)) o ≡ present accepted o
filtered accepted None = refl
filtered accepted (Some stamp) = either (is_past accepted stamp)
  where
    either : (b : Bool) → (if not b then Some stamp else None) ≡ (if b then None else Some stamp)
    either true = refl
    either false = refl

-- a filter of the reordered pairs
pub forgets : (accepted : ℕ) (old middle new : List (ℕ × ℕ)) → IsPermutation old middle → ((number : ℕ) → stamp_at number middle ≡ stamp_at number old) → IsDistinct nat_eq (keys_of middle) → new ≡ filter (λ (pair : ℕ × ℕ). not (is_past accepted pair.1)) middle → Forgets accepted old new
forgets accepted old middle new moved same unique is = record {
  last = λ number.
      ap (stamp_at number) is
      ∙ (lookup-filter-values nat_eq_equiv (λ (stamp : ℕ). not (is_past accepted stamp)) number middle unique
      ∙ (filtered accepted (stamp_at number middle) ∙ ap (present accepted) (same number)));
  streams =
      ap length is
      ∙ (length-filter (λ (pair : ℕ × ℕ). not (is_past accepted pair.1)) middle
      ∙ sum_by-IsPermutation (λ (pair : ℕ × ℕ). if not (is_past accepted pair.1) then 1 else 0) old middle moved);
}

-- the test of the code
pub test_is : (low accepted stamp : ℕ) → low ≡ accepted - one_minute → nat_le low stamp ≡ not (is_past accepted stamp)
test_is low accepted stamp is = ap (λ (n : ℕ). nat_le n stamp) is ∙ turned (accepted - one_minute) stamp
  where
    turned : (m n : ℕ) → nat_le m n ≡ not (nat_lt n m)
    turned m n = grind (arith, nat_tests)

-- ---- room for another stream

pub room_left : (kept : Kept) → length kept.last < 256 → HasRoom kept kept
room_left kept few = record {
  last = λ number. ap (λ (b : Bool). if b then stamp_at number kept.last else present kept.accepted (stamp_at number kept.last)) (sym (below few));
  streams = ap (λ (b : Bool). if b then length kept.last else count_present kept.accepted kept.last) (sym (below few));
  accepted = refl;
  previous = refl;
  low = refl;
}
  where
    below : {n : ℕ} → n < 256 → nat_lt n stream_limit ≡ true
    below {n} h = grind (arith, nat_tests)

pub room_made : (kept : Kept) (last : List (ℕ × ℕ)) → 256 ≤ length kept.last → Forgets kept.accepted kept.last last → HasRoom kept (record kept { last = last })
room_made kept last full f = record {
  last = λ number. f.last number ∙ ap (λ (b : Bool). if b then stamp_at number kept.last else present kept.accepted (stamp_at number kept.last)) (sym (above full));
  streams = f.streams ∙ ap (λ (b : Bool). if b then length kept.last else count_present kept.accepted kept.last) (sym (above full));
  accepted = refl;
  previous = refl;
  low = refl;
}
  where
    above : {n : ℕ} → 256 ≤ n → nat_lt n stream_limit ≡ false
    above {n} h = grind (arith, nat_tests)
