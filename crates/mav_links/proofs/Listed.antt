-- How many of the listed calls were made.
use Rattle.std.proofs.Common.{◌≡◌, ◌≤◌, ◌<◌, ℕ, ◌+◌, ◌-◌, ◌^◌, ◌==◌, Bool, true, false, List, [], ◌∷◌, length, Some, None, arith, nat_lt, min, if◌then◌else◌, refl}
use Rattle.std.proofs.lemmas.Grind.{common_steps}
use Rattle.std.specs.declared.option.Option.{Option}
use Rattle.mav_ports.specs.Calls.{is_listed, call_after}
use Rattle.mav_ports.specs.MemReads.{MemReads, read_answer}
use Rattle.mav_ports.specs.declared.sources.Got.TheVariants.{Bytes, Idle, End, Failed}
use Rattle.mav_links.specs.MemLinks.{listed_before}

by_test : {A : Type 0} (P : A → Type 0) (b : Bool) (x y : A) → (b ≡ true → P x) → (b ≡ false → P y) → P (if b then x else y)
by_test P true x y f g = f refl
by_test P false x y f g = g refl

-- no more than there are
pub listed_most : (numbers : List ℕ) (call : Option ℕ) → listed_before numbers call ≤ length numbers
listed_most numbers None = omega arith
listed_most [] (Some call) = omega arith
listed_most (number ∷ numbers) (Some call) = let rest = listed_most numbers (Some call) in grind (arith, common_steps)

-- a further call is at least as many
pub listed_rises : (numbers : List ℕ) (call more : ℕ) → call ≤ more → listed_before numbers (Some call) ≤ listed_before numbers (Some more)
listed_rises [] call more within = omega arith
listed_rises (number ∷ numbers) call more within = let rest = listed_rises numbers call more within in grind (arith, common_steps)

-- and one that is listed is one more
pub listed_one_more : (numbers : List ℕ) (call : ℕ) → is_listed numbers (Some call) ≡ true → listed_before numbers (Some call) + 1 ≤ listed_before numbers (Some (call + 1))
listed_one_more [] call is = absurd cc
listed_one_more (number ∷ numbers) call is =
    let rest = listed_one_more numbers call in
    let more = listed_rises numbers call (call + 1) (omega arith) in
    grind (arith, common_steps)

-- a call that isn't listed
pub listed_next : (numbers : List ℕ) (call : Option ℕ) → listed_before numbers call ≤ listed_before numbers (call_after call)
listed_next numbers None = omega arith
listed_next numbers (Some call) = by_test (λ (next : Option ℕ). listed_before numbers (Some call) ≤ listed_before numbers next) (nat_lt call (2 ^ 64 - 1)) (Some (call + 1)) None (λ _. listed_rises numbers call (call + 1) (omega arith)) (λ _. listed_most numbers (Some call))

-- a call that is listed: it is one more, and there was room for it
pub listed_now : (numbers : List ℕ) (call : Option ℕ) → is_listed numbers call ≡ true → (listed_before numbers call + 1 ≤ listed_before numbers (call_after call)) × (listed_before numbers call < length numbers)
listed_now numbers None is = absurd cc
listed_now numbers (Some call) is =
    let one = listed_one_more numbers call is in
    let most = listed_most numbers (Some (call + 1)) in
    let room : listed_before numbers (Some call) < length numbers = omega (arith, one, most) in
    (by_test (λ (next : Option ℕ). listed_before numbers (Some call) + 1 ≤ listed_before numbers next) (nat_lt call (2 ^ 64 - 1)) (Some (call + 1)) None (λ _. one) (λ _. omega (arith, room)), room)

-- an Idle answer comes at a listed call
idle_by : (ended fails idles none : Bool) (n : ℕ) → Idle ≡ (if ended then End else (if fails then Failed else (if idles then Idle else (if none then End else Bytes n)))) → idles ≡ true
idle_by true fails idles none n is = absurd cc
idle_by false true idles none n is = absurd cc
idle_by false false true none n is = refl
idle_by false false false true n is = absurd cc
idle_by false false false false n is = absurd cc

pub idle_is_listed : (s : MemReads) (room : ℕ) → Idle ≡ read_answer s room → is_listed s.idles s.call ≡ true
idle_is_listed s room is = idle_by s.ended (is_listed s.fails s.call) (is_listed s.idles s.call) (length s.left == 0) (min (min (length s.left) s.chunk) room) is
