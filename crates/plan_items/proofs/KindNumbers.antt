-- Kinds and their numbers are inverse to each other.
use Rattle.std.proofs.Common.{◌≡◌, ℕ, ◌<◌, ◌≤◌, ◌==◌, true, false, if◌then◌else◌, refl, sym, ◌∙◌, ap, arith}
use Rattle.std.specs.Prelude.{Some, None}
use Rattle.std.proofs.lemmas.Bool.Decides.{nat_tests}
use Rattle.plan_items.specs.declared.kinds.PlanKind.{PlanKind}
use Rattle.plan_items.specs.declared.kinds.PlanKind.TheVariants.{Mission, Fence, Rally}
use Rattle.plan_items.specs.Kinds.{number_of, limit_of, kind_of}

-- the kind of a kind's number is that kind
pub kind_of-number_of : (kind : PlanKind) → kind_of (number_of kind) ≡ Some kind
kind_of-number_of Mission = refl
kind_of-number_of Fence = refl
kind_of-number_of Rally = refl

-- a kind's number is at most 2
pub number_of-bound : (kind : PlanKind) → number_of kind ≤ 2
number_of-bound Mission = omega arith
number_of-bound Fence = omega arith
number_of-bound Rally = omega arith

-- a number of which there is a kind is that kind's number
pub number_of-kind_of : (number : ℕ) (kind : PlanKind) → kind_of number ≡ Some kind → number_of kind ≡ number
number_of-kind_of number kind is = elim (number == 0) as (λ b. (number == 0) ≡ b → (if b then Some Mission else if number == 1 then Some Fence else if number == 2 then Some Rally else None) ≡ Some kind → number_of kind ≡ number) [
  | true ↦ λ zero_test found. let same : Mission ≡ kind = cc in sym (ap number_of same) ∙ grind (arith, nat_tests)
  | false ↦ λ zero_test found. elim (number == 1) as (λ b. (number == 1) ≡ b → (if b then Some Fence else if number == 2 then Some Rally else None) ≡ Some kind → number_of kind ≡ number) [
    | true ↦ λ one_test found'. let same : Fence ≡ kind = cc in sym (ap number_of same) ∙ grind (arith, nat_tests)
    | false ↦ λ one_test found'. elim (number == 2) as (λ b. (number == 2) ≡ b → (if b then Some Rally else None) ≡ Some kind → number_of kind ≡ number) [
      | true ↦ λ two_test found''. let same : Rally ≡ kind = cc in sym (ap number_of same) ∙ grind (arith, nat_tests)
      | false ↦ λ two_test found''. absurd (cc)
    ] refl found'
  ] refl found
] refl is

-- a number above 2 is of no kind
pub kind_of-above : (number : ℕ) → 2 < number → kind_of number ≡ None
kind_of-above number above = grind (arith, nat_tests)

-- a number of no kind is above 2
pub kind_of-none : (number : ℕ) → kind_of number ≡ None → 2 < number
kind_of-none number none = elim (number == 0) as (λ b. (number == 0) ≡ b → 2 < number) [
  | true ↦ λ test. absurd (let zero_is : number ≡ 0 = grind (arith, nat_tests) in let bad : kind_of 0 ≡ None = sym (ap kind_of zero_is) ∙ none in cc)
  | false ↦ λ zero_test. elim (number == 1) as (λ b. (number == 1) ≡ b → 2 < number) [
    | true ↦ λ test. absurd (let one_is : number ≡ 1 = grind (arith, nat_tests) in let bad : kind_of 1 ≡ None = sym (ap kind_of one_is) ∙ none in cc)
    | false ↦ λ one_test. elim (number == 2) as (λ b. (number == 2) ≡ b → 2 < number) [
      | true ↦ λ test. absurd (let two_is : number ≡ 2 = grind (arith, nat_tests) in let bad : kind_of 2 ≡ None = sym (ap kind_of two_is) ∙ none in cc)
      | false ↦ λ two_test. grind (arith, nat_tests)
    ] refl
  ] refl
] refl

-- a limit is from 50 to 1000
pub limit_of-bounds : (kind : ℕ) → (50 ≤ limit_of kind) × (limit_of kind ≤ 1000)
limit_of-bounds kind = elim (kind == 0) as (λ b. (50 ≤ (if b then 1000 else if kind == 1 then 200 else 50)) × ((if b then 1000 else if kind == 1 then 200 else 50) ≤ 1000)) [
  | true ↦ (omega arith, omega arith)
  | false ↦ elim (kind == 1) as (λ b. (50 ≤ (if b then 200 else 50)) × ((if b then 200 else 50) ≤ 1000)) [
    | true ↦ (omega arith, omega arith)
    | false ↦ (omega arith, omega arith)
  ]
]
