-- Eight hexadecimal digits are a number of 32 bits.
use Rattle.std.proofs.Common.{◌≡◌, ◌≢◌, ◌∙◌, ◌<◌, ◌+◌, ◌*◌, ◌^◌, ◌==◌, ℕ, true, List, [], ◌∷◌, sym, ap, subst, arith, length, get_or, Some, None, Ok, Err, Result}
use Rattle.std.specs.Result.{result_ok}
use Rattle.std.specs.Char.{digit_value}
use Rattle.std.proofs.lemmas.Bool.{cond-true, and_parts, eqb-true}
use Rattle.std.proofs.lemmas.Grind.{common_steps}
use Rattle.std.proofs.lemmas.Str.Parse.{without_leading_plus_none}
use Rattle.std.specs.List.{list_all}
use Rattle.std.specs.Str.Parse.{AllDigits, IsNumeral, digits_value, without_leading_plus, ParsesUnsigned}
use Rattle.command_line.specs.Numbers.{is_digit}
use Rattle.command_line.specs.OperationTexts.{is_wire, wire_in}

digit_small : (b : ℕ) → is_digit b ≡ true → digit_value b < 16
digit_small b e = grind (arith, common_steps)

no_plus : (b : ℕ) → is_digit b ≡ true → b ≢ 43
no_plus b e same = cc (ap is_digit same, e)

all_digits : (ds : List ℕ) → list_all is_digit ds ≡ true → AllDigits 16 ds
all_digits [] e = tt
all_digits (d ∷ ds) e = let (one, rest) = and_parts (is_digit d) (list_all is_digit ds) e in (digit_small d one, all_digits ds rest)

sum_small : (a b c d e f g h : ℕ) → a < 16 → b < 16 → c < 16 → d < 16 → e < 16 → f < 16 → g < 16 → h < 16
    → (((((((0 * 16 + a) * 16 + b) * 16 + c) * 16 + d) * 16 + e) * 16 + f) * 16 + g) * 16 + h < 2 ^ 32
sum_small a b c d e f g h p q r s t u v w = omega (arith, p, q, r, s, t, u, v, w)

value_small : (ds : List ℕ) → length ds ≡ 8 → AllDigits 16 ds → digits_value 16 ds < 2 ^ 32
value_small [] never all = absurd (omega (arith, never))
value_small (a ∷ []) never all = absurd (omega (arith, never))
value_small (a ∷ b ∷ []) never all = absurd (omega (arith, never))
value_small (a ∷ b ∷ c ∷ []) never all = absurd (omega (arith, never))
value_small (a ∷ b ∷ c ∷ d ∷ []) never all = absurd (omega (arith, never))
value_small (a ∷ b ∷ c ∷ d ∷ e ∷ []) never all = absurd (omega (arith, never))
value_small (a ∷ b ∷ c ∷ d ∷ e ∷ f ∷ []) never all = absurd (omega (arith, never))
value_small (a ∷ b ∷ c ∷ d ∷ e ∷ f ∷ g ∷ []) never all = absurd (omega (arith, never))
value_small (a ∷ b ∷ c ∷ d ∷ e ∷ f ∷ g ∷ h ∷ []) eight (p, (q, (r, (s, (t, (u, (v, (w, end)))))))) =
    sum_small (digit_value a) (digit_value b) (digit_value c) (digit_value d) (digit_value e) (digit_value f) (digit_value g) (digit_value h) p q r s t u v w
value_small (a ∷ b ∷ c ∷ d ∷ e ∷ f ∷ g ∷ h ∷ i ∷ more) never all = absurd (omega (arith, never))

first_digit : (ds : List ℕ) → length ds ≡ 8 → list_all is_digit ds ≡ true → get_or ds 0 0 ≢ 43
first_digit [] never e = absurd (omega (arith, never))
first_digit (d ∷ ds) eight e = no_plus d (and_parts (is_digit d) (list_all is_digit ds) e).0

read_ok : {E : Type 0} (word : List ℕ) (r : Result ℕ E) → IsNumeral 16 word → digits_value 16 word < 2 ^ 32 → without_leading_plus word ≡ word → ParsesUnsigned 32 16 word r → result_ok r ≡ Some (digits_value 16 word)
read_ok word (Ok n) numeral small same read = ap Some (read.1 ∙ ap (digits_value 16) same)
read_ok word (Err e) numeral small same read =
    absurd (read (subst (λ ds. IsNumeral 16 ds × (digits_value 16 ds < 2 ^ 32)) (sym same) (numeral, small)))

pub wire_read : {E : Type 0} (word : List ℕ) (r : Result ℕ E) → is_wire word ≡ true → ParsesUnsigned 32 16 word r → result_ok r ≡ wire_in word
wire_read word r is read =
    let (one, each) = and_parts (length word == 8) (list_all is_digit word) is in
    let eight = eqb-true (length word) 8 one in
    let all = all_digits word each in
    read_ok word r (omega (arith, eight), all) (value_small word eight all) (without_leading_plus_none word (first_digit word eight each)) read
    ∙ sym (cond-true (is_wire word) (Some (digits_value 16 word)) None is)
