-- The number of a single word.
use Rattle.std.proofs.Common.{◌≡◌, ◌∙◌, ◌≤◌, ◌<◌, ℕ, List, [], ◌∷◌, sym, ap, arith, length, get_or, map, Option, Some, None, is_some, String, string_bytes}
use Rattle.std.specs.Fmt.{decimal}
use Rattle.std.specs.declared.alloc.Global.{Global}
use Rattle.command_line.specs.Numbers.{number_in}
use Rattle.command_line.specs.PortTexts.{IsRead}
use Rattle.command_line.specs.Lines.{is_one_number}
use Rattle.command_line.proofs.Numerals.{number_is}

pub one_word : (xs : List (String Global)) (x : String Global) → 1 ≤ length xs → length xs < 2 → x ≡ get_or xs 0 x → map string_bytes xs ≡ string_bytes x ∷ []
one_word [] x some few is = absurd (omega (arith, some))
one_word (y ∷ []) x some few is = ap (λ z. string_bytes z ∷ []) (sym is)
one_word (y ∷ z ∷ zs) x some few is = absurd (omega (arith, few))

pub one_read : (ws : List (List ℕ)) (w : List ℕ) (r : Option ℕ) → ws ≡ w ∷ [] → r ≡ number_in 0 1000000 w → IsRead (λ n. decimal n ∷ []) (is_one_number ws) ws r
one_read ws w None same is = ap is_one_number same ∙ ap is_some (sym is)
one_read ws w (Some n) same is =
    let (written, least, most) = number_is 0 1000000 n w (sym is) in
    (ap is_one_number same ∙ ap is_some (sym is), ap (λ v. v ∷ []) (sym written) ∙ sym same)
