-- The lines that a block holds before the digits of hundreds and bytes are written.
use Rattle.std.specs.Prelude.{ℕ, zero, suc, List, [], ◌∷◌, ◌++◌, codes}
use Rattle.std.specs.Fmt.{decimal}
use Rattle.mav_frame.specs.declared.looks.Why.{Why}
use Rattle.mav_text.specs.FrameText.{pair_text, why_text}

-- the line of an offset with these ten thousands, no hundreds and these last two digits, with `00` in place of the
-- byte's digits
abbrev pub blank_line : ℕ → ℕ → Why → List ℕ
blank_line ten_thousands pair why = decimal ten_thousands
    ++ (codes "00" ++ (pair_text pair ++ (codes " skip 00 " ++ why_text why ++ 10 ∷ [])))

-- so many of them, from these last two digits on
abbrev pub blank_lines : ℕ → ℕ → ℕ → Why → List ℕ
blank_lines zero ten_thousands pair why = []
blank_lines (suc count) ten_thousands pair why =
    blank_line ten_thousands pair why ++ blank_lines count ten_thousands (suc pair) why
