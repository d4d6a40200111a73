-- What is given to be written is a line, or the rest of one.
use Rattle.std.proofs.Common.{◌≡◌, ◌∙◌, ◌<◌, ◌⊎◌, inl, inr, ℕ, suc, ◌^◌, ◌==◌, min, Bool, true, false, if◌then◌else◌}
use Rattle.std.proofs.Common.{List, [], ◌∷◌, ◌++◌, length, refl, sym, ap, subst, arith, length-append, append_assoc}
use Rattle.std.specs.Fmt.{decimal}
use Rattle.std.specs.Bool.{⊤}
use Rattle.std.specs.List.{flat_map}
use Rattle.std.specs.Str.Parse.{AllDigits}
use Rattle.std.proofs.lemmas.Fmt.{decimal_is_IsNumeral}
use Rattle.std.proofs.lemmas.Str.Parse.{digit_from_value}
use Rattle.std.proofs.lemmas.Bool.Decides.{nat_tests}
use Rattle.relay_lines.specs.Lines.{LinesState, first_line, lost_line, most_lost}
use Rattle.relay_lines.specs.Telling.{AreLines, GivesLine, Said, Tells, is_line, said_of, said_text}
use Rattle.relay_lines.specs.Telling.Said.{Line, Lost}
use Rattle.relay_lines.proofs.Firsts.{by_cases, is_none}

is_ten : (n : ℕ) → (n == 10) ≡ true → n ≡ 10
is_ten n e = grind (arith, nat_tests, e)

digits_line : (digits : List ℕ) → AllDigits 10 digits → is_line (digits ++ 10 ∷ []) ≡ true
digits_line [] all = refl
digits_line (d ∷ digits) all =
    by_cases (λ (t : Bool). t ≡ true) (d == 10) (length (digits ++ 10 ∷ []) == 0) (is_line (digits ++ 10 ∷ []))
    (λ is. let ten = is_ten d is in let range = digit_from_value d all.0 in absurd (omega (arith, ten, range)))
    (λ other. digits_line digits all.1)

lost_is_line : (lost : ℕ) → lost < 2 ^ 64 → is_line (lost_line lost) ≡ true
lost_is_line lost small = digits_line (decimal lost) (decimal_is_IsNumeral lost small).0.1

no_bytes : (bytes : List ℕ) → (length bytes == 0) ≡ true → bytes ≡ []
no_bytes [] e = refl
no_bytes (b ∷ bs) e = let none = is_none (suc (length bs)) e in absurd (omega (arith, none))

some_bytes : (front : List ℕ) (b : ℕ) (bs : List ℕ) → (length (front ++ b ∷ bs) == 0) ≡ true → ⊥
some_bytes front b bs e =
    let none = is_none (length (front ++ b ∷ bs)) e in
    let long = length-append front (b ∷ bs) in
    omega (arith, none, long)

rest_step : (t : Bool) (front : List ℕ) (b : ℕ) (bs : List ℕ)
    → (is_line (front ++ b ∷ bs) ≡ true → is_line (b ∷ bs) ≡ true)
    → (if t then length (front ++ b ∷ bs) == 0 else is_line (front ++ b ∷ bs)) ≡ true → is_line (b ∷ bs) ≡ true
rest_step true front b bs rest e = absurd (some_bytes front b bs e)
rest_step false front b bs rest e = rest e

-- the rest of a line is a line
rest_is_line : (front : List ℕ) (b : ℕ) (bs : List ℕ) → is_line (front ++ b ∷ bs) ≡ true → is_line (b ∷ bs) ≡ true
rest_is_line [] b bs e = e
rest_is_line (x ∷ front) b bs e = rest_step (x == 10) front b bs (rest_is_line front b bs) e

first_step : (t : Bool) (b : ℕ) (bs more : List ℕ) → (is_line bs ≡ true → first_line (bs ++ more) ≡ bs)
    → (if t then length bs == 0 else is_line bs) ≡ true
    → (if t then b ∷ [] else b ∷ first_line (bs ++ more)) ≡ b ∷ bs
first_step true b bs more rest e = ap (λ (l : List ℕ). b ∷ l) (sym (no_bytes bs e))
first_step false b bs more rest e = ap (λ (l : List ℕ). b ∷ l) (rest e)

first_is : (line more : List ℕ) → is_line line ≡ true → first_line (line ++ more) ≡ line
first_is [] more e = absurd (cc)
first_is (b ∷ bs) more e = first_step (b == 10) b bs more (first_is bs more) e

same_tail : {x y : ℕ} {xs ys : List ℕ} → x ∷ xs ≡ y ∷ ys → xs ≡ ys
same_tail {x} {y} {xs} {ys} e = cc

same_head : {x y : ℕ} {xs ys : List ℕ} → x ∷ xs ≡ y ∷ ys → x ≡ y
same_head {x} {y} {xs} {ys} e = cc

-- where the bytes written end: behind a text, or inside of it
Ends : (text rest written waiting : List ℕ) → Type 0
Ends text rest written waiting =
    ((more : List ℕ) × (written ≡ text ++ more) × (rest ≡ more ++ waiting))
    ⊎ ((b : ℕ) × (bs : List ℕ) × (text ≡ written ++ b ∷ bs) × (waiting ≡ (b ∷ bs) ++ rest))

ends_later : (x y : ℕ) (text rest written waiting : List ℕ) → x ≡ y → Ends text rest written waiting
    → Ends (x ∷ text) rest (y ∷ written) waiting
unfolding Ends
ends_later x y text rest written waiting same (inl e) =
    inl (e.0, (λ i. sym same i ∷ e.1 i), e.2)
ends_later x y text rest written waiting same (inr e) =
    inr (e.0, e.1, (λ i. same i ∷ e.2 i), e.3)

ends : (text rest written waiting : List ℕ) → text ++ rest ≡ written ++ waiting → Ends text rest written waiting
unfolding Ends
ends [] rest written waiting e = inl (written, refl, e)
ends (x ∷ text) rest [] waiting e = inr (x, text, refl, sym e)
ends (x ∷ text) rest (y ∷ written) waiting e =
    ends_later x y text rest written waiting (same_head e) (ends text rest written waiting (same_tail e))

-- each text is a line
abbrev TextsAreLines : List Said → Type 0
TextsAreLines [] = ⊤
TextsAreLines (s ∷ rest) = (is_line (said_text s) ≡ true) × TextsAreLines rest

gives_later : (s : Said) (said : List Said) (more written waiting : List ℕ) → written ≡ said_text s ++ more
    → GivesLine said more waiting → GivesLine (s ∷ said) written waiting
gives_later s said more written waiting e g = record {
  before = s ∷ g.before;
  next = g.next;
  later = g.later;
  part = g.part;
  all = ap (λ (l : List Said). s ∷ l) g.all;
  bytes = e ∙ (ap (λ (l : List ℕ). said_text s ++ l) g.bytes
      ∙ sym (append_assoc (said_text s) (flat_map said_text g.before) g.part));
  rest = g.rest;
}

gives_here : (s : Said) (said : List Said) (written waiting : List ℕ) (b : ℕ) (bs after : List ℕ)
    → is_line (said_text s) ≡ true → said_text s ≡ written ++ b ∷ bs → waiting ≡ (b ∷ bs) ++ after
    → GivesLine (s ∷ said) written waiting
gives_here s said written waiting b bs after line e is =
    let rest = rest_is_line written b bs (subst (λ (l : List ℕ). is_line l ≡ true) e line) in
    record {
      before = [];
      next = s;
      later = said;
      part = written;
      all = refl;
      bytes = refl;
      rest = e ∙ ap (λ (l : List ℕ). written ++ l) (sym (ap first_line is ∙ first_is (b ∷ bs) after rest));
    }

none_wait : (written waiting : List ℕ) → [] ≡ written ++ waiting → 0 < length waiting → ⊥
none_wait written waiting e some =
    let long = length-append written waiting in
    let none = ap (length {A = ℕ}) e in
    omega (arith, long, none, some)

gives : (said : List Said) (written waiting : List ℕ) → TextsAreLines said
    → flat_map said_text said ≡ written ++ waiting → 0 < length waiting → GivesLine said written waiting
unfolding Ends
gives [] written waiting all e some = absurd (none_wait written waiting e some)
gives (s ∷ said) written waiting all e some =
    elim (ends (said_text s) (flat_map said_text said) written waiting e) [
      | inl f ↦ gives_later s said f.0 written waiting f.1 (gives said f.0 waiting all.1 f.2 some)
      | inr f ↦ gives_here s said written waiting f.0 f.1 (flat_map said_text said) all.0 f.2 f.3
    ]

lines_after : (front lines : List (List ℕ)) → AreLines (front ++ lines) → AreLines lines
lines_after [] lines all = all
lines_after (x ∷ front) lines all = lines_after front lines all.1

few_lost : (count : ℕ) → min count most_lost < 2 ^ 64
few_lost count = omega arith

texts : (said : List Said) (missing : List (List ℕ)) → AreLines (flat_map said_of said ++ missing)
    → TextsAreLines said
texts [] missing all = tt
texts (Line line ∷ said) missing all = (all.0, texts said missing all.1)
texts (Lost lines ∷ said) missing all =
    let rest = subst AreLines (append_assoc lines (flat_map said_of said) missing) all in (
      lost_is_line (min (length lines) most_lost) (few_lost (length lines)),
      texts said missing (lines_after lines (flat_map said_of said ++ missing) rest),
    )

pub tells_next : (all : List (List ℕ)) (written : List ℕ) (lines : LinesState) (tells : Tells all written lines)
    → AreLines all → 0 < length lines.waiting → GivesLine tells.said written lines.waiting
tells_next all written lines d each some =
    gives d.said written lines.waiting (texts d.said d.missing (subst AreLines d.every each)) d.bytes some
