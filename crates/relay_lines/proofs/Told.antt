-- What was put is written or waits, or is told to be lost.
use Rattle.std.proofs.Common.{◌≡◌, ◌∙◌, ◌<◌, ◌≤◌, ◌==◌, ℕ, ◌+◌, false, nat_lt, min, List, [], ◌∷◌, ◌++◌, length, take, drop, refl}
use Rattle.std.proofs.Common.{sym, ap, arith, length-append, append_assoc}
use Rattle.std.specs.List.{flat_map}
use Rattle.std.proofs.lemmas.List.{append-nil, take-append-drop}
use Rattle.std.proofs.lemmas.Bool.{cond-true, le-leb}
use Rattle.std.proofs.lemmas.Bool.Decides.{nat_tests}
use Rattle.relay_lines.specs.Lines.{LinesState, first_line, has_room, is_empty, line_put, line_written, lines_of}
use Rattle.relay_lines.specs.Lines.{lines_limit, lost_before, lost_line, most_lost, one_lost, tell, tell_last}
use Rattle.relay_lines.specs.Telling.{IsAllTold, NoneForNothing, Said, Tells, said_of, said_text}
use Rattle.relay_lines.specs.Telling.Said.{Line, Lost}
use Rattle.relay_lines.proofs.Firsts.{by_cases, first_takes, is_below, is_zero}

said_more : {A : Type 0} (f : Said → List A) (xs : List Said) (x : Said)
    → flat_map f (xs ++ x ∷ []) ≡ flat_map f xs ++ f x
said_more f [] x = append-nil (f x)
said_more f (y ∷ xs) x = ap (λ l. f y ++ l) (said_more f xs x) ∙ sym (append_assoc (f y) (flat_map f xs) (f x))

true_more : (xs : List Said) (x : Said) → NoneForNothing xs → NoneForNothing (x ∷ []) → NoneForNothing (xs ++ x ∷ [])
true_more [] x all one = one
true_more (Line line ∷ xs) x all one = true_more xs x all one
true_more (Lost lines ∷ xs) x all one = (all.0, true_more xs x all.1 one)

none_missing : (missing : List (List ℕ)) → 0 ≡ min (length missing) most_lost → missing ≡ []
none_missing [] e = refl
none_missing (x ∷ xs) e = absurd (omega (arith, e))

-- a line more waits where none is lost
said_line : (all : List (List ℕ)) (written waiting line : List ℕ) → Tells all written (lines_of waiting 0)
    → Tells (all ++ line ∷ []) written (lines_of (waiting ++ line) 0)
said_line all written waiting line d =
    let none = none_missing d.missing d.count in
    let before = ap (λ (m : List (List ℕ)). flat_map said_of d.said ++ m) none
    ∙ append-nil (flat_map said_of d.said) in
    record {
      said = d.said ++ Line line ∷ [];
      missing = [];
      every = ap (λ (l : List (List ℕ)). l ++ line ∷ []) (d.every ∙ before)
          ∙ (sym (said_more said_of d.said (Line line))
          ∙ sym (append-nil (flat_map said_of (d.said ++ Line line ∷ []))));
      count = omega arith;
      true_ones = true_more d.said (Line line) d.true_ones tt;
      bytes = said_more said_text d.said (Line line)
          ∙ (ap (λ (l : List ℕ). l ++ line) d.bytes ∙ append_assoc written waiting line);
    }

some_missing : (lost count : ℕ) → lost ≡ min count most_lost → 0 < lost → 0 < count
some_missing lost count e some = omega (arith, e, some)

-- how many were lost is told
said_lost : (all : List (List ℕ)) (written : List ℕ) (lines : LinesState) → Tells all written lines
    → Tells all written (tell lines)
said_lost all written lines d =
    by_cases (λ (l : List ℕ). Tells all written (lines_of (lines.waiting ++ l) 0)) (nat_lt 0 lines.lost)
    (lost_line lines.lost) []
    (λ some. record {
      said = d.said ++ Lost d.missing ∷ [];
      missing = [];
      every = d.every ∙ (sym (said_more said_of d.said (Lost d.missing))
          ∙ sym (append-nil (flat_map said_of (d.said ++ Lost d.missing ∷ []))));
      count = omega arith;
      true_ones = true_more d.said (Lost d.missing) d.true_ones
          (some_missing lines.lost (length d.missing) d.count (is_below 0 lines.lost some), tt);
      bytes = said_more said_text d.said (Lost d.missing)
          ∙ ((λ i. d.bytes i ++ lost_line (sym d.count i))
          ∙ append_assoc written lines.waiting (lost_line lines.lost));
    })
    (λ none. record {
      said = d.said;
      missing = d.missing;
      every = d.every;
      count = sym (is_zero lines.lost none) ∙ d.count;
      true_ones = d.true_ones;
      bytes = d.bytes ∙ ap (λ (l : List ℕ). written ++ l) (sym (append-nil lines.waiting));
    })

said_last : (all : List (List ℕ)) (written : List ℕ) (lines : LinesState) → Tells all written lines
    → Tells all written (tell_last lines)
said_last all written lines d =
    by_cases (λ (s : LinesState). Tells all written s) (is_empty lines) (tell lines) lines
    (λ none. said_lost all written lines d) (λ some. d)

count_more : (lost count longer : ℕ) → lost ≡ min count most_lost → longer ≡ count + 1
    → min (lost + 1) most_lost ≡ min longer most_lost
count_more lost count longer e more = omega (arith, e, more)

lost_more : (all : List (List ℕ)) (written line : List ℕ) (lines : LinesState) → Tells all written lines
    → Tells (all ++ line ∷ []) written (one_lost lines)
lost_more all written line lines d = record {
  said = d.said;
  missing = d.missing ++ line ∷ [];
  every = ap (λ (l : List (List ℕ)). l ++ line ∷ []) d.every
      ∙ append_assoc (flat_map said_of d.said) d.missing (line ∷ []);
  count = count_more lines.lost (length d.missing) (length (d.missing ++ line ∷ [])) d.count
      (length-append d.missing (line ∷ []));
  true_ones = d.true_ones;
  bytes = d.bytes;
}

not_none : (n : ℕ) → (n == 0) ≡ false → n ≡ 0 → ⊥
not_none n some none = grind (arith, nat_tests, some, none)

all_told_last : (lines : LinesState) → IsAllTold (tell_last lines)
all_told_last lines =
    by_cases IsAllTold (is_empty lines) (tell lines) lines
    (λ none e. refl) (λ some e. absurd (not_none (length lines.waiting) some e))

pub tells_all : (line : List ℕ) (count : ℕ) (lines : LinesState)
    → IsAllTold (line_put line lines) × IsAllTold (line_written count lines)
tells_all line count lines = (
  by_cases IsAllTold (has_room line lines) (lines_of ((tell lines).waiting ++ line) 0) (tell_last (one_lost lines))
      (λ room e. refl) (λ none. all_told_last (one_lost lines)),
  all_told_last (lines_of (drop count lines.waiting) lines.lost),
)

pub tells_new : Tells [] [] (lines_of [] 0)
tells_new =
    record { said = []; missing = []; every = refl; count = omega arith; true_ones = tt; bytes = refl }

pub tells_put : (all : List (List ℕ)) (written line : List ℕ) (lines : LinesState) → Tells all written lines
    → Tells (all ++ line ∷ []) written (line_put line lines)
tells_put all written line lines d =
    by_cases (λ (s : LinesState). Tells (all ++ line ∷ []) written s) (has_room line lines)
    (lines_of ((tell lines).waiting ++ line) 0) (tell_last (one_lost lines))
    (λ room. said_line all written (tell lines).waiting line (said_lost all written lines d))
    (λ none. said_last (all ++ line ∷ []) written (one_lost lines) (lost_more all written line lines d))

pub tells_wrote : (all : List (List ℕ)) (written : List ℕ) (count : ℕ) (lines : LinesState) → Tells all written lines
    → count ≤ length (first_line lines.waiting)
    → Tells all (written ++ take count (first_line lines.waiting)) (line_written count lines)
tells_wrote all written count lines d few =
    let waiting = lines.waiting in
    said_last all (written ++ take count (first_line waiting)) (lines_of (drop count waiting) lines.lost) (record {
      said = d.said;
      missing = d.missing;
      every = d.every;
      count = d.count;
      true_ones = d.true_ones;
      bytes = d.bytes ∙ (ap (λ (l : List ℕ). written ++ l) (sym (take-append-drop count waiting))
          ∙ (sym (append_assoc written (take count waiting) (drop count waiting))
          ∙ ap (λ (l : List ℕ). (written ++ l) ++ drop count waiting) (sym (first_takes count waiting few))));
    })

-- a line with room waits
pub tells_room : (line : List ℕ) (lines : LinesState) → length (lines.waiting ++ lost_before lines.lost) + length line ≤ lines_limit
    → line_put line lines ≡ lines_of ((lines.waiting ++ lost_before lines.lost) ++ line) 0
tells_room line lines fits =
    cond-true (has_room line lines) _ _ (le-leb (length (lines.waiting ++ lost_before lines.lost) + length line) lines_limit fits)
