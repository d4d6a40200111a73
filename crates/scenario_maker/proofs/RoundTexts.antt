-- The text of rounds, one after another.
use Rattle.std.proofs.Common.{◌≡◌, ◌∙◌, ℕ, suc, ◌+◌, ◌-◌, ◌<◌, ◌≤◌, List, [], ◌∷◌, ◌++◌, refl, sym, ap, arith, append_assoc, append-nil}
use Rattle.scenario_maker.specs.declared.rounds.Round.{Round}
use Rattle.scenario_maker.specs.Generator.{after, round_from, round_lines, lines_from, rounds, line_text, text_of}

-- the text of lines after others
pub text_append : (xs ys : List (List ℕ)) → text_of (xs ++ ys) ≡ text_of xs ++ text_of ys
text_append [] ys = refl
text_append (x ∷ xs) ys = ap (λ text. line_text x ++ text) (text_append xs ys) ∙ sym (append_assoc (line_text x) (text_of xs) (text_of ys))

-- one round more was written of those that are left
one_round : (left r s : ℕ) (now new whole : List ℕ) → now ++ text_of (lines_from (suc left) r s) ≡ whole → new ≡ now ++ text_of (round_lines r (round_from s)) → new ++ text_of (lines_from left (r + 1) (after 6 s)) ≡ whole
one_round left r s now new whole before wrote =
    ap (λ text. text ++ text_of (lines_from left (r + 1) (after 6 s))) wrote
    ∙ append_assoc now (text_of (round_lines r (round_from s))) (text_of (lines_from left (r + 1) (after 6 s)))
    ∙ ap (λ text. now ++ text) (sym (text_append (round_lines r (round_from s)) (lines_from left (r + 1) (after 6 s))))
    ∙ before

pub more_rounds : (i s next : ℕ) (round : Round) (now new whole : List ℕ) → i < 200 → now ++ text_of (lines_from (rounds - i) (i + 1) s) ≡ whole → round ≡ round_from s → next ≡ after 6 s
    → new ≡ now ++ text_of (round_lines (i + 1) round) → new ++ text_of (lines_from (rounds - (i + 1)) (i + 1 + 1) next) ≡ whole
unfolding rounds
more_rounds i s next round now new whole inside before drawn state wrote =
    let left : 200 - i ≡ suc (200 - (i + 1)) = omega arith in
    ap (λ n. new ++ text_of (lines_from (200 - (i + 1)) (i + 1 + 1) n)) state
    ∙ one_round (200 - (i + 1)) (i + 1) s now new whole
    (ap (λ n. now ++ text_of (lines_from n (i + 1) s)) (sym left) ∙ before)
    (wrote ∙ ap (λ r. now ++ text_of (round_lines (i + 1) r)) drawn)

pub all_rounds : (i s : ℕ) (now whole : List ℕ) → 200 ≤ i → now ++ text_of (lines_from (rounds - i) (i + 1) s) ≡ whole → now ≡ whole
unfolding rounds
all_rounds i s now whole end before =
    let none : 200 - i ≡ 0 = omega arith in
    sym (append-nil now) ∙ ap (λ n. now ++ text_of (lines_from n (i + 1) s)) (sym none) ∙ before
