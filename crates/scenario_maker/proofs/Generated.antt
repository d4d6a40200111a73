-- Each generated scenario is authentic, and is played to its end.
use Rattle.std.proofs.Common.{◌≡◌, ◌∙◌, inl, inr, ℕ, zero, suc, ◌+◌, ◌*◌, ◌≤◌, true, false, List, [], ◌∷◌, ◌++◌, length, slice_get, append_assoc, Some, None, refl, sym, ap, subst, arith, All}
use Rattle.std.specs.List.{list_all, slice_split}
use Rattle.std.proofs.lemmas.List.Elements.{All-nil, All-cons}
use Rattle.std.proofs.lemmas.List.Splits.{slice_split_at}
use Rattle.command_inputs.specs.KeyText.{default_key}
use Rattle.node_reports.specs.Nodes.{Node}
use Rattle.fleet_world.specs.Authentic.{AuthenticDone, HoldsOfLines, Authentic}
use Rattle.fleet_world.specs.Scenario.{Played, unless_stopped, lines_played, at_start, rest_played}
use Rattle.scenario_lines.specs.FileLines.{is_newline, but_last, last_part, whole_lines, unfinished, without_cr}
use Rattle.fleet_invariants.specs.Laws.{is_noise}
use Rattle.fleet_invariants.specs.Sound.{Sound}
use Rattle.fleet_invariants.proofs.Lists.{nowhere, some_is}
use Rattle.fleet_invariants.proofs.Tests.{both_true}
use Rattle.fleet_invariants.proofs.Plays.{sound_lines, sound_start}
use Rattle.fleet_invariants.proofs.Quiet.{quiet_authentic}
use Rattle.fleet_invariants.proofs.Unspent.{none_spent}
use Rattle.scenario_maker.specs.declared.rounds.Course.{Course}
use Rattle.scenario_maker.specs.declared.rounds.Course.TheVariants.{Straight, Cancelled, Ticked, Repeated}
use Rattle.scenario_maker.specs.declared.rounds.Round.{Round}
use Rattle.scenario_maker.specs.Generator.{after, round_from, first_lines, flow_line, cancel_line, tick_line, deliver_line, course_lines, round_lines, lines_from, rounds, lines_of, text_of, scenario_text}
use Rattle.scenario_maker.specs.Generated.{generated}
use Rattle.scenario_maker.proofs.NumberWords.{is_printable}
use Rattle.scenario_maker.proofs.ReadLines.{items_say, begin_says, flow_says, cancel_says, tick_says, deliver_says}
use Rattle.scenario_maker.proofs.Turns.{IsIdle}
use Rattle.scenario_maker.proofs.Goings.{Calm, size}
use Rattle.scenario_maker.proofs.Playing.{no_cr, Ready, Final, Fair, fair, rounds_then}

-- ---- lines as bytes

-- a line that can be printed and is no noise
pub record Plain (raw : List ℕ) : Type 0 where
  pub printable : list_all is_printable raw ≡ true
  pub quiet : is_noise raw ≡ false

abbrev pub AllPlain : List (List ℕ) → Type 0
AllPlain [] = Unit {0}
AllPlain (raw ∷ more) = Plain raw × AllPlain more

no_newline : (b : ℕ) → is_printable b ≡ true → is_newline b ≡ false
no_newline b e = grind arith

no_newlines : (raw : List ℕ) → list_all is_printable raw ≡ true → All (λ b. is_newline b ≡ false) raw
no_newlines [] h = All-nil (λ b. is_newline b ≡ false)
no_newlines (b ∷ bs) h = let z = both_true (is_printable b) (list_all is_printable bs) h in All-cons (λ b. is_newline b ≡ false) b bs (no_newline b z.0) (no_newlines bs z.1)

-- the parts of a text are its lines, and one without a byte after the last LF
split_text : (lines : List (List ℕ)) → AllPlain lines → slice_split is_newline (text_of lines) ≡ lines ++ [] ∷ []
split_text [] h = refl
split_text (raw ∷ more) h =
    ap (slice_split is_newline) (append_assoc raw (10 ∷ []) (text_of more))
    ∙ slice_split_at is_newline raw 10 (text_of more) (no_newlines raw h.0.printable) refl
    ∙ ap (λ parts. raw ∷ parts) (split_text more h.1)

but_last_is : (lines : List (List ℕ)) → but_last (lines ++ [] ∷ []) ≡ lines
but_last_is [] = refl
but_last_is (raw ∷ []) = refl
but_last_is (raw ∷ next ∷ more) = ap (λ lines. raw ∷ lines) (but_last_is (next ∷ more))

last_part_is : (lines : List (List ℕ)) → last_part (lines ++ [] ∷ []) ≡ []
last_part_is [] = refl
last_part_is (raw ∷ []) = refl
last_part_is (raw ∷ next ∷ more) = last_part_is (next ∷ more)

whole_is : (lines : List (List ℕ)) → AllPlain lines → whole_lines (text_of lines) ≡ lines
whole_is lines h = ap but_last (split_text lines h) ∙ but_last_is lines

nothing_left : (lines : List (List ℕ)) → AllPlain lines → unfinished (text_of lines) ≡ []
nothing_left lines h = ap last_part (split_text lines h) ∙ last_part_is lines

-- ---- the lines of rounds

plain_append : (xs ys : List (List ℕ)) → AllPlain xs → AllPlain ys → AllPlain (xs ++ ys)
plain_append [] ys h k = k
plain_append (x ∷ xs) ys h k = (h.0, plain_append xs ys h.1 k)

module _ (r : ℕ) (x : Round) (f : Fair x) (inside : r ≤ 200) where
  flow_plain : (k : ℕ) → k ≤ 200 → Plain (flow_line k)
  flow_plain k few = record { printable = (flow_says 0 0 k (omega (arith, few))).printable; quiet = refl }

  cancel_plain : Plain (cancel_line x)
  cancel_plain = record { printable = (cancel_says 0 0 x.station f.station).printable; quiet = refl }

  tick_plain : Plain (tick_line x)
  tick_plain = record { printable = (tick_says 0 0 x.station f.station).printable; quiet = refl }

  deliver_plain : Plain (deliver_line x)
  deliver_plain = let known = f.known in record { printable = (deliver_says 0 0 x.again f.again (omega (arith, known)) x.drone f.drone).printable; quiet = refl }

  course_plain : (course : Course) → AllPlain (course_lines x course)
  course_plain Straight = (flow_plain 200 (omega arith), tt)
  course_plain Cancelled = let first = f.first in (flow_plain x.first (omega (arith, first)), (cancel_plain, (flow_plain 200 (omega arith), tt)))
  course_plain Ticked =
      let first = f.first in
      (flow_plain x.first (omega (arith, first)), (tick_plain, (tick_plain, (tick_plain, (tick_plain, (tick_plain, (flow_plain 200 (omega arith), tt)))))))
  course_plain Repeated = let first = f.first in (flow_plain x.first (omega (arith, first)), (deliver_plain, (flow_plain 200 (omega arith), tt)))

  round_plain : AllPlain (round_lines r x)
  round_plain =
      let few = f.few in (
        record { printable = refl; quiet = refl },
        (
          record {
            printable = (items_say 0 0 x.items (1000 * r) (2000 * r) f.some (omega (arith, few)) (omega (arith, inside)) (omega (arith, inside)) (omega (arith, few))).printable;
            quiet = refl;
          },
          (record { printable = (begin_says 0 0 x.station f.station x.drone f.drone).printable; quiet = refl }, course_plain x.course),
        ),
      )

rounds_plain : (left r s : ℕ) → r + left ≤ 201 → AllPlain (lines_from left r s)
rounds_plain zero r s few = tt
rounds_plain (suc left) r s few =
    plain_append (round_lines r (round_from s)) (lines_from left (r + 1) (after 6 s)) (round_plain r (round_from s) (fair s) (omega (arith, few))) (rounds_plain left (r + 1) (after 6 s) (omega (arith, few)))

line : (raw : List ℕ) → list_all is_printable raw ≡ true → is_noise raw ≡ false → Plain raw
line raw printable quiet = record { printable = printable; quiet = quiet }

first_plain : AllPlain first_lines
first_plain =
    (line _ refl refl, (line _ refl refl, (line _ refl refl, (line _ refl refl, (line _ refl refl, (line _ refl refl, (line _ refl refl, (line _ refl refl, tt))))))))

all_plain : (number : ℕ) → AllPlain (lines_of number)
unfolding rounds
all_plain number = plain_append first_lines (lines_from 200 1 number) first_plain (rounds_plain 200 1 number (omega arith))

-- ---- it is authentic

quiet_at : (lines : List (List ℕ)) → AllPlain lines → (i : ℕ) (raw : List ℕ) → slice_get lines i ≡ Some raw → is_noise (without_cr raw) ≡ false
quiet_at [] h i raw e = absurd (nowhere i raw e)
quiet_at (x ∷ xs) h zero raw e =
    subst (λ text. is_noise (without_cr text) ≡ false) (some_is e) (ap is_noise (no_cr x h.0.printable) ∙ h.0.quiet)
quiet_at (x ∷ xs) h (suc i) raw e = quiet_at xs h.1 i raw e

pub generated_authentic : (number : ℕ) → Authentic default_key true (scenario_text number)
generated_authentic number =
    let plain = all_plain number in
    let lines = lines_of number in
    quiet_authentic default_key true (scenario_text number)
    (record {
      lines = λ i raw e. quiet_at lines plain i raw (ap (λ (all : List (List ℕ)). slice_get all i) (sym (whole_is lines plain)) ∙ e);
      last = ap is_noise (nothing_left lines plain);
    })

-- ---- it is played to its end

-- after the nodes were named
abbrev first_played : Played
first_played = lines_played (at_start default_key) 1 first_lines

first_authentic : Authentic default_key true (text_of first_lines)
first_authentic =
    quiet_authentic default_key true (text_of first_lines)
    (record {
      lines = λ i raw e. quiet_at first_lines first_plain i raw (ap (λ (all : List (List ℕ)). slice_get all i) (sym (whole_is first_lines first_plain)) ∙ e);
      last = ap is_noise (nothing_left first_lines first_plain);
    })

abbrev AllIdle : List Node → Type 0
AllIdle [] = Unit {0}
AllIdle (n ∷ ns) = IsIdle n × AllIdle ns

idle_at : (ns : List Node) → AllIdle ns → (k : ℕ) (a : Node) → slice_get ns k ≡ Some a → IsIdle a
idle_at [] h k a e = absurd (nowhere k a e)
idle_at (n ∷ ns) h zero a e = subst IsIdle (some_is e) h.0
idle_at (n ∷ ns) h (suc k) a e = idle_at ns h.1 k a e

first_idle : AllIdle first_played.state.nodes
first_idle = (tt, (tt, (tt, (tt, ((refl, refl, refl), ((refl, refl, refl), ((refl, refl, refl), ((refl, refl, refl), tt))))))))

first_sound : Sound first_played.state
first_sound =
    sound_lines (at_start default_key) (sound_start default_key) 1 first_lines
    (subst (HoldsOfLines AuthenticDone (at_start default_key) 1) (whole_is first_lines first_plain) first_authentic.lines)

first_calm : Calm first_played.state
first_calm = record {
  sound = first_sound;
  carry = tt;
  idle = idle_at first_played.state.nodes first_idle;
  names = refl;
}

first_small : size first_played.state ≤ 0
first_small = omega arith

first_ready : Ready 0 (λ s. Unit {0}) first_played
first_ready = inl (record { going = refl; calm = first_calm; small = first_small }, tt)

first_then : (more : List (List ℕ)) → lines_played (at_start default_key) 1 (first_lines ++ more) ≡ lines_played first_played 9 more
first_then more = refl

lines_final : (number : ℕ) → Final (lines_played (at_start default_key) 1 (lines_of number))
unfolding rounds
lines_final number =
    subst Final (sym (first_then (lines_from 200 1 number)))
    (rounds_then 200 1 number 9 0 (omega arith) (omega arith) (omega arith) first_played 9 first_ready (omega arith))

-- nothing follows the last LF
ended_final : (q : Played) (number : ℕ) → Final q → Final (unless_stopped q.stop q (rest_played true q number []))
ended_final q number (inl e) = subst (λ o. Final (unless_stopped o q q)) (sym e) (inl e)
ended_final q number (inr e) = subst (λ o. Final (unless_stopped o q q)) (sym e) (inr e)

generated_final : (number : ℕ) → Final (generated number)
generated_final number =
    let plain = all_plain number in
    let lines = lines_of number in
    subst (λ (whole : List (List ℕ)). Final (unless_stopped (lines_played (at_start default_key) 1 whole).stop (lines_played (at_start default_key) 1 whole) (rest_played true (lines_played (at_start default_key) 1 whole) (length whole + 1) (unfinished (scenario_text number)))))
    (sym (whole_is lines plain))
    (subst (λ rest. Final (unless_stopped (lines_played (at_start default_key) 1 lines).stop (lines_played (at_start default_key) 1 lines) (rest_played true (lines_played (at_start default_key) 1 lines) (length lines + 1) rest)))
    (sym (nothing_left lines plain))
    (ended_final (lines_played (at_start default_key) 1 lines) (length lines + 1) (lines_final number)))

pub generated_done : (number : ℕ) → (generated number).stop ≡ None
generated_done number = by_final (generated_final number)
  where
    by_final : Final (generated number) → (generated number).stop ≡ None
    by_final (inl e) = e
    by_final (inr e) = absurd (none_spent default_key true (scenario_text number) (generated_authentic number) e)
