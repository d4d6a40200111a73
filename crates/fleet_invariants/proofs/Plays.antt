-- Scenarios lead to sound states.
use Rattle.std.proofs.Common.{◌≡◌, ℕ, ◌+◌, Bool, true, false, if◌then◌else◌, nat_lt, List, [], ◌∷◌, length, Option, Some, None, Ok, Err, refl, subst, arith}
use Rattle.std.specs.declared.result.Result.{Result}
use Rattle.std.proofs.lemmas.List.Elements.{All-nil}
use Rattle.plan_ranges.specs.Ranges.{ItemInRange}
use Rattle.scenario_lines.specs.declared.faults.Reason.{Reason}
use Rattle.scenario_lines.specs.declared.faults.Reason.TheVariants.{Long}
use Rattle.scenario_lines.specs.declared.lines.Line.{Line}
use Rattle.scenario_lines.specs.Grammar.{line_of, most_line_bytes}
use Rattle.scenario_lines.specs.Reasons.{reason_against}
use Rattle.fleet_world.specs.WorldState.{empty_state, context_of}
use Rattle.fleet_world.specs.Steps.{Step, StepError, after_line}
use Rattle.fleet_world.specs.Scenario.{ScenarioError, Bad, Too_many_lines, Played, stopped, goes_on, judged, line_played, unless_stopped, lines_played, at_start, last_played, rest_played}
use Rattle.scenario_lines.specs.FileLines.{most_lines, whole_lines, unfinished, without_cr}
use Rattle.fleet_world.specs.Authentic.{line_read, line_done, AuthenticDone, UnlessStopped, HoldsOfLines, HoldsOfLast}
use Rattle.fleet_invariants.specs.Sound.{Sound}
use Rattle.fleet_invariants.specs.Kept.{KeepsLine}
use Rattle.fleet_invariants.specs.Laws.{EveryLinesSound, EveryStateSound}
use Rattle.fleet_invariants.proofs.Lists.{nowhere}
use Rattle.fleet_invariants.proofs.Tests.{by_test}
use Rattle.fleet_invariants.proofs.Lines.{sound_line}
use Rattle.fleet_invariants.proofs.Readings.{read_fits}

abbrev IsSound : Played → Type 0
IsSound p = Sound p.state

-- ---- one line

went_on : (p : Played) (line : Line) (r : Result Step StepError) → Sound p.state → KeepsLine p.state line r → IsSound (goes_on p r)
went_on p line (Ok t) g h = h.sound
went_on p line (Err error) g h = g

judging : (p : Played) → Sound p.state → (number : ℕ) (text : List ℕ) (reason : Option Reason) → reason_against (context_of p.state) text ≡ reason → AuthenticDone p.state (line_read text reason) → IsSound (judged p number text reason)
judging p g number text (Some reason) e authentic = g
judging p g number text None e authentic =
    let read = read_fits (context_of p.state) text e in
    went_on p (line_of text) (after_line p.state (line_of text)) g (sound_line p.state g (line_of text) read.0 read.1 authentic)

-- what is done at a line, if it isn't one too many or too long
pub choosing : {A : Type 0} (P : Played → Type 0) (Q : A → Type 0) (b : Bool) (x y : Played) (u v : A) → (Q u → P x) → (Q v → P y) → Q (if b then u else v) → P (if b then x else y)
choosing P Q true x y u v f g h = f h
choosing P Q false x y u v f g h = g h

pub one_line : (p : Played) → Sound p.state → (number : ℕ) (raw text : List ℕ) → AuthenticDone p.state (line_done p.state number raw text)
    → IsSound (if nat_lt most_lines number then stopped p Too_many_lines else if nat_lt most_line_bytes (length raw) then stopped p (Bad number Long) else judged p number text (reason_against (context_of p.state) text))
one_line p g number raw text authentic =
    choosing IsSound (AuthenticDone p.state) (nat_lt most_lines number) (stopped p Too_many_lines) _ None _ (λ _. g)
    (choosing IsSound (AuthenticDone p.state) (nat_lt most_line_bytes (length raw)) (stopped p (Bad number Long)) _ None _ (λ _. g)
    (judging p g number text (reason_against (context_of p.state) text) refl))
    authentic

-- ---- lines

halted : (o : Option ScenarioError) (p next : Played) (T : Type 0) → Sound p.state → UnlessStopped o T → (T → IsSound next) → IsSound (unless_stopped o p next)
halted None p next T g h each = each h
halted (Some stop) p next T g h each = g

sound_from : (lines : List (List ℕ)) (p : Played) → Sound p.state → (number : ℕ) → HoldsOfLines AuthenticDone p number lines → Sound (lines_played p number lines).state
sound_from [] p g number authentic = g
sound_from (raw ∷ more) p g number authentic =
    halted p.stop p (lines_played (line_played p number raw) (number + 1) more) _ g authentic (λ h.
    sound_from more (line_played p number raw) (one_line p g number raw (without_cr raw) h.0) (number + 1) h.1)

pub sound_lines : EveryLinesSound
sound_lines p g number lines authentic = sound_from lines p g number authentic

-- ---- a scenario

pub sound_start : (key : List ℕ) → Sound (empty_state key)
sound_start key = record {
  apart = λ i j a b ea eb e. absurd (nowhere i a ea);
  links = λ i a e. absurd (nowhere i a e);
  cores = λ i a e. absurd (nowhere i a e);
  sent = λ i p e. absurd (nowhere i p e);
  frames = omega arith;
  given = omega arith;
  drones = omega arith;
  stations = omega arith;
  draft = All-nil ItemInRange;
  clock = omega arith;
  restarts = omega arith;
}

last_line : (p : Played) → Sound p.state → (number : ℕ) (rest : List ℕ) → p.stop ≡ None → HoldsOfLast AuthenticDone true p number rest → IsSound (last_played p number rest)
last_line p g number [] e authentic = g
last_line p g number (b ∷ bs) e authentic =
    one_line p g number (b ∷ bs) (b ∷ bs) (subst (λ (o : Option ScenarioError). UnlessStopped o (AuthenticDone p.state (line_done p.state number (b ∷ bs) (b ∷ bs)))) e authentic)

rest_line : (ended : Bool) (p : Played) → Sound p.state → (number : ℕ) (rest : List ℕ) → p.stop ≡ None → HoldsOfLast AuthenticDone ended p number rest → IsSound (rest_played ended p number rest)
rest_line true p g number rest e authentic = last_line p g number rest e authentic
rest_line false p g number rest e authentic =
    by_test IsSound (nat_lt most_line_bytes (length rest)) _ p
    (λ _. by_test IsSound (nat_lt most_lines number) _ _ (λ _. g) (λ _. g)) (λ _. g)

finished : (o : Option ScenarioError) (p next : Played) → Sound p.state → p.stop ≡ o → (p.stop ≡ None → IsSound next) → IsSound (unless_stopped o p next)
finished None p next g e each = each e
finished (Some stop) p next g e each = g

pub sound_state : EveryStateSound
sound_state key ended bytes authentic =
    let lines = lines_played (at_start key) 1 (whole_lines bytes) in
    let g : Sound lines.state = sound_lines (at_start key) (sound_start key) 1 (whole_lines bytes) authentic.lines in
    finished lines.stop lines (rest_played ended lines (length (whole_lines bytes) + 1) (unfinished bytes)) g refl (λ e.
    rest_line ended lines g (length (whole_lines bytes) + 1) (unfinished bytes) e authentic.last)
