-- What lines lead to, one after another.
use Rattle.std.proofs.Common.{◌≡◌, ◌∙◌, ℕ, ◌+◌, Bool, true, false, nat_lt, List, [], ◌∷◌, ◌++◌, length, Option, Some, None, Ok, Err, refl, sym, ap, arith, append_assoc}
use Rattle.std.specs.Prelude.{IfOk}
use Rattle.std.specs.declared.result.Result.{Result}
use Rattle.std.proofs.lemmas.List.{append-nil}
use Rattle.scenario_lines.specs.declared.faults.Reason.{Reason}
use Rattle.scenario_lines.specs.declared.faults.Reason.TheVariants.{Long}
use Rattle.scenario_lines.specs.Grammar.{line_of, most_line_bytes}
use Rattle.scenario_lines.specs.Reasons.{reason_against}
use Rattle.fleet_report.specs.Events.{Event}
use Rattle.fleet_world.specs.WorldState.{context_of}
use Rattle.fleet_world.specs.Steps.{Step, StepError, after_line}
use Rattle.fleet_world.specs.Scenario.{Played, ScenarioError, Bad, Too_many_lines, Not_done, stopped, goes_on, judged, line_played, last_played, rest_played, unless_stopped, lines_played}
use Rattle.scenario_lines.specs.FileLines.{without_cr, most_lines}
use Rattle.fleet_invariants.proofs.Tests.{by_test}

-- a line that didn't stop the scenario was done
judged_done : (p : Played) (number : ℕ) (text : List ℕ) (reason : Option Reason) → (judged p number text reason).stop ≡ None → judged p number text reason ≡ goes_on p (after_line p.state (line_of text))
judged_done p number text (Some reason) e = absurd (cc)
judged_done p number text None e = refl

pub line_done : (p : Played) (number : ℕ) (raw : List ℕ) → (line_played p number raw).stop ≡ None → line_played p number raw ≡ goes_on p (after_line p.state (line_of (without_cr raw)))
line_done p number raw =
    let P : Played → Type 0 = λ q. q.stop ≡ None → q ≡ goes_on p (after_line p.state (line_of (without_cr raw))) in
    by_test P (nat_lt most_lines number) _ _ (λ _ e. absurd (cc)) (λ _.
    by_test P (nat_lt most_line_bytes (length raw)) _ _ (λ _ e. absurd (cc)) (λ _. judged_done p number (without_cr raw) (reason_against (context_of p.state) (without_cr raw))))

pub last_done : (p : Played) (number : ℕ) (b : ℕ) (bs : List ℕ) → (last_played p number (b ∷ bs)).stop ≡ None → last_played p number (b ∷ bs) ≡ goes_on p (after_line p.state (line_of (b ∷ bs)))
last_done p number b bs =
    let P : Played → Type 0 = λ q. q.stop ≡ None → q ≡ goes_on p (after_line p.state (line_of (b ∷ bs))) in
    by_test P (nat_lt most_lines number) _ _ (λ _ e. absurd (cc)) (λ _.
    by_test P (nat_lt most_line_bytes (length (b ∷ bs))) _ _ (λ _ e. absurd (cc)) (λ _. judged_done p number (b ∷ bs) (reason_against (context_of p.state) (b ∷ bs))))

-- a step that met no limit
pub record Done (P : Step → Type 0) (p : Played) (r : Result Step StepError) : Type 0 where
  pub step : Step
  pub is : goes_on p r ≡ record { state = step.state; events = p.events ++ step.events; stop = None }
  pub holds : P step

pub goes_done : (P : Step → Type 0) (p : Played) (r : Result Step StepError) → (goes_on p r).stop ≡ None → IfOk r P → Done P p r
goes_done P p (Ok t) e h = record { step = t; is = refl; holds = h }
goes_done P p (Err error) e h = absurd (cc)

-- events only come after those that are there
pub record Grows (p q : Played) : Type 0 where
  pub more : List Event
  pub is : q.events ≡ p.events ++ more

grows_not : (p : Played) (stop : ScenarioError) → Grows p (stopped p stop)
grows_not p stop = record { more = []; is = sym (append-nil p.events) }

pub grows_same : (p : Played) → Grows p p
grows_same p = record { more = []; is = sym (append-nil p.events) }

pub grows_then : (p q r : Played) → Grows p q → Grows q r → Grows p r
grows_then p q r a b = record { more = a.more ++ b.more; is = b.is ∙ ap (λ z. z ++ b.more) a.is ∙ append_assoc p.events a.more b.more }

goes_grow : (p : Played) (r : Result Step StepError) → Grows p (goes_on p r)
goes_grow p (Ok t) = record { more = t.events; is = refl }
goes_grow p (Err error) = grows_not p (Not_done error)

judged_grows : (p : Played) (number : ℕ) (text : List ℕ) (reason : Option Reason) → Grows p (judged p number text reason)
judged_grows p number text (Some reason) = grows_not p (Bad number reason)
judged_grows p number text None = goes_grow p (after_line p.state (line_of text))

line_grows : (p : Played) (number : ℕ) (raw : List ℕ) → Grows p (line_played p number raw)
line_grows p number raw =
    by_test (Grows p) (nat_lt most_lines number) _ _ (λ _. grows_not p Too_many_lines) (λ _.
    by_test (Grows p) (nat_lt most_line_bytes (length raw)) _ _ (λ _. grows_not p (Bad number Long)) (λ _. judged_grows p number (without_cr raw) (reason_against (context_of p.state) (without_cr raw))))

unless_grows : (stop : Option ScenarioError) (p q : Played) → Grows p q → Grows p (unless_stopped stop p q)
unless_grows None p q g = g
unless_grows (Some stop) p q g = grows_same p

pub lines_grow : (lines : List (List ℕ)) (p : Played) (number : ℕ) → Grows p (lines_played p number lines)
lines_grow [] p number = grows_same p
lines_grow (raw ∷ more) p number =
    unless_grows p.stop p (lines_played (line_played p number raw) (number + 1) more)
    (grows_then p (line_played p number raw) (lines_played (line_played p number raw) (number + 1) more) (line_grows p number raw) (lines_grow more (line_played p number raw) (number + 1)))

rest_grows : (ended : Bool) (p : Played) (number : ℕ) (rest : List ℕ) → Grows p (rest_played ended p number rest)
rest_grows true p number [] = grows_same p
rest_grows true p number (b ∷ bs) =
    by_test (Grows p) (nat_lt most_lines number) _ _ (λ _. grows_not p Too_many_lines) (λ _.
    by_test (Grows p) (nat_lt most_line_bytes (length (b ∷ bs))) _ _ (λ _. grows_not p (Bad number Long)) (λ _. judged_grows p number (b ∷ bs) (reason_against (context_of p.state) (b ∷ bs))))
rest_grows false p number rest =
    by_test (Grows p) (nat_lt most_line_bytes (length rest)) _ _
    (λ _. by_test (Grows p) (nat_lt most_lines number) _ _ (λ _. grows_not p Too_many_lines) (λ _. grows_not p (Bad number Long))) (λ _. grows_same p)

pub end_grows : (ended : Bool) (p : Played) (number : ℕ) (rest : List ℕ) → Grows p (unless_stopped p.stop p (rest_played ended p number rest))
end_grows ended p number rest = unless_grows p.stop p (rest_played ended p number rest) (rest_grows ended p number rest)

-- lines and more lines
pub unless_none : (stop : Option ScenarioError) (p q : Played) → stop ≡ None → unless_stopped stop p q ≡ q
unless_none None p q e = refl
unless_none (Some stop) p q e = absurd (cc)

pub one_line : (p : Played) (number : ℕ) (raw : List ℕ) (more : List (List ℕ)) → p.stop ≡ None → lines_played p number (raw ∷ more) ≡ lines_played (line_played p number raw) (number + 1) more
one_line p number raw more e = unless_none p.stop p (lines_played (line_played p number raw) (number + 1) more) e

-- a stopped scenario stays unchanged
stays : (p : Played) (number : ℕ) (more : List (List ℕ)) (stop : ScenarioError) → p.stop ≡ Some stop → lines_played p number more ≡ p
stays p number [] stop e = refl
stays p number (raw ∷ more) stop e = ap (λ s. unless_stopped s p (lines_played (line_played p number raw) (number + 1) more)) e

through : (p whole first : Played) (number : ℕ) (more : List (List ℕ)) → whole ≡ lines_played first number more → (stop : Option ScenarioError) → p.stop ≡ stop → unless_stopped stop p whole ≡ lines_played (unless_stopped stop p first) number more
through p whole first number more h None e = h
through p whole first number more h (Some stop) e = sym (stays p number more stop e)

pub front_and : (front more : List (List ℕ)) (p : Played) (number : ℕ) → lines_played p number (front ++ more) ≡ lines_played (lines_played p number front) (number + length front) more
front_and [] more p number = ap (λ n. lines_played p n more) (let z : number ≡ number + 0 = omega arith in z)
front_and (raw ∷ front) more p number =
    let next = line_played p number raw in
    let count : number + 1 + length front ≡ number + length (raw ∷ front) = omega arith in
    through p (lines_played next (number + 1) (front ++ more)) (lines_played next (number + 1) front) (number + length (raw ∷ front)) more
    (front_and front more next (number + 1) ∙ ap (λ n. lines_played (lines_played next (number + 1) front) n more) count) p.stop refl
