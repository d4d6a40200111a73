-- Scenarios lead to such states.
use Rattle.std.proofs.Common.{◌≡◌, ℕ, ◌+◌, Bool, true, false, if◌then◌else◌, nat_lt, List, [], ◌∷◌, ◌++◌, length, Option, Some, None, Ok, Err, refl, subst}
use Rattle.std.specs.declared.result.Result.{Result}
use Rattle.scenario_lines.specs.declared.faults.Reason.{Reason}
use Rattle.scenario_lines.specs.declared.faults.Reason.TheVariants.{Long}
use Rattle.scenario_lines.specs.Grammar.{line_of, most_line_bytes}
use Rattle.scenario_lines.specs.Reasons.{reason_against}
use Rattle.fleet_world.specs.WorldState.{context_of}
use Rattle.fleet_world.specs.Steps.{Step, StepError, after_line}
use Rattle.fleet_world.specs.Scenario.{ScenarioError, Bad, Too_many_lines, Played, stopped, goes_on, judged, line_played, unless_stopped, lines_played, at_start, last_played, rest_played, played}
use Rattle.scenario_lines.specs.FileLines.{most_lines, whole_lines, unfinished, without_cr}
use Rattle.fleet_world.specs.Authentic.{line_read, line_done, AuthenticDone, UnlessStopped, HoldsOfLines, HoldsOfLast, Authentic}
use Rattle.fleet_invariants.specs.Sound.{Sound}
use Rattle.fleet_invariants.proofs.Lists.{nowhere}
use Rattle.fleet_invariants.proofs.Tests.{by_test}
use Rattle.fleet_invariants.proofs.Readings.{read_fits}
use Rattle.fleet_invariants.proofs.Lines.{sound_line}
use Rattle.fleet_invariants.specs.Kept.{KeepsLine}
use Rattle.scenario_lines.specs.declared.lines.Line.{Line}
use Rattle.fleet_invariants.proofs.Plays.{choosing, sound_start}
use Rattle.fleet_world.specs.WorldState.{WorldState}
use Rattle.mav_names.specs.declared.names.Name.{Name}
use Rattle.fleet_command_laws.specs.Lines.{Order}
use Rattle.fleet_command_laws.specs.Accepted.{accepted_by, BeginsLines, DoneBegins, EveryLineBegins}
use Rattle.fleet_command_laws.proofs.Worlds.{Commanded, Stays}
use Rattle.fleet_command_laws.proofs.Lines.{commanded_line}

-- what holds of a state that is reached
pub record Holds (p : Played) : Type 0 where
  pub sound : Sound p.state
  pub commanded : Commanded p.state

-- ---- one line

went_on : (p : Played) (line : Line) (r : Result Step StepError) → Holds p → KeepsLine p.state line r → Stays p.state (accepted_by p.state line) r → Holds (goes_on p r)
went_on p line (Ok t) g h k = record { sound = h.sound; commanded = record { stations = k.commanded.stations; drones = k.commanded.drones } }
went_on p line (Err error) g h k = record { sound = g.sound; commanded = record { stations = g.commanded.stations; drones = g.commanded.drones } }

halts : (p : Played) (stop : ScenarioError) → Holds p → Holds (stopped p stop)
halts p stop g = record { sound = g.sound; commanded = record { stations = g.commanded.stations; drones = g.commanded.drones } }

judging : (p : Played) → Holds p → (number : ℕ) (text : List ℕ) (reason : Option Reason) → reason_against (context_of p.state) text ≡ reason → AuthenticDone p.state (line_read text reason) → Holds (judged p number text reason)
judging p g number text (Some reason) e authentic = halts p (Bad number reason) g
judging p g number text None e authentic =
    let read = read_fits (context_of p.state) text e in
    went_on p (line_of text) (after_line p.state (line_of text)) g (sound_line p.state g.sound (line_of text) read.0 read.1 authentic) (commanded_line p.state g.sound g.commanded (line_of text) read.0 read.1 authentic)

one_line : (p : Played) → Holds p → (number : ℕ) (raw text : List ℕ) → AuthenticDone p.state (line_done p.state number raw text)
    → Holds (if nat_lt most_lines number then stopped p Too_many_lines else if nat_lt most_line_bytes (length raw) then stopped p (Bad number Long) else judged p number text (reason_against (context_of p.state) text))
one_line p g number raw text authentic =
    choosing Holds (AuthenticDone p.state) (nat_lt most_lines number) (stopped p Too_many_lines) _ None _ (λ _. halts p Too_many_lines g)
    (choosing Holds (AuthenticDone p.state) (nat_lt most_line_bytes (length raw)) (stopped p (Bad number Long)) _ None _ (λ _. halts p (Bad number Long) g)
    (judging p g number text (reason_against (context_of p.state) text) refl))
    authentic

-- ---- lines

halted : (o : Option ScenarioError) (p next : Played) (T : Type 0) → Holds p → UnlessStopped o T → (T → Holds next) → Holds (unless_stopped o p next)
halted None p next T g h each = each h
halted (Some stop) p next T g h each = g

holds_from : (lines : List (List ℕ)) (p : Played) → Holds p → (number : ℕ) → HoldsOfLines AuthenticDone p number lines → Holds (lines_played p number lines)
holds_from [] p g number authentic = g
holds_from (raw ∷ more) p g number authentic =
    halted p.stop p (lines_played (line_played p number raw) (number + 1) more) _ g authentic (λ h.
    holds_from more (line_played p number raw) (one_line p g number raw (without_cr raw) h.0) (number + 1) h.1)

-- the first of some lines
weaker : (o : Option ScenarioError) (T R : Type 0) → (T → R) → UnlessStopped o T → UnlessStopped o R
weaker None T R f h = f h
weaker (Some stop) T R f h = tt

first_lines : (before after : List (List ℕ)) (p : Played) (number : ℕ) → HoldsOfLines AuthenticDone p number (before ++ after) → HoldsOfLines AuthenticDone p number before
first_lines [] after p number h = tt
first_lines (raw ∷ more) after p number h =
    weaker p.stop _ _ (λ k. (k.0, first_lines more after (line_played p number raw) (number + 1) k.1)) h

-- ---- a scenario

holds_start : (key : List ℕ) → Holds (at_start key)
holds_start key = record {
  sound = sound_start key;
  commanded = record { stations = λ k n e. absurd (nowhere k _ e); drones = λ k n e. absurd (nowhere k _ e) };
}

last_line : (p : Played) → Holds p → (number : ℕ) (rest : List ℕ) → p.stop ≡ None → HoldsOfLast AuthenticDone true p number rest → Holds (last_played p number rest)
last_line p g number [] e authentic = g
last_line p g number (b ∷ bs) e authentic =
    one_line p g number (b ∷ bs) (b ∷ bs) (subst (λ (o : Option ScenarioError). UnlessStopped o (AuthenticDone p.state (line_done p.state number (b ∷ bs) (b ∷ bs)))) e authentic)

rest_line : (ended : Bool) (p : Played) → Holds p → (number : ℕ) (rest : List ℕ) → p.stop ≡ None → HoldsOfLast AuthenticDone ended p number rest → Holds (rest_played ended p number rest)
rest_line true p g number rest e authentic = last_line p g number rest e authentic
rest_line false p g number rest e authentic =
    by_test Holds (nat_lt most_line_bytes (length rest)) _ p
    (λ _. by_test Holds (nat_lt most_lines number) _ _ (λ _. halts p Too_many_lines g) (λ _. halts p (Bad number Long) g)) (λ _. g)

finished : (o : Option ScenarioError) (p next : Played) → Holds p → p.stop ≡ o → (p.stop ≡ None → Holds next) → Holds (unless_stopped o p next)
finished None p next g e each = each e
finished (Some stop) p next g e each = g

pub holds_last : (key : List ℕ) (ended : Bool) (bytes : List ℕ) → Authentic key ended bytes → Holds (played key ended bytes)
holds_last key ended bytes authentic =
    let lines = lines_played (at_start key) 1 (whole_lines bytes) in
    let g : Holds lines = holds_from (whole_lines bytes) (at_start key) (holds_start key) 1 authentic.lines in
    finished lines.stop lines (rest_played ended lines (length (whole_lines bytes) + 1) (unfinished bytes)) g refl (λ e.
    rest_line ended lines g (length (whole_lines bytes) + 1) (unfinished bytes) e authentic.last)

pub holds_between : (key : List ℕ) (ended : Bool) (bytes : List ℕ) → Authentic key ended bytes → (before after : List (List ℕ)) → whole_lines bytes ≡ before ++ after → Holds (lines_played (at_start key) 1 before)
holds_between key ended bytes authentic before after is =
    holds_from before (at_start key) (holds_start key) 1 (first_lines before after (at_start key) 1 (subst (λ lines. HoldsOfLines AuthenticDone (at_start key) 1 lines) is authentic.lines))

-- ---- the lines that begin in each line

begins_of : (s : WorldState) (orders : Name → List Order) (r : Result Step StepError) → Stays s orders r → BeginsLines s orders r
begins_of s orders (Ok t) h = h.begun
begins_of s orders (Err error) h = tt

read_begins : (p : Played) → Holds p → (text : List ℕ) (reason : Option Reason) → reason_against (context_of p.state) text ≡ reason → AuthenticDone p.state (line_read text reason) → DoneBegins p.state (line_read text reason)
read_begins p g text (Some reason) e authentic = tt
read_begins p g text None e authentic =
    let read = read_fits (context_of p.state) text e in
    begins_of p.state (accepted_by p.state (line_of text)) (after_line p.state (line_of text)) (commanded_line p.state g.sound g.commanded (line_of text) read.0 read.1 authentic)

chosen : {A : Type 0} (P Q : A → Type 0) (b : Bool) (x y : A) → (Q x → P x) → (Q y → P y) → Q (if b then x else y) → P (if b then x else y)
chosen P Q true x y f g h = f h
chosen P Q false x y f g h = g h

done_begins : (p : Played) → Holds p → (number : ℕ) (raw text : List ℕ) → AuthenticDone p.state (line_done p.state number raw text) → DoneBegins p.state (line_done p.state number raw text)
done_begins p g number raw text authentic =
    chosen (DoneBegins p.state) (AuthenticDone p.state) (nat_lt most_lines number) None _ (λ _. tt)
    (chosen (DoneBegins p.state) (AuthenticDone p.state) (nat_lt most_line_bytes (length raw)) None _ (λ _. tt)
    (read_begins p g text (reason_against (context_of p.state) text) refl))
    authentic

begins_from : (lines : List (List ℕ)) (p : Played) → Holds p → (number : ℕ) → HoldsOfLines AuthenticDone p number lines → HoldsOfLines DoneBegins p number lines
begins_from [] p g number authentic = tt
begins_from (raw ∷ more) p g number authentic =
    weaker p.stop _ _ (λ h. (
      done_begins p g number raw (without_cr raw) h.0,
      begins_from more (line_played p number raw) (one_line p g number raw (without_cr raw) h.0) (number + 1) h.1,
    )) authentic

last_begins : (ended : Bool) (p : Played) → Holds p → (number : ℕ) (rest : List ℕ) → HoldsOfLast AuthenticDone ended p number rest → HoldsOfLast DoneBegins ended p number rest
last_begins false p g number rest authentic = tt
last_begins true p g number [] authentic = tt
last_begins true p g number (b ∷ bs) authentic = weaker p.stop _ _ (λ h. done_begins p g number (b ∷ bs) (b ∷ bs) h) authentic

pub every_begins : EveryLineBegins
every_begins key ended bytes authentic = record {
  lines = begins_from (whole_lines bytes) (at_start key) (holds_start key) 1 authentic.lines;
  last = last_begins ended (lines_played (at_start key) 1 (whole_lines bytes)) (holds_from (whole_lines bytes) (at_start key) (holds_start key) 1 authentic.lines) (length (whole_lines bytes) + 1) (unfinished bytes) authentic.last;
}
