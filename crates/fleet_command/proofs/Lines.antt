-- The lines of a scenario are read as those of any input.
use Rattle.std.proofs.Common.{◌≡◌, ◌∙◌, ℕ, ◌+◌, Bool, true, false, List, [], ◌∷◌, refl, ap, length, Some, None, Option}
use Rattle.scenario_lines.specs.declared.faults.Reason.TheVariants.{Long}
use Rattle.fleet_world.specs.Scenario.{Played, ScenarioError, Bad, Too_many_lines, line_played, lines_played, last_played, rest_played, unless_stopped, at_start, played}
use Rattle.scenario_lines.specs.FileLines.{whole_lines, unfinished}
use Rattle.command_inputs.specs.LineRules.{unless_stopped as unless, lines_read, last_read, rest_read, bytes_read}
use Rattle.command_inputs.proofs.Lines.{Stopping, bytes_read_reads}
use Rattle.fleet_command.specs.Plays.{scenario_rules, plays}

unless_same : (stop : Option ScenarioError) (p next : Played) → unless_stopped stop p next ≡ unless stop p next
unless_same None p next = refl
unless_same (Some stop) p next = refl

lines_same : (p : Played) (number : ℕ) (lines : List (List ℕ)) → lines_played p number lines ≡ lines_read scenario_rules p number lines
lines_same p number [] = refl
lines_same p number (raw ∷ more) =
    unless_same p.stop p (lines_played (line_played p number raw) (number + 1) more)
    ∙ ap (unless p.stop p) (lines_same (line_played p number raw) (number + 1) more)

last_same : (p : Played) (number : ℕ) (part : List ℕ) → last_played p number part ≡ last_read scenario_rules p number part
last_same p number [] = refl
last_same p number (b ∷ bs) = refl

rest_same : (ended : Bool) (p : Played) (number : ℕ) (part : List ℕ) → rest_played ended p number part ≡ rest_read scenario_rules ended p number part
rest_same true p number part = last_same p number part
rest_same false p number part = refl

pub played_read : (key : List ℕ) (ended : Bool) (bytes : List ℕ) → played key ended bytes ≡ bytes_read scenario_rules (at_start key) ended bytes
played_read key ended bytes =
    let lines = whole_lines bytes in
    let rest = unfinished bytes in
    let end = lines_played (at_start key) 1 lines in
    unless_same end.stop end (rest_played ended end (length lines + 1) rest)
    ∙ ap (unless end.stop end) (rest_same ended end (length lines + 1) rest)
    ∙ ap (λ (q : Played). unless q.stop q (rest_read scenario_rules ended q (length lines + 1) rest)) (lines_same (at_start key) 1 lines)

pub scenario_stops : Stopping scenario_rules
scenario_stops = record { many = λ p. (Too_many_lines, refl); long = λ p number. (Bad number Long, refl) }

pub played_plays : (key : List ℕ) (ended : Bool) (bytes : List ℕ) → played key ended bytes ≡ plays ended (at_start key) 1 [] bytes
played_plays key ended bytes = played_read key ended bytes ∙ bytes_read_reads scenario_rules scenario_stops (at_start key) ended bytes refl
