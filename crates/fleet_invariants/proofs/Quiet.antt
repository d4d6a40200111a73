-- A scenario without foreign bytes is authentic.
use Rattle.std.proofs.Common.{◌≡◌, ℕ, suc, ◌+◌, Bool, true, false, nat_lt, List, [], ◌∷◌, length, codes, slice_get, Option, Some, None, refl}
use Rattle.std.specs.Str.{bytes_eq}
use Rattle.scenario_lines.specs.declared.faults.Reason.{Reason}
use Rattle.scenario_lines.specs.declared.lines.Line.{Line}
use Rattle.scenario_lines.specs.declared.lines.Line.TheVariants.{Blank}
use Rattle.scenario_lines.specs.Words.{words_of, word_at}
use Rattle.scenario_lines.specs.Grammar.{line_from, line_of, is_blank, most_line_bytes}
use Rattle.scenario_lines.specs.Reasons.{reason_against}
use Rattle.fleet_world.specs.WorldState.{WorldState, context_of}
use Rattle.fleet_world.specs.Scenario.{ScenarioError, Played, line_played, lines_played, at_start}
use Rattle.scenario_lines.specs.FileLines.{most_lines, whole_lines, unfinished, without_cr}
use Rattle.fleet_world.specs.Authentic.{AuthenticLine, line_read, line_done, AuthenticDone, UnlessStopped, HoldsOfLines, HoldsOfLast}
use Rattle.fleet_invariants.specs.Laws.{is_noise, EveryQuietAuthentic}
use Rattle.fleet_invariants.proofs.Tests.{by_test, differ}

module _ (s : WorldState) where
  abbrev Own : Line → Type 0
  Own line = AuthenticLine s line

  -- no other line than noise is asked anything
  from_words : (words : List (List ℕ)) → bytes_eq (word_at words 0) (codes "noise") ≡ false → Own (line_from words)
  from_words words quiet =
      let w = word_at words 0 in
      by_test Own (bytes_eq w (codes "drone")) _ _ (λ _. tt) (λ _.
      by_test Own (bytes_eq w (codes "station")) _ _ (λ _. tt) (λ _.
      by_test Own (bytes_eq w (codes "item")) _ _ (λ _. tt) (λ _.
      by_test Own (bytes_eq w (codes "items")) _ _ (λ _. tt) (λ _.
      by_test Own (bytes_eq w (codes "empty")) _ _ (λ _. tt) (λ _.
      by_test Own (bytes_eq w (codes "begin")) _ _ (λ _. tt) (λ _.
      by_test Own (bytes_eq w (codes "cancel")) _ _ (λ _. tt) (λ _.
      by_test Own (bytes_eq w (codes "clear")) _ _ (λ _. tt) (λ _.
      by_test Own (bytes_eq w (codes "get")) _ _ (λ _. tt) (λ _.
      by_test Own (bytes_eq w (codes "command")) _ _ (λ _. tt) (λ _.
      by_test Own (bytes_eq w (codes "params")) _ _ (λ _. tt) (λ _.
      by_test Own (bytes_eq w (codes "heartbeat")) _ _ (λ _. tt) (λ _.
      by_test Own (bytes_eq w (codes "deliver")) _ _ (λ _. tt) (λ _.
      by_test Own (bytes_eq w (codes "flow")) _ _ (λ _. tt) (λ _.
      by_test Own (bytes_eq w (codes "noise")) _ _ (λ is. absurd (differ (bytes_eq w (codes "noise")) is quiet)) (λ _.
      by_test Own (bytes_eq w (codes "tick")) _ _ (λ _. tt) (λ _.
      by_test Own (bytes_eq w (codes "clock")) _ _ (λ _. tt) (λ _.
      by_test Own (bytes_eq w (codes "restart")) _ _ (λ _. tt) (λ _.
      by_test Own (bytes_eq w (codes "sim")) _ _ (λ _. tt) (λ _.
      by_test Own (bytes_eq w (codes "where")) _ _ (λ _. tt) (λ _. tt))))))))))))))))))))

  from_text : (text : List ℕ) → is_noise text ≡ false → Own (line_of text)
  from_text text quiet = by_test Own (is_blank text) Blank (line_from (words_of text)) (λ _. tt) (λ _. from_words (words_of text) quiet)

  when_read : (text : List ℕ) (reason : Option Reason) → is_noise text ≡ false → AuthenticDone s (line_read text reason)
  when_read text None quiet = from_text text quiet
  when_read text (Some reason) quiet = tt

  when_done : (number : ℕ) (raw text : List ℕ) → is_noise text ≡ false → AuthenticDone s (line_done s number raw text)
  when_done number raw text quiet =
      by_test (AuthenticDone s) (nat_lt most_lines number) None _ (λ _. tt) (λ _.
      by_test (AuthenticDone s) (nat_lt most_line_bytes (length raw)) None _ (λ _. tt) (λ _.
      when_read text (reason_against (context_of s) text) quiet))

unless : (o : Option ScenarioError) (T : Type 0) → T → UnlessStopped o T
unless None T h = h
unless (Some stop) T h = tt

all_lines : (lines : List (List ℕ)) (p : Played) (number : ℕ) → ((i : ℕ) (raw : List ℕ) → slice_get lines i ≡ Some raw → is_noise (without_cr raw) ≡ false) → HoldsOfLines AuthenticDone p number lines
all_lines [] p number quiet = tt
all_lines (raw ∷ more) p number quiet =
    unless p.stop _ (when_done p.state number raw (without_cr raw) (quiet 0 raw refl), all_lines more (line_played p number raw) (number + 1) (λ i line e. quiet (suc i) line e))

last_line : (ended : Bool) (p : Played) (number : ℕ) (rest : List ℕ) → is_noise rest ≡ false → HoldsOfLast AuthenticDone ended p number rest
last_line false p number rest quiet = tt
last_line true p number [] quiet = tt
last_line true p number (b ∷ bs) quiet = unless p.stop _ (when_done p.state number (b ∷ bs) (b ∷ bs) quiet)

pub quiet_authentic : EveryQuietAuthentic
quiet_authentic key ended bytes quiet = record {
  lines = all_lines (whole_lines bytes) (at_start key) 1 quiet.lines;
  last = last_line ended (lines_played (at_start key) 1 (whole_lines bytes)) (length (whole_lines bytes) + 1) (unfinished bytes) quiet.last;
}
