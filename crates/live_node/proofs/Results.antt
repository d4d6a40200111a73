-- Results of calls, by whether they are errors, and why a run ended.
use Rattle.std.proofs.Common.{◌≡◌, Option, Some, Result, Ok, Err}
use Rattle.std.specs.Prelude.{MatchResult}
use Rattle.run_status.specs.declared.run_ends.RunEnd.{RunEnd}

pub match_on : {A E : Type 0} (r : Result A E) (P Q : A → Type 0) (F G : E → Type 0) → ((a : A) → P a → Q a) → ((e : E) → F e → G e) → MatchResult r P F → MatchResult r Q G
match_on (Ok a) P Q F G f g h = f a h
match_on (Err e) P Q F G f g h = g e h

pub because : {end why : RunEnd} → ◌≡◌ {A = Option RunEnd} (Some end) (Some why) → end ≡ why
because e = cc
