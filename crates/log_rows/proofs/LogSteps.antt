-- Each call of a reader continues the parse of the bytes taken.
use Rattle.std.proofs.Common.{◌≡◌, ℕ, Bool, true, false, List, [], ◌++◌, refl, sym, subst}
use Rattle.log_rows.specs.LogParse.{LogEvent, BeginsLog}
use Rattle.log_rows.specs.Progress.{LogHeld, LogProgress, no_bytes_held}
use Rattle.log_rows.proofs.Parses.{more_bytes_keep_rows, parse_begins}

-- before the first call
pub log_begun : (extras : List (ℕ × ℕ)) → LogProgress extras [] [] (no_bytes_held extras)
log_begun extras = record { same = refl; begins = refl }

module _ (extras : List (ℕ × ℕ)) (taken : List ℕ) (given : List LogEvent) (old : LogHeld) (h : LogProgress extras taken given old) where
  -- more bytes are taken
  pub fed_on : (bytes : List ℕ) → old.ended ≡ false → LogProgress extras (taken ++ bytes) given (record old { bytes = old.bytes ++ bytes })
  fed_on bytes still = record {
    same = h.same;
    begins = subst (λ (t : Bool). BeginsLog extras t given (old.bytes ++ bytes) (taken ++ bytes)) (sym still)
        (more_bytes_keep_rows extras given old.bytes taken bytes (subst (λ (t : Bool). BeginsLog extras t given old.bytes taken) still h.begins));
  }

  either : (t : Bool) → BeginsLog extras t given old.bytes taken → BeginsLog extras true given old.bytes taken
  either true b = b
  either false b = parse_begins extras given old.bytes taken b

  -- the input has ended
  pub closed_on : LogProgress extras taken given (record old { ended = true })
  closed_on = record { same = h.same; begins = either old.ended h.begins }
