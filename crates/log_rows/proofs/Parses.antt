-- The parse of a log: more bytes, its end, and the function that gives it.
use Rattle.std.proofs.Common.{◌≡◌, ℕ, ◌+◌, ◌⊎◌, inl, inr, Bool, true, false, List, [], ◌∷◌, ◌++◌, length, drop, slice_index, refl, sym, ap, ◌∙◌, subst, arith, length-append}
use Rattle.std.specs.Prelude.{flat_map}
use Rattle.std.proofs.lemmas.List.Elements.{All-head, All-tail}
use Rattle.std.proofs.lemmas.Nat.{from_be_bytes-to_be_bytes_8}
use Rattle.std.specs.Int.{w64, to_be_bytes}
use Rattle.mav_frame.specs.Encoding.{encoding, IsSealed}
use Rattle.mav_frame.specs.Looks.{look_of}
use Rattle.mav_frame.specs.Parse.{IsIncomplete}
use Rattle.mav_frame.specs.declared.looks.Look.{Look}
use Rattle.mav_frame.specs.declared.looks.Look.TheVariants.{Frame as Found, NotHere}
use Rattle.mav_frame.specs.declared.looks.Why.{Why}
use Rattle.mav_frame.specs.declared.looks.Why.TheVariants.{Short}
use Rattle.mav_frame.proofs.Reasons.{lacks, listed}
use Rattle.log_rows.specs.LogEvents.{events_at, events_after, log_events}
use Rattle.log_rows.specs.LogLaws.{ParseIsFunction, BeginsByFunction, MoreBytesKeepRows, ParseBegins, RowsReadBack}
use Rattle.log_rows.specs.LogParse.{LogEvent, RowEvent, SkipEvent, LogEventAt, IsRest, LogParse, BeginsLog}
use Rattle.log_rows.specs.Rows.{row_encoding, FitsRow, micros_at}
use Rattle.log_rows.specs.declared.rows.Row.{Row}
use Rattle.log_rows.proofs.RowEvents.{never_longer, event_longer, row_found, row_goes_on, none_incomplete}

-- ---- more bytes, and the end of the input

pub more_bytes_keep_rows : MoreBytesKeepRows
more_bytes_keep_rows extras [] left b more h = ap (λ (l : List ℕ). l ++ more) h
more_bytes_keep_rows extras (event ∷ events) left b more h =
    (never_longer extras b more h.0, (h.1.0 ++ more, event_longer extras b more h.0 event h.1.0 h.1.1, more_bytes_keep_rows extras events left h.1.0 more h.1.2))

some : (extras : List (ℕ × ℕ)) (b : List ℕ) → (IsRest extras false b → ⊥) → IsRest extras true b → ⊥
some extras b never none = never (subst (λ (z : List ℕ). IsRest extras false z) (sym none) (none_incomplete extras))

pub parse_begins : ParseBegins
parse_begins extras [] left b h = h
parse_begins extras (event ∷ events) left b h = (some extras b h.0, (h.1.0, h.1.1, parse_begins extras events left h.1.0 h.1.2))

module _ (extras : List (ℕ × ℕ)) (ended : Bool) where
  -- one event more
  pub goes_on : (events : List LogEvent) (event : LogEvent) (left rest b : List ℕ) → BeginsLog extras ended events left b → (IsRest extras ended left → ⊥) → LogEventAt extras event left rest → BeginsLog extras ended (events ++ event ∷ []) rest b
  goes_on [] event left rest b h never x = ((λ r. never (subst (IsRest extras ended) h r)), (rest, subst (λ (z : List ℕ). LogEventAt extras event z rest) (sym h) x, refl))
  goes_on (e ∷ es) event left rest b h never x = (h.0, (h.1.0, h.1.1, goes_on es event left rest h.1.0 h.1.2 never x))

  -- and no more
  pub ends : (events : List LogEvent) (left b : List ℕ) → BeginsLog extras ended events left b → IsRest extras ended left → LogParse extras ended events left b
  ends [] left b h r = (sym h, subst (IsRest extras ended) (sym h) r)
  ends (e ∷ es) left b h r = (h.0, (h.1.0, h.1.1, ends es left h.1.0 h.1.2 r))

  -- ---- the function

  inside : (part rest : List ℕ) → events_after extras ended (length part) (part ++ rest) ≡ log_events extras ended rest
  inside [] rest = refl
  inside (x ∷ xs) rest = inside xs rest

  -- a row, of which these are the bytes after the first
  row_first : (row : Row) (rest : List ℕ) → FitsRow row → look_of extras true (encoding row.frame ++ rest) ≡ Found row.frame (length (encoding row.frame)) → log_events extras ended (row_encoding row ++ rest) ≡ RowEvent row ∷ log_events extras ended rest
  row_first row rest fits e =
      let part : List ℕ = drop 1 (row_encoding row) in
      let size : length (encoding row.frame) + 7 ≡ length part = omega (arith, length-append (drop 1 (to_be_bytes w64 row.micros)) (encoding row.frame)) in
      let time : micros_at (row_encoding row ++ rest) ≡ row.micros = from_be_bytes-to_be_bytes_8 row.micros fits.micros in
      ap (λ (l : Look). events_at l ended (slice_index (row_encoding row) 0) (micros_at (row_encoding row ++ rest)) (λ n. events_after extras ended n (part ++ rest))) e
      ∙ (λ i. RowEvent (record { micros = time i; frame = row.frame }) ∷ events_after extras ended (size i) (part ++ rest))
      ∙ ap (λ (es : List LogEvent). RowEvent row ∷ es) (inside part rest)

  skip_first : (v : Bool) (byte : ℕ) (rest : List ℕ) (why : Why) → (IsRest extras v (byte ∷ rest) → ⊥) → (look_of extras true (drop 8 (byte ∷ rest)) ≡ NotHere why) ⊎ (IsIncomplete extras true (drop 8 (byte ∷ rest)) × (why ≡ Short)) → log_events extras v (byte ∷ rest) ≡ SkipEvent byte why ∷ log_events extras v rest
  skip_first v byte rest why never (inl e) = ap (λ (l : Look). events_at l v byte (micros_at (byte ∷ rest)) (λ n. events_after extras v n rest)) e
  skip_first true byte rest why never (inr (short, is)) =
      ap (λ (l : Look). events_at l true byte (micros_at (byte ∷ rest)) (λ n. events_after extras true n rest)) (lacks extras true (drop 8 (byte ∷ rest)) short).1
      ∙ ap (λ (w : Why). SkipEvent byte w ∷ log_events extras true rest) (sym is)
  skip_first false byte rest why never (inr (short, is)) = absurd (never short)

  pub one_more : (event : LogEvent) (b rest : List ℕ) → (IsRest extras ended b → ⊥) → LogEventAt extras event b rest → log_events extras ended b ≡ event ∷ log_events extras ended rest
  one_more (RowEvent row) b rest never h =
      ap (log_events extras ended) h.2 ∙ row_first row rest h.0 (subst (λ (z : List ℕ). look_of extras true (drop 8 z) ≡ Found row.frame (length (encoding row.frame))) h.2 (row_found extras row b rest h))
  one_more (SkipEvent byte why) b rest never h =
      ap (log_events extras ended) h.0
      ∙ skip_first ended byte rest why (λ r. never (subst (IsRest extras ended) (sym h.0) r))
      (subst (λ (z : List ℕ). (look_of extras true (drop 8 z) ≡ NotHere why) ⊎ (IsIncomplete extras true (drop 8 z) × (why ≡ Short))) h.0 (listed extras true (drop 8 b) why h.2))

none : (extras : List (ℕ × ℕ)) (ended : Bool) (b : List ℕ) → IsRest extras ended b → log_events extras ended b ≡ []
none extras true b h = ap (log_events extras true) h
none extras false [] h = refl
none extras false (x ∷ xs) h = ap (λ (l : Look). events_at l false x (micros_at (x ∷ xs)) (λ n. events_after extras false n xs)) (lacks extras true (drop 8 (x ∷ xs)) h).1

pub begins_by_function : BeginsByFunction
begins_by_function extras ended [] left b h = ap (log_events extras ended) h
begins_by_function extras ended (e ∷ es) left b h =
    one_more extras ended e b h.1.0 h.0 h.1.1 ∙ ap (λ (more : List LogEvent). e ∷ more) (begins_by_function extras ended es left h.1.0 h.1.2)

pub parse_is_function : ParseIsFunction
parse_is_function extras ended [] left b h = none extras ended b h.1
parse_is_function extras ended (e ∷ es) left b h =
    one_more extras ended e b h.1.0 h.0 h.1.1 ∙ ap (λ (more : List LogEvent). e ∷ more) (parse_is_function extras ended es left h.1.0 h.1.2)

-- ---- rows that were written

nothing_left : (extras : List (ℕ × ℕ)) (ended : Bool) → IsRest extras ended []
nothing_left extras true = refl
nothing_left extras false = none_incomplete extras

pub rows_read_back : RowsReadBack
rows_read_back extras ended [] fits sealed = (refl, nothing_left extras ended)
rows_read_back extras ended (row ∷ rows) fits sealed =
    let rest : List ℕ = flat_map row_encoding rows in
    let at : LogEventAt extras (RowEvent row) (row_encoding row ++ rest) rest = (All-head FitsRow row rows fits, All-head (λ r. IsSealed extras true r.frame) row rows sealed, refl) in
    (row_goes_on extras ended row (row_encoding row ++ rest) rest at, (rest, at, rows_read_back extras ended rows (All-tail FitsRow row rows fits) (All-tail (λ r. IsSealed extras true r.frame) row rows sealed)))
