-- What the commands tell of one event more, and of all.
use Rattle.std.proofs.Common.{◌≡◌, ℕ, ◌+◌, ◌*◌, Bool, true, false, List, [], ◌∷◌, ◌++◌, length, take, drop, map, slice_index, refl, sym, ap, ◌∙◌, subst, arith, lit≤, append-nil, Result, Ok, Err, OnOk, OnErr}
use Rattle.std.proofs.Math.Seq.{take-append_seam}
use Rattle.std.proofs.lemmas.List.Sums.{sum_by_push}
use Rattle.field_layout.specs.Definition.{Definition}
use Rattle.mav_profile.specs.Messages.{extras_of}
use Rattle.mav_frame.specs.Packet.{Packet}
use Rattle.mav_frame.specs.Encoding.{encoding}
use Rattle.mav_frame.specs.declared.looks.Why.{Why}
use Rattle.mav_frame.specs.declared.events.Event.{Event}
use Rattle.mav_frame.specs.declared.events.Event.TheVariants.{Frame}
use Rattle.mav_stream.specs.Held.{Held}
use Rattle.mav_stream.specs.Progress.{Progress, IsWhole}
use Rattle.mav_stream.specs.Spans.{first_packet, skipped_for, IsNextSpan}
use Rattle.mav_stream.specs.declared.spans.NextSpan.{NextSpan}
use Rattle.mav_stream.specs.declared.spans.NextSpan.TheVariants.{Frame as Found, Skipped}
use Rattle.mav_text.specs.FrameText.{skip_line}
use Rattle.decode_command.specs.Decodes.{GaveEvents}
use Rattle.decode_command.specs.Tellings.{TellsSpan}
use Rattle.decode_command.proofs.Loads.{same_load, fewer_held}
use Rattle.decode_command.proofs.Steps.{frames_whole}
use Rattle.decode_command.proofs.Telling.{untold}
use Rattle.log_rows.specs.LogEvents.{log_events}
use Rattle.log_rows.specs.LogParse.{LogEvent, RowEvent, SkipEvent, LogParse}
use Rattle.log_rows.specs.Progress.{LogHeld, LogProgress, IsWholeLog}
use Rattle.log_rows.specs.Rows.{row_encoding, first_row}
use Rattle.log_rows.proofs.Parses.{parse_is_function}
use Rattle.log_rows.proofs.LogSteps.{fed_on, closed_on}
use Rattle.mav_log.specs.LogText.{event_size, rows_of, skips_of, row_line, event_line, lines_from, bytes_in, rows_in, skips_in, counts_line}
use Rattle.mav_log.specs.RowsMade.{row_of, rows_of_system, time_after, rows_from, micros_after}
use Rattle.mav_log.specs.Spec.{show_telling, filter_telling, make_telling}
use Rattle.mav_log.specs.Tellers.{GaveEvent, IsRowNext, IsByteNext, Showing, HasShown, HasShownAll, shown_load, Filtering, HasKept, Making, HasMade}
use Rattle.decode_command.specs.TellingLaws.{lines_append}
use Rattle.mav_log.specs.TellingLaws.{kept_append, made_append}
use Rattle.mav_log.proofs.Loads.{shown_less, made_less}

-- the whole parse
given_whole : (extras : List (ℕ × ℕ)) (ended : Bool) (taken : List ℕ) (given : List LogEvent) (held : LogHeld) → held.ended ≡ ended → IsWholeLog extras taken given held → given ≡ log_events extras ended taken
given_whole extras ended taken given held is whole =
    sym (parse_is_function extras ended given held.bytes taken (subst (λ (t : Bool). LogParse extras t given held.bytes taken) is whole))

-- ---- log show

-- one event more was shown
pub shown_on : (old new : Showing) (event : LogEvent) (ended : Bool) (taken told : List ℕ) → HasShown old ended taken told → GaveEvent event old.reader new.reader → new.known ≡ old.known → new.reader.ended ≡ old.reader.ended → new.offset ≡ old.offset + event_size event → new.rows ≡ old.rows + rows_of event → new.skipped ≡ old.skipped + skips_of event → HasShown new ended taken (told ++ event_line old.known old.offset event)
shown_on old new event ended taken told h gave known still offset rows skipped =
    let line : lines_from old.known 0 (h.given ++ event ∷ []) ≡ told ++ event_line old.known old.offset event =
    lines_append (event_line old.known) event_size 0 h.given (event ∷ [])
    ∙ (ap (λ (n : ℕ). lines_from old.known 0 h.given ++ (event_line old.known n event ++ [])) (let n : 0 + bytes_in h.given ≡ old.offset = omega (arith, h.offset) in n)
    ∙ (λ i. sym h.lines i ++ append-nil (event_line old.known old.offset event) i)) in
    record {
      given = h.given ++ event ∷ [];
      is_ended = still ∙ h.is_ended;
      progress = subst (λ (ds : List Definition). LogProgress (extras_of ds) taken (h.given ++ event ∷ []) new.reader) (sym known) (gave (extras_of old.known) taken h.given h.progress);
      offset = omega (arith, offset, h.offset, sum_by_push event_size h.given event);
      rows = omega (arith, rows, h.rows, sum_by_push rows_of h.given event);
      skipped = omega (arith, skipped, h.skipped, sum_by_push skips_of h.given event);
      lines = sym (ap (λ (ds : List Definition). lines_from ds 0 (h.given ++ event ∷ [])) known ∙ line);
    }

-- what `log show` does with a span
abbrev pub TellsShown : {E : Type 0} → NextSpan → Showing → Showing → List ℕ → List ℕ → Result (Unit {0}) E → Type 0
TellsShown span old new text longer r = TellsSpan (λ (s : Showing). show_telling s.known) HasShown (λ (s : Showing). length s.reader.bytes) shown_load span old new text longer r

pub row_shown : {E : Type 0} (old new : Showing) (size : ℕ) (text longer : List ℕ) (r : Result (Unit {0}) E) → IsRowNext old.reader size → OnOk r (longer ≡ text ++ row_line old.known old.offset (first_row old.reader.bytes)) → OnErr r (new ≡ old)
    → OnOk r (new ≡ record old { reader = record old.reader { bytes = drop size old.reader.bytes }; offset = old.offset + size; rows = old.rows + 1 }) → TellsShown (Found size) old new text longer r
row_shown old new size text longer (Ok done) at added same is =
    let event = RowEvent (first_row old.reader.bytes) in
    let gone = ap (λ (s : Showing). s.reader.bytes) is in
    record {
      same = ap (λ (s : Showing). show_telling s.known) is;
      load = shown_less old new size gone at.some at.within (ap (λ (s : Showing). s.offset) is) (omega (arith, ap (λ (s : Showing). s.rows) is, ap (λ (s : Showing). s.skipped) is));
      told = λ ended taken told h. (
        event_line old.known old.offset event,
        added,
        shown_on old new event ended taken told h
            (subst (λ (z : LogHeld). GaveEvent event old.reader z) (sym (ap (λ (s : Showing). s.reader) is)) at.gave)
            (ap (λ (s : Showing). s.known) is) (ap (λ (s : Showing). s.reader.ended) is)
            (ap (λ (s : Showing). s.offset) is ∙ ap (λ (n : ℕ). old.offset + n) at.row.1)
            (ap (λ (s : Showing). s.rows) is) (omega (arith, ap (λ (s : Showing). s.skipped) is)),
      );
      fewer = fewer_held old.reader.bytes new.reader.bytes size gone at.some at.within;
    }
row_shown old new size text longer (Err fault) at added same is = untold _ HasShown _ shown_load (Found size) old new text longer fault same

pub byte_shown : {E : Type 0} (old new : Showing) (why : Why) (count : ℕ) (text longer : List ℕ) (r : Result (Unit {0}) E) → IsByteNext old.reader why → OnOk r (longer ≡ text ++ skip_line old.offset (slice_index old.reader.bytes 0) why) → OnErr r (new ≡ old)
    → OnOk r (new ≡ record old { reader = record old.reader { bytes = drop 1 old.reader.bytes }; offset = old.offset + 1; skipped = old.skipped + 1 }) → TellsShown (Skipped why count) old new text longer r
byte_shown old new why count text longer (Ok done) at added same is =
    let event = SkipEvent (slice_index old.reader.bytes 0) why in
    let gone = ap (λ (s : Showing). s.reader.bytes) is in
    record {
      same = ap (λ (s : Showing). show_telling s.known) is;
      load = shown_less old new 1 gone (lit≤ tt) at.some (ap (λ (s : Showing). s.offset) is) (omega (arith, ap (λ (s : Showing). s.rows) is, ap (λ (s : Showing). s.skipped) is));
      told = λ ended taken told h. (
        event_line old.known old.offset event,
        added,
        shown_on old new event ended taken told h
            (subst (λ (z : LogHeld). GaveEvent event old.reader z) (sym (ap (λ (s : Showing). s.reader) is)) at.gave)
            (ap (λ (s : Showing). s.known) is) (ap (λ (s : Showing). s.reader.ended) is)
            (ap (λ (s : Showing). s.offset) is)
            (omega (arith, ap (λ (s : Showing). s.rows) is)) (ap (λ (s : Showing). s.skipped) is),
      );
      fewer = fewer_held old.reader.bytes new.reader.bytes 1 gone (lit≤ tt) at.some;
    }
byte_shown old new why count text longer (Err fault) at added same is = untold _ HasShown _ shown_load (Skipped why count) old new text longer fault same

-- all was
pub shown_whole : (s : Showing) (ended : Bool) (taken told : List ℕ) (h : HasShown s ended taken told) → IsWholeLog (extras_of s.known) taken h.given s.reader → HasShownAll s ended taken told
shown_whole s ended taken told h whole = record { has = h; all = given_whole (extras_of s.known) ended taken h.given s.reader h.is_ended whole }

pub counts_of_all : (s : Showing) (taken told : List ℕ) → HasShownAll s true taken told → counts_line s.rows s.skipped ≡ (show_telling s.known).closing taken
counts_of_all s taken told h = λ i. counts_line ((h.has.rows ∙ ap rows_in h.all) i) ((h.has.skipped ∙ ap skips_in h.all) i)

-- ---- log filter

pub kept_on : (old new : Filtering) (event : LogEvent) (ended : Bool) (taken told : List ℕ) → HasKept old ended taken told → GaveEvent event old.reader new.reader → new.known ≡ old.known → new.sys ≡ old.sys → new.reader.ended ≡ old.reader.ended → HasKept new ended taken (told ++ row_of old.sys event)
kept_on old new event ended taken told h gave known sys still =
    let rows : rows_of_system old.sys (h.given ++ event ∷ []) ≡ told ++ row_of old.sys event =
    kept_append old.sys h.given (event ∷ []) ∙ (λ i. sym h.kept i ++ append-nil (row_of old.sys event) i) in
    record {
      given = h.given ++ event ∷ [];
      is_ended = still ∙ h.is_ended;
      progress = subst (λ (ds : List Definition). LogProgress (extras_of ds) taken (h.given ++ event ∷ []) new.reader) (sym known) (gave (extras_of old.known) taken h.given h.progress);
      kept = sym (ap (λ (n : ℕ). rows_of_system n (h.given ++ event ∷ [])) sys ∙ rows);
    }

-- what `log filter` does with a span
abbrev pub TellsKept : {E : Type 0} → NextSpan → Filtering → Filtering → List ℕ → List ℕ → Result (Unit {0}) E → Type 0
TellsKept span old new text longer r = TellsSpan (λ (f : Filtering). filter_telling f.known f.sys) HasKept (λ (f : Filtering). length f.reader.bytes) (λ (f : Filtering). 0) span old new text longer r

pub row_filtered : {E : Type 0} (old new : Filtering) (size : ℕ) (text longer : List ℕ) (r : Result (Unit {0}) E) → IsRowNext old.reader size → OnOk r (longer ≡ text ++ row_of old.sys (RowEvent (first_row old.reader.bytes))) → OnErr r (new ≡ old)
    → OnOk r (new ≡ record old { reader = record old.reader { bytes = drop size old.reader.bytes } }) → TellsKept (Found size) old new text longer r
row_filtered old new size text longer (Ok done) at added same is =
    let event = RowEvent (first_row old.reader.bytes) in
    record {
      same = ap (λ (f : Filtering). filter_telling f.known f.sys) is;
      load = lit≤ tt;
      told = λ ended taken told h. (
        row_of old.sys event,
        added,
        kept_on old new event ended taken told h
            (subst (λ (z : LogHeld). GaveEvent event old.reader z) (sym (ap (λ (f : Filtering). f.reader) is)) at.gave)
            (ap (λ (f : Filtering). f.known) is) (ap (λ (f : Filtering). f.sys) is) (ap (λ (f : Filtering). f.reader.ended) is),
      );
      fewer = fewer_held old.reader.bytes new.reader.bytes size (ap (λ (f : Filtering). f.reader.bytes) is) at.some at.within;
    }
row_filtered old new size text longer (Err fault) at added same is = untold _ HasKept _ (λ (f : Filtering). 0) (Found size) old new text longer fault same

pub byte_filtered : {E : Type 0} (old new : Filtering) (why : Why) (count : ℕ) (text : List ℕ) → IsByteNext old.reader why → new ≡ record old { reader = record old.reader { bytes = drop 1 old.reader.bytes } } → TellsKept {E = E} (Skipped why count) old new text text (Ok tt)
byte_filtered old new why count text at is =
    let event = SkipEvent (slice_index old.reader.bytes 0) why in
    record {
      same = ap (λ (f : Filtering). filter_telling f.known f.sys) is;
      load = lit≤ tt;
      told = λ ended taken told h. (
        [],
        sym (append-nil text),
        kept_on old new event ended taken told h
            (subst (λ (z : LogHeld). GaveEvent event old.reader z) (sym (ap (λ (f : Filtering). f.reader) is)) at.gave)
            (ap (λ (f : Filtering). f.known) is) (ap (λ (f : Filtering). f.sys) is) (ap (λ (f : Filtering). f.reader.ended) is),
      );
      fewer = fewer_held old.reader.bytes new.reader.bytes 1 (ap (λ (f : Filtering). f.reader.bytes) is) (lit≤ tt) at.some;
    }

pub kept_whole : (f : Filtering) (ended : Bool) (taken told : List ℕ) (h : HasKept f ended taken told) → IsWholeLog (extras_of f.known) taken h.given f.reader → told ≡ (filter_telling f.known f.sys).told ended taken
kept_whole f ended taken told h whole = h.kept ∙ ap (rows_of_system f.sys) (given_whole (extras_of f.known) ended taken h.given f.reader h.is_ended whole)

-- ---- log make

time_more : (micros : ℕ) (xs ys : List Event) → micros_after micros (xs ++ ys) ≡ micros_after (micros_after micros xs) ys
time_more micros [] ys = refl
time_more micros (x ∷ xs) ys = time_more (time_after micros x) xs ys

pub made_on : (old new : Making) (events : List Event) (ended : Bool) (taken told more : List ℕ) → (h : HasMade old ended taken told) → GaveEvents events old.reader new.reader → new.known ≡ old.known → new.start ≡ old.start → new.reader.ended ≡ old.reader.ended
    → new.start + 1000 * new.rows ≡ micros_after (old.start + 1000 * old.rows) events → more ≡ rows_from (old.start + 1000 * old.rows) events → HasMade new ended taken (told ++ more)
made_on old new events ended taken told more h gave known start still rows made =
    record {
      given = h.given ++ events;
      is_ended = still ∙ h.is_ended;
      progress = subst (λ (ds : List Definition). Progress (extras_of ds) true taken (h.given ++ events) new.reader) (sym known) (gave (extras_of old.known) true taken h.given h.progress);
      rows = rows ∙ ap (λ (t : ℕ). micros_after t events) h.rows ∙ sym (time_more old.start h.given events) ∙ ap (λ (t : ℕ). micros_after t (h.given ++ events)) (sym start);
      made =
          (λ i. h.made i ++ (made ∙ ap (λ (t : ℕ). rows_from t events) h.rows) i)
          ∙ sym (made_append old.start h.given events) ∙ ap (λ (t : ℕ). rows_from t (h.given ++ events)) (sym start);
    }

pub no_rows : (why : Why) (bytes : List ℕ) (micros : ℕ) → [] ≡ rows_from micros (map (skipped_for why) bytes)
no_rows why [] micros = refl
no_rows why (b ∷ bs) micros = no_rows why bs micros

pub no_time : (why : Why) (bytes : List ℕ) (micros : ℕ) → micros ≡ micros_after micros (map (skipped_for why) bytes)
no_time why [] micros = refl
no_time why (b ∷ bs) micros = no_time why bs micros

-- a frame that the scanner gave is at the start of what it held
pub frame_bytes : (held new : Held) (size : ℕ) (p : Packet) → size ≡ length (encoding p) → GaveEvents (Frame p ∷ []) held new → take size held.bytes ≡ encoding p
frame_bytes held new size p e gave =
    let first : Progress held.extras held.reads_old held.bytes (Frame p ∷ []) new = gave held.extras held.reads_old held.bytes [] (record { same = refl; version = refl; incremental = λ _. refl; final = refl }) in
    let is = first.final.1.2 in
    (λ i. take (e i) (is i)) ∙ take-append_seam (encoding p) first.final.0

-- what `log make` does with a span
abbrev pub TellsMade : {E : Type 0} → NextSpan → Making → Making → List ℕ → List ℕ → Result (Unit {0}) E → Type 0
TellsMade span old new text longer r = TellsSpan (λ (m : Making). make_telling m.known m.start) HasMade (λ (m : Making). length m.reader.bytes) (λ (m : Making). m.rows + 3 * length m.reader.bytes) span old new text longer r

pub frame_made : {E : Type 0} (old new : Making) (size : ℕ) (text longer : List ℕ) (r : Result (Unit {0}) E) → IsNextSpan old.reader (Found size) → OnOk r (longer ≡ text ++ row_encoding (record { micros = old.start + 1000 * old.rows; frame = first_packet old.reader })) → OnErr r (new ≡ old)
    → OnOk r (new ≡ record old { reader = record old.reader { bytes = drop size old.reader.bytes }; rows = old.rows + 1 }) → TellsMade (Found size) old new text longer r
frame_made old new size text longer (Ok done) at added same is =
    let events : List Event = Frame (first_packet old.reader) ∷ [] in
    let row : List ℕ = row_encoding (record { micros = old.start + 1000 * old.rows; frame = first_packet old.reader }) in
    let gone = ap (λ (m : Making). m.reader.bytes) is in
    record {
      same = ap (λ (m : Making). make_telling m.known m.start) is;
      load = made_less old.rows new.rows old.reader.bytes new.reader.bytes size gone at.some at.within (same_load _ _ (ap (λ (m : Making). m.rows) is));
      told = λ ended taken told h. (
        row,
        added,
        made_on old new events ended taken told row h
            (subst (λ (z : Held). GaveEvents events old.reader z) (sym (ap (λ (m : Making). m.reader) is)) at.progress)
            (ap (λ (m : Making). m.known) is) (ap (λ (m : Making). m.start) is) (ap (λ (m : Making). m.reader.ended) is)
            (omega (arith, ap (λ (m : Making). m.start) is, ap (λ (m : Making). m.rows) is)) (sym (append-nil row)),
      );
      fewer = fewer_held old.reader.bytes new.reader.bytes size gone at.some at.within;
    }
frame_made old new size text longer (Err fault) at added same is = untold _ HasMade _ (λ (m : Making). m.rows + 3 * length m.reader.bytes) (Found size) old new text longer fault same

pub skips_made : {E : Type 0} (old new : Making) (why : Why) (count : ℕ) (text : List ℕ) → IsNextSpan old.reader (Skipped why count) → new ≡ record old { reader = record old.reader { bytes = drop count old.reader.bytes } } → TellsMade {E = E} (Skipped why count) old new text text (Ok tt)
skips_made old new why count text at is =
    let run = take count old.reader.bytes in
    let events : List Event = map (skipped_for why) run in
    let gone = ap (λ (m : Making). m.reader.bytes) is in
    record {
      same = ap (λ (m : Making). make_telling m.known m.start) is;
      load = made_less old.rows new.rows old.reader.bytes new.reader.bytes count gone at.some at.within (omega (arith, ap (λ (m : Making). m.rows) is));
      told = λ ended taken told h. (
        [],
        sym (append-nil text),
        made_on old new events ended taken told [] h
            (subst (λ (z : Held). GaveEvents events old.reader z) (sym (ap (λ (m : Making). m.reader) is)) at.progress)
            (ap (λ (m : Making). m.known) is) (ap (λ (m : Making). m.start) is) (ap (λ (m : Making). m.reader.ended) is)
            (ap (λ (m : Making). m.start + 1000 * m.rows) is ∙ no_time why run (old.start + 1000 * old.rows))
            (no_rows why run (old.start + 1000 * old.rows)),
      );
      fewer = fewer_held old.reader.bytes new.reader.bytes count gone at.some at.within;
    }

pub made_whole : (m : Making) (ended : Bool) (taken told : List ℕ) (h : HasMade m ended taken told) → IsWhole (extras_of m.known) true taken h.given m.reader → told ≡ (make_telling m.known m.start).told ended taken
made_whole m ended taken told h whole = h.made ∙ ap (rows_from m.start) (frames_whole (extras_of m.known) ended taken h.given m.reader h.is_ended whole)

-- ---- more bytes, and the end of the input

pub shown_fed : (old new : Showing) (taken told piece : List ℕ) → HasShown old false taken told → new ≡ record old { reader = record old.reader { bytes = old.reader.bytes ++ piece } } → HasShown new false (taken ++ piece) told
shown_fed old new taken told piece h is =
    subst (λ (s : Showing). HasShown s false (taken ++ piece) told) (sym is)
    (record { given = h.given; is_ended = h.is_ended; progress = fed_on (extras_of old.known) taken h.given old.reader h.progress piece h.is_ended; offset = h.offset; rows = h.rows; skipped = h.skipped; lines = h.lines })

pub shown_ended : (old new : Showing) (taken told : List ℕ) → HasShown old false taken told → new ≡ record old { reader = record old.reader { ended = true } } → HasShown new true taken told
shown_ended old new taken told h is =
    subst (λ (s : Showing). HasShown s true taken told) (sym is)
    (record { given = h.given; is_ended = refl; progress = closed_on (extras_of old.known) taken h.given old.reader h.progress; offset = h.offset; rows = h.rows; skipped = h.skipped; lines = h.lines })

pub kept_fed : (old new : Filtering) (taken told piece : List ℕ) → HasKept old false taken told → new ≡ record old { reader = record old.reader { bytes = old.reader.bytes ++ piece } } → HasKept new false (taken ++ piece) told
kept_fed old new taken told piece h is =
    subst (λ (f : Filtering). HasKept f false (taken ++ piece) told) (sym is)
    (record { given = h.given; is_ended = h.is_ended; progress = fed_on (extras_of old.known) taken h.given old.reader h.progress piece h.is_ended; kept = h.kept })

pub kept_ended : (old new : Filtering) (taken told : List ℕ) → HasKept old false taken told → new ≡ record old { reader = record old.reader { ended = true } } → HasKept new true taken told
kept_ended old new taken told h is =
    subst (λ (f : Filtering). HasKept f true taken told) (sym is)
    (record { given = h.given; is_ended = refl; progress = closed_on (extras_of old.known) taken h.given old.reader h.progress; kept = h.kept })
