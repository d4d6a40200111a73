-- What was told is a prefix of what is told of the bytes taken.
use Rattle.std.proofs.Common.{◌≡◌, ℕ, ◌+◌, Bool, true, false, List, [], ◌∷◌, ◌++◌, refl, sym, ap, ◌∙◌, subst}
use Rattle.std.proofs.Common.{append_assoc}
use Rattle.field_layout.specs.Definition.{Definition}
use Rattle.mav_profile.specs.Messages.{extras_of}
use Rattle.mav_frame.specs.declared.events.Event.{Event}
use Rattle.decode_command.specs.Parsing.{parse_events}
use Rattle.decode_command.specs.Parses.{final_begins, incremental_begins}
use Rattle.log_rows.specs.LogEvents.{log_events}
use Rattle.log_rows.specs.LogParse.{LogEvent, BeginsLog}
use Rattle.log_rows.specs.Progress.{LogHeld, LogProgress}
use Rattle.log_rows.proofs.Parses.{begins_by_function}
use Rattle.mav_log.specs.LogText.{event_size, event_line, lines_from, bytes_in}
use Rattle.mav_log.specs.RowsMade.{row_of, rows_of_system, made_of, time_after, rows_from, micros_after}
use Rattle.mav_log.specs.Spec.{show_telling, filter_telling, make_telling}
use Rattle.mav_log.specs.Tellers.{Showing, HasShown, HasShownAll, Filtering, HasKept, Making, HasMade}
use Rattle.decode_command.specs.TellingLaws.{lines_append}
use Rattle.decode_command.specs.Tellings.{Leads}

-- ---- the text of more events

pub kept_append : (sys : ℕ) (xs ys : List LogEvent)
    → rows_of_system sys (xs ++ ys) ≡ rows_of_system sys xs ++ rows_of_system sys ys
kept_append sys [] ys = refl
kept_append sys (x ∷ xs) ys = ap (λ (more : List ℕ). row_of sys x ++ more) (kept_append sys xs ys)
    ∙ sym (append_assoc (row_of sys x) (rows_of_system sys xs) (rows_of_system sys ys))

pub made_append : (micros : ℕ) (xs ys : List Event)
    → rows_from micros (xs ++ ys) ≡ rows_from micros xs ++ rows_from (micros_after micros xs) ys
made_append micros [] ys = refl
made_append micros (x ∷ xs) ys =
    ap (λ (more : List ℕ). made_of micros x ++ more) (made_append (time_after micros x) xs ys)
    ∙ sym (append_assoc (made_of micros x) (rows_from (time_after micros x) xs)
    (rows_from (micros_after (time_after micros x) xs) ys))

-- ---- the events of the bytes taken

pub log_begins : (known : List Definition) (ended : Bool) (taken : List ℕ) (given : List LogEvent) (held : LogHeld)
    → held.ended ≡ ended → LogProgress (extras_of known) taken given held
    → log_events (extras_of known) ended taken ≡ given ++ log_events (extras_of known) ended held.bytes
log_begins known ended taken given held is p =
    begins_by_function (extras_of known) ended given held.bytes taken
    (subst (λ (t : Bool). BeginsLog (extras_of known) t given held.bytes taken) is p.begins)

abbrev pub shown_leads : (s : Showing) (ended : Bool) (taken told : List ℕ) → HasShown s ended taken told
    → Leads (show_telling s.known) ended taken told
shown_leads s ended taken told h =
    let more = log_events (extras_of s.known) ended s.reader.bytes in (
      lines_from s.known (0 + bytes_in h.given) more,
      ap (lines_from s.known 0) (log_begins s.known ended taken h.given s.reader h.is_ended h.progress)
          ∙ (lines_append (event_line s.known) event_size 0 h.given more ∙ ap
          (λ (text : List ℕ). text ++ lines_from s.known (0 + bytes_in h.given) more) (sym h.lines)),
    )

abbrev pub shown_all : (s : Showing) (ended : Bool) (taken told : List ℕ) → HasShownAll s ended taken told
    → told ≡ (show_telling s.known).told ended taken
shown_all s ended taken told h = h.has.lines ∙ ap (lines_from s.known 0) h.all

pub kept_leads : (f : Filtering) (ended : Bool) (taken told : List ℕ) → HasKept f ended taken told
    → Leads (filter_telling f.known f.sys) ended taken told
kept_leads f ended taken told h =
    let more = log_events (extras_of f.known) ended f.reader.bytes in (
      rows_of_system f.sys more,
      ap (rows_of_system f.sys) (log_begins f.known ended taken h.given f.reader h.is_ended h.progress)
          ∙ (kept_append f.sys h.given more ∙ ap (λ (text : List ℕ). text ++ rows_of_system f.sys more) (sym h.kept)),
    )

frames_begin : (m : Making) (ended : Bool) (taken told : List ℕ) (h : HasMade m ended taken told)
    → parse_events (extras_of m.known) ended taken ≡ h.given ++ parse_events (extras_of m.known) ended m.reader.bytes
frames_begin m true taken told h = final_begins (extras_of m.known) h.given m.reader.bytes taken h.progress.final
frames_begin m false taken told h = incremental_begins (extras_of m.known) h.given m.reader.bytes taken
    (h.progress.incremental h.is_ended)

pub made_leads : (m : Making) (ended : Bool) (taken told : List ℕ) → HasMade m ended taken told
    → Leads (make_telling m.known m.start) ended taken told
made_leads m ended taken told h =
    let more = parse_events (extras_of m.known) ended m.reader.bytes in (
      rows_from (micros_after m.start h.given) more,
      ap (rows_from m.start) (frames_begin m ended taken told h)
          ∙ (made_append m.start h.given more ∙ ap
          (λ (text : List ℕ). text ++ rows_from (micros_after m.start h.given) more) (sym h.made)),
    )
