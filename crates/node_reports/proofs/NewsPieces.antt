-- News with one piece more, and what a report says of one piece.
use Rattle.std.proofs.Common.{◌≡◌, ℕ, ◌+◌, Bool, List, [], ◌∷◌, ◌++◌, map, true, Result, Ok, Err, Option, Some, None, refl, sym, ap, ◌∙◌}
use Rattle.std.specs.Prelude.{OnOk}
use Rattle.mav_names.specs.declared.names.Name.{Name}
use Rattle.param_proto.specs.declared.params.Param.{Param}
use Rattle.mav_nodes.specs.News.{NodeEvent, Shown, shown, said_by, events_of}
use Rattle.mav_nodes.specs.declared.news.News.{News}
use Rattle.fleet_report.specs.Events.{Event, events_text}
use Rattle.fleet_report.specs.Reports.{ReportState, with_text}
use Rattle.fleet_report.specs.Sayings.{says}
use Rattle.fleet_report.specs.declared.event.Event.{Event as Saying}
use Rattle.node_reports.specs.Frames.{is_frame}
use Rattle.node_reports.specs.Reporting.{reported_by, text_if, reports}
use Rattle.node_reports.specs.ParamLists.{HaveValues}
use Rattle.node_reports.proofs.Reporting.{with_text-none}

-- ---- a list with one piece more

pub record Split (news : List News) (piece : News) (events : List NodeEvent) : Type 0 where
  pub front : List NodeEvent
  pub event : NodeEvent
  pub whole : events ≡ front ++ event ∷ []
  pub before : events_of news ≡ map shown front
  pub last : said_by piece ≡ shown event

pub split : (news : List News) (piece : News) (events : List NodeEvent) → events_of (news ++ piece ∷ []) ≡ map shown events → Split news piece events
split [] piece [] e = cc
split [] piece (x ∷ []) e = record { front = []; event = x; whole = refl; before = refl; last = cc }
split [] piece (x ∷ y ∷ ys) e = cc
split (n ∷ ns) piece [] e = cc
split (n ∷ ns) piece (x ∷ xs) e = longer (split ns piece xs (tails _ _ _ _ e))
  where
    tails : (a b : Shown) (xs ys : List Shown) → ◌≡◌ {A = List Shown} (a ∷ xs) (b ∷ ys) → xs ≡ ys
    tails a b xs ys h = cc

    heads : (a b : Shown) (xs ys : List Shown) → ◌≡◌ {A = List Shown} (a ∷ xs) (b ∷ ys) → a ≡ b
    heads a b xs ys h = cc

    longer : Split ns piece xs → Split (n ∷ ns) piece (x ∷ xs)
    longer s = record {
      front = x ∷ s.front;
      event = s.event;
      whole = ap (λ (l : List NodeEvent). x ∷ l) s.whole;
      before = ap (λ (a : Shown). a ∷ events_of ns) (heads _ _ _ _ e) ∙ ap (λ (l : List Shown). shown x ∷ l) s.before;
      last = s.last;
    }

pub have_both : (values : List Param) (xs ys : List NodeEvent) → HaveValues values (xs ++ ys) → HaveValues values xs × HaveValues values ys
have_both values [] ys h = (tt, h)
have_both values (x ∷ xs) ys h = let rest = have_both values xs ys h.1 in ((h.0, rest.0), rest.1)

-- ---- what a report says

-- what is said of a piece of news is added, or nothing
pub added : {T E : Type 0} (r : Result T E) (piece : News) (name : Name) (values : List Param) (number : ℕ) (said : Option Saying) (saying : Saying) (start end : ReportState) → said ≡ Some saying
    → ((event : NodeEvent) (count : ℕ) → said_by piece ≡ shown event → HaveValues values (event ∷ []) → (is_frame piece ≡ true → number ≡ count + 1) → (frames : Bool) → text_if frames said ≡ events_text frames (reported_by name count (event ∷ [])))
    → OnOk r (end ≡ says start saying)
    → OnOk r ((event : NodeEvent) (count : ℕ) → said_by piece ≡ shown event → HaveValues values (event ∷ []) → (is_frame piece ≡ true → number ≡ count + 1) → end ≡ reports start (reported_by name count (event ∷ [])))
added (Err e) piece name values number said saying start end is tells adds = tt
added (Ok t) piece name values number said saying start end is tells adds = λ event count e have numbered.
    adds ∙ ap (with_text start) (sym (ap (text_if start.frames) is) ∙ tells event count e have numbered start.frames)

pub none_added : (said : Option Saying) (report : ReportState) (events : List Event) → said ≡ None → ((frames : Bool) → text_if frames said ≡ events_text frames events) → report ≡ reports report events
none_added said report events is tells =
    sym (with_text-none report) ∙ ap (with_text report) (sym (ap (text_if report.frames) is) ∙ tells report.frames)
