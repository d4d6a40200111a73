-- What was told, and what the history has in common with it.
use Rattle.std.proofs.Common.{◌≡◌, ◌∙◌, ℕ, List, [], ◌∷◌, ◌++◌, map, refl, sym, ap, subst, append_assoc}
use Rattle.std.specs.List.{flat_map}
use Rattle.std.proofs.lemmas.Grind.{flat_map-append}
use Rattle.std.proofs.lemmas.List.{append-nil, append_cancel_left, map-append}
use Rattle.mav_sign.specs.Kept.{Kept}
use Rattle.mav_router.specs.Journal.{Rules}
use Rattle.relay_rules.specs.Steps.{Event, opens, closes, hears, refuses, forgets}
use Rattle.relay_core.specs.declared.notes.Note.{Note}
use Rattle.relay_core.specs.Flows.{Course, GoesBy, Told, nothing_yet, told_of}
use Rattle.relay_core.specs.Moves.{AreHeard}
use Rattle.relay_core.specs.RelayRuns.{IsRun, RelayRun}
use Rattle.relay_core.specs.Said.{Notes, Said, Tells}
use Rattle.relay_core.specs.Said.Said.{Framed, Noted}
use Rattle.relay_core.specs.Strangers.{AreRefused}
use Rattle.relay_run.specs.Rounds.{IsTold}
use Rattle.relay_run.specs.Saying.{Mark, framed_by, framed_in, mark_of_told, marks_by, marks_noted, marks_of, marks_said, marks_said_by}

-- the frames of a history
abbrev frames_by : Event → List Mark
frames_by (opens number port) = []
frames_by (closes number) = []
frames_by (hears number packet answer) = marks_by (hears number packet answer)
frames_by (refuses port packet answer) = marks_by (refuses port packet answer)
frames_by forgets = []

abbrev frames_of : List Event → List Mark
frames_of events = flat_map frames_by events

told_by : (rules : Rules) (event : Event) (links : List _) → map mark_of_told (told_of rules event links) ≡ frames_by event
told_by rules (opens number port) links = refl
told_by rules (closes number) links = refl
told_by rules (hears number packet answer) links = refl
told_by rules (refuses port packet answer) links = refl
told_by rules forgets links = refl

-- what is told are the frames of the history
told_so : (rules : Rules) (events : List Event) (before after : Course) → GoesBy rules events before after
    → map mark_of_told after.told ≡ map mark_of_told before.told ++ frames_of events
told_so rules [] before after e = ap (λ (c : Course). map mark_of_told c.told) e ∙ sym (append-nil (map mark_of_told before.told))
told_so rules (event ∷ events) before after (middle, goes, rest) =
    told_so rules events middle after rest
    ∙ (ap (λ (l : List Mark). l ++ frames_of events)
    (ap (map mark_of_told) goes.told ∙ (map-append mark_of_told before.told (told_of rules event before.state.links)
    ∙ ap (λ (l : List Mark). map mark_of_told before.told ++ l) (told_by rules event before.state.links)))
    ∙ append_assoc (map mark_of_told before.told) (frames_by event) (frames_of events))

run_told : (rules : Rules) (start : Kept) (run : RelayRun) → IsRun rules start run → map mark_of_told run.course.told ≡ frames_of run.events
run_told rules start run is = told_so rules run.events (nothing_yet start) run.course is

-- what is told since then
since_told : (rules : Rules) (start : Kept) (run now : RelayRun) (since : List Event) (more : List Told) → IsRun rules start run → IsRun rules start now
    → now.events ≡ run.events ++ since → now.course.told ≡ run.course.told ++ more → map mark_of_told more ≡ frames_of since
since_told rules start run now since more is_run is_now events told =
    append_cancel_left (map mark_of_told run.course.told) (map mark_of_told more) (frames_of since)
    (sym (ap (map mark_of_told) told ∙ map-append mark_of_told run.course.told more)
    ∙ (run_told rules start now is_now
    ∙ (ap frames_of events ∙ (flat_map-append frames_by run.events since
    ∙ ap (λ (l : List Mark). l ++ frames_of since) (sym (run_told rules start run is_run))))))

heard_frames : (since : List Event) → AreHeard since → frames_of since ≡ marks_of since
heard_frames [] are = refl
heard_frames (hears number packet answer ∷ since) are = ap (λ (l : List Mark). marks_by (hears number packet answer) ++ l) (heard_frames since are)
heard_frames (opens number port ∷ since) are = absurd are
heard_frames (closes number ∷ since) are = absurd are
heard_frames (refuses port packet answer ∷ since) are = absurd are
heard_frames (forgets ∷ since) are = absurd are

refused_frames : (port : ℕ) (since : List Event) → AreRefused port since → frames_of since ≡ marks_of since
refused_frames port [] are = refl
refused_frames port (refuses at packet answer ∷ since) are = ap (λ (l : List Mark). marks_by (refuses at packet answer) ++ l) (refused_frames port since are.1)
refused_frames port (forgets ∷ since) are = refused_frames port since are
refused_frames port (opens number at ∷ since) are = absurd are
refused_frames port (closes number ∷ since) are = absurd are
refused_frames port (hears number packet answer ∷ since) are = absurd are

-- the marks of a longer history
pub heard_marks : (rules : Rules) (start : Kept) (run now : RelayRun) (since : List Event) (more : List Told) → IsRun rules start run → IsRun rules start now
    → now.events ≡ run.events ++ since → now.course.told ≡ run.course.told ++ more → AreHeard since → marks_of now.events ≡ marks_of run.events ++ map mark_of_told more
heard_marks rules start run now since more is_run is_now events told are =
    ap marks_of events ∙ (flat_map-append marks_by run.events since
    ∙ ap (λ (l : List Mark). marks_of run.events ++ l) (sym (since_told rules start run now since more is_run is_now events told ∙ heard_frames since are)))

pub refused_marks : (rules : Rules) (start : Kept) (run now : RelayRun) (port : ℕ) (since : List Event) (more : List Told) → IsRun rules start run → IsRun rules start now
    → now.events ≡ run.events ++ since → now.course.told ≡ run.course.told ++ more → AreRefused port since → marks_of now.events ≡ marks_of run.events ++ map mark_of_told more
refused_marks rules start run now port since more is_run is_now events told are =
    ap marks_of events ∙ (flat_map-append marks_by run.events since
    ∙ ap (λ (l : List Mark). marks_of run.events ++ l) (sym (since_told rules start run now since more is_run is_now events told ∙ refused_frames port since are)))

-- ---- what is told next

framed_all : (more : List Told) → framed_in (map Framed more) ≡ more
framed_all [] = refl
framed_all (told ∷ more) = ap (λ (l : List Told). told ∷ l) (framed_all more)

marks_all : (more : List Told) → marks_said (map Framed more) ≡ map mark_of_told more
marks_all [] = refl
marks_all (told ∷ more) = ap (λ (l : List Mark). mark_of_told told ∷ l) (marks_all more)

module _ {Watcher : Type 0} (told : Watcher → List Said → Type 0) (first was is : Watcher) (run now : RelayRun) where
  pub told_more : (more : List Told) → now.course.told ≡ run.course.told ++ more → marks_of now.events ≡ marks_of run.events ++ map mark_of_told more
      → IsTold told first was run → Tells told was is more → IsTold told first is now
  told_more more frames marks so next = record {
    said = so.said ++ map Framed more;
    tells = λ all h. subst (told is) (append_assoc all so.said (map Framed more)) (next (all ++ so.said) (so.tells all h));
    frames = flat_map-append framed_by so.said (map Framed more) ∙ (ap (λ (l : List Told). framed_in so.said ++ l) (framed_all more) ∙ (ap (λ (l : List Told). l ++ more) so.frames ∙ sym frames));
    marks = flat_map-append marks_said_by so.said (map Framed more) ∙ (ap (λ (l : List Mark). marks_said so.said ++ l) (marks_all more) ∙ (ap (λ (l : List Mark). l ++ map mark_of_told more) so.marks ∙ sym marks));
  }

  pub told_note : (note : Note) → now.course.told ≡ run.course.told → marks_of now.events ≡ marks_of run.events ++ marks_noted note
      → IsTold told first was run → Notes told was is note → IsTold told first is now
  told_note note frames marks so next = record {
    said = so.said ++ Noted note ∷ [];
    tells = λ all h. subst (told is) (append_assoc all so.said (Noted note ∷ [])) (next (all ++ so.said) (so.tells all h));
    frames = flat_map-append framed_by so.said (Noted note ∷ []) ∙ (append-nil (framed_in so.said) ∙ (so.frames ∙ sym frames));
    marks = flat_map-append marks_said_by so.said (Noted note ∷ []) ∙ (ap (λ (l : List Mark). marks_said so.said ++ l) (append-nil (marks_noted note)) ∙ (ap (λ (l : List Mark). l ++ marks_noted note) so.marks ∙ sym marks));
  }
