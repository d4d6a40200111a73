-- The texts of two lists of events.
use Rattle.std.proofs.Common.{◌≡◌, ℕ, List, [], ◌∷◌, ◌++◌, Option, refl, sym, ap, ◌∙◌, append_assoc}
use Rattle.std.specs.Prelude.{map, false, min, ◌-◌, ◌^◌}
use Rattle.std.proofs.lemmas.List.{map-append}
use Rattle.std.proofs.lemmas.Grind.{flat_map-append}
use Rattle.mav_names.specs.declared.names.Name.{Name}
use Rattle.mav_nodes.specs.News.{NodeEvent, shown}
use Rattle.fleet_report.specs.Events.{events_text}
use Rattle.node_reports.specs.Reporting.{reported_by}
use Rattle.live_node.specs.declared.run_log.Ending.{Ending}
use Rattle.live_node.specs.declared.run_log.RunLog.{RunLog}
use Rattle.live_node.specs.Texts.{frame_bytes, frames_text, count_with, count_over, lines_of, ending_in, ending_over, first_of, tells}

pub frames-append : (xs ys : List NodeEvent) → frames_text (map shown (xs ++ ys)) ≡ frames_text (map shown xs) ++ frames_text (map shown ys)
frames-append xs ys = ap frames_text (map-append shown xs ys) ∙ flat_map-append frame_bytes (map shown xs) (map shown ys)

pub count-append : (before : ℕ) (xs ys : List NodeEvent) → count_over before (xs ++ ys) ≡ count_over (count_over before xs) ys
count-append before [] ys = refl
count-append before (x ∷ xs) ys = count-append (count_with before x) xs ys

pub ending-append : (before : Option Ending) (xs ys : List NodeEvent) → ending_over before (xs ++ ys) ≡ ending_over (ending_over before xs) ys
ending-append before [] ys = refl
ending-append before (x ∷ xs) ys = ending-append (first_of before (ending_in x)) xs ys

pub lines-append : (name : Name) (before : ℕ) (xs ys : List NodeEvent) → lines_of name before (xs ++ ys) ≡ lines_of name before xs ++ lines_of name (count_over before xs) ys
lines-append name before [] ys = refl
lines-append name before (x ∷ xs) ys =
    let first = events_text false (reported_by name (min before (2 ^ 64 - 2)) (x ∷ [])) in
    ap (λ (l : List ℕ). first ++ l) (lines-append name (count_with before x) xs ys)
    ∙ sym (append_assoc first (lines_of name (count_with before x) xs) (lines_of name (count_over (count_with before x) xs) ys))

pub tells_both : (t : RunLog) (xs ys : List NodeEvent) → tells (tells t xs) ys ≡ tells t (xs ++ ys)
tells_both t xs ys = sym (ap (λ (n : ℕ). record t { sent = n; ending = ending_over t.ending (xs ++ ys) }) (count-append t.sent xs ys) ∙ ap (λ (e : Option Ending). record t { sent = count_over (count_over t.sent xs) ys; ending = e }) (ending-append t.ending xs ys))
