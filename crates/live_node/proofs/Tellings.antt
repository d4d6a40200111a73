-- News, one piece after another, and what is told of them.
use Rattle.std.proofs.Common.{◌≡◌, ℕ, ◌+◌, ◌<◌, List, [], ◌∷◌, ◌++◌, length, map, take, get_or, false, Option, Some, None, refl, sym, ap, ◌∙◌, subst, append_assoc}
use Rattle.std.proofs.lemmas.List.{append-nil, take_more}
use Rattle.mav_names.specs.declared.names.Name.{Name}
use Rattle.param_proto.specs.declared.params.Param.{Param}
use Rattle.mav_nodes.specs.News.{NodeEvent, shown, said_by, events_of}
use Rattle.mav_nodes.specs.declared.news.News.{News}
use Rattle.fleet_report.specs.Reports.{ReportState, with_text}
use Rattle.node_reports.specs.ParamLists.{HaveValues}
use Rattle.node_reports.proofs.NewsPieces.{Split, split, have_both}
use Rattle.live_node.specs.declared.run_log.RunLog.{RunLog}
use Rattle.live_node.specs.Texts.{count_over, lines_of, tells}
use Rattle.mav_ports.proofs.Known.{sent_start}
use Rattle.run_status.specs.declared.run_ends.RunEnd.{RunEnd}
use Rattle.run_status.specs.declared.run_ends.RunEnd.TheVariants.{NoMemory}
use Rattle.live_node.specs.Progress.{Tells, Prints}
use Rattle.live_node.proofs.Texts.{lines-append, tells_both}

-- what was told of the news so far
abbrev pub TellsOf : List Param → List News → RunLog → RunLog → ReportState → ReportState → Type 0
TellsOf values news old new before after =
    (events : List NodeEvent) → events_of news ≡ map shown events → HaveValues values events → Tells events old new before after

text_same : (report : ReportState) → report ≡ with_text report []
text_same report = ap (λ (text : List ℕ). record report { text = text }) (sym (append-nil report.text))

pub tells_start : (values : List Param) (t : RunLog) (report : ReportState) → TellsOf values [] t t report report
tells_start values t report [] e have = record { told = refl; silent = λ frames. text_same report }
tells_start values t report (x ∷ xs) e have = cc

tells_two : (xs ys : List NodeEvent) (a b c : RunLog) (r s t : ReportState) → Tells xs a b r s → Tells ys b c s t → Tells (xs ++ ys) a c r t
tells_two xs ys a b c r s t first next = record {
  told = next.told ∙ (ap (λ (u : RunLog). tells u ys) first.told ∙ tells_both a xs ys);
  silent = λ frames.
      let one = first.silent frames in
      let still : s.frames ≡ false = ap (λ (x : ReportState). x.frames) one ∙ frames in
      let name : b.name ≡ a.name = ap (λ (u : RunLog). u.name) first.told in
      let sent : b.sent ≡ count_over a.sent xs = ap (λ (u : RunLog). u.sent) first.told in
      let lines : lines_of b.name b.sent ys ≡ lines_of a.name (count_over a.sent xs) ys =
      ap (λ (n : Name). lines_of n b.sent ys) name ∙ ap (λ (n : ℕ). lines_of a.name n ys) sent in
      next.silent still ∙ (ap (λ (x : ReportState). with_text x (lines_of b.name b.sent ys)) one
      ∙ ap (λ (text : List ℕ). record r { text = text }) (append_assoc r.text (lines_of a.name a.sent xs) (lines_of b.name b.sent ys)
      ∙ ap (λ (l : List ℕ). r.text ++ l) (ap (λ (l : List ℕ). lines_of a.name a.sent xs ++ l) lines ∙ sym (lines-append a.name a.sent xs ys))));
}

tells_split : (values : List Param) (news : List News) (piece : News) (events : List NodeEvent) (a b c : RunLog) (r s t : ReportState) → Split news piece events → HaveValues values events → TellsOf values news a b r s → ((event : NodeEvent) → said_by piece ≡ shown event → HaveValues values (event ∷ []) → Tells (event ∷ []) b c s t) → Tells events a c r t
tells_split values news piece events a b c r s t sp have front one =
    let parts = have_both values sp.front (sp.event ∷ []) (subst (HaveValues values) sp.whole have) in
    subst (λ (l : List NodeEvent). Tells l a c r t) (sym sp.whole)
    (tells_two sp.front (sp.event ∷ []) a b c r s t (front sp.front sp.before parts.0) (one sp.event sp.last parts.1))

pub tells_more : (values : List Param) (news : List News) (i : ℕ) (piece : News) (a b c : RunLog) (r s t : ReportState) → i < length news → piece ≡ get_or news i piece → TellsOf values (take i news) a b r s → ((event : NodeEvent) → said_by piece ≡ shown event → HaveValues values (event ∷ []) → Tells (event ∷ []) b c s t) → TellsOf values (take (i + 1) news) a c r t
tells_more values news i piece a b c r s t within is front one events e have =
    let longer : take (i + 1) news ≡ take i news ++ piece ∷ [] = take_more news i piece within ∙ ap (λ (n : News). take i news ++ n ∷ []) (sym is) in
    tells_split values (take i news) piece events a b c r s t (split (take i news) piece events (ap events_of (sym longer) ∙ e)) have front one

-- without memory nothing was written
pub nothing_printed : (events : List NodeEvent) (old new : RunLog) (text : Option (List ℕ)) → Prints (Some NoMemory) events old new text text
nothing_printed events old new text = record {
  printed = (lines_of old.name old.sent events, sent_start text (lines_of old.name old.sent events));
  told = λ e. absurd (never e);
}
  where
    never : ◌≡◌ {A = Option RunEnd} (Some NoMemory) None → ⊥
    never e = cc
