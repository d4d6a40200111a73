-- News, one piece after another, and what is reported of them.
use Rattle.std.proofs.Common.{◌≡◌, ℕ, suc, ◌+◌, ◌<◌, List, [], ◌∷◌, ◌++◌, length, map, take, get_or, Bool, true, false, cond, Result, Ok, Err, refl, sym, ap, ◌∙◌, subst, append_assoc, arith, length-append}
use Rattle.std.specs.Prelude.{OnOk}
use Rattle.std.proofs.lemmas.List.{append-nil, take_more, map-append, length-map}
use Rattle.mav_names.specs.declared.names.Name.{Name}
use Rattle.param_proto.specs.declared.params.Param.{Param}
use Rattle.mav_frame.specs.Packet.{Packet}
use Rattle.mav_messages.specs.declared.messages.Message.{Message}
use Rattle.mav_nodes.specs.News.{NodeEvent, Sends, Installs, Empties, Drops, Ends, Ends_command, Gives_param, Ends_params, Reaches, Captures, Ends_file, Shown, Shows_sent, Shows_installed, Shows_emptied, Shows_dropped, Shows_ended, Shows_command, Shows_param, Shows_params, Shows_reached, Shows_captured, Shows_file, shown, said_by, events_of}
use Rattle.mav_nodes.specs.declared.news.News.{News}
use Rattle.mav_nodes.specs.declared.news.News.TheVariants.{Sent, Installed, Emptied, Dropped, Outcome, Command, Param as Told_param, Params, Reached, Captured, File}
use Rattle.fleet_report.specs.Events.{Event, Sent as SentEvent}
use Rattle.fleet_report.specs.Reports.{ReportState}
use Rattle.node_reports.specs.Frames.{is_frame}
use Rattle.node_reports.specs.Reporting.{reported_by, reports}
use Rattle.node_reports.specs.ParamLists.{HaveValues}
use Rattle.node_reports.proofs.Reporting.{reports-none, reports-both}
use Rattle.node_reports.proofs.NewsPieces.{Split, split, have_both}
use Rattle.fleet_world.specs.WorldView.{Kept, kept_as}
use Rattle.fleet_world.specs.Counts.{counted}
use Rattle.fleet_world.specs.Steps.{packets_in}
use Rattle.fleet_world.specs.Promises.{Reported}

-- ---- the frames and the events of two lists

pub packets-append : (xs ys : List NodeEvent) → packets_in (xs ++ ys) ≡ packets_in xs ++ packets_in ys
packets-append [] ys = refl
packets-append (Sends packet message ∷ xs) ys = ap (λ (l : List Packet). packet ∷ l) (packets-append xs ys)
packets-append (Installs kind items by ∷ xs) ys = packets-append xs ys
packets-append (Empties kind ∷ xs) ys = packets-append xs ys
packets-append (Drops answer ∷ xs) ys = packets-append xs ys
packets-append (Ends outcome ∷ xs) ys = packets-append xs ys
packets-append (Ends_command result ∷ xs) ys = packets-append xs ys
packets-append (Gives_param param ∷ xs) ys = packets-append xs ys
packets-append (Ends_params values ∷ xs) ys = packets-append xs ys
packets-append (Reaches number ∷ xs) ys = packets-append xs ys
packets-append (Captures total ∷ xs) ys = packets-append xs ys
packets-append (Ends_file end ∷ xs) ys = packets-append xs ys

behind_event : (event : Event) {xs ys : List Event} → xs ≡ ys → event ∷ xs ≡ event ∷ ys
behind_event event e = ap (λ (l : List Event). event ∷ l) e

pub reported_by-append : (name : Name) (before after : ℕ) (xs ys : List NodeEvent) → after ≡ before + length (packets_in xs) → reported_by name before (xs ++ ys) ≡ reported_by name before xs ++ reported_by name after ys
reported_by-append name before after [] ys e =
    let same : before ≡ after = omega arith in
    ap (λ (n : ℕ). reported_by name n ys) same
reported_by-append name before after (Sends packet message ∷ xs) ys e =
    ap (λ (l : List Event). SentEvent (before + 1) packet message ∷ l) (reported_by-append name (before + 1) after xs ys (omega arith))
reported_by-append name before after (Installs kind items by ∷ xs) ys e = behind_event _ (reported_by-append name before after xs ys e)
reported_by-append name before after (Empties kind ∷ xs) ys e = behind_event _ (reported_by-append name before after xs ys e)
reported_by-append name before after (Drops answer ∷ xs) ys e = behind_event _ (reported_by-append name before after xs ys e)
reported_by-append name before after (Ends outcome ∷ xs) ys e = behind_event _ (reported_by-append name before after xs ys e)
reported_by-append name before after (Ends_command result ∷ xs) ys e = behind_event _ (reported_by-append name before after xs ys e)
reported_by-append name before after (Gives_param param ∷ xs) ys e = behind_event _ (reported_by-append name before after xs ys e)
reported_by-append name before after (Ends_params values ∷ xs) ys e = behind_event _ (reported_by-append name before after xs ys e)
reported_by-append name before after (Reaches number ∷ xs) ys e = behind_event _ (reported_by-append name before after xs ys e)
reported_by-append name before after (Captures total ∷ xs) ys e = behind_event _ (reported_by-append name before after xs ys e)
reported_by-append name before after (Ends_file end ∷ xs) ys e = reported_by-append name before after xs ys e

-- ---- reported

told_none : (name : Name) (kept : List Kept) (report : ReportState) → Reported name [] kept kept report report
told_none name kept report = record { sent = sym (append-nil kept); report = sym (reports-none report) }

reported_both : (name : Name) (xs ys : List NodeEvent) (kept now more : List Kept) (start mid end : ReportState) → Reported name xs kept now start mid → Reported name ys now more mid end → Reported name (xs ++ ys) kept more start end
reported_both name xs ys kept now more start mid end first next =
    let count : length now ≡ length kept + length (packets_in xs) = ap length first.sent ∙ (length-append kept (map kept_as (packets_in xs)) ∙ ap (λ (n : ℕ). length kept + n) (length-map (packets_in xs) kept_as)) in
    record {
      sent = next.sent ∙ (ap (λ (l : List Kept). l ++ map kept_as (packets_in ys)) first.sent
          ∙ (append_assoc kept (map kept_as (packets_in xs)) (map kept_as (packets_in ys))
          ∙ ap (λ (l : List Kept). kept ++ l) (sym (map-append kept_as (packets_in xs) (packets_in ys)) ∙ ap (map kept_as) (sym (packets-append xs ys)))));
      report = next.report ∙ (ap (λ (r : ReportState). reports r (reported_by name (length now) ys)) first.report
          ∙ (reports-both start (reported_by name (length kept) xs) (reported_by name (length now) ys)
          ∙ ap (reports start) (sym (reported_by-append name (length kept) (length now) xs ys count))));
    }

-- ---- a list with one piece more

-- what was reported of the news so far
abbrev pub ReportedOf : Name → List Param → List News → List Kept → List Kept → ReportState → ReportState → Type 0
ReportedOf name values news kept now start mid =
    (events : List NodeEvent) → events_of news ≡ map shown events → HaveValues values events → Reported name events kept now start mid

pub reported_start : (name : Name) (values : List Param) (kept : List Kept) (report : ReportState) → ReportedOf name values [] kept kept report report
reported_start name values kept report [] e have = told_none name kept report
reported_start name values kept report (x ∷ xs) e have = cc

reported_split : (name : Name) (values : List Param) (news : List News) (piece : News) (events : List NodeEvent) (kept now more : List Kept) (start mid end : ReportState) → Split news piece events → HaveValues values events → ReportedOf name values news kept now start mid → ((event : NodeEvent) → said_by piece ≡ shown event → HaveValues values (event ∷ []) → Reported name (event ∷ []) now more mid end) → Reported name events kept more start end
reported_split name values news piece events kept now more start mid end s have front one =
    let parts = have_both values s.front (s.event ∷ []) (subst (HaveValues values) s.whole have) in
    subst (λ (l : List NodeEvent). Reported name l kept more start end) (sym s.whole)
    (reported_both name s.front (s.event ∷ []) kept now more start mid end (front s.front s.before parts.0) (one s.event s.last parts.1))

pub told_more : (name : Name) (values : List Param) (news : List News) (i : ℕ) (piece : News) (kept now more : List Kept) (start mid end : ReportState) → i < length news → piece ≡ get_or news i piece → ReportedOf name values (take i news) kept now start mid → ((event : NodeEvent) → said_by piece ≡ shown event → HaveValues values (event ∷ []) → Reported name (event ∷ []) now more mid end) → ReportedOf name values (take (i + 1) news) kept more start end
told_more name values news i piece kept now more start mid end within is front one events e have =
    let longer : take (i + 1) news ≡ take i news ++ piece ∷ [] = take_more news i piece within ∙ ap (λ (n : News). take i news ++ n ∷ []) (sym is) in
    reported_split name values (take i news) piece events kept now more start mid end (split (take i news) piece events (ap events_of (sym longer) ∙ e)) have front one

-- ---- a frame

-- a frame that is kept
pub frame_kept : {T E : Type 0} (r : Result T E) (piece : News) (packet : Packet) (message : Message) (kept more : List Kept) → piece ≡ Sent packet message → OnOk r (more ≡ kept ++ kept_as packet ∷ []) → OnOk r ((event : NodeEvent) → said_by piece ≡ shown event → more ≡ kept ++ map kept_as (packets_in (event ∷ [])))
frame_kept (Err e) piece packet message kept more is pushed = tt
frame_kept (Ok t) piece packet message kept more is pushed = λ event e. by_event event (sym (ap said_by is) ∙ e)
  where
    same : (p : Packet) (m : Message) → ◌≡◌ {A = Shown} (Shows_sent packet message) (Shows_sent p m) → more ≡ kept ++ kept_as p ∷ []
    same p m e = let packets : packet ≡ p = cc in pushed ∙ ap (λ (q : Packet). kept ++ kept_as q ∷ []) packets

    by_event : (event : NodeEvent) → Shows_sent packet message ≡ shown event → more ≡ kept ++ map kept_as (packets_in (event ∷ []))
    by_event (Sends p m) e = same p m e
    by_event (Installs kind items by) e = cc
    by_event (Empties kind) e = cc
    by_event (Drops answer) e = cc
    by_event (Ends outcome) e = cc
    by_event (Ends_command result) e = cc
    by_event (Gives_param param) e = cc
    by_event (Ends_params listed) e = cc
    by_event (Reaches number) e = cc
    by_event (Captures total) e = cc
    by_event (Ends_file end) e = cc

pub frame_counted : {T E : Type 0} (r : Result T E) (piece : News) (packet : Packet) (kept more : List Kept) → OnOk r (more ≡ kept ++ kept_as packet ∷ []) → OnOk r (is_frame piece ≡ true → length more ≡ length kept + 1)
frame_counted (Err e) piece packet kept more pushed = tt
frame_counted (Ok t) piece packet kept more pushed = λ is. ap length pushed ∙ length-append kept (kept_as packet ∷ [])

-- one piece that is kept, if it is a frame, and that the report says
pub piece_reported : {T E : Type 0} (r : Result T E) (piece : News) (name : Name) (values : List Param) (kept more : List Kept) (number : ℕ) (before after : ReportState) → ((event : NodeEvent) → said_by piece ≡ shown event → more ≡ kept ++ map kept_as (packets_in (event ∷ []))) → (is_frame piece ≡ true → length more ≡ length kept + 1) → number ≡ length more
    → OnOk r ((event : NodeEvent) (count : ℕ) → said_by piece ≡ shown event → HaveValues values (event ∷ []) → (is_frame piece ≡ true → number ≡ count + 1) → after ≡ reports before (reported_by name count (event ∷ [])))
    → OnOk r ((event : NodeEvent) → said_by piece ≡ shown event → HaveValues values (event ∷ []) → Reported name (event ∷ []) kept more before after)
piece_reported (Err e) piece name values kept more number before after frames counts is said = tt
piece_reported (Ok t) piece name values kept more number before after frames counts is said = λ event e have. record {
  sent = frames event e;
  report = said event (length kept) e have (λ frame. is ∙ counts frame);
}

-- ---- how many frames are among news

one_more : (n : ℕ) → 1 + n ≡ suc n
one_more n = omega arith

none_more : (n : ℕ) → 0 + n ≡ n
none_more n = omega arith

abbrev is_sent : Shown → Bool
is_sent (Shows_sent packet message) = true
is_sent (Shows_installed kind count by) = false
is_sent (Shows_emptied kind) = false
is_sent (Shows_dropped answer) = false
is_sent (Shows_ended told) = false
is_sent (Shows_command result) = false
is_sent (Shows_param param) = false
is_sent (Shows_params count) = false
is_sent (Shows_reached number) = false
is_sent (Shows_captured total) = false
is_sent (Shows_file end) = false

piece_sent : (piece : News) → is_frame piece ≡ is_sent (said_by piece)
piece_sent (Sent frame message) = refl
piece_sent (Installed kind count by) = refl
piece_sent (Emptied kind) = refl
piece_sent (Dropped answer) = refl
piece_sent (Outcome outcome) = refl
piece_sent (Command result) = refl
piece_sent (Told_param param) = refl
piece_sent (Params count) = refl
piece_sent (Reached number) = refl
piece_sent (Captured total) = refl
piece_sent (File end) = refl

event_sent : (event : NodeEvent) (xs : List NodeEvent) → cond (is_sent (shown event)) 1 0 + length (packets_in xs) ≡ length (packets_in (event ∷ xs))
event_sent (Sends packet message) xs = one_more _
event_sent (Installs kind items by) xs = none_more _
event_sent (Empties kind) xs = none_more _
event_sent (Drops answer) xs = none_more _
event_sent (Ends told) xs = none_more _
event_sent (Ends_command result) xs = none_more _
event_sent (Gives_param param) xs = none_more _
event_sent (Ends_params values) xs = none_more _
event_sent (Reaches number) xs = none_more _
event_sent (Captures total) xs = none_more _
event_sent (Ends_file end) xs = none_more _

-- a piece that is no frame leaves what is kept
pub nothing_kept : (piece : News) (kept : List Kept) → is_frame piece ≡ false → (event : NodeEvent) → said_by piece ≡ shown event → kept ≡ kept ++ map kept_as (packets_in (event ∷ []))
nothing_kept piece kept none event e = by_event event (sym (ap is_sent e) ∙ (sym (piece_sent piece) ∙ none))
  where
    by_event : (event : NodeEvent) → is_sent (shown event) ≡ false → kept ≡ kept ++ map kept_as (packets_in (event ∷ []))
    by_event (Sends packet message) bare = absurd (cc)
    by_event (Installs kind items by) bare = sym (append-nil kept)
    by_event (Empties kind) bare = sym (append-nil kept)
    by_event (Drops answer) bare = sym (append-nil kept)
    by_event (Ends told) bare = sym (append-nil kept)
    by_event (Ends_command result) bare = sym (append-nil kept)
    by_event (Gives_param param) bare = sym (append-nil kept)
    by_event (Ends_params values) bare = sym (append-nil kept)
    by_event (Reaches number) bare = sym (append-nil kept)
    by_event (Captures total) bare = sym (append-nil kept)
    by_event (Ends_file end) bare = sym (append-nil kept)

frames_counted : (ns : List News) (xs : List NodeEvent) (piece : News) (event : NodeEvent) → counted is_frame ns ≡ length (packets_in xs) → said_by piece ≡ shown event → counted is_frame (piece ∷ ns) ≡ length (packets_in (event ∷ xs))
frames_counted ns xs piece event more e =
    ap (λ (b : Bool). cond b 1 0 + counted is_frame ns) (piece_sent piece ∙ ap is_sent e)
    ∙ ap (λ (n : ℕ). cond (is_sent (shown event)) 1 0 + n) more ∙ event_sent event xs

pub frames_among : (news : List News) (events : List NodeEvent) → events_of news ≡ map shown events → counted is_frame news ≡ length (packets_in events)
frames_among [] [] e = refl
frames_among [] (x ∷ xs) e = cc
frames_among (n ∷ ns) [] e = cc
frames_among (n ∷ ns) (x ∷ xs) e = frames_counted ns xs n x (frames_among ns xs (tail_of _ _ _ _ e)) (head_of _ _ _ _ e)
  where
    tail_of : (a b : Shown) (ys bs : List Shown) → ◌≡◌ {A = List Shown} (a ∷ ys) (b ∷ bs) → ys ≡ bs
    tail_of a b ys bs h = cc

    head_of : (a b : Shown) (ys bs : List Shown) → ◌≡◌ {A = List Shown} (a ∷ ys) (b ∷ bs) → a ≡ b
    head_of a b ys bs h = cc
