-- What is reported of plans happened, and means what it says.
use Rattle.std.proofs.Common.{◌≡◌, ℕ, zero, suc, ◌+◌, ◌<◌, ◌≤◌, ◌⊎◌, inl, inr, Bool, true, if◌then◌else◌, ◌==◌, ◌&&◌, List, [], ◌∷◌, ◌++◌, length, slice_get, Some, refl, sym, ap, subst, arith, ◌∙◌, length-append}
use Rattle.mav_names.specs.declared.names.Name.{Name}
use Rattle.mav_names.specs.declared.names.Stream.{Stream}
use Rattle.plan_items.specs.declared.items.Item.{Item}
use Rattle.plan_upload.specs.Addresses.{node_of, same_stream}
use Rattle.plan_upload.specs.Station.{Told, Told_installed, Told_not_installed, Told_unknown, Told_cleared, Told_got, Told_ended}
use Rattle.plan_safety.specs.Frames.{Frame}
use Rattle.plan_safety.specs.Store.{StoreEvent, Upload_begun, Installed as InstalledStep, Clear_begun, Cleared, Get_begun, Shown, Cancelled, Ended as EndedStep, Restarted}
use Rattle.plan_safety.specs.World.{Nodes, World, first_world}
use Rattle.plan_safety.specs.History.{Step, step, IsHistory, Uploaded, Installation, installs, refuses, uploads, tally, final, history}
use Rattle.plan_safety.proofs.Keys.{by_test, number_same, same}
use Rattle.plan_safety.proofs.StoreLaws.{once_law, never_law, installed_law, installation_law}
use Rattle.plan_safety.proofs.OutcomeLaws.{got_law, ended_law, not_installed_law, unknown_law}
use Rattle.plan_safety.proofs.ClearLaws.{cleared_law}
use Rattle.fleet_report.specs.Events as report
use Rattle.fleet_world.specs.Scenario.{Played, played}
use Rattle.fleet_world.specs.Authentic.{Authentic}
use Rattle.fleet_safety.specs.Reporting.{ProtocolEvent, Sent, Installed, Emptied, Refused, Ended, Restarted as RestartedLine, event_seen, seen, change_reported, end_reported, plan_lines, steps_reported}
use Rattle.fleet_safety.specs.Actions.{Action, actions_of}
use Rattle.fleet_safety.specs.Safe.{nodes_of, start, events_of, report_of, orders_of, world_after, history_of, steps_in, orders_in, upload, uploads_by, IsTheUpload}
use Rattle.fleet_safety.specs.Meaning.{Means, ReportedBy, OutcomeIsTrue, newest, InstallIsTrue, LinesAreTrue}
use Rattle.fleet_safety.proofs.Lists.{some_is}
use Rattle.fleet_safety.proofs.StoreLines.{lines_on, history_lines}
use Rattle.fleet_safety.proofs.Own.{IsPlain, EachStep, FewSteps}
use Rattle.fleet_safety.proofs.Follows.{Acts, Follows, events_on, each_follows, follows_before, history_on, history_back}
use Rattle.fleet_safety.proofs.Begun.{newest_at, count_is, orders_all, the_upload}
use Rattle.fleet_safety.proofs.Plays.{Runs, follows, valid, every_run}

-- an event is among others
abbrev In : ProtocolEvent → List ProtocolEvent → Type 0
In x [] = ⊥
In x (y ∷ ys) = (y ≡ x) ⊎ In x ys

in_first : (x : ProtocolEvent) (xs ys : List ProtocolEvent) → In x xs → In x (xs ++ ys)
in_first x [] ys h = absurd h
in_first x (z ∷ zs) ys (inl e) = inl e
in_first x (z ∷ zs) ys (inr h) = inr (in_first x zs ys h)

in_second : (x : ProtocolEvent) (xs ys : List ProtocolEvent) → In x ys → In x (xs ++ ys)
in_second x [] ys h = h
in_second x (z ∷ zs) ys h = inr (in_second x zs ys h)

in_either : (x : ProtocolEvent) (xs ys : List ProtocolEvent) → In x (xs ++ ys) → In x xs ⊎ In x ys
in_either x [] ys h = inr h
in_either x (z ∷ zs) ys (inl e) = inl (inl e)
in_either x (z ∷ zs) ys (inr h) = elim (in_either x zs ys h) [ inl a ↦ inl (inr a) | inr b ↦ inr b ]

-- what is reported of plans is among the plans' lines
reported_in_lines : (x : ProtocolEvent) (e : report.Event) → In x (plan_lines (event_seen e)) → (es : List report.Event) (index : ℕ) → slice_get es index ≡ Some e → In x (plan_lines (seen es))
reported_in_lines x e h [] zero is = absurd (cc)
reported_in_lines x e h [] (suc index) is = absurd (cc)
reported_in_lines x e h (d ∷ es) zero is =
    subst (In x) (sym (lines_on (event_seen d) (seen es))) (in_first x (plan_lines (event_seen d)) (plan_lines (seen es)) (subst (λ z. In x (plan_lines (event_seen z))) (sym (some_is is)) h))
reported_in_lines x e h (d ∷ es) (suc index) is =
    subst (In x) (sym (lines_on (event_seen d) (seen es))) (in_second x (plan_lines (event_seen d)) (plan_lines (seen es)) (reported_in_lines x e h es index is))

-- ---- the step of an action that reports a line

-- plain steps report neither an end nor an installation
abbrev IsLine : ProtocolEvent → Type 0
IsLine (Sent number from m) = ⊥
IsLine (Installed drone kind items by) = Unit {0}
IsLine (Emptied drone kind) = ⊥
IsLine (Refused station why) = ⊥
IsLine (Ended station told) = Unit {0}
IsLine (RestartedLine drone) = ⊥

emptied_no_line : (x : ProtocolEvent) (drone : Name) (kind : ℕ) → IsLine x → Emptied drone kind ≡ x → ⊥
emptied_no_line (Sent number from m) drone kind l e = absurd l
emptied_no_line (Installed d k items by) drone kind l e = absurd (cc)
emptied_no_line (Emptied d k) drone kind l e = absurd l
emptied_no_line (Refused station why) drone kind l e = absurd l
emptied_no_line (Ended station told) drone kind l e = absurd (cc)
emptied_no_line (RestartedLine d) drone kind l e = absurd l

restart_no_line : (x : ProtocolEvent) (drone : Name) → IsLine x → RestartedLine drone ≡ x → ⊥
restart_no_line (Sent number from m) drone l e = absurd l
restart_no_line (Installed d k items by) drone l e = absurd (cc)
restart_no_line (Emptied d k) drone l e = absurd l
restart_no_line (Refused station why) drone l e = absurd l
restart_no_line (Ended station told) drone l e = absurd (cc)
restart_no_line (RestartedLine d) drone l e = absurd l

plain_reports_none : (x : ProtocolEvent) → IsLine x → (e : StoreEvent) → IsPlain e → In x (change_reported e ++ end_reported e) → ⊥
plain_reports_none x l (Upload_begun s drone kind plan since drone_since) p i = absurd i
plain_reports_none x l (InstalledStep drone kind plan s) p i = absurd p
plain_reports_none x l (Clear_begun s drone kind drone_since) p i = absurd i
plain_reports_none x l (Cleared drone kind s) p (inl e) = emptied_no_line x (node_of drone) kind l e
plain_reports_none x l (Cleared drone kind s) p (inr i) = absurd i
plain_reports_none x l (Get_begun s drone kind drone_since) p i = absurd i
plain_reports_none x l (Shown drone kind plan s) p i = absurd i
plain_reports_none x l (Cancelled s) p i = absurd i
plain_reports_none x l (EndedStep s other) p i = absurd p
plain_reports_none x l (Restarted drone) p (inl e) = restart_no_line x (node_of drone) l e
plain_reports_none x l (Restarted drone) p (inr i) = absurd i

plain_report_none : (x : ProtocolEvent) → IsLine x → (h : List Step) → EachStep IsPlain h → In x (steps_reported h) → ⊥
plain_report_none x l [] p i = absurd i
plain_report_none x l (y ∷ h) p i = elim (in_either x (steps_reported h) (change_reported y.event ++ end_reported y.event) i) [ inl a ↦ plain_report_none x l h p.1 a | inr b ↦ plain_reports_none x l y.event p.0 b ]

-- so a line is reported by one step alone
one_step : (x : ProtocolEvent) → IsLine x → (h : List Step) → FewSteps h → In x (steps_reported h) → (y : Step) × (h ≡ y ∷ []) × In x (change_reported y.event ++ end_reported y.event)
one_step x l h (inl one) i = (one.0, one.1, subst (λ g. In x (steps_reported g)) one.1 i)
one_step x l h (inr plain) i = absurd (plain_report_none x l h plain i)

-- an end that is reported is that of an operation
record EndOf (e : StoreEvent) (station : Name) (told : Told) : Type 0 where
  stream : Stream
  name_is : node_of stream ≡ station
  is : e ≡ EndedStep stream told

end_at : (station : Name) (told : Told) (e : StoreEvent) → In (Ended station told) (change_reported e ++ end_reported e) → EndOf e station told
end_at station told (Upload_begun s drone kind plan since drone_since) i = absurd i
end_at station told (InstalledStep drone kind plan s) (inl e) = absurd (cc)
end_at station told (InstalledStep drone kind plan s) (inr i) = absurd i
end_at station told (Clear_begun s drone kind drone_since) i = absurd i
end_at station told (Cleared drone kind s) (inl e) = absurd (cc)
end_at station told (Cleared drone kind s) (inr i) = absurd i
end_at station told (Get_begun s drone kind drone_since) i = absurd i
end_at station told (Shown drone kind plan s) i = absurd i
end_at station told (Cancelled s) i = absurd i
end_at station told (EndedStep s other) (inl e) =
    let reported_is : other ≡ told = cc in
    let name_is : node_of s ≡ station = cc in
    record { stream = s; name_is = name_is; is = ap (EndedStep s) reported_is }
end_at station told (EndedStep s other) (inr i) = absurd i
end_at station told (Restarted drone) (inl e) = absurd (cc)
end_at station told (Restarted drone) (inr i) = absurd i

-- so is an installation
record InstallOf (e : StoreEvent) (drone : Name) (kind : ℕ) (plan : List Item) (by : Name) : Type 0 where
  index : Stream
  index_is : node_of index ≡ drone
  station : Stream
  station_is : node_of station ≡ by
  is : e ≡ InstalledStep index kind plan station

install_at : (drone : Name) (kind : ℕ) (plan : List Item) (by : Name) (e : StoreEvent) → In (Installed drone kind plan by) (change_reported e ++ end_reported e) → InstallOf e drone kind plan by
install_at drone kind plan by (Upload_begun s d k p since drone_since) i = absurd i
install_at drone kind plan by (InstalledStep d k p s) (inl e) =
    let drone_is : node_of d ≡ drone = cc in
    let by_is : node_of s ≡ by = cc in
    let kind_is : k ≡ kind = cc in
    let plan_is : p ≡ plan = cc in
    record { index = d; index_is = drone_is; station = s; station_is = by_is; is = ap (λ j. InstalledStep d j p s) kind_is ∙ ap (λ q. InstalledStep d kind q s) plan_is }
install_at drone kind plan by (InstalledStep d k p s) (inr i) = absurd i
install_at drone kind plan by (Clear_begun s d k drone_since) i = absurd i
install_at drone kind plan by (Cleared d k s) (inl e) = absurd (cc)
install_at drone kind plan by (Cleared d k s) (inr i) = absurd i
install_at drone kind plan by (Get_begun s d k drone_since) i = absurd i
install_at drone kind plan by (Shown d k p s) i = absurd i
install_at drone kind plan by (Cancelled s) i = absurd i
install_at drone kind plan by (EndedStep s told) (inl e) = absurd (cc)
install_at drone kind plan by (EndedStep s told) (inr i) = absurd i
install_at drone kind plan by (Restarted d) (inl e) = absurd (cc)
install_at drone kind plan by (Restarted d) (inr i) = absurd i

-- the earlier part of a history is one
part_is : (later h : List Step) → IsHistory (later ++ h) → IsHistory h
part_is [] h i = i
part_is (x ∷ xs) h i = part_is xs h i.1

-- tallies don't shrink
tally_step : (is : StoreEvent → Stream → Bool) (x : Step) (h : List Step) (s : Stream) (number : ℕ) → tally is h s number ≤ tally is (x ∷ h) s number
tally_step is x h s number =
    by_test (λ k. tally is h s number ≤ k) (is x.event s && (uploads h s == number)) _ _ (λ _. omega arith) (λ _. omega arith)

tally_more : (is : StoreEvent → Stream → Bool) (later h : List Step) (s : Stream) (number : ℕ) → tally is h s number ≤ tally is (later ++ h) s number
tally_more is [] h s number = omega arith
tally_more is (x ∷ xs) h s number = let a = tally_more is xs h s number in let b = tally_step is x (xs ++ h) s number in omega arith

-- an event of its station counts
counts : (b : Bool) (k : ℕ) → b ≡ true → 0 < (if b then k + 1 else k)
counts b k e = rw e (omega arith)

module _ (whole later earlier : List Step) (sent : List Frame) (s : Stream) (valid : IsHistory whole) where
  once_in : (e : StoreEvent) → whole ≡ later ++ step sent e ∷ earlier → 0 < tally installs (step sent e ∷ earlier) s (uploads earlier s) → tally installs whole s (uploads earlier s) ≡ 1
  once_in e is some =
      let more = tally_more installs later (step sent e ∷ earlier) s (uploads earlier s) in
      let most = once_law whole valid s (uploads earlier s) in
      let z : tally installs whole s (uploads earlier s) ≡ tally installs (later ++ step sent e ∷ earlier) s (uploads earlier s) = ap (λ h. tally installs h s (uploads earlier s)) is in
      omega arith

  own : (uploads earlier s == uploads earlier s) ≡ true
  own = number_same (uploads earlier s)

  means : (told : Told) → whole ≡ later ++ step sent (EndedStep s told) ∷ earlier → Means told whole earlier sent s
  means Told_installed is =
      let part = part_is later (step sent (EndedStep s Told_installed) ∷ earlier) (subst IsHistory is valid) in
      let one = installed_law earlier sent s part in
      let more = tally_step installs (step sent (EndedStep s Told_installed)) earlier s (uploads earlier s) in
      once_in (EndedStep s Told_installed) is (omega arith)
  means (Told_not_installed code) is =
      let part = part_is later (step sent (EndedStep s (Told_not_installed code)) ∷ earlier) (subst IsHistory is valid) in
      let one : 0 < tally refuses (step sent (EndedStep s (Told_not_installed code)) ∷ earlier) s (uploads earlier s) = counts (same_stream s s && (uploads earlier s == uploads earlier s)) (tally refuses earlier s (uploads earlier s)) (rw (same s, own) refl) in
      let more = tally_more refuses later (step sent (EndedStep s (Told_not_installed code)) ∷ earlier) s (uploads earlier s) in
      let z : tally refuses whole s (uploads earlier s) ≡ tally refuses (later ++ step sent (EndedStep s (Told_not_installed code)) ∷ earlier) s (uploads earlier s) = ap (λ h. tally refuses h s (uploads earlier s)) is in
      (never_law whole valid s (uploads earlier s) (omega arith), not_installed_law earlier sent s code part)
  means Told_unknown is = unknown_law earlier sent s (part_is later (step sent (EndedStep s Told_unknown) ∷ earlier) (subst IsHistory is valid))
  means Told_cleared is = cleared_law earlier sent s (part_is later (step sent (EndedStep s Told_cleared) ∷ earlier) (subst IsHistory is valid))
  means (Told_got plan) is = got_law earlier sent s plan (part_is later (step sent (EndedStep s (Told_got plan)) ∷ earlier) (subst IsHistory is valid))
  means (Told_ended code) is = ended_law earlier sent s code (part_is later (step sent (EndedStep s (Told_ended code)) ∷ earlier) (subst IsHistory is valid))

  installed_once : (d : Stream) (kind : ℕ) (plan : List Item) → whole ≡ later ++ step sent (InstalledStep d kind plan s) ∷ earlier → tally installs whole s (uploads earlier s) ≡ 1
  installed_once d kind plan is =
      once_in (InstalledStep d kind plan s) is (counts (same_stream s s && (uploads earlier s == uploads earlier s)) (tally installs earlier s (uploads earlier s)) (rw (same s, own) refl))

-- ---- the action that reports the line at an index

record ReportedAt (actions : List Action) (index : ℕ) (e : report.Event) : Type 0 where
  by : ReportedBy actions index
  is : slice_get by.action.report by.offset ≡ Some e

-- an index of one list and then another
either_place : {A : Type 0} (xs ys : List A) (i : ℕ) (x : A) → slice_get (xs ++ ys) i ≡ Some x → ((slice_get xs i ≡ Some x) × (i < length xs)) ⊎ ((j : ℕ) × (i ≡ length xs + j) × (slice_get ys j ≡ Some x))
either_place [] ys i x e = inr (i, omega arith, e)
either_place (z ∷ zs) ys zero x e = inl (e, omega arith)
either_place (z ∷ zs) ys (suc i) x e = elim (either_place zs ys i x e) [
  | inl a ↦ inl (a.0, (let l = a.1 in omega arith))
  | inr b ↦ inr (b.0, (let l = b.1 in omega arith), b.2)
]

told_at : (actions : List Action) (index : ℕ) (e : report.Event) → slice_get (report_of actions) index ≡ Some e → ReportedAt actions index e
told_at [] index e is = nowhere index is
  where
    nowhere : (i : ℕ) → slice_get [] i ≡ Some e → ReportedAt [] i e
    nowhere zero h = absurd (cc)
    nowhere (suc i) h = absurd (cc)
told_at (a ∷ actions) index e is = elim (either_place a.report (report_of actions) index e is) [
  | inl here ↦ record { by = record { before = []; action = a; later = actions; is = refl; offset = index; index_is = from_none index; within = here.1 }; is = here.0 }
  | inr later ↦ (let z = told_at actions later.0 e later.2 in
      record {
        by = record {
          before = a ∷ z.by.before;
          action = z.by.action;
          later = z.by.later;
          is = ap (λ bs. a ∷ bs) z.by.is;
          offset = z.by.offset;
          index_is = later.1 ∙ ap (λ k. length a.report + k) z.by.index_is ∙ counted (length a.report) (length (report_of z.by.before)) z.by.offset ∙ ap (λ k. k + z.by.offset) (sym (length-append a.report (report_of z.by.before)));
          within = z.by.within;
        };
        is = z.is;
      })
]
  where
    from_none : (k : ℕ) → k ≡ 0 + k
    from_none k = omega arith

    counted : (a b c : ℕ) → a + (b + c) ≡ a + b + c
    counted a b c = omega arith

module _ (key : List ℕ) (p : Played) (actions : List Action) (run : Runs key p actions) where
  abbrev n : Nodes
  n = nodes_of p.state.nodes

  abbrev whole : List Step
  whole = history_of n actions

  all : Follows n (first_world start) actions
  all = follows key p actions run

  -- one action, after others
  module _ (before : List Action) (a : Action) (later : List Action) (split : actions ≡ before ++ a ∷ later) where
    here : Follows n (first_world start) (before ++ a ∷ later)
    here = subst (Follows n (first_world start)) split all

    acts : Acts n (world_after n before) a
    acts = each_follows n (first_world start) before a later here

    -- its part of the whole history
    abbrev past : List Step
    past = history_of n before

    abbrev rest : List Step
    rest = history n (final n (world_after n before) a.events) [] (events_of later)

    whole_is : (x : Step) → steps_in n before a ≡ x ∷ [] → whole ≡ rest ++ x ∷ past
    whole_is x one =
        let v : World = world_after n before in
        ap (history_of n) split
        ∙ ap (history n (first_world start) []) (events_on before (a ∷ later))
        ∙ history_on n (first_world start) [] (events_of before) (a.events ++ events_of later)
        ∙ history_on n v past a.events (events_of later)
        ∙ history_back n (final n v a.events) (history n v past a.events) (events_of later)
        ∙ ap (λ h. rest ++ h) (history_back n v past a.events ∙ ap (λ h. h ++ past) one)

    -- what it says of plans is its steps'
    lines_are : plan_lines (seen a.report) ≡ steps_reported (steps_in n before a)
    lines_are = ap plan_lines acts.report ∙ sym (history_lines n a.events (world_after n before) [])

    its_step : (x : ProtocolEvent) (e : report.Event) → IsLine x → In x (plan_lines (event_seen e)) → (offset : ℕ) → slice_get a.report offset ≡ Some e → (y : Step) × (steps_in n before a ≡ y ∷ []) × In x (change_reported y.event ++ end_reported y.event)
    its_step x e l i offset is = one_step x l (steps_in n before a) acts.own.few (subst (In x) lines_are (reported_in_lines x e i a.report offset is))

    past_orders : orders_in past ≡ orders_of before
    past_orders = orders_all n (first_world start) before (follows_before n (first_world start) before (a ∷ later) here)

    -- the plan of the latest upload is the newest draft
    drafted : (s drone : Stream) (kind : ℕ) (plan : List Item) → Uploaded past s (uploads past s) drone kind plan → newest (uploads_by s (orders_of before)) ≡ Some (upload drone kind plan)
    drafted s drone kind plan latest =
        let z : IsTheUpload (orders_in past) s (uploads past s) drone kind plan = (the_upload past s (uploads past s) drone kind plan).0 latest in
        subst (λ os. newest (uploads_by s os) ≡ Some (upload drone kind plan)) past_orders
        (newest_at (uploads_by s (orders_in past)) z.index (upload drone kind plan) z.is (sym (count_is s past) ∙ z.number_is))

  -- what the report says at an index
  at : (index : ℕ) (e : report.Event) → slice_get p.events index ≡ Some e → ReportedAt actions index e
  at index e is = told_at actions index e (subst (λ es. slice_get es index ≡ Some e) (sym run.report) is)

  outcome_is_true : (index : ℕ) (station : Name) (told : Told) → slice_get p.events index ≡ Some (report.Ended station told) → OutcomeIsTrue n actions index station told
  outcome_is_true index station told is =
      let z : ReportedAt actions index (report.Ended station told) = at index (report.Ended station told) is in
      let y = its_step z.by.before z.by.action z.by.later z.by.is (Ended station told) (report.Ended station told) tt (inl refl) z.by.offset z.is in
      let o : EndOf y.0.event station told = end_at station told y.0.event y.2 in
      let step_is : y.0 ≡ step y.0.sent (EndedStep o.stream told) = ap (step y.0.sent) o.is in
      let only : steps_in n z.by.before z.by.action ≡ step y.0.sent (EndedStep o.stream told) ∷ [] = y.1 ∙ ap (λ x. x ∷ []) step_is in
      record {
        reported_by = z.by;
        stream = o.stream;
        name_is = o.name_is;
        sent = y.0.sent;
        ended = only;
        means = means whole (rest z.by.before z.by.action z.by.later z.by.is) (history_of n z.by.before) y.0.sent o.stream (valid key p actions run) told (whole_is z.by.before z.by.action z.by.later z.by.is (step y.0.sent (EndedStep o.stream told)) only);
      }

  install_is_true : (index : ℕ) (drone : Name) (kind : ℕ) (plan : List Item) (by : Name) → slice_get p.events index ≡ Some (report.Installed drone kind plan by) → InstallIsTrue n actions index drone kind plan by
  install_is_true index drone kind plan by is =
      let z : ReportedAt actions index (report.Installed drone kind plan by) = at index (report.Installed drone kind plan by) is in
      let y = its_step z.by.before z.by.action z.by.later z.by.is (Installed drone kind plan by) (report.Installed drone kind plan by) tt (inl refl) z.by.offset z.is in
      let o : InstallOf y.0.event drone kind plan by = install_at drone kind plan by y.0.event y.2 in
      let e : StoreEvent = InstalledStep o.index kind plan o.station in
      let past : List Step = history_of n z.by.before in
      let later : List Step = rest z.by.before z.by.action z.by.later z.by.is in
      let only : steps_in n z.by.before z.by.action ≡ step y.0.sent e ∷ [] = y.1 ∙ ap (λ x. x ∷ []) (ap (step y.0.sent) o.is) in
      let whole_are : whole ≡ later ++ step y.0.sent e ∷ past = whole_is z.by.before z.by.action z.by.later z.by.is (step y.0.sent e) only in
      let installs_it : Installation past y.0.sent o.station o.index kind plan = installation_law past y.0.sent o.index kind plan o.station (part_is later (step y.0.sent e ∷ past) (subst IsHistory whole_are (valid key p actions run))) in
      record {
        reported_by = z.by;
        stream = o.index;
        drone_is = o.index_is;
        station = o.station;
        station_is = o.station_is;
        sent = y.0.sent;
        installed = only;
        means = installs_it;
        drafted = drafted z.by.before z.by.action z.by.later z.by.is o.station o.index kind plan installs_it.latest;
        once = installed_once whole later past y.0.sent o.station (valid key p actions run) o.index kind plan whole_are;
      }

  lines_are_true : LinesAreTrue n p.events actions
  lines_are_true = record { outcomes = outcome_is_true; installs = install_is_true; once = once_law whole (valid key p actions run) }

pub every_line : (key : List ℕ) (ended : Bool) (bytes : List ℕ) → Authentic key ended bytes → LinesAreTrue (nodes_of (played key ended bytes).state.nodes) (played key ended bytes).events (actions_of key ended bytes)
every_line key ended bytes authentic = lines_are_true key (played key ended bytes) (actions_of key ended bytes) (every_run key ended bytes authentic)
