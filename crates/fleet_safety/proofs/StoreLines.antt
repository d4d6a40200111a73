-- What a report says of plans is what the store goes through.
use Rattle.std.proofs.Common.{◌≡◌, ℕ, ◌==◌, nat_lt, max, Bool, List, [], ◌∷◌, ◌++◌, length, slice_get, Option, Some, None, refl, sym, ap, ◌∙◌, ◌&&◌}
use Rattle.std.proofs.lemmas.List.{append_assoc, append-nil}
use Rattle.mav_names.specs.declared.names.Stream.{Stream}
use Rattle.plan_items.specs.Kinds.{number_of}
use Rattle.plan_items.specs.declared.messages.PlanMsg.{PlanMsg}
use Rattle.plan_upload.specs.declared.faults.OpFault.{OpFault}
use Rattle.plan_upload.specs.Plans.{every_kind}
use Rattle.plan_upload.specs.Drone.{DroneStep, DroneTick, PlanEvent, Quiet, Installs, Empties, Shows, drone_tick}
use Rattle.plan_upload.specs.Refusals.{upload_refusal, refusal}
use Rattle.plan_upload.specs.Station.{StationStep, Operation, Told, station_tick, station_cancel, begin_upload, begin_clear, begin_get}
use Rattle.plan_safety.specs.Frames.{Frame}
use Rattle.plan_safety.specs.Store.{StoreEvent, Upload_begun, Installed, Clear_begun, Cleared, Get_begun, Shown, Cancelled, Ended, Restarted, at}
use Rattle.plan_safety.specs.History.{Step, step, steps_of, history}
use Rattle.plan_safety.specs.World as world
use Rattle.plan_safety.specs.World.{Nodes, World, DroneNode, StationNode, happens, quiet, where_drone, where_station, unless_refused, drone_sends, station_sends, drone_does, station_does, station_calls, to_drone, to_station, drone_news, outcome_news, drone_takes, station_takes, tick_answer, clear_number, cancel_news}
use Rattle.plan_safety.proofs.Keys.{by_test}
use Rattle.fleet_safety.specs.Reporting as report
use Rattle.fleet_safety.specs.Reporting.{ProtocolEvent, change_reported, changes_reported, end_reported, ends_reported, frame_reported, frames_reported, refusal_reported, call_refused, refused_reported, step_reported, reported_in, reported, plan_lines, steps_reported}

-- one list and then another
pub lines_on : (xs ys : List ProtocolEvent) → plan_lines (xs ++ ys) ≡ plan_lines xs ++ plan_lines ys
lines_on [] ys = refl
lines_on (report.Sent number from m ∷ es) ys = lines_on es ys
lines_on (report.Installed drone kind items by ∷ es) ys = ap (λ z. report.Installed drone kind items by ∷ z) (lines_on es ys)
lines_on (report.Emptied drone kind ∷ es) ys = ap (λ z. report.Emptied drone kind ∷ z) (lines_on es ys)
lines_on (report.Refused station why ∷ es) ys = lines_on es ys
lines_on (report.Ended station told ∷ es) ys = ap (λ z. report.Ended station told ∷ z) (lines_on es ys)
lines_on (report.Restarted drone ∷ es) ys = ap (λ z. report.Restarted drone ∷ z) (lines_on es ys)

-- changes and ends are all reported, frames and refusals are not
one_change : (e : StoreEvent) → plan_lines (change_reported e) ≡ change_reported e
one_change (Upload_begun station drone kind plan since drone_since) = refl
one_change (Installed drone kind plan station) = refl
one_change (Clear_begun station drone kind drone_since) = refl
one_change (Cleared drone kind station) = refl
one_change (Get_begun station drone kind drone_since) = refl
one_change (Shown drone kind plan station) = refl
one_change (Cancelled station) = refl
one_change (Ended station told) = refl
one_change (Restarted drone) = refl

one_end : (e : StoreEvent) → plan_lines (end_reported e) ≡ end_reported e
one_end (Upload_begun station drone kind plan since drone_since) = refl
one_end (Installed drone kind plan station) = refl
one_end (Clear_begun station drone kind drone_since) = refl
one_end (Cleared drone kind station) = refl
one_end (Get_begun station drone kind drone_since) = refl
one_end (Shown drone kind plan station) = refl
one_end (Cancelled station) = refl
one_end (Ended station told) = refl
one_end (Restarted drone) = refl

all_changes : (es : List StoreEvent) → plan_lines (changes_reported es) ≡ changes_reported es
all_changes [] = refl
all_changes (e ∷ es) = lines_on (change_reported e) (changes_reported es) ∙ ap (λ z. z ++ plan_lines (changes_reported es)) (one_change e) ∙ ap (λ z. change_reported e ++ z) (all_changes es)

all_ends : (es : List StoreEvent) → plan_lines (ends_reported es) ≡ ends_reported es
all_ends [] = refl
all_ends (e ∷ es) = lines_on (end_reported e) (ends_reported es) ∙ ap (λ z. z ++ plan_lines (ends_reported es)) (one_end e) ∙ ap (λ z. end_reported e ++ z) (all_ends es)

no_frame : (number : ℕ) (from : Stream) (m : Option PlanMsg) → plan_lines (frame_reported number from m) ≡ []
no_frame number from None = refl
no_frame number from (Some m) = refl

no_frames : (before : ℕ) (fs : List Frame) → plan_lines (frames_reported before fs) ≡ []
no_frames before [] = refl
no_frames before (f ∷ fs) =
    by_test (λ es. plan_lines es ≡ []) (nat_lt before (length (f ∷ fs))) _ _
    (λ _. lines_on (frames_reported before fs) (frame_reported (length (f ∷ fs)) f.from f.message) ∙ ap (λ z. z ++ plan_lines (frame_reported (length (f ∷ fs)) f.from f.message)) (no_frames before fs) ∙ no_frame (length (f ∷ fs)) f.from f.message)
    (λ _. refl)

no_refusal : (n : Nodes) (s d : Stream) (why : Option OpFault) → plan_lines (call_refused n s d why) ≡ []
no_refusal n s d why = by_test (λ es. plan_lines es ≡ []) (n.is_station s && n.is_drone d) _ _ (λ _. of_fault why) (λ _. refl)
  where
    of_fault : (why : Option OpFault) → plan_lines (refusal_reported s why) ≡ []
    of_fault None = refl
    of_fault (Some fault) = refl

no_refusals : (n : Nodes) (w : World) (e : world.Event) → plan_lines (refused_reported n w e) ≡ []
no_refusals n w (world.Begins s d kind plan) = no_refusal n s d _
no_refusals n w (world.Clears s d kind) = no_refusal n s d _
no_refusals n w (world.Gets s d kind) = no_refusal n s d _
no_refusals n w (world.Cancels s) = refl
no_refusals n w (world.Hands_out s) = refl
no_refusals n w (world.Drone_ticks d) = refl
no_refusals n w (world.Station_ticks s) = refl
no_refusals n w (world.To_drone index d keeps) = refl
no_refusals n w (world.To_station index s) = refl
no_refusals n w (world.Speaks node) = refl
no_refusals n w (world.Drone_waits d t) = refl
no_refusals n w (world.Station_waits s t) = refl
no_refusals n w (world.Restarts d low) = refl

event_lines : (n : Nodes) (w : World) (e : world.Event) → plan_lines (reported_in n w e) ≡ changes_reported (happens n w e).news ++ ends_reported (happens n w e).news
event_lines n w e =
    let v : World = happens n w e in
    let changes : List ProtocolEvent = changes_reported v.news in
    let frames : List ProtocolEvent = frames_reported (length w.sent) v.sent in
    lines_on (refused_reported n w e) (step_reported w v)
    ∙ ap (λ z. z ++ plan_lines (step_reported w v)) (no_refusals n w e)
    ∙ lines_on (changes ++ frames) (ends_reported v.news)
    ∙ ap (λ z. z ++ plan_lines (ends_reported v.news)) (lines_on changes frames ∙ ap (λ z. z ++ plan_lines frames) (all_changes v.news) ∙ ap (λ z. changes ++ z) (no_frames (length w.sent) v.sent) ∙ append-nil changes)
    ∙ ap (λ z. changes ++ z) (all_ends v.news)

-- what a list of the store's events reports, one by one
abbrev both_reported : List StoreEvent → List ProtocolEvent
both_reported [] = []
both_reported (e ∷ es) = (change_reported e ++ end_reported e) ++ both_reported es

steps_on : (sent : List Frame) (es : List StoreEvent) (h : List Step) → steps_reported (steps_of sent es h) ≡ steps_reported h ++ both_reported es
steps_on sent [] h = sym (append-nil (steps_reported h))
steps_on sent (e ∷ es) h = steps_on sent es (step sent e ∷ h) ∙ append_assoc (steps_reported h) (change_reported e ++ end_reported e) (both_reported es)

-- one event reports changes of plans before it reports an end
abbrev IsOrdered : List StoreEvent → Type 0
IsOrdered es = both_reported es ≡ changes_reported es ++ ends_reported es

ordered_drone : (d : Stream) (e : PlanEvent) → IsOrdered (drone_news d e)
ordered_drone d Quiet = refl
ordered_drone d (Installs by kind items) = refl
ordered_drone d (Empties by kind) = by_test (λ (es : List StoreEvent). both_reported es ≡ changes_reported es ++ ends_reported es) (kind == every_kind) _ _ (λ _. refl) (λ _. refl)
ordered_drone d (Shows to kind items) = refl

ordered_reported : (s : Stream) (told : Option Told) → IsOrdered (outcome_news s told)
ordered_reported s None = refl
ordered_reported s (Some told) = refl

-- an event of a station, and then perhaps an outcome
ordered_calls : (s : Stream) (e : StoreEvent) (told : Option Told) → end_reported e ≡ [] → IsOrdered (e ∷ outcome_news s told)
ordered_calls s e told none =
    ap (λ z. (change_reported e ++ z) ++ both_reported (outcome_news s told)) none
    ∙ ap (λ z. z ++ both_reported (outcome_news s told)) (append-nil (change_reported e))
    ∙ ap (λ z. change_reported e ++ z) (ordered_reported s told)
    ∙ sym (append_assoc (change_reported e) (changes_reported (outcome_news s told)) (ends_reported (outcome_news s told)))
    ∙ ap (λ z. change_reported e ++ changes_reported (outcome_news s told) ++ (z ++ ends_reported (outcome_news s told))) (sym none)

ordered_cancel : (s : Stream) (o : Option Operation) (told : Option Told) → IsOrdered (cancel_news s o ++ outcome_news s told)
ordered_cancel s None told = ordered_reported s told
ordered_cancel s (Some o) told = ordered_calls s (Cancelled s) told refl

-- the news of each event of the world
abbrev Orders : World → Type 0
Orders v = IsOrdered v.news

drone_kept : (w : World) (d : Stream) (x : DroneNode) (a : Option PlanMsg) → Orders w → Orders (drone_sends w d x a)
drone_kept w d x None h = h
drone_kept w d x (Some m) h = h

station_kept : (w : World) (s : Stream) (y : StationNode) (a : Option PlanMsg) → Orders w → Orders (station_sends w s y a)
station_kept w s y None h = h
station_kept w s y (Some m) h = h

unless : (o : Option OpFault) (w v : World) → Orders v → Orders (unless_refused o w v)
unless None w v h = h
unless (Some fault) w v h = refl

at_drone : (n : Nodes) (d : Stream) (w v : World) → Orders v → Orders (where_drone n d w v)
at_drone n d w v h = by_test Orders (n.is_drone d) v (quiet w) (λ _. h) (λ _. refl)

at_station : (n : Nodes) (s : Stream) (w v : World) → Orders v → Orders (where_station n s w v)
at_station n s w v h = by_test Orders (n.is_station s) v (quiet w) (λ _. h) (λ _. refl)

drone_does_so : (w : World) (d : Stream) (x : DroneNode) (r : DroneStep) → Orders (drone_does w d x r)
drone_does_so w d x r = drone_kept (record w { news = drone_news d r.event }) d (record x { state = r.drone }) r.answer (ordered_drone d r.event)

station_does_so : (w : World) (s : Stream) (y : StationNode) (a : StationStep) (news : List StoreEvent) → IsOrdered news → Orders (station_does w s y a news)
station_does_so w s y a news h = station_kept (record w { news = news }) s (record y { state = a.station }) a.answer h

calls_so : (w : World) (s : Stream) (a : StationStep) (e : StoreEvent) → end_reported e ≡ [] → Orders (station_calls w s (w.station s) a (e ∷ []))
calls_so w s a e none = station_does_so w s (w.station s) a (e ∷ outcome_news s a.told) (ordered_calls s e a.told none)

drone_given : (w : World) (keeps : Bool) (d : Stream) (f : Option Frame) → Orders (to_drone w keeps d f)
drone_given w keeps d None = refl
drone_given w keeps d (Some f) =
    by_test Orders (nat_lt ((w.drone d).last f.from) f.timestamp) _ (quiet w)
    (λ _. drone_does_so w d (record (w.drone d) { last = at (w.drone d).last f.from f.timestamp; next = max (w.drone d).next f.timestamp }) (drone_takes keeps (w.drone d).state f.from f.message))
    (λ _. refl)

station_given : (w : World) (s : Stream) (f : Option Frame) → Orders (to_station w s f)
station_given w s None = refl
station_given w s (Some f) =
    let a : StationStep = station_takes (w.station s).state f.from f.message in
    by_test Orders (nat_lt ((w.station s).last f.from) f.timestamp) _ (quiet w)
    (λ _. station_does_so w s (record (w.station s) { last = at (w.station s).last f.from f.timestamp; next = max (w.station s).next f.timestamp }) a (outcome_news s a.told) (ordered_reported s a.told))
    (λ _. refl)

ordered : (n : Nodes) (w : World) (e : world.Event) → Orders (happens n w e)
ordered n w (world.Begins s d kind plan) =
    let calls : World = station_calls w s (w.station s) (begin_upload (w.station s).state d (number_of kind) plan) (Upload_begun s d (number_of kind) plan (w.station s).next (w.drone d).next ∷ []) in
    let refusal_is : Option OpFault = upload_refusal (w.station s).state (number_of kind) plan in
    at_station n s w _ (at_drone n d w _ (unless refusal_is w calls (calls_so w s (begin_upload (w.station s).state d (number_of kind) plan) (Upload_begun s d (number_of kind) plan (w.station s).next (w.drone d).next) refl)))
ordered n w (world.Clears s d kind) =
    let calls : World = station_calls w s (w.station s) (begin_clear (w.station s).state d (clear_number kind)) (Clear_begun s d (clear_number kind) (w.drone d).next ∷ []) in
    at_station n s w _ (at_drone n d w _ (unless (refusal (w.station s).state) w calls (calls_so w s (begin_clear (w.station s).state d (clear_number kind)) (Clear_begun s d (clear_number kind) (w.drone d).next) refl)))
ordered n w (world.Gets s d kind) =
    let calls : World = station_calls w s (w.station s) (begin_get (w.station s).state d (number_of kind)) (Get_begun s d (number_of kind) (w.drone d).next ∷ []) in
    at_station n s w _ (at_drone n d w _ (unless (refusal (w.station s).state) w calls (calls_so w s (begin_get (w.station s).state d (number_of kind)) (Get_begun s d (number_of kind) (w.drone d).next) refl)))
ordered n w (world.Cancels s) =
    let a : StationStep = station_cancel (w.station s).state in
    let o : Option Operation = (w.station s).state.operation in
    at_station n s w _ (station_does_so w s (w.station s) a (cancel_news s o ++ outcome_news s a.told) (ordered_cancel s o a.told))
ordered n w (world.Hands_out s) = at_station n s w _ refl
ordered n w (world.Drone_ticks d) =
    let t : DroneTick = drone_tick (w.drone d).state in
    at_drone n d w _ (drone_kept (quiet w) d (record (w.drone d) { state = t.drone }) (tick_answer t.answer) refl)
ordered n w (world.Station_ticks s) =
    let a : StationStep = station_tick (w.station s).state in
    at_station n s w _ (station_does_so w s (w.station s) a (outcome_news s a.told) (ordered_reported s a.told))
ordered n w (world.To_drone index d keeps) = at_drone n d w _ (drone_given w keeps d (slice_get w.sent index))
ordered n w (world.To_station index s) = at_station n s w _ (station_given w s (slice_get w.sent index))
ordered n w (world.Speaks node) = by_test Orders (n.is_drone node) _ _ (λ _. refl) (λ _. at_station n node w _ refl)
ordered n w (world.Drone_waits d t) = at_drone n d w _ refl
ordered n w (world.Station_waits s t) = at_station n s w _ refl
ordered n w (world.Restarts d low) = at_drone n d w _ refl

-- all of them
pub history_lines : (n : Nodes) (es : List world.Event) (w : World) (h : List Step) → steps_reported (history n w h es) ≡ steps_reported h ++ plan_lines (reported n w es)
history_lines n [] w h = sym (append-nil (steps_reported h))
history_lines n (e ∷ es) w h =
    let v : World = happens n w e in
    let rest : List ProtocolEvent = reported n v es in
    history_lines n es v (steps_of v.sent v.news h)
    ∙ ap (λ z. z ++ plan_lines rest) (steps_on v.sent v.news h ∙ ap (λ z. steps_reported h ++ z) (ordered n w e ∙ sym (event_lines n w e)))
    ∙ append_assoc (steps_reported h) (plan_lines (reported_in n w e)) (plan_lines rest)
    ∙ ap (λ z. steps_reported h ++ z) (sym (lines_on (reported_in n w e) rest))
