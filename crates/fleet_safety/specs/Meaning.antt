-- What the lines of a report mean, in an operator's words: of what the abstract mission store went through.
use Rattle.std.specs.Prelude.{ℕ, ◌≡◌, ◌+◌, ◌<◌, ◌≤◌, List, [], ◌∷◌, ◌++◌, length, slice_get, Option, Some, None}
use Rattle.mav_names.specs.declared.names.Name.{Name}
use Rattle.mav_names.specs.declared.names.Stream.{Stream}
use Rattle.plan_items.specs.declared.items.Item.{Item}
use Rattle.plan_upload.specs.Addresses.{node_of}
use Rattle.plan_upload.specs.Station.{Told, Told_installed, Told_not_installed, Told_unknown, Told_cleared, Told_got}
use Rattle.plan_upload.specs.Station.{Told_ended}
use Rattle.plan_safety.specs.Frames.{Frame}
use Rattle.plan_safety.specs.Store.{StoreEvent, Installed, Ended}
use Rattle.plan_safety.specs.World.{Nodes}
use Rattle.plan_safety.specs.History.{Step, step, installs as installs_upload, uploads, tally, Installation, GotHeld}
use Rattle.plan_safety.specs.History.{NotInstalledBy, UnknownBy, ClearedBy, EndedBy}
use Rattle.fleet_report.specs.Events as report
use Rattle.fleet_safety.specs.Actions.{Action}
use Rattle.fleet_safety.specs.Safe.{Upload, upload, uploads_by, report_of, orders_of, history_of, steps_in}

-- what an outcome says of the operation that ended with it
abbrev pub Means : Told → List Step → List Step → List Frame → Stream → Type 0
-- the station's latest upload was installed, and in the whole history once
Means Told_installed whole earlier sent station = tally installs_upload whole station (uploads earlier station) ≡ 1
-- it is never installed, before or after, and its code is 15 or one that the drone refused it with
Means (Told_not_installed code) whole earlier sent station =
    (tally installs_upload whole station (uploads earlier station) ≡ 0) × NotInstalledBy earlier sent station code
-- since it began the drone has started again, the last item was sent, a cancel after it, and the drone answered code 1
-- after that cancel
Means Told_unknown whole earlier sent station = UnknownBy earlier sent station
-- each kind of the clear was emptied since it began
Means Told_cleared whole earlier sent station = ClearedBy earlier station
-- the drone held the plan that was got, at one moment since the download began
Means (Told_got plan) whole earlier sent station = GotHeld earlier station plan
-- the code is one that the drone sent since it began, or 15 after a cancel, or 4 for too long a plan
Means (Told_ended code) whole earlier sent station = EndedBy earlier sent station code

-- the action that reports the line at an index of the report, and those before and after it
pub record ReportedBy (actions : List Action) (index : ℕ) : Type 0 where
  pub before : List Action
  pub action : Action
  pub later : List Action
  pub is : actions ≡ before ++ action ∷ later
  pub offset : ℕ
  pub index_is : index ≡ length (report_of before) + offset
  pub within : offset < length action.report

-- all that the store goes through in that action is this event, with these frames sent by then
abbrev pub IsTheStep : Nodes → List Action → Action → List Frame → StoreEvent → Type 0
IsTheStep n before action sent event = steps_in n before action ≡ step sent event ∷ []

-- a line `outcome` is true: of what the store went through before the action that reports it
pub record OutcomeIsTrue (n : Nodes) (actions : List Action) (index : ℕ) (station : Name) (told : Told) : Type 0 where
  pub reported_by : ReportedBy actions index
  pub stream : Stream
  pub name_is : node_of stream ≡ station
  pub sent : List Frame
  pub ended : IsTheStep n reported_by.before reported_by.action sent (Ended stream told)
  pub means : Means told (history_of n actions) (history_of n reported_by.before) sent stream

-- the newest of a station's uploads
abbrev pub newest : List Upload → Option Upload
newest [] = None
newest (u ∷ []) = Some u
newest (u ∷ v ∷ us) = newest (v ∷ us)

-- a line `install` is true: the plan is that of the station's latest upload, which was fully transmitted, and is
-- installed once in the whole history
pub record InstallIsTrue (n : Nodes) (actions : List Action) (index : ℕ) (drone : Name) (kind : ℕ) (plan : List Item)
    (by : Name) : Type 0 where
  pub reported_by : ReportedBy actions index
  pub stream : Stream
  pub drone_is : node_of stream ≡ drone
  pub station : Stream
  pub station_is : node_of station ≡ by
  pub sent : List Frame
  pub installed : IsTheStep n reported_by.before reported_by.action sent (Installed stream kind plan station)
  pub means : Installation (history_of n reported_by.before) sent station stream kind plan
  -- it is the draft of the latest `begin` line that the station had accepted
  pub drafted : newest (uploads_by station (orders_of reported_by.before)) ≡ Some (upload stream kind plan)
  pub once : tally installs_upload (history_of n actions) station (uploads (history_of n reported_by.before) station)
      ≡ 1

-- what an operator may take from the lines of a report; `n` are the nodes of the scenario
pub record LinesAreTrue (n : Nodes) (events : List report.Event) (actions : List Action) : Type 0 where
  -- each line `outcome` is true: what is reported as installed was installed, and in the whole history once; what is
  -- reported as not installed never is, before or after; a plan that was got is one that the drone held since the
  -- download began; what is reported as cleared was emptied since the clear began; and an outcome is unknown only if
  -- since the upload began the drone has started again, and answered code 1 after a cancel that was sent after the
  -- last item
  pub outcomes : (index : ℕ) (station : Name) (told : Told) → slice_get events index ≡ Some (report.Ended station told)
      → OutcomeIsTrue n actions index station told
  -- each line `install` is: the plan is the draft of the station's latest accepted `begin` line, which it has fully
  -- transmitted
  pub installs : (index : ℕ) (drone : Name) (kind : ℕ) (plan : List Item) (by : Name)
      → slice_get events index ≡ Some (report.Installed drone kind plan by)
      → InstallIsTrue n actions index drone kind plan by
  -- no upload is installed twice
  pub once : (station : Stream) (number : ℕ) → tally installs_upload (history_of n actions) station number ≤ 1
