-- What the abstract mission store went through, and what that says of each upload.
use Rattle.std.specs.Prelude.{ℕ, ◌+◌, ◌≡◌, ◌≢◌, ◌<◌, ◌⊎◌, ◌==◌, ◌&&◌, Bool, true, false, if◌then◌else◌, List, [], ◌∷◌}
use Rattle.std.specs.Prelude.{Some}
use Rattle.mav_names.specs.declared.names.Stream.{Stream}
use Rattle.plan_items.specs.declared.items.Item.{Item}
use Rattle.plan_upload.specs.Addresses.{same_stream}
use Rattle.plan_upload.specs.Plans.{every_kind}
use Rattle.plan_upload.specs.Station.{Told, Told_installed, Told_not_installed, Told_unknown, Told_cleared, Told_got}
use Rattle.plan_upload.specs.Station.{Told_ended}
use Rattle.plan_safety.specs.Frames.{Frame}
use Rattle.plan_safety.specs.Store.{Store, StoreEvent, Upload_begun, Installed, Clear_begun, Cleared, Get_begun, Shown}
use Rattle.plan_safety.specs.Store.{Cancelled, Ended, Restarted, Opening, FullySent, FinalSent, CancelSent}
use Rattle.plan_safety.specs.Store.{AnsweredLast, A_clear, Acked, RefusedWith, TooMany, Needs, does, first_store}
use Rattle.plan_safety.specs.World.{Nodes, World, Event, happens}

-- an event, and the frames sent by then
pub record Step : Type 0 where
  pub sent : List Frame
  pub event : StoreEvent

abbrev pub step : List Frame → StoreEvent → Step
step sent event = record { sent = sent; event = event }

-- the store after these steps, the newest first; each met what it needs
abbrev pub store_of : List Step → Store
store_of [] = first_store
store_of (x ∷ h) = does (store_of h) x.event

abbrev pub IsHistory : List Step → Type 0
IsHistory [] = Unit {0}
IsHistory (x ∷ h) = Needs x.sent (store_of h) x.event × IsHistory h

-- kinds of events of a station, or of a drone
abbrev pub begins_upload : StoreEvent → Stream → Bool
begins_upload (Upload_begun station drone kind plan since drone_since) s = same_stream station s
begins_upload (Installed drone kind plan station) s = false
begins_upload (Clear_begun station drone kind drone_since) s = false
begins_upload (Cleared drone kind station) s = false
begins_upload (Get_begun station drone kind drone_since) s = false
begins_upload (Shown drone kind plan station) s = false
begins_upload (Cancelled station) s = false
begins_upload (Ended station told) s = false
begins_upload (Restarted drone) s = false

abbrev pub begins_get : StoreEvent → Stream → Bool
begins_get (Upload_begun station drone kind plan since drone_since) s = false
begins_get (Installed drone kind plan station) s = false
begins_get (Clear_begun station drone kind drone_since) s = false
begins_get (Cleared drone kind station) s = false
begins_get (Get_begun station drone kind drone_since) s = same_stream station s
begins_get (Shown drone kind plan station) s = false
begins_get (Cancelled station) s = false
begins_get (Ended station told) s = false
begins_get (Restarted drone) s = false

abbrev pub begins_clear : StoreEvent → Stream → Bool
begins_clear (Upload_begun station drone kind plan since drone_since) s = false
begins_clear (Installed drone kind plan station) s = false
begins_clear (Clear_begun station drone kind drone_since) s = same_stream station s
begins_clear (Cleared drone kind station) s = false
begins_clear (Get_begun station drone kind drone_since) s = false
begins_clear (Shown drone kind plan station) s = false
begins_clear (Cancelled station) s = false
begins_clear (Ended station told) s = false
begins_clear (Restarted drone) s = false

-- any operation begins
abbrev pub begins : StoreEvent → Stream → Bool
begins (Upload_begun station drone kind plan since drone_since) s = same_stream station s
begins (Installed drone kind plan station) s = false
begins (Clear_begun station drone kind drone_since) s = same_stream station s
begins (Cleared drone kind station) s = false
begins (Get_begun station drone kind drone_since) s = same_stream station s
begins (Shown drone kind plan station) s = false
begins (Cancelled station) s = false
begins (Ended station told) s = false
begins (Restarted drone) s = false

abbrev pub installs : StoreEvent → Stream → Bool
installs (Upload_begun station drone kind plan since drone_since) s = false
installs (Installed drone kind plan station) s = same_stream station s
installs (Clear_begun station drone kind drone_since) s = false
installs (Cleared drone kind station) s = false
installs (Get_begun station drone kind drone_since) s = false
installs (Shown drone kind plan station) s = false
installs (Cancelled station) s = false
installs (Ended station told) s = false
installs (Restarted drone) s = false

abbrev pub is_not_installed : Told → Bool
is_not_installed Told_installed = false
is_not_installed (Told_not_installed code) = true
is_not_installed Told_unknown = false
is_not_installed Told_cleared = false
is_not_installed (Told_got plan) = false
is_not_installed (Told_ended code) = false

-- the outcome "not installed"
abbrev pub refuses : StoreEvent → Stream → Bool
refuses (Upload_begun station drone kind plan since drone_since) s = false
refuses (Installed drone kind plan station) s = false
refuses (Clear_begun station drone kind drone_since) s = false
refuses (Cleared drone kind station) s = false
refuses (Get_begun station drone kind drone_since) s = false
refuses (Shown drone kind plan station) s = false
refuses (Cancelled station) s = false
refuses (Ended station told) s = is_not_installed told && same_stream station s
refuses (Restarted drone) s = false

-- how many uploads a station has begun: they are numbered from 1, and the latest has this number
abbrev pub uploads : List Step → Stream → ℕ
uploads [] s = 0
uploads (x ∷ h) s = if begins_upload x.event s then uploads h s + 1 else uploads h s

-- how many events of a kind there were of the station while its upload `number` was its latest
abbrev pub tally : (StoreEvent → Stream → Bool) → List Step → Stream → ℕ → ℕ
tally is [] s number = 0
tally is (x ∷ h) s number = if is x.event s && (uploads h s == number) then tally is h s number + 1
    else tally is h s number

-- the station's upload with this number was begun for this drone, kind and plan
abbrev pub BegunWith : StoreEvent → Stream → Stream → ℕ → List Item → Type 0
BegunWith event s drone kind plan = (since : ℕ) × (drone_since : ℕ)
    × (event ≡ Upload_begun s drone kind plan since drone_since)

abbrev pub Uploaded : List Step → Stream → ℕ → Stream → ℕ → List Item → Type 0
Uploaded [] s number drone kind plan = ⊥
Uploaded (x ∷ h) s number drone kind plan = (BegunWith x.event s drone kind plan × (uploads h s + 1 ≡ number))
    ⊎ Uploaded h s number drone kind plan

-- it is empty, or exactly the plan of one upload for that drone and kind, which was installed
abbrev pub IsHeld : List Step → Stream → ℕ → List Item → Type 0
IsHeld h drone kind plan = (plan ≡ []) ⊎ ((s : Stream) × (number : ℕ) × Uploaded h s number drone kind plan
    × (0 < tally installs h s number))

-- an installation: of the station's latest upload, fully transmitted, not installed and not reported as "not
-- installed" before
pub record Installation (h : List Step) (sent : List Frame) (s drone : Stream) (kind : ℕ)
    (plan : List Item) : Type 0 where
  pub latest : Uploaded h s (uploads h s) drone kind plan
  pub fully_sent : FullySent sent s ((store_of h).transaction s)
  pub not_before : tally installs h s (uploads h s) ≡ 0
  pub not_refused : tally refuses h s (uploads h s) ≡ 0

-- the drone has started again since the station's latest upload began
abbrev pub RestartedSince : List Step → Stream → Stream → Type 0
RestartedSince [] s drone = ⊥
RestartedSince (x ∷ h) s drone = (x.event ≡ Restarted drone)
    ⊎ ((begins_upload x.event s ≡ false) × RestartedSince h s drone)

-- the station was cancelled since its latest operation began
abbrev pub CancelledSince : List Step → Stream → Type 0
CancelledSince [] s = ⊥
CancelledSince (x ∷ h) s = (x.event ≡ Cancelled s) ⊎ ((begins x.event s ≡ false) × CancelledSince h s)

-- at one moment since the station's latest download began the drone held that plan of the kind
abbrev pub HeldSince : List Step → Stream → Stream → ℕ → List Item → Type 0
HeldSince [] s drone kind plan = ⊥
HeldSince (x ∷ h) s drone kind plan = ((store_of (x ∷ h)).plan drone kind ≡ plan)
    ⊎ ((begins_get x.event s ≡ false) × HeldSince h s drone kind plan)

-- an outcome Got hands out a plan that the drone held since the download began
abbrev pub GotHeld : List Step → Stream → List Item → Type 0
GotHeld h s plan = (c : Opening) × ((store_of h).opening s ≡ Some c) × HeldSince h s c.drone c.kind plan

-- why an upload was reported as "not installed": with a code that the drone refused it with, or 15
abbrev pub NotInstalledBy : List Step → List Frame → Stream → ℕ → Type 0
NotInstalledBy h sent s code = let t = (store_of h).transaction s in (code ≡ 15) ⊎ RefusedWith sent t.drone s t code

-- why an upload was reported as "unknown": since it began the drone has started again, the last item was sent, a
-- cancel after it, and the drone answered code 1 after that cancel
pub record UnknownBy (h : List Step) (sent : List Frame) (s : Stream) : Type 0 where
  pub restarted : RestartedSince h s ((store_of h).transaction s).drone
  pub answered : Acked sent ((store_of h).transaction s).drone s ((store_of h).transaction s).drone_since 1
  pub final_sent : FinalSent sent s ((store_of h).transaction s)
  pub cancel_sent : CancelSent sent s ((store_of h).transaction s)
  pub answered_last : AnsweredLast sent s ((store_of h).transaction s) 1

-- since the station's latest clear began the drone's plan of the kind was emptied for it
abbrev pub EmptiedSince : List Step → Stream → Stream → ℕ → Type 0
EmptiedSince [] s drone kind = ⊥
EmptiedSince (x ∷ h) s drone kind =
    (x.event ≡ Cleared drone kind s) ⊎ ((begins_clear x.event s ≡ false) × EmptiedSince h s drone kind)

-- a clear of one kind is of that kind, a clear of all kinds of each
abbrev pub IsKindOf : ℕ → ℕ → Type 0
IsKindOf all kind = ((all ≢ every_kind) × (kind ≡ all)) ⊎ ((all ≡ every_kind) × (kind < 3))

-- what a clear that was reported as "cleared" has done: each of its kinds was emptied since it began
abbrev pub ClearedBy : List Step → Stream → Type 0
ClearedBy h s =
    (c : Opening) × ((store_of h).opening s ≡ Some c) × (c.job ≡ A_clear)
    × ((kind : ℕ) → IsKindOf c.kind kind → EmptiedSince h s c.drone kind)

-- why a clear or a download ended: with a code that the drone sent since it began, with 15 if it was
-- cancelled, or with 4 if the drone's plan has more items than its kind has room for
abbrev pub EndedBy : List Step → List Frame → Stream → ℕ → Type 0
EndedBy h sent s code =
    (c : Opening) × ((store_of h).opening s ≡ Some c)
    × (Acked sent c.drone s c.drone_since code
    ⊎ (((code ≡ 15) × CancelledSince h s) ⊎ ((code ≡ 4) × TooMany c.kind c.job)))

-- the steps of a list of events, at the start of earlier ones
abbrev pub steps_of : List Frame → List StoreEvent → List Step → List Step
steps_of sent [] h = h
steps_of sent (e ∷ es) h = steps_of sent es (step sent e ∷ h)

-- what an execution of the world leads to, and what the store goes through in it
abbrev pub final : Nodes → World → List Event → World
final n w [] = w
final n w (e ∷ es) = final n (happens n w e) es

abbrev pub history : Nodes → World → List Step → List Event → List Step
history n w h [] = h
history n w h (e ∷ es) = let v = happens n w e in history n v (steps_of v.sent v.news h) es
