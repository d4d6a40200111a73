-- The station's rules, phase by phase, against the protocol's tables. The replies are computed from the
-- definitions.
use Rattle.std.proofs.Common.{◌≡◌, ℕ, List, [], ◌∷◌, Option, Some, None, pos, refl}
use Rattle.mav_names.specs.declared.names.Name.{Name}
use Rattle.mav_names.specs.declared.names.Stream.{Stream}
use Rattle.plan_items.specs.declared.items.Item.{Item}
use Rattle.plan_items.specs.declared.messages.PlanMsg.{PlanMsg}
use Rattle.plan_items.specs.declared.messages.PlanMsg.TheVariants.{Count, Request, Item as Give, Ack, List as Listing, Clear, Ping}
use Rattle.plan_upload.specs.declared.faults.OpFault.TheVariants.{Busy, PingsSpent}
use Rattle.plan_upload.specs.Refusals.{upload_refusal, refusal}
use Rattle.plan_upload.specs.Station.{StationState, StationStep, Told_installed, Told_not_installed, Told_cleared, Told_got, Told_ended, fresh_station, station_step, station_tick, station_cancel, begin_upload, begin_clear, begin_get, untold}

abbrev drone : Stream
drone = record { sys = 1; comp = 1; link = 0 }

abbrev everyone : Name
everyone = record { sys = 0; comp = 0 }

abbrev autopilot : Name
autopilot = record { sys = 1; comp = 1 }

abbrev station : Name
station = record { sys = 255; comp = 190 }

abbrev boot : ℕ
boot = 7

abbrev waypoint : Item
waypoint = record { frame = 3; command = 16; current = 0; autocontinue = 1; p = 0 ∷ 0 ∷ 0 ∷ 0 ∷ []; x = pos 473977420; y = pos 85455940; z = 0x42200000 }

abbrev fresh : StationState
fresh = fresh_station 255 190 boot 0

pub data Turn : Type 0 where
  Ticks : Turn
  Cancels : Turn
  Hears : (message : PlanMsg) → Turn

abbrev turn : StationState → Turn → StationStep
turn s Ticks = station_tick s
turn s Cancels = station_cancel s
turn s (Hears message) = station_step s drone message

abbrev after : StationState → List Turn → StationState
after s [] = s
after s (t ∷ ts) = after (turn s t).station ts

abbrev sent : StationState → List Turn → List (Option PlanMsg)
sent s [] = []
sent s (t ∷ ts) = (turn s t).answer ∷ sent (turn s t).station ts

abbrev ping : ℕ → Option PlanMsg
ping seq = Some (Ping everyone boot seq)

abbrev cancel : ℕ → Option PlanMsg
cancel kind = Some (Ack autopilot 15 kind)

abbrev count : Option PlanMsg
count = Some (Count autopilot 1 0)

abbrev clear : Option PlanMsg
clear = Some (Clear autopilot 255)

abbrev asks : ℕ → Option PlanMsg
asks seq = Some (Request autopilot seq 0)

abbrev replied : ℕ → Turn
replied seq = Hears (Ping station boot seq)

abbrev acked : ℕ → ℕ → Turn
acked code kind = Hears (Ack station code kind)

-- an upload of one item begins
abbrev begun : StationState → StationStep
begun s = begin_upload s drone 0 (waypoint ∷ [])

pub first_ping : (begun fresh).answer ≡ ping 1
first_ping = refl

-- a resynchronisation attempt that counts no other reply and is repeated at a tick, before an upload of one item
abbrev synchronised : List Turn
synchronised = Ticks ∷ replied 2 ∷ replied 1 ∷ Ticks ∷ replied 2 ∷ acked 14 0 ∷ acked 1 0 ∷ []

pub synchronised_is_answered : sent (begun fresh).station synchronised ≡ ping 1 ∷ None ∷ cancel 0 ∷ ping 2 ∷ cancel 0 ∷ None ∷ count ∷ []
synchronised_is_answered = refl

abbrev ready : StationState
ready = after (begun fresh).station synchronised

-- the upload after it: an early acknowledgement and a request past the end don't count
abbrev uploaded : List Turn
uploaded =
    Ticks
    ∷ acked 0 0
    ∷ Hears (Request station 1 0)
    ∷ Hears (Request station 0 1)
    ∷ Hears (Request station 0 0)
    ∷ Ticks
    ∷ acked 0 0
    ∷ []

pub uploaded_is_answered :
    sent ready uploaded ≡ count ∷ None ∷ None ∷ None ∷ Some (Give autopilot 0 0 waypoint) ∷ None ∷ None ∷ []
uploaded_is_answered = refl

pub uploaded_is_installed : (after ready uploaded).outcome ≡ Some Told_installed
uploaded_is_installed = refl

-- an outcome is returned once
pub outcome_is_told_once : (untold (after ready uploaded)).outcome ≡ None
outcome_is_told_once = refl

-- a count that is denied
abbrev denied : List Turn
denied = replied 1 ∷ acked 15 0 ∷ acked 14 0 ∷ replied 2 ∷ acked 15 0 ∷ []

pub denied_is_answered : sent (begun fresh).station denied ≡ cancel 0 ∷ count ∷ ping 2 ∷ cancel 0 ∷ None ∷ []
denied_is_answered = refl

pub denied_is_not_installed : (after (begun fresh).station denied).outcome ≡ Some (Told_not_installed 14)
denied_is_not_installed = refl

-- the next upload, of a synchronised station, which it cancels
abbrev next : StationStep
next = begun (untold (after (begun fresh).station denied))

pub next_begins_at_once : next.answer ≡ count
next_begins_at_once = refl

abbrev cancelled : List Turn
cancelled = Cancels ∷ Cancels ∷ replied 3 ∷ acked 15 0 ∷ []

pub cancelled_is_answered : sent next.station cancelled ≡ ping 3 ∷ None ∷ cancel 0 ∷ None ∷ []
cancelled_is_answered = refl

pub cancelled_is_not_installed : (after next.station cancelled).outcome ≡ Some (Told_not_installed 15)
cancelled_is_not_installed = refl

-- a clear of all kinds that gets no reply at first
abbrev clearing : StationStep
clearing = begin_clear fresh drone 255

pub clearing_pings : clearing.answer ≡ ping 1
clearing_pings = refl

abbrev cleared : List Turn
cleared = replied 1 ∷ acked 15 255 ∷ Ticks ∷ Ticks ∷ Ticks ∷ Ticks ∷ Ticks ∷ replied 2 ∷ acked 15 255 ∷ acked 0 255 ∷ []

pub cleared_is_answered :
    sent clearing.station cleared ≡ cancel 255 ∷ clear ∷ None ∷ None ∷ None ∷ None ∷ ping 2 ∷ cancel 255 ∷ clear ∷ None ∷ []
cleared_is_answered = refl

pub cleared_is_told : (after clearing.station cleared).outcome ≡ Some Told_cleared
cleared_is_told = refl

-- a download, in which a clear is refused
abbrev getting : StationStep
getting = begin_get (untold (after clearing.station cleared)) drone 0

pub getting_asks : getting.answer ≡ Some (Listing autopilot 0)
getting_asks = refl

pub getting_is_busy : refusal getting.station ≡ Some (Busy 5)
getting_is_busy = refl

-- a download of two items
abbrev downloaded : List Turn
downloaded =
    Ticks
    ∷ Hears (Count station 2 0)
    ∷ Hears (Give station 1 0 waypoint)
    ∷ Hears (Give station 0 0 waypoint)
    ∷ Ticks
    ∷ acked 0 0
    ∷ Hears (Give station 1 0 waypoint)
    ∷ []

pub downloaded_is_answered :
    sent getting.station downloaded ≡ None ∷ asks 0 ∷ None ∷ asks 1 ∷ asks 1 ∷ None ∷ Some (Ack autopilot 0 0) ∷ []
downloaded_is_answered = refl

pub downloaded_is_told : (after getting.station downloaded).outcome ≡ Some (Told_got (waypoint ∷ waypoint ∷ []))
downloaded_is_told = refl

-- a download of more items than a mission has room for
pub too_many_are_not_asked_for : sent getting.station (Hears (Count station 1001 0) ∷ []) ≡ None ∷ []
too_many_are_not_asked_for = refl

pub too_many_end_it : (after getting.station (Hears (Count station 1001 0) ∷ [])).outcome ≡ Some (Told_ended 4)
too_many_end_it = refl

-- no PING number is left
pub spent_is_refused : upload_refusal (fresh_station 255 190 boot 4294967295) 0 (waypoint ∷ []) ≡ Some PingsSpent
spent_is_refused = refl
