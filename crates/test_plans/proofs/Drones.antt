-- The drone's rules, row by row, against the protocol's tables. The replies are computed from the definitions.
use Rattle.std.proofs.Common.{◌≡◌, ℕ, zero, suc, List, [], ◌∷◌, ◌++◌, Option, Some, None, true, pos, refl}
use Rattle.mav_names.specs.declared.names.Name.{Name}
use Rattle.mav_names.specs.declared.names.Stream.{Stream}
use Rattle.plan_items.specs.declared.items.Item.{Item}
use Rattle.plan_items.specs.declared.kinds.PlanKind.TheVariants.{Mission}
use Rattle.plan_items.specs.declared.messages.PlanMsg.{PlanMsg}
use Rattle.plan_items.specs.declared.messages.PlanMsg.TheVariants.{Count, Request, Item as Give, Ack, List as Listing, Clear, Ping}
use Rattle.plan_items.specs.Validation.{item_fault, whole_fault, plan_fault}
use Rattle.plan_items.specs.Words.{word_number, small_word_of}
use Rattle.plan_upload.specs.Plans.{no_plans}
use Rattle.plan_upload.specs.Drone.{DroneState, fresh_drone, drone_step, drone_tick}
use Rattle.plan_upload.specs.Gathering.{stream_of}
use Rattle.plan_upload.specs.Changes.{change_of}
use Rattle.plan_upload.specs.declared.changes.Change.TheVariants.{Same, Install}

abbrev ground : Stream
ground = record { sys = 255; comp = 190; link = 0 }

-- another link of the same station is another stream
abbrev other : Stream
other = record { sys = 255; comp = 190; link = 1 }

abbrev everyone : Name
everyone = record { sys = 0; comp = 0 }

abbrev drone : Name
drone = record { sys = 1; comp = 1 }

abbrev station : Name
station = record { sys = 255; comp = 190 }

abbrev waypoint : Item
waypoint = record { frame = 3; command = 16; current = 0; autocontinue = 1; p = 0 ∷ 0 ∷ 0 ∷ 0 ∷ []; x = pos 473977420; y = pos 85455940; z = 0x42200000 }

-- a vertex of a polygon of three
abbrev vertex : Item
vertex = record { frame = 3; command = 5001; current = 0; autocontinue = 1; p = 0x40400000 ∷ 0 ∷ 0 ∷ 0 ∷ []; x = pos 473977420; y = pos 85455940; z = 0 }

abbrev bad_frame : Item
bad_frame = record { frame = 9; command = 16; current = 0; autocontinue = 1; p = 0 ∷ 0 ∷ 0 ∷ 0 ∷ []; x = pos 0; y = pos 0; z = 0 }

abbrev fresh : DroneState
fresh = fresh_drone 1 no_plans

abbrev after : DroneState → List (Stream × PlanMsg) → DroneState
after d [] = d
after d (m ∷ ms) = after (drone_step true d m.0 m.1).drone ms

abbrev answers : DroneState → List (Stream × PlanMsg) → List (Option PlanMsg)
answers d [] = []
answers d (m ∷ ms) = (drone_step true d m.0 m.1).answer ∷ answers (drone_step true d m.0 m.1).drone ms

abbrev ack : ℕ → ℕ → Option PlanMsg
ack code kind = Some (Ack station code kind)

abbrev asks : ℕ → ℕ → Option PlanMsg
asks seq kind = Some (Request station seq kind)

-- pings, and counts that open no upload
abbrev not_opened : List (Stream × PlanMsg)
not_opened =
    (ground, Ping everyone 7 9)
    ∷ (ground, Ping drone 7 9)
    ∷ (ground, Count drone 1 3)
    ∷ (ground, Count drone 0 0)
    ∷ (ground, Count drone 1001 0)
    ∷ (ground, Count station 1 0)
    ∷ (other, Ack drone 15 0)
    ∷ []

pub not_opened_is_answered :
    answers fresh not_opened ≡ Some (Ping station 7 9) ∷ None ∷ ack 3 3 ∷ ack 5 0 ∷ ack 4 0 ∷ None ∷ ack 1 0 ∷ []
not_opened_is_answered = refl

-- an upload that other streams can't touch, and that a bad item ends
abbrev refused : List (Stream × PlanMsg)
refused =
    (ground, Count drone 2 0)
    ∷ (other, Count drone 1 0)
    ∷ (other, Clear drone 0)
    ∷ (other, Give drone 0 0 waypoint)
    ∷ (ground, Give drone 1 0 waypoint)
    ∷ (ground, Give drone 0 1 waypoint)
    ∷ (ground, Give drone 0 0 waypoint)
    ∷ (ground, Give drone 1 0 bad_frame)
    ∷ (ground, Ack drone 15 2)
    ∷ []

pub refused_is_answered :
    answers (after fresh not_opened) refused
    ≡ asks 0 0 ∷ ack 14 0 ∷ ack 14 0 ∷ None ∷ asks 0 0 ∷ asks 0 0 ∷ asks 1 0 ∷ ack 2 0 ∷ ack 15 2 ∷ []
unfolding item_fault
refused_is_answered = refl

pub refused_installs_none : (after fresh (not_opened ++ refused)).installs ≡ 0
unfolding item_fault
refused_installs_none = refl

-- an upload of a mission, and a fence whose polygon lacks vertices
abbrev installed : List (Stream × PlanMsg)
installed =
    (ground, Count drone 1 0)
    ∷ (ground, Give drone 0 0 waypoint)
    ∷ (ground, Ack drone 15 0)
    ∷ (ground, Count drone 1 1)
    ∷ (ground, Give drone 0 1 vertex)
    ∷ []

pub installed_is_answered :
    answers (after fresh (not_opened ++ refused)) installed ≡ asks 0 0 ∷ ack 0 0 ∷ ack 0 0 ∷ asks 0 1 ∷ ack 5 1 ∷ []
unfolding item_fault whole_fault plan_fault word_number small_word_of
installed_is_answered = refl

pub installed_once : (after fresh (not_opened ++ refused ++ installed)).installs ≡ 1
unfolding item_fault whole_fault plan_fault word_number small_word_of
installed_once = refl

pub installed_mission : (after fresh (not_opened ++ refused ++ installed)).plans.mission ≡ waypoint ∷ []
unfolding item_fault whole_fault plan_fault word_number small_word_of
installed_mission = refl

-- a download continues over its copy when the plan is cleared
abbrev downloaded : List (Stream × PlanMsg)
downloaded =
    (ground, Listing drone 0)
    ∷ (other, Listing drone 0)
    ∷ (ground, Clear drone 0)
    ∷ (ground, Request drone 0 0)
    ∷ (ground, Request drone 1 0)
    ∷ (other, Request drone 0 0)
    ∷ (ground, Ack drone 0 0)
    ∷ (ground, Request drone 0 0)
    ∷ (ground, Listing drone 0)
    ∷ []

pub downloaded_is_answered :
    answers (after fresh installed) downloaded
    ≡ Some (Count station 1 0) ∷ ack 14 0 ∷ ack 0 0 ∷ Some (Give station 0 0 waypoint) ∷ ack 13 0 ∷ ack 13 0 ∷ None ∷ ack 13 0 ∷ Some (Count station 0 0) ∷ []
unfolding item_fault whole_fault plan_fault word_number small_word_of
downloaded_is_answered = refl

-- kinds that a list and a clear don't know, and the one that is all of them
pub unknown_kinds_are_answered :
    answers (after fresh (installed ++ downloaded)) ((ground, Listing drone 255) ∷ (ground, Clear drone 3) ∷ (ground, Clear drone 255) ∷ [])
    ≡ ack 3 255 ∷ ack 3 3 ∷ ack 0 255 ∷ []
unfolding item_fault whole_fault plan_fault word_number small_word_of
unknown_kinds_are_answered = refl

abbrev counted : DroneState
counted = after fresh ((ground, Count drone 1 0) ∷ [])

abbrev ticks : ℕ → DroneState → List (Option (Stream × PlanMsg))
ticks zero d = []
ticks (suc n) d = (drone_tick d).answer ∷ ticks n (drone_tick d).drone

abbrev asked_again : Option (Stream × PlanMsg)
asked_again = Some (ground, Request station 0 0)

-- an idle upload is given up at the fifth tick
pub given_up_at_the_fifth_tick :
    ticks 6 counted ≡ asked_again ∷ asked_again ∷ asked_again ∷ asked_again ∷ Some (ground, Ack station 15 0) ∷ None ∷ []
given_up_at_the_fifth_tick = refl

-- the stream whose upload is open, and a change that is reported before it happens
pub open_is_told : stream_of counted.upload ≡ Some ground
open_is_told = refl

pub change_is_told : change_of counted ground (Give drone 0 0 waypoint) ≡ Install Mission
unfolding item_fault whole_fault plan_fault word_number small_word_of
change_is_told = refl

pub no_change_is_told : change_of counted other (Give drone 0 0 waypoint) ≡ Same
no_change_is_told = refl

-- so many streams open an upload and cancel it, and so have a result
abbrev opened_and_cancelled : ℕ → DroneState → DroneState
opened_and_cancelled zero d = d
opened_and_cancelled (suc n) d =
    let from : Stream = record { sys = 255; comp = 190; link = n } in
    after (opened_and_cancelled n d) ((from, Count drone 1 0) ∷ (from, Ack drone 15 0) ∷ [])

abbrev late : Stream
late = record { sys = 255; comp = 191; link = 0 }

-- the 256th stream opens an upload, the 257th none
pub the_256th_stream_is_taken :
    answers (opened_and_cancelled 255 fresh) ((late, Count drone 1 0) ∷ []) ≡ Some (Request (record { sys = 255; comp = 191 }) 0 0) ∷ []
the_256th_stream_is_taken = refl

pub the_257th_stream_is_denied :
    answers (opened_and_cancelled 256 fresh) ((late, Count drone 1 0) ∷ []) ≡ Some (Ack (record { sys = 255; comp = 191 }) 14 0) ∷ []
the_257th_stream_is_denied = refl
