-- The abstract mission store: the plans of all drones, the latest upload transaction of each station, and
-- the clear or download that a station has open. It knows of no buffer, retry, PING, timestamp order or request.
use Rattle.std.specs.Prelude.{ℕ, ◌+◌, ◌≡◌, ◌<◌, ◌⊎◌, Bool, true, false, ◌==◌, ◌&&◌, ◌||◌, if◌then◌else◌, List, [], ◌∷◌}
use Rattle.std.specs.Prelude.{length, Option, Some, None, slice_get}
use Rattle.mav_names.specs.declared.names.Stream.{Stream}
use Rattle.plan_items.specs.declared.items.Item.{Item}
use Rattle.plan_items.specs.declared.faults.PlanFault.{PlanFault}
use Rattle.plan_items.specs.declared.messages.PlanMsg.TheVariants.{Count, Request, Item as Give, Ack}
use Rattle.plan_items.specs.Kinds.{limit_of}
use Rattle.plan_items.specs.Validation.{code_of}
use Rattle.plan_upload.specs.Addresses.{same_stream, node_of}
use Rattle.plan_upload.specs.Plans.{every_kind}
use Rattle.plan_upload.specs.Station.{Told, Told_installed, Told_not_installed, Told_unknown, Told_cleared, Told_got}
use Rattle.plan_upload.specs.Station.{Told_ended}
use Rattle.plan_safety.specs.Frames.{Frame, Said, SaidAfter}

-- an upload transaction is fresh until it is installed, or closed uninstalled
pub data Stage : Type 0 where
  Fresh : Stage
  In_place : Stage
  Closed : Stage

-- the latest upload transaction of a station
pub record Transaction : Type 0 where
  pub drone : Stream
  pub kind : ℕ
  pub plan : List Item
  pub since : ℕ  -- the station's next timestamp when it began, and the drone's
  pub drone_since : ℕ
  pub stage : Stage
  pub lost : Bool  -- the drone has started again since

-- a clear, or a download with the plan that was last shown to it
pub data Job : Type 0 where
  A_clear : Job
  A_get : (shown : Option (List Item)) → Job

-- what a station has open beside an upload. Kind 255 is a clear of all kinds
pub record Opening : Type 0 where
  pub drone : Stream
  pub kind : ℕ
  pub job : Job
  pub drone_since : ℕ  -- the drone's next timestamp when it began
  pub emptied : List ℕ  -- the kinds that its clear has emptied since

pub record Store : Type 0 where
  pub plan : Stream → ℕ → List Item
  pub transaction : Stream → Transaction
  pub opening : Stream → Option Opening
  pub cancelled : Stream → Bool  -- the station's operation was cancelled since it began

pub data StoreEvent : Type 0 where
  Upload_begun : (station drone : Stream) (kind : ℕ) (plan : List Item) (since drone_since : ℕ) → StoreEvent
  Installed : (drone : Stream) (kind : ℕ) (plan : List Item) (station : Stream) → StoreEvent
  Clear_begun : (station drone : Stream) (kind drone_since : ℕ) → StoreEvent
  Cleared : (drone : Stream) (kind : ℕ) (station : Stream) → StoreEvent
  Get_begun : (station drone : Stream) (kind drone_since : ℕ) → StoreEvent
  -- a drone reports to a station how many items its plan has
  Shown : (drone : Stream) (kind : ℕ) (plan : List Item) (station : Stream) → StoreEvent
  Cancelled : (station : Stream) → StoreEvent
  -- an operation of the station ends with this outcome
  Ended : (station : Stream) (told : Told) → StoreEvent
  Restarted : (drone : Stream) → StoreEvent

-- a table with one entry replaced
abbrev pub at : {A : Type 0} → (Stream → A) → Stream → A → (Stream → A)
at f key value = λ other. if same_stream other key then value else f other

-- the drone sent an acknowledgement with this code to the station, at that timestamp or a later one
abbrev pub Acked : List Frame → Stream → Stream → ℕ → ℕ → Type 0
Acked sent drone station since code = (kind : ℕ) × Said sent drone since (Ack (node_of station) code kind)

-- the station sent its count and each item to the drone since the transaction began
pub record FullySent (sent : List Frame) (station : Stream) (t : Transaction) : Type 0 where
  pub count : Said sent station t.since (Count (node_of t.drone) (length t.plan) t.kind)
  pub items : (seq : ℕ) (item : Item) → slice_get t.plan seq ≡ Some item
      → Said sent station t.since (Give (node_of t.drone) seq t.kind item)

-- the station sent its count of the upload to the drone
abbrev pub CountSent : List Frame → Stream → Stream → Transaction → Type 0
CountSent sent drone station t = Said sent station t.since (Count (node_of drone) (length t.plan) t.kind)

-- after that count the drone asked the station for an item of the kind
abbrev pub ItemAsked : List Frame → Stream → Stream → Transaction → Type 0
ItemAsked sent drone station t = (seq : ℕ)
    × SaidAfter (λ earlier. CountSent earlier drone station t) sent drone (Request (node_of station) seq t.kind)

-- the codes that refuse a count: UNSUPPORTED, NO_SPACE, INVALID, DENIED
abbrev pub RefusesCount : ℕ → Type 0
RefusesCount code = (code ≡ 3) ⊎ ((code ≡ 4) ⊎ ((code ≡ 5) ⊎ (code ≡ 14)))

-- the codes that refuse a count or an item, or the whole plan: by a fault, or with ERROR if it couldn't be kept;
-- and OPERATION_CANCELLED, if the drone has given the upload up
abbrev pub RefusesUpload : ℕ → Type 0
RefusesUpload code = RefusesCount code ⊎ (((fault : PlanFault) × (code ≡ code_of fault)) ⊎ ((code ≡ 1) ⊎ (code ≡ 15)))

-- the drone refused the upload with this code, in an acknowledgement of the upload's kind to the station: after the
-- upload's count with a code that refuses a count, or after it has asked for an item with a code that refuses an
-- upload
abbrev pub RefusedWith : List Frame → Stream → Stream → Transaction → ℕ → Type 0
RefusedWith sent drone station t code =
    SaidAfter (λ earlier. (CountSent earlier drone station t × RefusesCount code)
    ⊎ (ItemAsked earlier drone station t × RefusesUpload code)) sent drone
    (Ack (node_of station) code t.kind)

-- the station sent the last item
abbrev pub FinalSent : List Frame → Stream → Transaction → Type 0
FinalSent sent station t =
    (seq : ℕ) × (item : Item) × (seq + 1 ≡ length t.plan) × (slice_get t.plan seq ≡ Some item)
    × Said sent station t.since (Give (node_of t.drone) seq t.kind item)

-- the station sent a cancel of the upload after the last item
abbrev pub CancelledLast : List Frame → Stream → Transaction → Type 0
CancelledLast sent station t =
    SaidAfter (λ earlier. FinalSent earlier station t) sent station (Ack (node_of t.drone) 15 t.kind)

-- the drone answered with this code to the station after that cancel
abbrev pub AnsweredLast : List Frame → Stream → Transaction → ℕ → Type 0
AnsweredLast sent station t code =
    (kind : ℕ) × SaidAfter (λ earlier. CancelledLast earlier station t) sent t.drone (Ack (node_of station) code kind)

-- the station sent a cancel
abbrev pub CancelSent : List Frame → Stream → Transaction → Type 0
CancelSent sent station t = Said sent station t.since (Ack (node_of t.drone) 15 t.kind)

-- what an installation needs of the station's latest upload transaction
pub record MayInstall (sent : List Frame) (station drone : Stream) (kind : ℕ) (plan : List Item)
    (t : Transaction) : Type 0 where
  pub fresh : t.stage ≡ Fresh
  pub drone_is : t.drone ≡ drone
  pub kind_is : t.kind ≡ kind
  pub plan_is : t.plan ≡ plan
  pub fully_sent : FullySent sent station t

-- a clear is open for the drone, of the kind or of all kinds
abbrev pub MayClear : Option Opening → Stream → ℕ → Type 0
MayClear None drone kind = ⊥
MayClear (Some c) drone kind = (c.drone ≡ drone) × (c.job ≡ A_clear) × ((c.kind ≡ kind) ⊎ (c.kind ≡ every_kind))

abbrev pub is_among : ℕ → List ℕ → Bool
is_among kind [] = false
is_among kind (k ∷ ks) = (k == kind) || is_among kind ks

-- each of a clear's kinds was emptied
abbrev pub is_emptied : ℕ → List ℕ → Bool
is_emptied kind emptied =
    if kind == every_kind then is_among 0 emptied && (is_among 1 emptied && is_among 2 emptied)
    else is_among kind emptied

-- a clear is open that has emptied each of its kinds
abbrev pub HasCleared : Option Opening → Type 0
HasCleared None = ⊥
HasCleared (Some c) = (c.job ≡ A_clear) × (is_emptied c.kind c.emptied ≡ true)

-- a download is open that was shown this plan
abbrev pub HasGot : Option Opening → List Item → Type 0
HasGot None plan = ⊥
HasGot (Some c) plan = c.job ≡ A_get (Some plan)

-- the download was shown more items than its kind has room for
abbrev pub TooMany : ℕ → Job → Type 0
TooMany kind A_clear = ⊥
TooMany kind (A_get None) = ⊥
TooMany kind (A_get (Some plan)) = limit_of kind < length plan

-- why a clear or a download ends: the drone's code since it began, a cancel (15), or too long a plan (4)
abbrev pub EndCause : List Frame → Stream → Bool → Option Opening → ℕ → Type 0
EndCause sent station cancelled None code = ⊥
EndCause sent station cancelled (Some c) code =
    Acked sent c.drone station c.drone_since code
    ⊎ (((code ≡ 15) × (cancelled ≡ true)) ⊎ ((code ≡ 4) × TooMany c.kind c.job))

-- what an outcome needs
abbrev pub MayEnd : List Frame → Stream → Transaction → Option Opening → Bool → Told → Type 0
-- installed: the latest upload is
MayEnd sent station t opening cancelled Told_installed = t.stage ≡ In_place
-- not installed: it is fresh, and the code is one that the drone refused it with, or 15
MayEnd sent station t opening cancelled (Told_not_installed code) =
    (t.stage ≡ Fresh) × ((code ≡ 15) ⊎ RefusedWith sent t.drone station t code)
-- unknown: the drone has started again, and answered code 1 after a cancel that was sent after the last item
MayEnd sent station t opening cancelled Told_unknown =
    (t.stage ≡ Closed → ⊥) × (t.lost ≡ true) × Acked sent t.drone station t.drone_since 1 × FinalSent sent station t
    × CancelSent sent station t
    × AnsweredLast sent station t 1
-- cleared: a clear is open that has emptied each of its kinds; got: a download that saw that plan; ended: by its cause
MayEnd sent station t opening cancelled Told_cleared = HasCleared opening
MayEnd sent station t opening cancelled (Told_got plan) = HasGot opening plan
MayEnd sent station t opening cancelled (Told_ended code) = EndCause sent station cancelled opening code

-- what an event needs; `sent` are the frames sent so far
abbrev pub Needs : List Frame → Store → StoreEvent → Type 0
-- an upload begins: the station's earlier one is installed or closed
Needs sent m (Upload_begun station drone kind plan since drone_since) = (m.transaction station).stage ≡ Fresh → ⊥
-- a drone installs a plan: the station's latest upload is fresh, for it and that kind, and fully transmitted
Needs sent m (Installed drone kind plan station) = MayInstall sent station drone kind plan (m.transaction station)
-- a clear or a download begins: the station has none open
Needs sent m (Clear_begun station drone kind drone_since) = m.opening station ≡ None
-- a plan is emptied: the station has a clear open for that drone and kind
Needs sent m (Cleared drone kind station) = MayClear (m.opening station) drone kind
Needs sent m (Get_begun station drone kind drone_since) = m.opening station ≡ None
-- a drone shows a plan: it is the one that it holds
Needs sent m (Shown drone kind plan station) = plan ≡ m.plan drone kind
Needs sent m (Cancelled station) = Unit {0}
-- an operation ends: by its outcome
Needs sent m (Ended station told) = MayEnd sent station (m.transaction station) (m.opening station)
    (m.cancelled station) told
Needs sent m (Restarted drone) = Unit {0}

abbrev pub staged : Transaction → Stage → Transaction
staged t stage = record t { stage = stage }

-- a fresh transaction is closed, one that is installed stays so
abbrev pub unless_placed : Stage → Stage
unless_placed Fresh = Closed
unless_placed In_place = In_place
unless_placed Closed = Closed

abbrev pub given_up : Transaction → Transaction
given_up t = staged t (unless_placed t.stage)

-- the drone has started again
abbrev pub lose : Stream → Transaction → Transaction
lose drone t = if same_stream t.drone drone then record t { lost = true } else t

abbrev pub saw : Job → List Item → Job
saw A_clear plan = A_clear
saw (A_get shown) plan = A_get (Some plan)

-- a download of that drone and kind sees the plan
abbrev pub sees : Option Opening → Stream → ℕ → List Item → Option Opening
sees None drone kind plan = None
sees (Some c) drone kind plan = if same_stream c.drone drone && (c.kind == kind)
    then Some (record c { job = saw c.job plan }) else Some c

abbrev pub with_plan : (ℕ → List Item) → ℕ → List Item → (ℕ → List Item)
with_plan plan kind items = λ other. if other == kind then items else plan other

-- what the end of an operation does
abbrev pub ends_with : Store → Stream → Told → Store
ends_with m station Told_installed = m
ends_with m station (Told_not_installed code) =
    record m { transaction = at m.transaction station (staged (m.transaction station) Closed) }
ends_with m station Told_unknown = record m {
  transaction = at m.transaction station
      (given_up (m.transaction station));
}
ends_with m station Told_cleared = record m { opening = at m.opening station None }
ends_with m station (Told_got plan) = record m { opening = at m.opening station None }
ends_with m station (Told_ended code) = record m { opening = at m.opening station None }

abbrev pub begun : Stream → ℕ → List Item → ℕ → ℕ → Transaction
begun drone kind plan since drone_since = record {
  drone = drone;
  kind = kind;
  plan = plan;
  since = since;
  drone_since = drone_since;
  stage = Fresh;
  lost = false;
}

abbrev pub opened : Stream → ℕ → Job → ℕ → Opening
opened drone kind job drone_since = record {
  drone = drone;
  kind = kind;
  job = job;
  drone_since = drone_since;
  emptied = [];
}

-- a clear has emptied this kind
abbrev pub empties : Option Opening → ℕ → Option Opening
empties None kind = None
empties (Some c) kind = Some (record c { emptied = kind ∷ c.emptied })

-- what an event does
abbrev pub does : Store → StoreEvent → Store
does m (Upload_begun station drone kind plan since drone_since) = record m {
  transaction = at m.transaction station (begun drone kind plan since drone_since);
  cancelled = at m.cancelled station false;
}
does m (Installed drone kind plan station) = record m {
  plan = at m.plan drone (with_plan (m.plan drone) kind plan);
  transaction = at m.transaction station (staged (m.transaction station) In_place);
}
does m (Clear_begun station drone kind drone_since) = record m {
  opening = at m.opening station (Some (opened drone kind A_clear drone_since));
  cancelled = at m.cancelled station false;
}
does m (Cleared drone kind station) = record m {
  plan = at m.plan drone (with_plan (m.plan drone) kind []);
  opening = at m.opening station (empties (m.opening station) kind);
}
does m (Get_begun station drone kind drone_since) = record m {
  opening = at m.opening station (Some (opened drone kind (A_get None) drone_since));
  cancelled = at m.cancelled station false;
}
does m (Shown drone kind plan station) =
    record m { opening = at m.opening station (sees (m.opening station) drone kind plan) }
does m (Cancelled station) = record m { cancelled = at m.cancelled station true }
does m (Ended station told) = ends_with m station told
does m (Restarted drone) = record m { transaction = λ station. lose drone (m.transaction station) }

-- what a list of events needs and does, one after another
abbrev pub Meets : List Frame → Store → List StoreEvent → Type 0
Meets sent m [] = Unit {0}
Meets sent m (e ∷ es) = Needs sent m e × Meets sent (does m e) es

abbrev pub follows : Store → List StoreEvent → Store
follows m [] = m
follows m (e ∷ es) = follows (does m e) es

-- at first no plan is held, and nothing was begun
abbrev pub nothing : Stream → Transaction
nothing station = record {
  drone = station;
  kind = 0;
  plan = [];
  since = 0;
  drone_since = 0;
  stage = Closed;
  lost = false;
}

abbrev pub first_store : Store
first_store = record {
  plan = λ drone kind. [];
  transaction = λ station. nothing station;
  opening = λ station. None;
  cancelled = λ station. false;
}
