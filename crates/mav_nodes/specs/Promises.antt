-- What calls promise of a node: its state after them, and the news that they append.
use Rattle.std.specs.Prelude.{ℕ, ◌≡◌, ◌⊎◌, Bool, List, [], ◌∷◌, ◌++◌, map, true, false, Option, Some, None, IfNone}
use Rattle.std.specs.Prelude.{IfSome}
use Rattle.mav_frame.specs.Packet.{Packet, SignatureBlock}
use Rattle.mav_sign.specs.declared.admission.Admit.{Admit}
use Rattle.mav_sign.specs.declared.admission.Admit.TheVariants.{Admitted}
use Rattle.mav_sign.specs.History.{answer_to, stream_of}
use Rattle.mav_sign.specs.Streams.{reader_of}
use Rattle.mav_nodes.specs.declared.news.News.{News}
use Rattle.mav_nodes.specs.declared.link.Tried.{Tried}
use Rattle.mav_nodes.specs.declared.link.Tried.TheVariants.{Plan, Service, Other, Dropped}
use Rattle.plan_items.specs.declared.messages.PlanMsg.{PlanMsg}
use Rattle.mav_messages.specs.declared.messages.Message.{Message}
use Rattle.mav_nodes.specs.Payloads.{plan_in, service_in}
use Rattle.mav_names.specs.declared.names.Stream.{Stream}
use Rattle.mav_nodes.specs.News.{NodeEvent, shown, events_of}
use Rattle.mav_nodes.specs.Links.{Link, LinkView, IsLink, Outcome, done}
use Rattle.mav_nodes.specs.LowBounds.{stored_low}
use Rattle.mav_nodes.specs.Stores.{Serves, IsRaised, GivenUp}
use Rattle.mav_nodes.specs.Steps.{Side, IsNode, CoreStep, Rules, hears_keeping}
use Rattle.plan_upload.specs.Station.{StationState}
use Rattle.mav_nodes.specs.Services.{StationServices}
use Rattle.mav_nodes.specs.Nodes.{DroneSide, StationSide, DroneView, StationView, IsStation, IsAccepted, station_obeys}
use Rattle.mav_nodes.specs.Nodes.{order_refusal, order_plan, order_fault, command_refusal, params_refusal}
use Rattle.mav_nodes.specs.Nodes.{file_refusal}
use Rattle.mav_nodes.specs.declared.orders.Order.{Order}
use Rattle.mav_nodes.specs.declared.faults.OrderFault.{OrderFault}
use Rattle.mav_nodes.specs.declared.faults.OrderFault.TheVariants.{Begin, Op, Command, Param, File, Node}
use Rattle.mav_nodes.specs.declared.faults.NodeFault.{NodeFault}
use Rattle.mav_nodes.specs.declared.faults.NodeFault.TheVariants.{StampsSpent, Store, NoMemory}

-- this was done: this is the node now, and these news came after the earlier ones
abbrev pub Did : {A : Type 0} → Outcome A → (A → Type 0) → List News → List News → Type 0
Did None Is before after = ⊥
Did (Some d) Is before after = Is d.node × (events_of after ≡ events_of before ++ map shown d.events)

-- a call fails: for want of a timestamp if what it does needs one that isn't there, and by the store if a call of the
-- store has failed
abbrev pub Fails : {A B : Type 0} → NodeFault → (A → Type 0) → (A → Outcome B) → Type 0 → Type 0
Fails {A} StampsSpent Is does failed = (a : A) → Is a → does a ≡ None
Fails Store Is does failed = failed
Fails NoMemory Is does failed = Unit {0}

-- the same of what is done with a store that may not keep what is saved: some of it was done
pub record SpentKeeping {I B : Type 0} (kept : I → Type 0) (does : I → Outcome B) : Type 0 where
  pub keeps : I
  pub is_kept : kept keeps
  pub none : does keeps ≡ None

abbrev pub FailsKeeping : {I A B : Type 0} → NodeFault → (A → Type 0) → (I → A → Outcome B) → (I → Type 0) → Type 0
    → Type 0
FailsKeeping {I} {A} StampsSpent Is does kept failed = (a : A) → Is a → SpentKeeping kept (λ keeps. does keeps a)
FailsKeeping Store Is does kept failed = failed
FailsKeeping NoMemory Is does kept failed = Unit {0}

-- what a call of a link that ends so does beside: if it doesn't fail, its store has what is to be stored, and else
-- what a node leaves that is given up; the low bound doesn't fall; nothing is read; and what any call does to a store
pub record LinkKeeps {Store : Type 0} (fault : Option NodeFault) (Held Holds Leaves : Type 0) (old new : LinkView)
    (faults : Store → ℕ) (is_infallible : Store → Type 0) (before now : Store) : Type 0 where
  pub stored : IfNone fault (Held → Holds)
  pub given : IfSome fault (λ _. Held → Leaves)
  pub raised : IsRaised old.low new.low
  pub reader : reader_of new.endpoint ≡ reader_of old.endpoint
  pub serves : Serves faults is_infallible before now

-- the same of a link
abbrev pub LinkDid : Outcome Link → LinkView → List News → List News → Type 0
LinkDid outcome view before after = Did outcome (λ link. IsLink link view) before after

-- a frame carries these messages: of the mission protocol, and of another service
pub record Carries (packet : Packet) (plan : Option PlanMsg) (other : Option Message) : Type 0 where
  pub plan_is : plan_in packet.id packet.payload ≡ plan
  pub other_is : service_in packet.id packet.payload ≡ other

-- the result of a frame that carries that plan message, or that message of another service, or none
abbrev pub IsAnswer : Admit → Packet → Option SignatureBlock → Tried → Type 0
IsAnswer Admitted packet (Some block) (Plan from message) = (from ≡ stream_of packet block)
    × (plan_in packet.id packet.payload ≡ Some message)
IsAnswer Admitted packet (Some block) (Service from message) = (from ≡ stream_of packet block)
    × Carries packet None (Some message)
IsAnswer Admitted packet (Some block) Other = Carries packet None None
IsAnswer Admitted packet (Some block) (Dropped answer) = ⊥
IsAnswer Admitted packet None tried = ⊥
IsAnswer answer packet block tried = tried ≡ Dropped answer

-- the same after the history of a link
abbrev pub IsTried : Link → Packet → Tried → Type 0
IsTried link packet tried = IsAnswer (answer_to link.key link.history packet) packet packet.block tried

-- the core after the plan message of an admitted frame, of which the store kept what it changed, or didn't
pub record TookPlan {Core : Type 0} (taken : Bool → Core → Stream → PlanMsg → CoreStep Core) (link : Link)
    (packet : Packet) (core after : Core) : Type 0 where
  pub kept : Bool
  pub from : Stream
  pub message : PlanMsg
  pub tried : IsTried link packet (Plan from message)
  pub is : after ≡ (taken kept core from message).core

-- a core before a frame, or after it
abbrev pub AtFrame : {Core : Type 0} → (Bool → Core → Stream → PlanMsg → CoreStep Core) → Link → Packet
    → (core after : Core) → Type 0
AtFrame taken link packet core after = (after ≡ core) ⊎ TookPlan taken link packet core after

-- what the store has of a node that is given up at one of these frames: those before it were heard
pub record GivenUpIn {Core Services : Type 0} (taken : Bool → Core → Stream → PlanMsg → CoreStep Core)
    (stored : Core → ℕ → List ℕ → Type 0) (rules : Bool → Rules Core Services) (clock : ℕ) (kept : List Bool → Type 0)
    (contents : Option (List ℕ)) (packets : List Packet) (node : Side Core Services) : Type 0 where
  pub before : List Packet
  pub packet : Packet
  pub after : List Packet
  pub are : packets ≡ before ++ packet ∷ after
  pub keeps : List Bool
  pub is_kept : kept keeps
  pub here : Side Core Services
  pub events : List NodeEvent
  pub heard : hears_keeping rules clock keeps before node ≡ done here events
  pub given : GivenUp contents stored (stored_low here.link.history) (AtFrame taken here.link packet here.core)

-- the same of a node, of a drone and of a station
abbrev pub NodeDid : {Core Services : Type 0} → Outcome (Side Core Services) → LinkView → Core → Services → List News
    → List News → Type 0
NodeDid outcome end core services before after = Did outcome (λ node. IsNode node end core services) before after

abbrev pub DroneDid : Outcome DroneSide → DroneView → List News → List News → Type 0
DroneDid outcome view before after = NodeDid outcome view.link view.drone view.services before after

abbrev pub StationDid : Outcome StationSide → StationView → List News → List News → Type 0
StationDid outcome view before after = NodeDid outcome view.link view.station view.services before after

-- the same with a store that may not keep what is saved
pub record NodeDidKeeping {I Core Services : Type 0} (does : I → Outcome (Side Core Services)) (kept : I → Type 0)
    (end : LinkView) (core : Core) (services : Services) (news : List News) : Type 0 where
  pub keeps : I
  pub is_kept : kept keeps
  pub did : NodeDid (does keeps) end core services [] news

abbrev pub DroneDidKeeping : {I : Type 0} → (I → Outcome DroneSide) → (I → Type 0) → DroneView → List News → Type 0
DroneDidKeeping {I} does kept view news = NodeDidKeeping {I = I} does kept view.link view.drone view.services news

-- an order was refused, for the first cause; an upload's plan is returned
abbrev pub IsPlanRefusal : StationState → Order → OrderFault → Type 0
IsPlanRefusal station order (Begin fault) = (order_refusal station order ≡ Some fault.why)
    × (order_plan order ≡ Some fault.plan)
IsPlanRefusal station order (Op fault) = order_fault station order ≡ Some fault
IsPlanRefusal station order (Command busy) = ⊥
IsPlanRefusal station order (Param busy) = ⊥
IsPlanRefusal station order (File fault) = ⊥
IsPlanRefusal station order (Node fault) = ⊥

-- the same, or its services refused it
abbrev pub IsRefusal : StationView → Order → OrderFault → Type 0
IsRefusal station order (Begin fault) = (order_refusal station.station order ≡ Some fault.why)
    × (order_plan order ≡ Some fault.plan)
IsRefusal station order (Op fault) = order_fault station.station order ≡ Some fault
IsRefusal station order (Command busy) = command_refusal station.services order ≡ Some busy.command
IsRefusal station order (Param busy) = params_refusal station.services order ≡ true
IsRefusal station order (File fault) = file_refusal station.services order ≡ Some fault
IsRefusal station order (Node fault) = ⊥

-- the services of a station follow an order, or refuse it, and then nothing changes; or there is no memory
pub record AcceptsService (v : StationServices) (order : Order) : Type 0 where
  pub command : command_refusal v order ≡ None
  pub params : params_refusal v order ≡ false
  pub file : file_refusal v order ≡ None

abbrev pub RefusesService : StationServices → Order → OrderFault → Type 0
RefusesService v order (Begin fault) = ⊥
RefusesService v order (Op fault) = ⊥
RefusesService v order (Command busy) = command_refusal v order ≡ Some busy.command
RefusesService v order (Param busy) = params_refusal v order ≡ true
RefusesService v order (File fault) = file_refusal v order ≡ Some fault
RefusesService v order (Node fault) = AcceptsService v order × (fault ≡ NoMemory)

-- a refused order changes nothing
abbrev pub OrderKeeps : {A : Type 0} → A → A → OrderFault → Type 0
OrderKeeps before after (Begin fault) = after ≡ before
OrderKeeps before after (Op fault) = after ≡ before
OrderKeeps before after (Command busy) = after ≡ before
OrderKeeps before after (Param busy) = after ≡ before
OrderKeeps before after (File fault) = after ≡ before
OrderKeeps before after (Node fault) = Unit {0}

-- the same, or no timestamp was left for the message that is sent for it
abbrev pub OrderFails : ℕ → Order → StationView → OrderFault → Type 0
OrderFails clock order station (Node fault) =
    IsAccepted station order
    × Fails fault (λ (node : StationSide). IsStation node station)
    (λ (node : StationSide). station_obeys clock order node) ⊥
OrderFails clock order station refusal = IsRefusal station order refusal
