-- The ranges of what a plan message carries (MAVLink common messages), and the same of what a drone and a
-- station keep, so far as they send it again.
use Rattle.std.specs.Prelude.{◌≡◌, ℕ, ◌^◌, ◌<◌, List, length, IfSome, FitsSigned}
use Rattle.std.specs.List.{All}
use Rattle.std.specs.Int.{w32, cast_signed, cast_unsigned}
use Rattle.mav_names.specs.declared.names.Name.{Name}
use Rattle.mav_names.specs.declared.names.Stream.{Stream}
use Rattle.plan_items.specs.declared.items.Item.{Item}
use Rattle.plan_items.specs.declared.messages.PlanMsg.{PlanMsg}
use Rattle.plan_items.specs.declared.messages.PlanMsg.TheVariants.{Count, Request, Item as Give, Ack, List as Listing}
use Rattle.plan_items.specs.declared.messages.PlanMsg.TheVariants.{Clear, Ping}
use Rattle.mav_messages.specs.declared.nodes.Heartbeat.{Heartbeat}
use Rattle.plan_upload.specs.Addresses.{node_of}
use Rattle.plan_upload.specs.Plans.{Plans}
use Rattle.plan_upload.specs.Drone.{Upload, Download, DroneState, DroneStep, DroneTick}
use Rattle.plan_upload.specs.Station.{Operation, StationState, StationStep}

-- unsigned numbers of 8, 16, 32 and 64 bits
abbrev pub Is8 : ℕ → Type 0
Is8 n = n < 256

abbrev pub Is16 : ℕ → Type 0
Is16 n = n < 65536

abbrev pub Is32 : ℕ → Type 0
Is32 n = n < 2 ^ 32

abbrev pub Is64 : ℕ → Type 0
Is64 n = n < 2 ^ 64

-- a node's name, and that of a stream's node
pub record NameInRange (name : Name) : Type 0 where
  pub sys : Is8 name.sys
  pub comp : Is8 name.comp

abbrev pub StreamInRange : Stream → Type 0
StreamInRange stream = NameInRange (node_of stream)

-- an item: four words of parameters, and coordinates of 32 bits with their sign
pub record ItemInRange (item : Item) : Type 0 where
  pub frame : Is8 item.frame
  pub command : Is16 item.command
  pub current : Is8 item.current
  pub autocontinue : Is8 item.autocontinue
  pub four : length item.p ≡ 4
  pub words : All Is32 item.p
  pub x : FitsSigned w32 item.x
  pub y : FitsSigned w32 item.y
  pub z : Is32 item.z

abbrev pub InRange : PlanMsg → Type 0
InRange (Count to count kind) = NameInRange to × Is16 count × Is8 kind
InRange (Request to seq kind) = NameInRange to × Is16 seq × Is8 kind
InRange (Give to seq kind item) = NameInRange to × Is16 seq × Is8 kind × ItemInRange item
InRange (Ack to code kind) = NameInRange to × Is8 code × Is8 kind
InRange (Listing to kind) = NameInRange to × Is8 kind
InRange (Clear to kind) = NameInRange to × Is8 kind
InRange (Ping to usec seq) = NameInRange to × Is64 usec × Is32 seq

-- the coordinates of an item are those of the words of their bits
abbrev pub SignsFit : PlanMsg → Type 0
SignsFit (Give to seq kind item) =
    (cast_signed w32 (cast_unsigned w32 item.x) ≡ item.x) × (cast_signed w32 (cast_unsigned w32 item.y) ≡ item.y)
SignsFit m = Unit {0}

-- HEARTBEAT
pub record HeartbeatInRange (m : Heartbeat) : Type 0 where
  pub ty : Is8 m.ty
  pub autopilot : Is8 m.autopilot
  pub base_mode : Is8 m.base_mode
  pub custom_mode : Is32 m.custom_mode
  pub system_status : Is8 m.system_status
  pub mavlink_version : Is8 m.mavlink_version

-- a plan whose number of items a message can hold
pub record PlanInRange (plan : List Item) : Type 0 where
  pub size : Is16 (length plan)
  pub items : All ItemInRange plan

pub record PlansInRange (plans : Plans) : Type 0 where
  pub mission : PlanInRange plans.mission
  pub fence : PlanInRange plans.fence
  pub rally : PlanInRange plans.rally

-- an open upload: an item of its total is still to come
pub record UploadInRange (upload : Upload) : Type 0 where
  pub stream : StreamInRange upload.stream
  pub kind : Is8 upload.kind
  pub total : Is16 upload.total
  pub lacks : length upload.items < upload.total
  pub items : All ItemInRange upload.items

abbrev pub DownloadInRange : Download → Type 0
DownloadInRange download = All ItemInRange download.items

pub record DroneInRange (d : DroneState) : Type 0 where
  pub sys : Is8 d.sys
  pub plans : PlansInRange d.plans
  pub upload : IfSome d.upload UploadInRange
  pub download : IfSome d.download DownloadInRange

-- a drone's step, and its tick
pub record DroneStepInRange (r : DroneStep) : Type 0 where
  pub drone : DroneInRange r.drone
  pub answer : IfSome r.answer InRange

pub record DroneTickInRange (r : DroneTick) : Type 0 where
  pub drone : DroneInRange r.drone
  pub answer : IfSome r.answer (λ sent. StreamInRange sent.0 × InRange sent.1)

pub record OperationInRange (o : Operation) : Type 0 where
  pub drone : StreamInRange o.drone
  pub kind : Is8 o.kind
  pub plan : PlanInRange o.plan
  pub number : IfSome o.number Is32
  pub total : Is16 o.total
  pub got : PlanInRange o.got

pub record StationInRange (s : StationState) : Type 0 where
  pub me : NameInRange s.me
  pub boot : Is64 s.boot
  pub pings : Is32 s.pings
  pub operation : IfSome s.operation OperationInRange

-- a station's call
pub record StationStepInRange (r : StationStep) : Type 0 where
  pub station : StationInRange r.station
  pub answer : IfSome r.answer InRange
