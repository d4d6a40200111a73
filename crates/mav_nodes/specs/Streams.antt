-- What a node hears of a stream that comes in pieces, which may cut frames anywhere: with each piece the frames by
-- which the incremental parse of the bytes so far grows.
use Rattle.std.specs.Prelude.{ℕ, ◌≡◌, false, Bool, List, [], ◌++◌, None}
use Rattle.mav_frame.specs.Packet.{Packet}
use Rattle.mav_frame.specs.Parse.{Incremental}
use Rattle.mav_frame.specs.declared.events.Event.{Event}
use Rattle.mav_stream.specs.Progress.{Progress}
use Rattle.mav_sign.specs.Endpoints.{frames_of}
use Rattle.mav_sign.specs.Streams.{reader_of}
use Rattle.mav_nodes.specs.declared.news.News.{News}
use Rattle.mav_nodes.specs.declared.faults.NodeFault.{NodeFault}
use Rattle.mav_nodes.specs.declared.faults.NodeFault.TheVariants.{StampsSpent, Store, NoMemory}
use Rattle.mav_nodes.specs.Links.{LinkView}
use Rattle.mav_nodes.specs.Steps.{Side, Rules, hears_all, hears_keeping}
use Rattle.mav_nodes.specs.Nodes.{DroneSide, DroneView, IsDrone, drone_rules_keeping, StationSide, StationView}
use Rattle.mav_nodes.specs.Nodes.{IsStation, station_rules}
use Rattle.mav_nodes.specs.Promises.{StationDid, NodeDidKeeping, SpentKeeping}

-- a node has taken these bytes of a stream, and heard the frames of these events
abbrev pub HasRead : List ℕ → List Event → LinkView → Type 0
HasRead taken given view = Progress view.endpoint.extras false taken given (reader_of view.endpoint)

-- the events by which the incremental parse grows with the bytes up to these
abbrev pub GrowsBy : List (ℕ × ℕ) → List ℕ → List Event → List Event → Type 0
GrowsBy extras taken given events = (left : List ℕ) × Incremental extras false (given ++ events) left taken

-- a node has heard a piece, up to these bytes of its stream: this was done at the frames by which the parse grew
pub record HearsPart {Core Services : Type 0} (node : Side Core Services) (taken : List ℕ) (given : List Event)
    (end : LinkView) (does : List Packet → Type 0) : Type 0 where
  pub events : List Event
  pub same : end.endpoint.extras ≡ node.link.extras
  pub grows : Incremental end.endpoint.extras false (given ++ events) end.endpoint.held taken
  pub read : HasRead taken (given ++ events) end
  pub did : does (frames_of events)

-- over any core, with a store that may not keep what is saved
abbrev pub NodePart : {Core Services : Type 0} → (Bool → Rules Core Services) → ℕ → Side Core Services → List ℕ
    → List Event → (List Bool → Type 0) → LinkView → Core → Services → List News → Type 0
NodePart rules clock node taken given kept end core services news =
    HearsPart node taken given end (λ packets. NodeDidKeeping
    (λ (keeps : List Bool). hears_keeping rules clock keeps packets node) kept end core services news)

abbrev pub DronePart : ℕ → DroneSide → List ℕ → List Event → (List Bool → Type 0) → DroneView → List News → Type 0
DronePart clock node taken given kept view news =
    NodePart drone_rules_keeping clock node taken given kept view.link view.drone view.services news

-- a station stores nothing
abbrev pub StationPart : ℕ → StationSide → List ℕ → List Event → StationView → List News → Type 0
StationPart clock node taken given view news =
    HearsPart node taken given view.link (λ packets. StationDid
    (hears_all station_rules clock packets node) view [] news)

-- a node fails to hear a piece: for want of a timestamp if hearing the frames of the piece is in want of one, and by
-- the store if a call of the store has failed
abbrev pub PartFails : {Node : Type 0} → NodeFault → (Node → Type 0) → LinkView → List ℕ
    → (List Packet → Node → Type 0) → Type 0 → Type 0
PartFails {Node} StampsSpent Is old piece spent failed =
    (node : Node) (taken : List ℕ) (given events : List Event) → Is node → HasRead taken given old
    → GrowsBy old.endpoint.extras (taken ++ piece) given events → spent (frames_of events) node
PartFails Store Is old piece spent failed = failed
PartFails NoMemory Is old piece spent failed = Unit {0}

-- the same of a drone
abbrev pub DronePartFails : NodeFault → ℕ → DroneView → List ℕ → (List Bool → Type 0) → Type 0 → Type 0
DronePartFails fault clock old piece kept failed =
    PartFails fault (λ (node : DroneSide). IsDrone node old) old.link piece
    (λ packets node. SpentKeeping kept (λ keeps. hears_keeping drone_rules_keeping clock keeps packets node))
    failed

-- and of a station, which stores nothing
abbrev pub StationPartFails : NodeFault → ℕ → StationView → List ℕ → Type 0
StationPartFails fault clock old piece =
    PartFails fault (λ (node : StationSide). IsStation node old) old.link piece
    (λ packets node. hears_all station_rules clock packets node ≡ None) ⊥
