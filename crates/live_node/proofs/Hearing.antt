-- A drone and a station as a live node: what their calls did.
use Rattle.std.proofs.Common.{◌≡◌, ℕ, List, [], ◌++◌, Bool, Some, None, Result, Ok, Err, Vec, Global, sym, ap, subst}
use Rattle.std.specs.Prelude.{IfOk, IfErr}
use Rattle.mav_frame.specs.declared.events.Event.{Event}
use Rattle.mav_sign.specs.Endpoints.{frames_of}
use Rattle.mav_nodes.specs.declared.faults.NodeFault.{NodeFault}
use Rattle.mav_nodes.specs.declared.faults.NodeFault.TheVariants.{StampsSpent, Store, NoMemory}
use Rattle.mav_nodes.specs.declared.news.News.{News}
use Rattle.mav_nodes.specs.News.{events_of}
use Rattle.mav_nodes.specs.Links.{Outcome, done}
use Rattle.mav_nodes.specs.Promises.{Did}
use Rattle.mav_nodes.specs.Steps.{hears_all, hears_keeping}
use Rattle.mav_nodes.specs.Nodes.{DroneSide, DroneView, IsDrone, StationSide, StationView, IsStation, drone_rules_keeping, station_rules}
use Rattle.mav_nodes.specs.Streams.{HasRead, GrowsBy, DronePart, StationPart, DronePartFails, StationPartFails}
use Rattle.node_reports.specs.Nodes.{Node, Drone, Station}
use Rattle.node_reports.specs.Calls.{as_drone, as_station}
use Rattle.live_node.specs.declared.nodes.LiveNode.{LiveNode}
use Rattle.live_node.specs.declared.nodes.LiveNode.TheVariants.{Drone as LiveDrone, Station as LiveStation}
use Rattle.live_node.specs.Nodes.{IsLive, HasHeard}
use Rattle.live_node.specs.Parts.{PieceHeard, PieceFails}

pub did_as_drone : (outcome : Outcome DroneSide) (view : DroneView) (before news : List News) → Did outcome (λ n. IsDrone n view) before news → Did (as_drone outcome) (λ node. IsLive node (LiveDrone view)) before news
did_as_drone None view before news h = h
did_as_drone (Some d) view before news h = h

pub did_as_station : (outcome : Outcome StationSide) (view : StationView) (before news : List News) → Did outcome (λ n. IsStation n view) before news → Did (as_station outcome) (λ node. IsLive node (LiveStation view)) before news
did_as_station None view before news h = h
did_as_station (Some d) view before news h = h

pub drone_heard : (clock : ℕ) (piece : List ℕ) (kept : List Bool → Type 0) (old new : DroneView) (news : List News) → ((node : DroneSide) (taken : List ℕ) (given : List Event) → IsDrone node old → HasRead taken given old.link → DronePart clock node (taken ++ piece) given kept new news) → (node : Node) (taken : List ℕ) (given : List Event) → IsLive node (LiveDrone old) → HasHeard taken given (LiveDrone old) → PieceHeard clock node (taken ++ piece) given kept (LiveDrone new) news
drone_heard clock piece kept old new news h (Drone n) taken given is read =
    let p = h n taken given is read in
    record {
      events = p.events;
      same = p.same;
      grows = subst (λ (extras : List (ℕ × ℕ)). GrowsBy extras (taken ++ piece) given p.events) p.same (new.link.endpoint.held, p.grows);
      heard = p.read;
      keeps = p.did.keeps;
      is_kept = p.did.is_kept;
      did = did_as_drone (hears_keeping drone_rules_keeping clock p.did.keeps (frames_of p.events) n) new [] news p.did.did;
    }
drone_heard clock piece kept old new news h (Station n) taken given is read = absurd is

pub station_heard : (clock : ℕ) (piece : List ℕ) (kept : List Bool → Type 0) (old new : StationView) (news : List News) → kept [] → ((node : StationSide) (taken : List ℕ) (given : List Event) → IsStation node old → HasRead taken given old.link → StationPart clock node (taken ++ piece) given new news) → (node : Node) (taken : List ℕ) (given : List Event) → IsLive node (LiveStation old) → HasHeard taken given (LiveStation old) → PieceHeard clock node (taken ++ piece) given kept (LiveStation new) news
station_heard clock piece kept old new news none h (Drone n) taken given is read = absurd is
station_heard clock piece kept old new news none h (Station n) taken given is read =
    let p = h n taken given is read in
    record {
      events = p.events;
      same = p.same;
      grows = subst (λ (extras : List (ℕ × ℕ)). GrowsBy extras (taken ++ piece) given p.events) p.same (new.link.endpoint.held, p.grows);
      heard = p.read;
      keeps = [];
      is_kept = none;
      did = did_as_station (hears_all station_rules clock (frames_of p.events) n) new [] news p.did;
    }

pub drone_fails : (fault : NodeFault) (clock : ℕ) (old : DroneView) (piece : List ℕ) (kept : List Bool → Type 0) (failed : Type 0) → DronePartFails fault clock old piece kept failed → PieceFails fault clock piece (LiveDrone old) failed
drone_fails StampsSpent clock old piece kept failed h = by_node
  where
    by_node : PieceFails StampsSpent clock piece (LiveDrone old) failed
    by_node (Drone n) taken given events is read grows =
        let s = h n taken given events is read (subst (λ (extras : List (ℕ × ℕ)). GrowsBy extras (taken ++ piece) given events) (sym is.link.end.extras) grows) in
        (s.keeps, ap as_drone s.none)
    by_node (Station n) taken given events is read grows = absurd is
drone_fails Store clock old piece kept failed h = h
drone_fails NoMemory clock old piece kept failed h = tt

pub station_fails : (fault : NodeFault) (clock : ℕ) (old : StationView) (piece : List ℕ) (failed : Type 0) → StationPartFails fault clock old piece → PieceFails fault clock piece (LiveStation old) failed
station_fails StampsSpent clock old piece failed h = by_node
  where
    by_node : PieceFails StampsSpent clock piece (LiveStation old) failed
    by_node (Drone n) taken given events is read grows = absurd is
    by_node (Station n) taken given events is read grows =
        ([], ap as_station (h n taken given events is read (subst (λ (extras : List (ℕ × ℕ)). GrowsBy extras (taken ++ piece) given events) (sym is.link.end.extras) grows)))
station_fails Store clock old piece failed h = absurd h
station_fails NoMemory clock old piece failed h = tt

-- ---- by the result of a call

pub drone_part_done : (clock : ℕ) (piece : List ℕ) (kept : List Bool → Type 0) (old new : DroneView) (self : LiveNode) (r : Result (Vec News Global) NodeFault) → self ≡ LiveDrone old → IfOk r (λ news. (node : DroneSide) (taken : List ℕ) (given : List Event) → IsDrone node old → HasRead taken given old.link → DronePart clock node (taken ++ piece) given kept new news.items) → IfOk r (λ news. (node : Node) (taken : List ℕ) (given : List Event) → IsLive node self → HasHeard taken given self → PieceHeard clock node (taken ++ piece) given kept (LiveDrone new) news.items)
drone_part_done clock piece kept old new self (Err fault) is did = tt
drone_part_done clock piece kept old new self (Ok news) is did = λ node taken given live read.
    drone_heard clock piece kept old new news.items did node taken given (subst (IsLive node) is live) (subst (HasHeard taken given) is read)

pub station_part_done : (clock : ℕ) (piece : List ℕ) (kept : List Bool → Type 0) (old new : StationView) (self : LiveNode) (r : Result (Vec News Global) NodeFault) → kept [] → self ≡ LiveStation old → IfOk r (λ news. (node : StationSide) (taken : List ℕ) (given : List Event) → IsStation node old → HasRead taken given old.link → StationPart clock node (taken ++ piece) given new news.items) → IfOk r (λ news. (node : Node) (taken : List ℕ) (given : List Event) → IsLive node self → HasHeard taken given self → PieceHeard clock node (taken ++ piece) given kept (LiveStation new) news.items)
station_part_done clock piece kept old new self (Err fault) none is did = tt
station_part_done clock piece kept old new self (Ok news) none is did = λ node taken given live read.
    station_heard clock piece kept old new news.items none did node taken given (subst (IsLive node) is live) (subst (HasHeard taken given) is read)

pub drone_part_fails : (clock : ℕ) (piece : List ℕ) (kept : List Bool → Type 0) (failed : Type 0) (old : DroneView) (self : LiveNode) (r : Result (Vec News Global) NodeFault) → self ≡ LiveDrone old → IfErr r (λ fault. DronePartFails fault clock old piece kept failed) → IfErr r (λ fault. PieceFails fault clock piece self failed)
drone_part_fails clock piece kept failed old self (Ok news) is h = tt
drone_part_fails clock piece kept failed old self (Err fault) is h = subst (λ (l : LiveNode). PieceFails fault clock piece l failed) (sym is) (drone_fails fault clock old piece kept failed h)

pub station_part_fails : (clock : ℕ) (piece : List ℕ) (failed : Type 0) (old : StationView) (self : LiveNode) (r : Result (Vec News Global) NodeFault) → self ≡ LiveStation old → IfErr r (λ fault. StationPartFails fault clock old piece) → IfErr r (λ fault. PieceFails fault clock piece self failed)
station_part_fails clock piece failed old self (Ok news) is h = tt
station_part_fails clock piece failed old self (Err fault) is h = subst (λ (l : LiveNode). PieceFails fault clock piece l failed) (sym is) (station_fails fault clock old piece failed h)

pub drone_done : (call : Node → Outcome Node) (does : DroneSide → Outcome DroneSide) (old new : DroneView) (self : LiveNode) (r : Result (Vec News Global) NodeFault) → ((n : DroneSide) → call (Drone n) ≡ as_drone (does n)) → self ≡ LiveDrone old → IfOk r (λ news. (n : DroneSide) → IsDrone n old → Did (does n) (λ m. IsDrone m new) [] news.items) → IfOk r (λ news. (node : Node) → IsLive node self → Did (call node) (λ after. IsLive after (LiveDrone new)) [] news.items)
drone_done call does old new self (Err fault) same is did = tt
drone_done call does old new self (Ok news) same is did = λ node live. by_node node (subst (IsLive node) is live)
  where
    by_node : (node : Node) → IsLive node (LiveDrone old) → Did (call node) (λ after. IsLive after (LiveDrone new)) [] news.items
    by_node (Drone n) h = subst (λ (o : Outcome Node). Did o (λ after. IsLive after (LiveDrone new)) [] news.items) (sym (same n)) (did_as_drone (does n) new [] news.items (did n h))
    by_node (Station n) h = absurd h

pub station_done : (call : Node → Outcome Node) (does : StationSide → Outcome StationSide) (old new : StationView) (self : LiveNode) (r : Result (Vec News Global) NodeFault) → ((n : StationSide) → call (Station n) ≡ as_station (does n)) → self ≡ LiveStation old → IfOk r (λ news. (n : StationSide) → IsStation n old → Did (does n) (λ m. IsStation m new) [] news.items) → IfOk r (λ news. (node : Node) → IsLive node self → Did (call node) (λ after. IsLive after (LiveStation new)) [] news.items)
station_done call does old new self (Err fault) same is did = tt
station_done call does old new self (Ok news) same is did = λ node live. by_node node (subst (IsLive node) is live)
  where
    by_node : (node : Node) → IsLive node (LiveStation old) → Did (call node) (λ after. IsLive after (LiveStation new)) [] news.items
    by_node (Drone n) h = absurd h
    by_node (Station n) h = subst (λ (o : Outcome Node). Did o (λ after. IsLive after (LiveStation new)) [] news.items) (sym (same n)) (did_as_station (does n) new [] news.items (did n h))

pub station_rests : (call : Node → Outcome Node) (old : StationView) (self : LiveNode) (news : List News) → ((n : StationSide) → call (Station n) ≡ done (Station n) []) → self ≡ LiveStation old → news ≡ [] → (node : Node) → IsLive node self → Did (call node) (λ after. IsLive after (LiveStation old)) [] news
station_rests call old self news same is none node live = by_node node (subst (IsLive node) is live)
  where
    by_node : (node : Node) → IsLive node (LiveStation old) → Did (call node) (λ after. IsLive after (LiveStation old)) [] news
    by_node (Drone n) h = absurd h
    by_node (Station n) h = subst (λ (o : Outcome Node). Did o (λ after. IsLive after (LiveStation old)) [] news) (sym (same n)) (h, ap events_of none)
