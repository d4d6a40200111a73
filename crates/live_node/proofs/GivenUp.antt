-- What a node leaves in its store that is given up.
use Rattle.std.proofs.Common.{◌≡◌, ℕ, Bool, List, [], ◌∷◌, ◌++◌, Option, Result, Ok, Err, inl, refl, sym, ap, subst}
use Rattle.std.specs.Prelude.{IfErr}
use Rattle.std.specs.List.{flat_map}
use Rattle.mav_frame.specs.declared.events.Event.{Event}
use Rattle.mav_sign.specs.Endpoints.{frames_of}
use Rattle.mav_nodes.specs.LowBounds.{stored_low}
use Rattle.mav_nodes.specs.Stores.{Holds, HoldsFrom}
use Rattle.mav_nodes.specs.Streams.{HasRead, GrowsBy}
use Rattle.mav_nodes.specs.Images.{IsStored, StoreHolds, StoreHoldsFrom}
use Rattle.mav_nodes.specs.GivenUp.{DroneGivenUp}
use Rattle.mav_nodes.specs.Nodes.{DroneSide, DroneView, IsDrone, StationView}
use Rattle.plan_upload.specs.Drone.{DroneState}
use Rattle.node_reports.specs.Nodes.{Node, Drone, Station}
use Rattle.live_node.specs.declared.nodes.LiveNode.{LiveNode}
use Rattle.live_node.specs.declared.nodes.LiveNode.TheVariants.{Drone as LiveDrone, Station as LiveStation}
use Rattle.live_node.specs.Nodes.{IsLive, IsKeptBy}
use Rattle.live_node.specs.Calls.{LiveCall}
use Rattle.live_node.specs.Turns.{Turn, Reads, Waits, Breaks, turn_bytes, turn_events, IsHeard, AllHeard, Rest}
use Rattle.live_node.specs.GivenUp.{StoreIs, CallLeaves, PieceLeaves}
use Rattle.live_node.specs.Runs.{Stores, LastTurn, LeavesAt, LeavesIn}

-- ---- by the result of a call

-- what a view's store has, is what the drone has stored
left_of : (contents : Option (List ℕ)) (view : DroneView) (node : Node) (call : LiveCall) → StoreHoldsFrom contents view → IsLive node (LiveDrone view) → CallLeaves contents node (call ∷ [])
left_of contents view (Drone n) call h is =
    subst (λ (low : Option ℕ). HoldsFrom contents (IsStored n.core) low) is.link.low
    (subst (λ (core : DroneState). HoldsFrom contents (IsStored core) view.link.low) is.core h)
left_of contents view (Station n) call h is = tt

pub drone_left : {A E : Type 0} (before now : Option (List ℕ)) (view : DroneView) (self : LiveNode) (r : Result A E) → self ≡ LiveDrone view → IfErr r (λ _. StoreHolds before view → StoreHoldsFrom now view)
    → IfErr r (λ _. IsKeptBy before self → (node : Node) (call : LiveCall) → IsLive node self → CallLeaves now node (call ∷ []))
drone_left before now view self (Ok a) is h = tt
drone_left before now view self (Err e) is h = λ kept node call live. left_of now view node call (h (subst (IsKeptBy before) is kept)) (subst (IsLive node) is live)

station_leaves : (contents : Option (List ℕ)) (view : StationView) (node : Node) (call : LiveCall) → IsLive node (LiveStation view) → CallLeaves contents node (call ∷ [])
station_leaves contents view (Drone n) call is = absurd is
station_leaves contents view (Station n) call is = tt

pub station_left : {A E : Type 0} (before now : Option (List ℕ)) (view : StationView) (self : LiveNode) (r : Result A E) → self ≡ LiveStation view → IfErr r (λ _. IsKeptBy before self → (node : Node) (call : LiveCall) → IsLive node self → CallLeaves now node (call ∷ []))
station_left before now view self (Ok a) is = tt
station_left before now view self (Err e) is = λ kept node call live. station_leaves now view node call (subst (IsLive node) is live)

pub order_left : {A E : Type 0} (view : StationView) (self : LiveNode) (r : Result A E) → self ≡ LiveStation view → IfErr r (λ _. (node : Node) (contents : Option (List ℕ)) (call : LiveCall) → IsLive node self → CallLeaves contents node (call ∷ []))
order_left view self (Ok a) is = tt
order_left view self (Err e) is = λ node contents call live. station_leaves contents view node call (subst (IsLive node) is live)

pub drone_piece_left : {A E : Type 0} (clock : ℕ) (piece : List ℕ) (kept : List Bool → Type 0) (before now : Option (List ℕ)) (view : DroneView) (self : LiveNode) (r : Result A E) → self ≡ LiveDrone view
    → IfErr r (λ _. StoreHolds before view → (node : DroneSide) (taken : List ℕ) (given events : List Event) → IsDrone node view → HasRead taken given view.link → GrowsBy view.link.endpoint.extras (taken ++ piece) given events → DroneGivenUp clock kept now (frames_of events) node)
    → IfErr r (λ _. IsKeptBy before self → PieceLeaves clock piece kept now self)
drone_piece_left clock piece kept before now view self (Ok a) is h = tt
drone_piece_left clock piece kept before now view self (Err e) is h = λ held. subst (PieceLeaves clock piece kept now) (sym is) (by_node (subst (IsKeptBy before) is held))
  where
    by_node : StoreHolds before view → PieceLeaves clock piece kept now (LiveDrone view)
    by_node held (Drone n) taken given events live read grows = h held n taken given events live read (subst (λ (extras : List (ℕ × ℕ)). GrowsBy extras (taken ++ piece) given events) (sym live.link.end.extras) grows)
    by_node held (Station n) taken given events live read grows = absurd live

pub station_piece_left : {A E : Type 0} (clock : ℕ) (piece : List ℕ) (kept : List Bool → Type 0) (before now : Option (List ℕ)) (view : StationView) (self : LiveNode) (r : Result A E) → self ≡ LiveStation view → IfErr r (λ _. IsKeptBy before self → PieceLeaves clock piece kept now self)
station_piece_left clock piece kept before now view self (Ok a) is = tt
station_piece_left clock piece kept before now view self (Err e) is = λ held. subst (PieceLeaves clock piece kept now) (sym is) by_node
  where
    by_node : PieceLeaves clock piece kept now (LiveStation view)
    by_node (Drone n) taken given events live read grows = absurd live
    by_node (Station n) taken given events live read grows = tt

-- ---- calls that are no longer made

-- the store of a node that wasn't given up
whole_leaves : (contents : Option (List ℕ)) (node : Node) (rest : List LiveCall) → StoreIs contents node → CallLeaves contents node rest
whole_leaves contents node [] s = s
whole_leaves contents (Station n) (call ∷ rest) s = tt
whole_leaves contents (Drone n) (call ∷ rest) s = by_live s.live s.is s.kept
  where
    by_live : (live : LiveNode) → IsLive (Drone n) live → IsKeptBy contents live → HoldsFrom contents (IsStored n.core) (stored_low n.link.history)
    by_live (LiveStation v) is kept = absurd is
    by_live (LiveDrone v) is kept =
        inl (subst (λ (low : Option ℕ). Holds contents (IsStored n.core) low) is.link.low (subst (λ (core : DroneState). Holds contents (IsStored core) v.link.low) is.core kept))

pub leaves_more : (contents : Option (List ℕ)) (node : Node) (rest more : List LiveCall) → CallLeaves contents node rest → CallLeaves contents node (rest ++ more)
leaves_more contents node [] more h = whole_leaves contents node more h
leaves_more contents (Drone n) (call ∷ rest) more h = h
leaves_more contents (Station n) (call ∷ rest) more h = tt

-- ---- turns

module _ {S : Type 0} (stores : Stores S) (before now : S) (extras : List (ℕ × ℕ)) (made : List LiveCall) (node : Node) where
  pub read_leaves : (taken : List ℕ) (given : List Event) (piece : List ℕ) (events : List Event) (keeps : List Bool) (at : ℕ) (rest : List LiveCall) → CallLeaves (stores.contents now) node rest → LeavesAt stores before now extras taken given (Reads piece events keeps at) made node rest
  read_leaves taken given piece events keeps at [] h = h
  read_leaves taken given piece events keeps at (call ∷ rest) h = h

  pub wait_leaves : (taken : List ℕ) (given : List Event) (tick beat sim : ℕ) (rest : List LiveCall) → CallLeaves (stores.contents now) node rest → LeavesAt stores before now extras taken given (Waits tick beat sim) made node rest
  wait_leaves taken given tick beat sim [] h = h
  wait_leaves taken given tick beat sim (call ∷ rest) h = h

  pub left_in : (turns : List Turn) (turn : Turn) (rest : List LiveCall) → LeavesAt stores before now extras (flat_map turn_bytes turns) (flat_map turn_events turns) turn made node rest → LeavesIn stores before now extras (turns ++ turn ∷ []) [] made node rest
  left_in [] turn rest h = record { turn = turn; taken = []; given = []; last = record { before = []; are = refl; bytes = refl; events = refl }; left = h }
  left_in (x ∷ xs) turn rest h = record {
    turn = turn;
    taken = flat_map turn_bytes (x ∷ xs);
    given = flat_map turn_events (x ∷ xs);
    last = record { before = x ∷ xs; are = refl; bytes = refl; events = refl };
    left = h;
  }

  -- the last of turns that were all heard
  record HeardLast (turns : List Turn) : Type 0 where
    turn : Turn
    taken : List ℕ
    given : List Event
    last : LastTurn turns turn taken given
    heard : IsHeard turn

  last_heard : (turn : Turn) (turns : List Turn) → AllHeard (turn ∷ turns) → HeardLast (turn ∷ turns)
  last_heard turn [] all = record { turn = turn; taken = []; given = []; last = record { before = []; are = refl; bytes = refl; events = refl }; heard = all.0 }
  last_heard turn (next ∷ turns) all =
      let l = last_heard next turns all.1 in
      record {
        turn = l.turn;
        taken = turn_bytes turn ++ l.taken;
        given = turn_events turn ++ l.given;
        last = record {
          before = turn ∷ l.last.before;
          are = ap (λ (ts : List Turn). turn ∷ ts) l.last.are;
          bytes = ap (λ (bytes : List ℕ). turn_bytes turn ++ bytes) l.last.bytes;
          events = ap (λ (events : List Event). turn_events turn ++ events) l.last.events;
        };
        heard = l.heard;
      }

  heard_leaves : (taken : List ℕ) (given : List Event) (turn : Turn) → IsHeard turn → StoreIs (stores.contents now) node → LeavesAt stores before now extras taken given turn made node []
  heard_leaves taken given (Reads piece events keeps at) heard s = s
  heard_leaves taken given (Waits tick beat sim) heard s = s
  heard_leaves taken given (Breaks piece at) heard s = absurd heard

  -- no call is left
  pub over_leaves : (turns : List Turn) (rests : List Rest) → AllHeard turns → StoreIs (stores.contents now) node → LeavesIn stores before now extras turns rests made node []
  over_leaves turns (r ∷ rests) all s = s
  over_leaves [] [] all s = s
  over_leaves (turn ∷ turns) [] all s =
      let l = last_heard turn turns all in
      record { turn = l.turn; taken = l.taken; given = l.given; last = l.last; left = heard_leaves l.taken l.given l.turn l.heard s }
