-- What a live node's calls promise.
use Rattle.std.specs.Prelude.{ℕ, ◌≡◌, Bool, List, [], ◌++◌, None}
use Rattle.mav_frame.specs.declared.events.Event.{Event}
use Rattle.mav_sign.specs.Endpoints.{frames_of}
use Rattle.mav_nodes.specs.declared.faults.NodeFault.{NodeFault}
use Rattle.mav_nodes.specs.declared.faults.NodeFault.TheVariants.{StampsSpent, Store, NoMemory}
use Rattle.mav_nodes.specs.declared.news.News.{News}
use Rattle.mav_nodes.specs.Links.{Outcome}
use Rattle.mav_nodes.specs.Promises.{Did}
use Rattle.mav_nodes.specs.Streams.{GrowsBy}
use Rattle.node_reports.specs.Nodes.{Node}
use Rattle.live_node.specs.declared.nodes.LiveNode.{LiveNode}
use Rattle.live_node.specs.Nodes.{IsLive, HasHeard, end_of}
use Rattle.live_node.specs.Calls.{extras_at, node_hears}

-- it heard a piece, up to these bytes of its stream; its store may not keep what is saved
pub record PieceHeard (clock : ℕ) (node : Node) (taken : List ℕ) (given : List Event) (kept : List Bool → Type 0)
    (live : LiveNode) (news : List News) : Type 0 where
  pub events : List Event
  pub same : (end_of live).endpoint.extras ≡ extras_at node
  pub grows : GrowsBy (extras_at node) taken given events
  pub heard : HasHeard taken (given ++ events) live
  pub keeps : List Bool
  pub is_kept : kept keeps
  pub did : Did (node_hears clock keeps (frames_of events) node) (λ after. IsLive after live) [] news

-- a call fails: for want of a timestamp if what it does needs one that isn't there, and by the store if a call of the
-- store has failed
abbrev pub CallFails : NodeFault → Outcome Node → Type 0 → Type 0
CallFails StampsSpent outcome failed = outcome ≡ None
CallFails Store outcome failed = failed
CallFails NoMemory outcome failed = Unit {0}

-- the same of a piece, whose frames are those of the parse
abbrev pub PieceFails : NodeFault → ℕ → List ℕ → LiveNode → Type 0 → Type 0
PieceFails StampsSpent clock piece live failed =
    (node : Node) (taken : List ℕ) (given events : List Event) → IsLive node live → HasHeard taken given live
    → GrowsBy (extras_at node) (taken ++ piece) given events
    → (keeps : List Bool) × (node_hears clock keeps (frames_of events) node ≡ None)
PieceFails Store clock piece live failed = failed
PieceFails NoMemory clock piece live failed = Unit {0}
