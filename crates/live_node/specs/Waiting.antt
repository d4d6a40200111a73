-- How far the run of a station is: its order, and its wait for the order's end.
use Rattle.std.specs.Prelude.{ℕ, ◌≡◌, ◌≤◌, Bool, true, false, List, [], ◌∷◌, ◌++◌, length, Some, None}
use Rattle.std.specs.declared.result.Result.{Result}
use Rattle.std.specs.Result.{result_err}
use Rattle.mav_nodes.specs.declared.orders.Order.{Order}
use Rattle.node_reports.specs.Nodes.{Node}
use Rattle.run_status.specs.declared.run_ends.RunEnd.{RunEnd}
use Rattle.live_node.specs.declared.nodes.LiveNode.{LiveNode}
use Rattle.live_node.specs.declared.stations.StationPlan.{StationPlan}
use Rattle.live_node.specs.declared.run_log.RunLog.{RunLog}
use Rattle.live_node.specs.Calls.{LiveCall, Obeys, IsTime, ticks_over}
use Rattle.live_node.specs.Turns.{Turn, Rest}
use Rattle.live_node.specs.Texts.{ending_over}
use Rattle.live_node.specs.Runs.{Outside, Stores, MayRest, RunAt, IsWhole}
use Rattle.live_node.specs.Orders.{node_refuses, refused_end}
use Rattle.live_node.specs.Progress.{Output, Between, CallsStopped, PortEnded}
use Rattle.live_node.specs.Stations.{verdict, Awaited, HasEnded, StationEnds}

-- the order was followed by a node that was so
pub record OrderDone {S : Type 0} (stores : Stores S) (before now : S) (start : Node) (made : List LiveCall)
    (was : Node) (order : Order) (live : LiveNode) (run_log : RunLog) (first last : Outside) : Type 0 where
  pub at : ℕ
  pub timed : IsTime first.time at
  pub accepted : node_refuses was order ≡ false
  pub output : Output stores before now start (made ++ Obeys order at ∷ []) live run_log first last

-- or the run stopped at it
pub record OrderStopped {S : Type 0} (stores : Stores S) (before now : S) (end : RunEnd) (start : Node)
    (made : List LiveCall) (was : Node) (order : Order) (first last : Outside) : Type 0 where
  pub at : ℕ
  pub timed : IsTime first.time at
  pub stopped : CallsStopped stores before now end start made (Obeys order at ∷ []) first last
  pub refused : end ≡ refused_end → (node_refuses was order ≡ true) × (stopped.more ≡ [])
  pub accepted : 1 ≤ length stopped.more → node_refuses was order ≡ false

-- the turns of a wait were taken: up to the verdict, or all of them
pub record WatchDone {S : Type 0} (stores : Stores S) (before now : S) (plan : StationPlan) (start : Node)
    (opening : List LiveCall) (live : LiveNode) (run_log : RunLog) (first last : Outside) : Type 0 where
  pub turns : List Turn
  pub between : Between stores before now start opening turns [] live run_log first last
  pub awaited : Awaited plan.ticks start opening turns []
  pub within : length turns ≤ plan.turns
  pub number : verdict plan.ticks run_log.ticks run_log.ending ≡ None → length turns ≡ plan.turns

-- the port has ended before
pub record WatchEnded {S : Type 0} (stores : Stores S) (before now : S) (plan : StationPlan) (start : Node)
    (opening : List LiveCall) (live : LiveNode) (run_log : RunLog) (first last : Outside) : Type 0 where
  pub turns : List Turn
  pub within : length turns ≤ plan.turns
  pub ended : PortEnded stores before now start opening turns [] live run_log first last
  pub awaited : Awaited plan.ticks start opening turns []

abbrev pub Watched : Bool → {S : Type 0} → Stores S → (before now : S) → StationPlan → Node → List LiveCall → LiveNode
    → RunLog → (first last : Outside) → Type 0
Watched true stores before now plan start opening live run_log first last =
    WatchDone stores before now plan start opening live run_log first last
Watched false stores before now plan start opening live run_log first last =
    WatchEnded stores before now plan start opening live run_log first last

-- or the run stopped
pub record WatchStopped {S : Type 0} (stores : Stores S) (before now : S) (end : RunEnd) (plan : StationPlan)
    (start : Node) (opening : List LiveCall) (first last : Outside) : Type 0 where
  pub turns : List Turn
  pub within : length turns ≤ plan.turns
  pub stopped : RunAt stores before now start (Some end) opening turns [] first last
  pub awaited : Awaited plan.ticks start opening turns []

-- time passed after the port's end, up to the verdict
pub record Outlasted {S : Type 0} (stores : Stores S) (before now : S) (most : ℕ) (start : Node)
    (opening : List LiveCall) (turns : List Turn) (live : LiveNode) (run_log : RunLog)
    (first last : Outside) : Type 0 where
  pub rests : List Rest
  pub ended : PortEnded stores before now start opening turns rests live run_log first last
  pub awaited : Awaited most start opening turns rests
  pub over : verdict most run_log.ticks run_log.ending ≡ None → ⊥

-- or the run stopped
pub record OutlastStopped {S : Type 0} (stores : Stores S) (before now : S) (end : RunEnd) (most : ℕ) (start : Node)
    (opening : List LiveCall) (turns : List Turn) (first last : Outside) : Type 0 where
  pub rests : List Rest
  pub stopped : RunAt stores before now start (Some end) opening turns rests first last
  pub ended : HasEnded last.link
  pub awaited : Awaited most start opening turns rests

-- the wait is over
pub record WaitedFor {S : Type 0} (stores : Stores S) (before now : S) (plan : StationPlan) (start : Node)
    (opening : List LiveCall) (ended : Result (List ℕ) RunEnd) (first last : Outside) : Type 0 where
  pub turns : List Turn
  pub within : length turns ≤ plan.turns
  pub rests : List Rest
  pub rested : MayRest (HasEnded last.link) rests
  pub at : RunAt stores before now start (result_err ended) opening turns rests first last
  pub whole : IsWhole (result_err ended) at.rest
  pub ends : StationEnds plan ended turns (verdict plan.ticks (ticks_over 0 at.made)
      (ending_over None at.written.events))
  pub awaited : Awaited plan.ticks start opening turns rests
