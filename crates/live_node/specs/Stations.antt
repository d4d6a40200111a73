-- The run of a station on a port: one order, until it has its end or no more time is left for it.
use Rattle.std.specs.Prelude.{ℕ, ◌≡◌, ◌≤◌, ◌⊎◌, nat_lt, if◌then◌else◌, true, false, List, [], ◌∷◌, ◌++◌, length}
use Rattle.std.specs.Prelude.{Option, Some, None, Ok, Err}
use Rattle.std.specs.declared.result.Result.{Result}
use Rattle.std.specs.Result.{result_err}
use Rattle.mav_names.specs.declared.names.Stream.{Stream}
use Rattle.mav_ports.specs.Gets.{IsSpent}
use Rattle.mav_links.specs.Links.{LinkState}
use Rattle.plan_store.specs.MemStores.{MemStore, store_from_start}
use Rattle.mav_nodes.specs.declared.orders.Order.{Order}
use Rattle.mav_nodes.specs.News.{NodeEvent}
use Rattle.mav_nodes.specs.Links.{done}
use Rattle.mav_nodes.specs.Nodes.{new_station}
use Rattle.node_reports.specs.Nodes.{Node, Station}
use Rattle.run_status.specs.declared.input_errors.Place.TheVariants.{Operation}
use Rattle.run_status.specs.declared.input_errors.Reason.TheVariants.{Refused as RefusedReason}
use Rattle.run_status.specs.declared.input_errors.InputError.TheVariants.{Bad, StampsSpent}
use Rattle.run_status.specs.declared.live_ends.LiveEnd.TheVariants.{RefusedWith, NoAnswer, PortTurns, PortFault}
use Rattle.run_status.specs.declared.run_ends.RunEnd.{RunEnd}
use Rattle.run_status.specs.declared.run_ends.RunEnd.TheVariants.{Stopped, WriteFault, NoMemory, Live}
use Rattle.live_node.specs.declared.stations.StationPlan.{StationPlan}
use Rattle.live_node.specs.declared.run_log.Ending.{Ending}
use Rattle.live_node.specs.declared.run_log.Ending.TheVariants.{Done, Refused, Unanswered}
use Rattle.live_node.specs.Calls.{LiveCall, Beats, Obeys, calls_do, ticks_over, IsTime}
use Rattle.live_node.specs.Turns.{Turn, Rest, calls_of, last_calls}
use Rattle.live_node.specs.Texts.{ending_over}
use Rattle.live_node.specs.Ports.{PrintedBy}
use Rattle.live_node.specs.Runs.{Outside, Stores, LiveRun}
use Rattle.live_node.specs.Drones.{mem_stores}
use Rattle.live_node.specs.Orders.{node_refuses, refused_end}

-- how a run ends, if it does: by the end of its operation, with the bytes that this gave, or after so many ticks
-- without one
abbrev pub verdict : (most passed : ℕ) → Option Ending → Option (Result (List ℕ) RunEnd)
verdict most passed (Some (Done bytes)) = Some (Ok bytes)
verdict most passed (Some (Refused code)) = Some (Err (Live (RefusedWith code)))
verdict most passed (Some Unanswered) = Some (Err (Live (NoAnswer 5)))
verdict most passed None = if nat_lt passed most then None else Some (Err (Live (NoAnswer most)))

-- without one, all turns were taken
abbrev pub judged : StationPlan → Option (Result (List ℕ) RunEnd) → Result (List ℕ) RunEnd
judged plan None = Err (Live (PortTurns plan.turns))
judged plan (Some said) = said

-- after these calls it doesn't end yet
pub record Awaits (most : ℕ) (start : Node) (calls : List LiveCall) : Type 0 where
  pub node : Node
  pub events : List NodeEvent
  pub run : calls_do calls start ≡ done node events
  pub undecided : verdict most (ticks_over 0 calls) (ending_over None events) ≡ None

-- nor did it before the last turn, or the last time that passed after the port's end
pub record AwaitedBefore (most : ℕ) (start : Node) (opening : List LiveCall) (turns : List Turn)
    (rests : List Rest) : Type 0 where
  pub early : List LiveCall
  pub are : early ++ last_calls opening turns rests ≡ calls_of opening turns rests
  pub awaits : Awaits most start early

abbrev pub Awaited : ℕ → Node → List LiveCall → List Turn → List Rest → Type 0
Awaited most start opening [] [] = Unit {0}
Awaited most start opening (turn ∷ turns) rests = AwaitedBefore most start opening (turn ∷ turns) rests
Awaited most start opening [] (r ∷ rests) = AwaitedBefore most start opening [] (r ∷ rests)

-- a station's opening is a heartbeat, and then its order
pub record IsOrdered (order : Order) (calls : List LiveCall) : Type 0 where
  pub beat : ℕ
  pub at : ℕ
  pub are : calls ≡ Beats beat ∷ Obeys order at ∷ []

-- time passes after the port's end, where it has ended and nothing is left of it
abbrev pub HasEnded : LinkState → Type 0
HasEnded link = (link.ended ≡ true) × IsSpent link.left

-- why a run ends: 0, 8 and 9 by the verdict, and 11 without one after so many reads
abbrev pub StationEnds : StationPlan → Result (List ℕ) RunEnd → List Turn → Option (Result (List ℕ) RunEnd) → Type 0
StationEnds plan (Ok bytes) turns said = said ≡ Some (Ok bytes)
StationEnds plan (Err (Live (RefusedWith code))) turns said = said ≡ Some (Err (Live (RefusedWith code)))
StationEnds plan (Err (Live (NoAnswer ticks))) turns said = said ≡ Some (Err (Live (NoAnswer ticks)))
StationEnds plan (Err (Live (PortTurns most))) turns said = (said ≡ None) × (most ≡ plan.turns) × (length turns ≡ most)
StationEnds plan other turns said = Unit {0}

-- and no other end comes
abbrev pub IsStationEnd : RunEnd → Type 0
IsStationEnd (Stopped StampsSpent) = Unit {0}
IsStationEnd (Stopped (Bad Operation RefusedReason)) = Unit {0}
IsStationEnd WriteFault = Unit {0}
IsStationEnd NoMemory = Unit {0}
IsStationEnd (Live (RefusedWith code)) = Unit {0}
IsStationEnd (Live (NoAnswer ticks)) = Unit {0}
IsStationEnd (Live (PortTurns turns)) = Unit {0}
IsStationEnd (Live PortFault) = Unit {0}
IsStationEnd other = ⊥

-- how it ends in its order: it is refused, or the run is cut off
abbrev pub IsOrderEnd : RunEnd → Type 0
IsOrderEnd (Stopped StampsSpent) = Unit {0}
IsOrderEnd (Stopped (Bad Operation RefusedReason)) = Unit {0}
IsOrderEnd WriteFault = Unit {0}
IsOrderEnd NoMemory = Unit {0}
IsOrderEnd (Live PortFault) = Unit {0}
IsOrderEnd other = ⊥

-- and in its wait
abbrev pub IsWaitedEnd : RunEnd → Type 0
IsWaitedEnd (Stopped StampsSpent) = Unit {0}
IsWaitedEnd WriteFault = Unit {0}
IsWaitedEnd NoMemory = Unit {0}
IsWaitedEnd (Live end) = Unit {0}
IsWaitedEnd other = ⊥

-- the order was refused, exactly if the station refuses it: after the heartbeat nothing was done
pub record OrderJudged (start : Node) (order : Order) (end : Option RunEnd) (made : List LiveCall) : Type 0 where
  pub refused : end ≡ Some refused_end → (node_refuses start order ≡ true) × (length made ≡ 1)
  pub accepted : 2 ≤ length made → node_refuses start order ≡ false

-- the run of a station that has started, up to the bytes that its operation gave
pub record StationLived {S : Type 0} (stores : Stores S) (before after : S) (plan : StationPlan) (order : Order)
    (start : Node) (ended : Result (List ℕ) RunEnd) (first last : Outside) : Type 0 where
  pub run : LiveRun stores before after (IsOrdered order) HasEnded start (result_err ended) first last
  pub within : length run.turns ≤ plan.turns
  pub ends : StationEnds plan ended run.turns
      (verdict plan.ticks (ticks_over 0 run.at.made) (ending_over None run.at.written.events))
  pub awaited : Awaited plan.ticks start run.opening run.turns run.rests
  pub judged : OrderJudged start order (result_err ended) run.at.made

-- the bytes of an operation are written behind all lines, and then the run is done; or the output failed, with a
-- prefix of them
abbrev pub IsGivingEnd : Option RunEnd → Type 0
IsGivingEnd None = Unit {0}
IsGivingEnd (Some WriteFault) = Unit {0}
IsGivingEnd other = ⊥

pub record GivesBytes (bytes : List ℕ) (end : Option RunEnd) (told last : Outside) : Type 0 where
  pub is_end : IsGivingEnd end
  pub printed : PrintedBy end told.text last.text bytes
  pub link : last.link ≡ told.link
  pub time : last.time ≡ told.time

-- a run that has ended otherwise writes nothing more
abbrev pub Gives : Result (List ℕ) RunEnd → Option RunEnd → (told last : Outside) → Type 0
Gives (Ok bytes) end told last = GivesBytes bytes end told last
Gives (Err other) end told last = (end ≡ Some other) × (last ≡ told)

-- its stream
abbrev pub stream_asked : StationPlan → Stream
stream_asked plan = record { sys = plan.sys; comp = plan.comp; link = 0 }

-- a station started with a boot time by the clock, and ran; it stores nothing. After its lines come the bytes that its
-- operation gave
pub record StationRan (key : List ℕ) (plan : StationPlan) (order : Order) (end : Option RunEnd)
    (first last : Outside) : Type 0 where
  pub boot : ℕ
  pub timed : IsTime first.time boot
  pub after : MemStore
  pub ended : Result (List ℕ) RunEnd
  pub told : Outside
  pub lived : StationLived mem_stores (store_from_start [] []) after plan order
      (Station (new_station key (stream_asked plan) boot)) ended first told
  pub gives : Gives ended end told last

-- or there was no memory for it: nothing was read or written
pub record StationUnstarted (end : Option RunEnd) (first last : Outside) : Type 0 where
  pub end_is : end ≡ Some NoMemory
  pub same : last ≡ first

abbrev pub StationRuns : List ℕ → StationPlan → Order → Option RunEnd → (first last : Outside) → Type 0
StationRuns key plan order end first last = StationRan key plan order end first last ⊎ StationUnstarted end first last
