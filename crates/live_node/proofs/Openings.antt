-- The whole run: an opening, turns, and an end.
use Rattle.std.proofs.Common.{◌≡◌, ◌≤◌, ◌<◌, ℕ, List, [], ◌∷◌, Option, Some, None, refl, arith}
use Rattle.std.specs.Prelude.{length}
use Rattle.mav_nodes.specs.declared.faults.StartFault.{StartFault}
use Rattle.mav_nodes.specs.declared.faults.StartFault.TheVariants.{Store, BadKept, NoMemory as NoStartMemory}
use Rattle.mav_nodes.specs.Nodes.{DroneSide}
use Rattle.node_reports.specs.Nodes.{Drone}
use Rattle.run_status.specs.declared.input_errors.InputError.TheVariants.{Bad, AtLimit, StampsSpent}
use Rattle.run_status.specs.declared.live_ends.LiveEnd.TheVariants.{RefusedWith, NoAnswer, StoreFault, PortTurns, PortFault}
use Rattle.run_status.specs.declared.run_ends.RunEnd.{RunEnd}
use Rattle.run_status.specs.declared.run_ends.RunEnd.TheVariants.{Usage, Stopped, ReadFault, WriteFault, NoMemory, TurnsSpent, Live}
use Rattle.live_node.specs.declared.nodes.LiveNode.{LiveNode}
use Rattle.live_node.specs.declared.run_log.RunLog.{RunLog}
use Rattle.live_node.specs.Calls.{LiveCall, Beats, IsTime}
use Rattle.live_node.specs.Turns.{Turn}
use Rattle.live_node.specs.Ports.{FaultsBy, SameRead, IsRunEnd}
use Rattle.live_node.specs.Runs.{Outside, Stores, IsWhole, RunAt}
use Rattle.live_node.specs.Progress.{Between, CallsStopped, PortEnded, TurnsTaken}
use Rattle.live_node.specs.Drones.{IsDroneEnd, DroneEnds, DroneLived, start_end}
use Rattle.live_node.proofs.Runs.{stopped_in_opening, run_over, still_self}

-- an end that isn't for want of calls
pub cut_off : (end : RunEnd) (rest : List LiveCall) → IsRunEnd end → IsWhole (Some end) rest
cut_off Usage rest h = absurd h
cut_off (Stopped error) rest h = tt
cut_off ReadFault rest h = absurd h
cut_off WriteFault rest h = tt
cut_off NoMemory rest h = tt
cut_off TurnsSpent rest h = absurd h
cut_off (Live (RefusedWith code)) rest h = absurd h
cut_off (Live (NoAnswer ticks)) rest h = absurd h
cut_off (Live StoreFault) rest h = tt
cut_off (Live (PortTurns turns)) rest h = absurd h
cut_off (Live PortFault) rest h = tt

pub drone_cut_off : (most : ℕ) (end : RunEnd) (turns : List Turn) (last : Outside) → IsRunEnd end → length turns ≤ most → DroneEnds most (Some end) turns last
drone_cut_off most Usage turns last h within = absurd h
drone_cut_off most (Stopped (Bad place reason)) turns last h within = absurd h
drone_cut_off most (Stopped (AtLimit limit)) turns last h within = absurd h
drone_cut_off most (Stopped StampsSpent) turns last h within = within
drone_cut_off most ReadFault turns last h within = absurd h
drone_cut_off most WriteFault turns last h within = within
drone_cut_off most NoMemory turns last h within = within
drone_cut_off most TurnsSpent turns last h within = absurd h
drone_cut_off most (Live (RefusedWith code)) turns last h within = absurd h
drone_cut_off most (Live (NoAnswer ticks)) turns last h within = absurd h
drone_cut_off most (Live StoreFault) turns last h within = within
drone_cut_off most (Live (PortTurns taken)) turns last h within = absurd h
drone_cut_off most (Live PortFault) turns last h within = within

pub drone_end : (most : ℕ) (end : RunEnd) → IsRunEnd end → IsDroneEnd most end
drone_end most Usage h = absurd h
drone_end most (Stopped (Bad place reason)) h = absurd h
drone_end most (Stopped (AtLimit limit)) h = absurd h
drone_end most (Stopped StampsSpent) h = tt
drone_end most ReadFault h = absurd h
drone_end most WriteFault h = tt
drone_end most NoMemory h = tt
drone_end most TurnsSpent h = absurd h
drone_end most (Live (RefusedWith code)) h = absurd h
drone_end most (Live (NoAnswer ticks)) h = absurd h
drone_end most (Live StoreFault) h = tt
drone_end most (Live (PortTurns turns)) h = absurd h
drone_end most (Live PortFault) h = tt

pub unstarted_end : (most : ℕ) (fault : StartFault) → IsDroneEnd most (start_end fault)
unstarted_end most Store = tt
unstarted_end most BadKept = tt
unstarted_end most NoStartMemory = tt

pub unstarted_counts : (fault : StartFault) (port out : ℕ) → FaultsBy (Some (start_end fault)) port port out out
unstarted_counts Store port out = (refl, refl)
unstarted_counts BadKept port out = (refl, refl)
unstarted_counts NoStartMemory port out = refl

-- a run that stopped in its first heartbeat
pub stopped_at_once : {S : Type 0} (stores : Stores S) (before now : S) (end : RunEnd) (most : ℕ) (start : DroneSide) (beat : ℕ) (first last : Outside) → IsRunEnd end → SameRead first.link last.link → IsTime first.time beat → CallsStopped stores before now end (Drone start) [] (Beats beat ∷ []) first last → DroneLived stores before now most start (Some end) first last
stopped_at_once stores before now end most start beat first last is read timed s = record {
  run = record {
    opening = Beats beat ∷ [];
    is_opening = (beat, refl);
    turns = [];
    rests = [];
    rested = tt;
    at = stopped_in_opening stores before now end (Drone start) (Beats beat ∷ []) first last read (timed, tt) s;
    whole = cut_off end s.rest is;
  };
  ends = drone_cut_off most end [] last is (omega arith);
}

-- one that stopped in a turn or at a read
pub stopped_later : {S : Type 0} (stores : Stores S) (before now : S) (end : RunEnd) (most : ℕ) (start : DroneSide) (beat : ℕ) (turns : List Turn) (first last : Outside) → IsRunEnd end → length turns ≤ most → RunAt stores before now (Drone start) (Some end) (Beats beat ∷ []) turns [] first last → DroneLived stores before now most start (Some end) first last
stopped_later stores before now end most start beat turns first last is within run = record {
  run = record {
    opening = Beats beat ∷ [];
    is_opening = (beat, refl);
    turns = turns;
    rests = [];
    rested = tt;
    at = run;
    whole = cut_off end run.rest is;
  };
  ends = drone_cut_off most end turns last is within;
}

-- one of which no call is left
pub drone_over : {S : Type 0} (stores : Stores S) (before now : S) (most : ℕ) (start : DroneSide) (end : Option RunEnd) (beat : ℕ) (turns : List Turn) (live : LiveNode) (t : RunLog) (first last : Outside) → (end ≡ Some (Stopped StampsSpent) → ⊥) → (end ≡ Some (Live StoreFault) → ⊥) → IsWhole end [] → DroneEnds most end turns last → Between stores before now (Drone start) (Beats beat ∷ []) turns [] live t first last → DroneLived stores before now most start end first last
drone_over stores before now most start end beat turns live t first last stamps store whole ends b = record {
  run = record {
    opening = Beats beat ∷ [];
    is_opening = (beat, refl);
    turns = turns;
    rests = [];
    rested = tt;
    at = run_over stores before now (Drone start) end (Beats beat ∷ []) turns [] live t first last last stamps store (still_self last) b;
    whole = whole;
  };
  ends = ends;
}

-- it took all its turns
pub turns_taken : {S : Type 0} (stores : Stores S) (before now : S) (start : DroneSide) (beat most : ℕ) (live : LiveNode) (t : RunLog) (first last : Outside) → TurnsTaken stores before now (Drone start) (Beats beat ∷ []) most live t first last → DroneLived stores before now most start (Some (Live (PortTurns most))) first last
turns_taken stores before now start beat most live t first last taken =
    drone_over stores before now most start (Some (Live (PortTurns most))) beat taken.turns live t first last stamps store refl (refl, taken.number) taken.between
  where
    stamps : ◌≡◌ {A = Option RunEnd} (Some (Live (PortTurns most))) (Some (Stopped StampsSpent)) → ⊥
    stamps e = cc

    store : ◌≡◌ {A = Option RunEnd} (Some (Live (PortTurns most))) (Some (Live StoreFault)) → ⊥
    store e = cc

-- its port has ended
pub port_ended : {S : Type 0} (stores : Stores S) (before now : S) (start : DroneSide) (beat most : ℕ) (turns : List Turn) (live : LiveNode) (t : RunLog) (first last : Outside) → length turns < most → PortEnded stores before now (Drone start) (Beats beat ∷ []) turns [] live t first last → DroneLived stores before now most start None first last
port_ended stores before now start beat most turns live t first last less ended =
    drone_over stores before now most start None beat turns live t first last stamps store refl (less, ended.ended, ended.spent) ended.between
  where
    stamps : ◌≡◌ {A = Option RunEnd} None (Some (Stopped StampsSpent)) → ⊥
    stamps e = cc

    store : ◌≡◌ {A = Option RunEnd} None (Some (Live StoreFault)) → ⊥
    store e = cc
