-- How far a run is: what came in over its turns, and what went out over its calls.
use Rattle.std.specs.Prelude.{ℕ, ◌≡◌, ◌≤◌, ◌<◌, ◌+◌, ◌⊎◌, Bool, true, false, List, [], ◌∷◌, ◌++◌, length, map, Option}
use Rattle.std.specs.Prelude.{Some, None}
use Rattle.std.specs.List.{flat_map}
use Rattle.std.specs.Option.{option_map}
use Rattle.std.specs.Io.KnownBytes.{append_known, prepend_known}
use Rattle.mav_frame.specs.declared.events.Event.{Event}
use Rattle.mav_ports.specs.Gets.{IsSpent}
use Rattle.mav_links.specs.Links.{LinkState, Pauses}
use Rattle.mav_sign.specs.Endpoints.{frames_of}
use Rattle.mav_nodes.specs.News.{NodeEvent, shown}
use Rattle.mav_nodes.specs.Links.{done}
use Rattle.mav_nodes.specs.Streams.{GrowsBy}
use Rattle.fleet_report.specs.Reports.{ReportState, with_text}
use Rattle.node_reports.specs.Nodes.{Node, node_name}
use Rattle.run_status.specs.declared.input_errors.InputError.TheVariants.{StampsSpent}
use Rattle.run_status.specs.declared.run_ends.RunEnd.{RunEnd}
use Rattle.run_status.specs.declared.run_ends.RunEnd.TheVariants.{Stopped}
use Rattle.live_node.specs.declared.nodes.LiveNode.{LiveNode}
use Rattle.live_node.specs.declared.nodes.Due.{Due}
use Rattle.live_node.specs.declared.nodes.Due.TheVariants.{Tick, Heartbeat, Sim}
use Rattle.live_node.specs.declared.run_log.RunLog.{RunLog}
use Rattle.live_node.specs.Nodes.{IsLive, HasHeard, IsKeptBy, end_of}
use Rattle.live_node.specs.Calls.{extras_at, LiveCall, Hears, Ticks, Beats, Flies, calls_do, IsTime, AreTimed}
use Rattle.live_node.specs.Calls.{ticks_with, ticks_over}
use Rattle.live_node.specs.Turns.{Turn, turn_calls, turn_bytes, turn_events, idles_with, pauses_with, idles_over}
use Rattle.live_node.specs.Turns.{pauses_over, ReadsOn, ReadFrom, IsPieceLength, AllHeard, Rest, calls_of, IsTurnTimed}
use Rattle.live_node.specs.Texts.{frames_text, lines_of, count_over, ending_over, tells}
use Rattle.live_node.specs.Ports.{SentBy, SentDespite, PrintedBy}
use Rattle.live_node.specs.Runs.{Outside, Stores, Kept, Written, Timed, IsSpentAt, IsSpentCall, GivesUp, LeavesAt}
use Rattle.live_node.specs.Runs.{LastHeard, RunAt}
use Rattle.live_node.specs.GivenUp.{CallLeaves}

-- the lines of a call's news were written; or it stopped so
pub record Prints (end : Option RunEnd) (events : List NodeEvent) (old new : RunLog)
    (text_old text_new : Option (List ℕ)) : Type 0 where
  pub printed : PrintedBy end text_old text_new (lines_of old.name old.sent events)
  pub told : end ≡ None → new ≡ tells old events

-- what a call's news led to: its frames were written, and its lines; or it stopped so
pub record Said (end : Option RunEnd) (events : List NodeEvent) (old new : RunLog) (link_old link_new : LinkState)
    (text_old text_new : Option (List ℕ)) : Type 0 where
  pub sent : SentBy end link_old.sent link_new.sent (frames_text (map shown events))
  pub despite : SentDespite end link_old link_new (frames_text (map shown events))
  pub printed : PrintedBy end text_old text_new (lines_of old.name old.sent events)
  pub told : end ≡ None → new ≡ tells old events

-- a report has the lines of these events more, and the run_log has told them
pub record Tells (events : List NodeEvent) (old new : RunLog) (before after : ReportState) : Type 0 where
  pub told : new ≡ tells old events
  pub silent : before.frames ≡ false → after ≡ with_text before (lines_of old.name old.sent events)

-- a report has them alone
pub record TellsAll (events : List NodeEvent) (old new : RunLog) (report : ReportState) : Type 0 where
  pub told : new ≡ tells old events
  pub text : report.text ≡ lines_of old.name old.sent events

-- the call that is due
abbrev pub due_call : Due → ℕ → LiveCall
due_call Tick at = Ticks at
due_call Heartbeat at = Beats at
due_call Sim at = Flies at

-- the run_log after it counted a call, if that was a tick
abbrev pub counted : LiveCall → RunLog → RunLog
counted call t = record t { ticks = ticks_with t.ticks call }

-- what came in: the turns are so read, and the node is after their bytes
pub record Input (extras : List (ℕ × ℕ)) (turns : List Turn) (live : LiveNode) (first now : LinkState) : Type 0 where
  pub read : ReadFrom extras [] [] turns
  pub all : AllHeard turns
  pub heard : HasHeard (flat_map turn_bytes turns) (flat_map turn_events turns) live
  pub same : (end_of live).endpoint.extras ≡ extras
  pub left : first.left ≡ prepend_known (flat_map turn_bytes turns) now.left
  pub idles : now.idles ≡ idles_over turns first.idles
  pub pauses : now.pauses ≡ option_map (pauses_over turns) first.pauses

-- what went out: after these calls the node is so, and all their frames and lines were written
pub record Output {S : Type 0} (stores : Stores S) (before now : S) (start : Node) (made : List LiveCall)
    (live : LiveNode) (run_log : RunLog) (first last : Outside) : Type 0 where
  pub node : Node
  pub events : List NodeEvent
  pub run : calls_do made start ≡ done node events
  pub is : IsLive node live
  pub name : run_log.name ≡ node_name start
  pub count : run_log.sent ≡ count_over 0 events
  pub ending : run_log.ending ≡ ending_over None events
  pub ticks : run_log.ticks ≡ ticks_over 0 made
  pub faults : last.link.faults ≡ first.link.faults
  pub sent : last.link.sent ≡ append_known first.link.sent (frames_text (map shown events))
  pub printed : last.text ≡ append_known first.text (lines_of (node_name start) 0 events)
  pub time : last.time ≡ first.time
  pub kept : Kept stores before now made
  pub stored : IsKeptBy (stores.contents now) live

-- between two turns, or between two times that pass after the port's end
pub record Between {S : Type 0} (stores : Stores S) (before now : S) (start : Node) (opening : List LiveCall)
    (turns : List Turn) (rests : List Rest) (live : LiveNode) (run_log : RunLog) (first last : Outside) : Type 0 where
  pub timed : Timed first.time opening turns rests
  pub input : Input (extras_at start) turns live first.link last.link
  pub output : Output stores before now start (calls_of opening turns rests) live run_log first last

-- calls were made in part
pub record CallsStopped {S : Type 0} (stores : Stores S) (before now : S) (end : RunEnd) (start : Node)
    (made calls : List LiveCall) (first last : Outside) : Type 0 where
  pub more : List LiveCall
  pub rest : List LiveCall
  pub are : more ++ rest ≡ calls
  pub written : Written stores before now (Some end) start (made ++ more) first last
  pub spent : end ≡ Stopped StampsSpent → IsSpentCall written.node rest
  pub leaves : GivesUp (Some end) → CallLeaves (stores.contents now) written.node rest

-- the calls of a turn were made in part
pub record TurnStopped {S : Type 0} (stores : Stores S) (before now : S) (end : RunEnd) (extras : List (ℕ × ℕ))
    (taken : List ℕ) (given : List Event) (start : Node) (made : List LiveCall) (turn : Turn)
    (first last : Outside) : Type 0 where
  pub more : List LiveCall
  pub rest : List LiveCall
  pub calls : more ++ rest ≡ turn_calls turn
  pub written : Written stores before now (Some end) start (made ++ more) first last
  pub spent : end ≡ Stopped StampsSpent → IsSpentAt extras taken given turn written.node rest
  pub leaves : GivesUp (Some end) → LeavesAt stores before now extras taken given turn (made ++ more) written.node rest

-- a turn that read this piece
pub record IsPiece (piece : List ℕ) (turn : Turn) : Type 0 where
  pub bytes : turn_bytes turn ≡ piece
  pub idles : (count : ℕ) → idles_with turn count ≡ count
  pub pauses : (p : Pauses) → pauses_with turn p ≡ record p { given = p.given + length piece }

-- a piece was heard, and all written
pub record HeardPiece {S : Type 0} (stores : Stores S) (before now : S) (extras : List (ℕ × ℕ)) (start : Node)
    (made : List LiveCall) (taken : List ℕ) (given : List Event) (live : LiveNode) (run_log : RunLog)
    (first last : Outside) : Type 0 where
  pub clock : ℕ
  pub timed : IsTime first.time clock
  pub events : List Event
  pub keeps : List Bool
  pub grows : GrowsBy extras taken given events
  pub heard : HasHeard taken (given ++ events) live
  pub same : (end_of live).endpoint.extras ≡ extras
  pub output : Output stores before now start
      (made ++ Hears (frames_of events) keeps clock ∷ []) live run_log first last

-- a piece was heard in part, or the node was given up there; and then the run stopped
pub record PieceStopped {S : Type 0} (stores : Stores S) (before now : S) (end : RunEnd) (extras : List (ℕ × ℕ))
    (taken : List ℕ) (given : List Event) (piece : List ℕ) (start : Node) (made : List LiveCall)
    (first last : Outside) : Type 0 where
  pub turn : Turn
  pub timed : IsTurnTimed first.time turn
  pub reads : ReadsOn extras taken given turn
  pub piece_is : IsPiece piece turn
  pub heard : IsPieceLength (length piece) → LastHeard (Some end) turn
  pub stopped : TurnStopped stores before now end extras taken given start made turn first last

-- a call that is due was made, or the run stopped in it
pub record CallDone {S : Type 0} (stores : Stores S) (before now : S) (start : Node) (made : List LiveCall)
    (call : ℕ → LiveCall) (live : LiveNode) (run_log : RunLog) (first last : Outside) : Type 0 where
  pub at : ℕ
  pub timed : IsTime first.time at
  pub output : Output stores before now start (made ++ call at ∷ []) live run_log first last

pub record CallStopped {S : Type 0} (stores : Stores S) (before now : S) (end : RunEnd) (start : Node)
    (made : List LiveCall) (call : ℕ → LiveCall) (first last : Outside) : Type 0 where
  pub at : ℕ
  pub timed : IsTime first.time at
  pub stopped : CallsStopped stores before now end start made (call at ∷ []) first last

-- all calls of a wait were made, or some of them
pub record WaitDone {S : Type 0} (stores : Stores S) (before now : S) (start : Node) (made : List LiveCall)
    (live : LiveNode) (run_log : RunLog) (first last : Outside) : Type 0 where
  pub tick : ℕ
  pub beat : ℕ
  pub sim : ℕ
  pub timed : AreTimed first.time (Ticks tick ∷ Beats beat ∷ Flies sim ∷ [])
  pub output : Output stores before now start
      (made ++ Ticks tick ∷ Beats beat ∷ Flies sim ∷ []) live run_log first last

pub record WaitStopped {S : Type 0} (stores : Stores S) (before now : S) (end : RunEnd) (start : Node)
    (made : List LiveCall) (first last : Outside) : Type 0 where
  pub tick : ℕ
  pub beat : ℕ
  pub sim : ℕ
  pub timed : AreTimed first.time (Ticks tick ∷ Beats beat ∷ Flies sim ∷ [])
  pub stopped : CallsStopped stores before now end start made (Ticks tick ∷ Beats beat ∷ Flies sim ∷ []) first last

-- a turn was taken, or the port has ended
pub record TurnTaken {S : Type 0} (stores : Stores S) (before now : S) (start : Node) (opening : List LiveCall)
    (turns : List Turn) (live : LiveNode) (run_log : RunLog) (first last : Outside) : Type 0 where
  pub turn : Turn
  pub between : Between stores before now start opening (turns ++ turn ∷ []) [] live run_log first last

pub record PortEnded {S : Type 0} (stores : Stores S) (before now : S) (start : Node) (opening : List LiveCall)
    (turns : List Turn) (rests : List Rest) (live : LiveNode) (run_log : RunLog) (first last : Outside) : Type 0 where
  pub between : Between stores before now start opening turns rests live run_log first last
  pub ended : last.link.ended ≡ true
  pub spent : IsSpent last.link.left

abbrev pub Turned : Bool → {S : Type 0} → Stores S → (before now : S) → Node → List LiveCall → List Turn → LiveNode
    → RunLog → Outside → Outside → Type 0
Turned true stores before now start opening turns live run_log first last =
    TurnTaken stores before now start opening turns live run_log first last
Turned false stores before now start opening turns live run_log first last =
    PortEnded stores before now start opening turns [] live run_log first last

-- a run stopped in a turn more than these, or at a read after them
pub record TurnCut {S : Type 0} (stores : Stores S) (before now : S) (end : RunEnd) (start : Node)
    (opening : List LiveCall) (turns : List Turn) (first last : Outside) : Type 0 where
  pub turn : Turn
  pub stopped : RunAt stores before now start (Some end) opening (turns ++ turn ∷ []) [] first last

abbrev pub TurnStops : {S : Type 0} → Stores S → (before now : S) → RunEnd → Node → List LiveCall → List Turn
    → (first last : Outside) → Type 0
TurnStops stores before now end start opening turns first last =
    TurnCut stores before now end start opening turns first last
    ⊎ RunAt stores before now start (Some end) opening turns [] first last

-- so many turns were taken
pub record TurnsTaken {S : Type 0} (stores : Stores S) (before now : S) (start : Node) (opening : List LiveCall)
    (count : ℕ) (live : LiveNode) (run_log : RunLog) (first last : Outside) : Type 0 where
  pub turns : List Turn
  pub number : length turns ≡ count
  pub between : Between stores before now start opening turns [] live run_log first last

-- the port has ended at a later read
pub record TurnsEnded {S : Type 0} (stores : Stores S) (before now : S) (start : Node) (opening : List LiveCall)
    (count : ℕ) (live : LiveNode) (run_log : RunLog) (first last : Outside) : Type 0 where
  pub turns : List Turn
  pub number : length turns < count
  pub ended : PortEnded stores before now start opening turns [] live run_log first last

abbrev pub TurnsRan : Bool → {S : Type 0} → Stores S → (before now : S) → Node → List LiveCall → ℕ → LiveNode → RunLog
    → Outside → Outside → Type 0
TurnsRan true stores before now start opening count live run_log first last =
    TurnsTaken stores before now start opening count live run_log first last
TurnsRan false stores before now start opening count live run_log first last =
    TurnsEnded stores before now start opening count live run_log first last

-- or the run stopped within them
pub record TurnsStopped {S : Type 0} (stores : Stores S) (before now : S) (end : RunEnd) (start : Node)
    (opening : List LiveCall) (count : ℕ) (first last : Outside) : Type 0 where
  pub turns : List Turn
  pub number : length turns ≤ count
  pub run : RunAt stores before now start (Some end) opening turns [] first last

-- before the first call
pub record Opened {S : Type 0} (stores : Stores S) (before now : S) (start : Node) (live : LiveNode) (run_log : RunLog)
    (first : Outside) : Type 0 where
  pub output : Output stores before now start [] live run_log first first
  pub heard : HasHeard [] [] live
  pub same : (end_of live).endpoint.extras ≡ extras_at start
