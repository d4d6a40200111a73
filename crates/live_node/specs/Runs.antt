-- The run of a live node: its calls, and what was read and written.
use Rattle.std.specs.Prelude.{ℕ, ◌≡◌, Bool, List, [], ◌∷◌, ◌++◌, length, map, Option, Some, None, IfErr}
use Rattle.std.specs.List.{flat_map}
use Rattle.std.specs.Option.{option_map}
use Rattle.std.specs.Result.{result_err}
use Rattle.std.specs.declared.result.Result.{Result}
use Rattle.std.specs.Io.KnownBytes.{prepend_known}
use Rattle.mav_frame.specs.declared.events.Event.{Event}
use Rattle.mav_links.specs.Links.{LinkState}
use Rattle.mav_sign.specs.Endpoints.{frames_of}
use Rattle.mav_nodes.specs.News.{NodeEvent, shown}
use Rattle.mav_nodes.specs.Links.{done}
use Rattle.mav_nodes.specs.Stores.{Serves, HasFailed, AllKept}
use Rattle.mav_nodes.specs.Streams.{GrowsBy}
use Rattle.node_reports.specs.Nodes.{Node, node_name}
use Rattle.run_status.specs.declared.live_ends.LiveEnd.TheVariants.{RefusedWith, NoAnswer, StoreFault, PortTurns}
use Rattle.run_status.specs.declared.input_errors.InputError.TheVariants.{StampsSpent}
use Rattle.run_status.specs.declared.run_ends.RunEnd.{RunEnd}
use Rattle.run_status.specs.declared.run_ends.RunEnd.TheVariants.{Stopped, NoMemory, Live}
use Rattle.live_node.specs.Calls.{LiveCall, extras_at, call_does, calls_do, node_hears, keeps_in, AreTimed}
use Rattle.live_node.specs.declared.nodes.LiveNode.{LiveNode}
use Rattle.live_node.specs.Nodes.{IsLive, IsKeptBy}
use Rattle.live_node.specs.GivenUp.{NodeGivenUp, CallLeaves}
use Rattle.live_node.specs.Turns.{Turn, Reads, Waits, Breaks, turn_bytes, turn_events, idles_over, pauses_over}
use Rattle.live_node.specs.Turns.{ReadFrom, IsPieceLength, IsHeard, AllHeard, Rest, calls_of, last_calls}
use Rattle.live_node.specs.Turns.{AreTurnsTimed, AreRestsTimed}
use Rattle.live_node.specs.Texts.{frames_text, lines_of}
use Rattle.live_node.specs.Ports.{SentBy, SentDespite, PrintedBy, FaultsBy}

-- the port, the text that the output was sent, and the one time that the clock returns, if that is known
pub record Outside : Type 0 where
  pub link : LinkState
  pub text : Option (List ℕ)
  pub time : Option ℕ

abbrev pub outside : LinkState → Option (List ℕ) → Option ℕ → Outside
outside link text time = record { link = link; text = text; time = time }

-- how a part of a run ends: only for one of these reasons, with the counts of faults that this says, and the clock's
-- one time stays
pub record Ends {A : Type 0} (MayEnd : RunEnd → Type 0) (result : Result A RunEnd) (first last : Outside)
    (out_before out_after : ℕ) : Type 0 where
  pub end : IfErr result MayEnd
  pub faults : FaultsBy (result_err result) first.link.faults last.link.faults out_before out_after
  pub stays : last.time ≡ first.time

-- a run on a link between two moments: what it did, how it may end, and which counts of faults rose
pub record LinkRun (Did : Option RunEnd → (first last : Outside) → Type 0) (MayEnd : RunEnd → Type 0)
    (result : Result (Unit {0}) RunEnd) (first last : Outside) (out_before out_after : ℕ) : Type 0 where
  pub runs : Did (result_err result) first last
  pub end : IfErr result MayEnd
  pub faults : FaultsBy (result_err result) first.link.faults last.link.faults out_before out_after

-- what is known of stores of a type
pub record Stores (S : Type 0) : Type 1 where
  pub faults : S → ℕ
  pub is_infallible : S → Type 0
  pub contents : S → Option (List ℕ)

abbrev pub stores_of : {S : Type 0} → (S → ℕ) → (S → Type 0) → (S → Option (List ℕ)) → Stores S
stores_of faults is_infallible contents =
    record { faults = faults; is_infallible = is_infallible; contents = contents }

-- the store kept all that a call changed, or a call of the store failed in it
pub record KeptIn {S : Type 0} (stores : Stores S) (before now : S) (call : LiveCall) : Type 0 where
  pub serves : Serves stores.faults stores.is_infallible before now
  pub kept : AllKept (HasFailed stores.faults stores.is_infallible before now) (keeps_in call)

-- the same of each of these calls, with the store as it was before that call and after it
abbrev pub KeptOver : {S : Type 0} → Stores S → (before now : S) → List LiveCall → Type 0
KeptOver stores before now [] = Serves stores.faults stores.is_infallible before now
KeptOver {S} stores before now (call ∷ calls) = (next : S) × KeptIn stores before next call
    × KeptOver stores next now calls

pub record Kept {S : Type 0} (stores : Stores S) (before now : S) (made : List LiveCall) : Type 0 where
  pub serves : Serves stores.faults stores.is_infallible before now
  pub each : KeptOver stores before now made

-- what a store has at the end of a run: what the node has stored with the calls that were made. At 7, 10 and 13 the
-- node was given up in a call that may have saved: `LeavesIn` says what it left
abbrev pub StoredBy : Option RunEnd → Option (List ℕ) → Node → Type 0
StoredBy (Some (Stopped StampsSpent)) contents node = Unit {0}
StoredBy (Some NoMemory) contents node = Unit {0}
StoredBy (Some (Live StoreFault)) contents node = Unit {0}
StoredBy other contents node = (live : LiveNode) × IsLive node live × IsKeptBy contents live

-- these calls were made; of their frames and lines was written what a run writes that ends so
pub record Written {S : Type 0} (stores : Stores S) (before now : S) (end : Option RunEnd) (start : Node)
    (made : List LiveCall) (first last : Outside) : Type 0 where
  pub node : Node
  pub events : List NodeEvent
  pub run : calls_do made start ≡ done node events
  pub sent : SentBy end first.link.sent last.link.sent (frames_text (map shown events))
  pub despite : SentDespite end first.link last.link (frames_text (map shown events))
  pub printed : PrintedBy end first.text last.text (lines_of (node_name start) 0 events)
  pub time : last.time ≡ first.time
  pub kept : Kept stores before now made
  pub stored : StoredBy end (stores.contents now) node
  -- 10: a call of the store has failed
  pub store : end ≡ Some (Live StoreFault) → HasFailed stores.faults stores.is_infallible before now

-- the next call needs a timestamp that isn't left; or the frames of the piece do that was read last
abbrev pub IsSpentAt : List (ℕ × ℕ) → List ℕ → List Event → Turn → Node → List LiveCall → Type 0
IsSpentAt extras taken given turn node (call ∷ rest) = call_does call node ≡ None
IsSpentAt extras taken given (Breaks piece clock) node [] =
    (events : List Event) → GrowsBy extras (taken ++ piece) given events → (keeps : List Bool)
    × (node_hears clock keeps (frames_of events) node ≡ None)
IsSpentAt extras taken given turn node [] = ⊥

-- turns, and the last of them, after these bytes and events
pub record LastTurn (turns : List Turn) (turn : Turn) (taken : List ℕ) (given : List Event) : Type 0 where
  pub before : List Turn
  pub are : turns ≡ before ++ turn ∷ []
  pub bytes : taken ≡ flat_map turn_bytes before
  pub events : given ≡ flat_map turn_events before

-- no timestamp was left in the opening, or in the last turn
pub record SpentIn (extras : List (ℕ × ℕ)) (turns : List Turn) (node : Node) (rest : List LiveCall) : Type 0 where
  pub turn : Turn
  pub taken : List ℕ
  pub given : List Event
  pub last : LastTurn turns turn taken given
  pub spent : IsSpentAt extras taken given turn node rest

-- the next call needs a timestamp that isn't left
abbrev pub IsSpentCall : Node → List LiveCall → Type 0
IsSpentCall node [] = ⊥
IsSpentCall node (call ∷ rest) = call_does call node ≡ None

abbrev pub RunsOutIn : List (ℕ × ℕ) → List Turn → List Rest → Node → List LiveCall → Type 0
RunsOutIn extras turns (r ∷ rests) node rest = IsSpentCall node rest
RunsOutIn extras [] [] node rest = IsSpentCall node rest
RunsOutIn extras (turn ∷ turns) [] node rest = SpentIn extras (turn ∷ turns) node rest

-- a node that is given up at a piece leaves this in its store, which kept before what the calls made say
pub record PieceLeft {S : Type 0} (stores : Stores S) (before now : S) (made : List LiveCall) (clock : ℕ)
    (events : List Event) (node : Node) : Type 0 where
  pub old : S
  pub kept : Kept stores before old made
  pub given : NodeGivenUp clock (AllKept (HasFailed stores.faults stores.is_infallible old now)) (stores.contents now)
      (frames_of events) node

-- one that is given up in a turn, or whose news weren't written
abbrev pub LeavesAt : {S : Type 0} → Stores S → (before now : S) → List (ℕ × ℕ) → List ℕ → List Event → Turn
    → List LiveCall → Node → List LiveCall → Type 0
LeavesAt stores before now extras taken given turn made node (call ∷ rest) =
    CallLeaves (stores.contents now) node (call ∷ rest)
LeavesAt stores before now extras taken given (Reads piece events keeps clock) made node [] =
    CallLeaves (stores.contents now) node []
LeavesAt stores before now extras taken given (Waits tick beat sim) made node [] =
    CallLeaves (stores.contents now) node []
LeavesAt stores before now extras taken given (Breaks piece clock) made node [] =
    (events : List Event) → GrowsBy extras (taken ++ piece) given events
    → PieceLeft stores before now made clock events node

-- the same in the last turn
pub record LeftIn {S : Type 0} (stores : Stores S) (before now : S) (extras : List (ℕ × ℕ)) (turns : List Turn)
    (made : List LiveCall) (node : Node) (rest : List LiveCall) : Type 0 where
  pub turn : Turn
  pub taken : List ℕ
  pub given : List Event
  pub last : LastTurn turns turn taken given
  pub left : LeavesAt stores before now extras taken given turn made node rest

-- the same in the opening, in the last turn, or in the times that passed after the port's end
abbrev pub LeavesIn : {S : Type 0} → Stores S → (before now : S) → List (ℕ × ℕ) → List Turn → List Rest → List LiveCall
    → Node → List LiveCall → Type 0
LeavesIn stores before now extras turns (r ∷ rests) made node rest = CallLeaves (stores.contents now) node rest
LeavesIn stores before now extras [] [] made node rest = CallLeaves (stores.contents now) node rest
LeavesIn stores before now extras (turn ∷ turns) [] made node rest =
    LeftIn stores before now extras (turn ∷ turns) made node rest

-- a node is given up for want of a timestamp or of memory, or by its store
abbrev pub GivesUp : Option RunEnd → Type 0
GivesUp (Some (Stopped StampsSpent)) = Unit {0}
GivesUp (Some NoMemory) = Unit {0}
GivesUp (Some (Live StoreFault)) = Unit {0}
GivesUp other = ⊥

-- what the last turn read was heard, or the node was given up at it
abbrev pub LastHeard : Option RunEnd → Turn → Type 0
LastHeard end (Breaks piece clock) = IsPieceLength (length piece) × GivesUp end
LastHeard end turn = IsHeard turn

-- all that was read was heard, but for such a last turn
abbrev pub HeardBy : Option RunEnd → List Turn → Type 0
HeardBy end [] = Unit {0}
HeardBy end (turn ∷ []) = LastHeard end turn
HeardBy end (turn ∷ next ∷ turns) = IsHeard turn × HeardBy end (next ∷ turns)

abbrev pub HeardIn : Option RunEnd → List Turn → List Rest → Type 0
HeardIn end turns [] = HeardBy end turns
HeardIn end turns (r ∷ rests) = AllHeard turns

-- only calls of the last part of a run are left out
abbrev pub IsLate : List LiveCall → List Turn → List Rest → List LiveCall → Type 0
IsLate opening turns rests rest = (more : List LiveCall) × (more ++ rest ≡ last_calls opening turns rests)

-- time passes after the port's end only there
abbrev pub MayRest : Type 0 → List Rest → Type 0
MayRest allowed [] = Unit {0}
MayRest allowed (r ∷ rests) = allowed

-- the times of all calls, by a clock that tells its time
pub record Timed (time : Option ℕ) (opening : List LiveCall) (turns : List Turn) (rests : List Rest) : Type 0 where
  pub opened : AreTimed time opening
  pub turned : AreTurnsTimed time turns
  pub rested : AreRestsTimed time rests

-- no call is left to be made
abbrev pub IsWhole : Option RunEnd → List LiveCall → Type 0
IsWhole None rest = rest ≡ []
IsWhole (Some (Live (RefusedWith code))) rest = rest ≡ []
IsWhole (Some (Live (NoAnswer ticks))) rest = rest ≡ []
IsWhole (Some (Live (PortTurns turns))) rest = rest ≡ []
IsWhole other rest = Unit {0}

-- a run after these turns and times: some of their calls were made, and the others no longer
pub record RunAt {S : Type 0} (stores : Stores S) (before after : S) (start : Node) (end : Option RunEnd)
    (opening : List LiveCall) (turns : List Turn) (rests : List Rest) (first last : Outside) : Type 0 where
  pub made : List LiveCall
  pub rest : List LiveCall
  pub calls : made ++ rest ≡ calls_of opening turns rests
  pub late : IsLate opening turns rests rest
  pub timed : Timed first.time opening turns rests
  -- the pieces joined are the bytes read, and each tick stands at its place among them
  pub read : ReadFrom (extras_at start) [] [] turns
  pub heard : HeardIn end turns rests
  pub left : first.link.left ≡ prepend_known (flat_map turn_bytes turns) last.link.left
  pub idles : last.link.idles ≡ idles_over turns first.link.idles
  pub pauses : last.link.pauses ≡ option_map (pauses_over turns) first.link.pauses
  pub written : Written stores before after end start made first last
  -- 13: the next call is one for which no timestamp is left
  pub spent : end ≡ Some (Stopped StampsSpent) → RunsOutIn (extras_at start) turns rests written.node rest
  -- 7, 10 and 13: what a node leaves in its store that is given up
  pub leaves : GivesUp end → LeavesIn stores before after (extras_at start) turns rests made written.node rest

-- one run: an opening, turns, which are what the port gave, in order, and the times that passed after the port's end
pub record LiveRun {S : Type 0} (stores : Stores S) (before after : S) (IsOpening : List LiveCall → Type 0)
    (may_rest : LinkState → Type 0) (start : Node) (end : Option RunEnd) (first last : Outside) : Type 0 where
  pub opening : List LiveCall
  pub is_opening : IsOpening opening
  pub turns : List Turn
  pub rests : List Rest
  pub rested : MayRest (may_rest last.link) rests
  pub at : RunAt stores before after start end opening turns rests first last
  -- all calls were made, unless the run was cut off
  pub whole : IsWhole end at.rest
