-- A run of a live node, told by turns: what each read of its port led to.
use Rattle.std.specs.Prelude.{ℕ, ◌+◌, ◌≤◌, Bool, List, [], ◌∷◌, ◌++◌, length, Option}
use Rattle.std.specs.List.{flat_map}
use Rattle.mav_ports.specs.Counts.{next_count}
use Rattle.mav_links.specs.Links.{Pauses}
use Rattle.mav_frame.specs.declared.events.Event.{Event}
use Rattle.mav_sign.specs.Endpoints.{frames_of}
use Rattle.mav_nodes.specs.Streams.{GrowsBy}
use Rattle.live_node.specs.Calls.{LiveCall, Hears, Ticks, Beats, Flies, IsTime, AreTimed}

pub data Turn : Type 0 where
  -- bytes were read, with which the parse grew by these events
  Reads : (piece : List ℕ) (events : List Event) (keeps : List Bool) (clock : ℕ) → Turn
  -- the port was idle; the clock at each call
  Waits : (tick beat sim : ℕ) → Turn
  -- bytes were read, in whose call the node was given up
  Breaks : (piece : List ℕ) (clock : ℕ) → Turn

-- the calls of a turn: a wait is a tick, a heartbeat and a tick of the simulator, in this order
abbrev pub turn_calls : Turn → List LiveCall
turn_calls (Reads piece events keeps clock) = Hears (frames_of events) keeps clock ∷ []
turn_calls (Waits tick beat sim) = Ticks tick ∷ Beats beat ∷ Flies sim ∷ []
turn_calls (Breaks piece clock) = []

abbrev pub turn_bytes : Turn → List ℕ
turn_bytes (Reads piece events keeps clock) = piece
turn_bytes (Waits tick beat sim) = []
turn_bytes (Breaks piece clock) = piece

abbrev pub turn_events : Turn → List Event
turn_events (Reads piece events keeps clock) = events
turn_events (Waits tick beat sim) = []
turn_events (Breaks piece clock) = []

-- the count of Idle answers after a turn, and where they came
abbrev pub idles_with : Turn → ℕ → ℕ
idles_with (Reads piece events keeps clock) before = before
idles_with (Waits tick beat sim) before = next_count before
idles_with (Breaks piece clock) before = before

abbrev pub pauses_with : Turn → Pauses → Pauses
pauses_with (Reads piece events keeps clock) p = record p { given = p.given + length piece }
pauses_with (Waits tick beat sim) p = record p { before = p.before ++ p.given ∷ [] }
pauses_with (Breaks piece clock) p = record p { given = p.given + length piece }

-- the same after turns
abbrev pub idles_over : List Turn → ℕ → ℕ
idles_over [] before = before
idles_over (turn ∷ turns) before = idles_over turns (idles_with turn before)

abbrev pub pauses_over : List Turn → Pauses → Pauses
pauses_over [] p = p
pauses_over (turn ∷ turns) p = pauses_over turns (pauses_with turn p)

-- after bytes whose incremental parse has these events, a turn has the events by which that parse grows
abbrev pub ReadsOn : List (ℕ × ℕ) → List ℕ → List Event → Turn → Type 0
ReadsOn extras taken given (Reads piece events keeps clock) = GrowsBy extras (taken ++ piece) given events
ReadsOn extras taken given (Waits tick beat sim) = Unit {0}
ReadsOn extras taken given (Breaks piece clock) = Unit {0}

-- and so have turns
abbrev pub ReadFrom : List (ℕ × ℕ) → List ℕ → List Event → List Turn → Type 0
ReadFrom extras taken given [] = Unit {0}
ReadFrom extras taken given (turn ∷ turns) =
    ReadsOn extras taken given turn × ReadFrom extras (taken ++ turn_bytes turn) (given ++ turn_events turn) turns

-- a read that gives bytes gives at least one, and at most as many as it asks for
pub record IsPieceLength (bytes : ℕ) : Type 0 where
  pub least : 1 ≤ bytes
  pub most : bytes ≤ 4096

-- what a turn read was heard
abbrev pub IsHeard : Turn → Type 0
IsHeard (Reads piece events keeps clock) = IsPieceLength (length piece)
IsHeard (Waits tick beat sim) = Unit {0}
IsHeard (Breaks piece clock) = ⊥

abbrev pub AllHeard : List Turn → Type 0
AllHeard [] = Unit {0}
AllHeard (turn ∷ turns) = IsHeard turn × AllHeard turns

-- time passes after the port's end: the clock at each call
pub record Rest : Type 0 where
  pub tick : ℕ
  pub beat : ℕ
  pub sim : ℕ

abbrev pub rest_calls : Rest → List LiveCall
rest_calls r = Ticks r.tick ∷ Beats r.beat ∷ Flies r.sim ∷ []

-- all calls of a run: its opening, its turns, and what came after the port's end
abbrev pub calls_of : List LiveCall → List Turn → List Rest → List LiveCall
calls_of opening turns rests = opening ++ (flat_map turn_calls turns ++ flat_map rest_calls rests)

-- the last part of them
abbrev pub last_turn_calls : List LiveCall → List Turn → List LiveCall
last_turn_calls calls [] = calls
last_turn_calls calls (turn ∷ turns) = last_turn_calls (turn_calls turn) turns

abbrev pub last_rest_calls : List LiveCall → List Rest → List LiveCall
last_rest_calls calls [] = calls
last_rest_calls calls (r ∷ rests) = last_rest_calls (rest_calls r) rests

abbrev pub last_calls : List LiveCall → List Turn → List Rest → List LiveCall
last_calls opening turns rests = last_rest_calls (last_turn_calls opening turns) rests

-- the times of a turn, and of turns, by a clock that tells its time
abbrev pub IsTurnTimed : Option ℕ → Turn → Type 0
IsTurnTimed time (Reads piece events keeps clock) = IsTime time clock
IsTurnTimed time (Waits tick beat sim) = AreTimed time (Ticks tick ∷ Beats beat ∷ Flies sim ∷ [])
IsTurnTimed time (Breaks piece clock) = IsTime time clock

abbrev pub AreTurnsTimed : Option ℕ → List Turn → Type 0
AreTurnsTimed time [] = Unit {0}
AreTurnsTimed time (turn ∷ turns) = IsTurnTimed time turn × AreTurnsTimed time turns

abbrev pub AreRestsTimed : Option ℕ → List Rest → Type 0
AreRestsTimed time [] = Unit {0}
AreRestsTimed time (r ∷ rests) = AreTimed time (rest_calls r) × AreRestsTimed time rests
