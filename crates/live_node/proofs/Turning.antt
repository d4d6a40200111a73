-- One more turn.
use Rattle.std.proofs.Common.{◌≡◌, ℕ, ◌+◌, List, [], ◌∷◌, ◌++◌, Option, Some, None, refl, sym, ap, ◌∙◌, subst, append_assoc}
use Rattle.std.specs.Prelude.{length, take}
use Rattle.std.specs.List.{flat_map}
use Rattle.std.specs.Option.{option_map}
use Rattle.std.proofs.lemmas.List.{append-nil}
use Rattle.std.proofs.lemmas.Grind.{flat_map-append}
use Rattle.std.specs.Io.KnownBytes.{prepend_known}
use Rattle.mav_ports.specs.declared.sources.Got.TheVariants.{Bytes, Idle}
use Rattle.mav_ports.specs.Counts.{next_count}
use Rattle.mav_ports.proofs.Known.{prepend_known_twice}
use Rattle.mav_links.specs.Links.{LinkState, Pauses, pauses_after}
use Rattle.mav_frame.specs.declared.events.Event.{Event}
use Rattle.node_reports.specs.Nodes.{Node}
use Rattle.run_status.specs.declared.run_ends.RunEnd.{RunEnd}
use Rattle.live_node.specs.declared.nodes.LiveNode.{LiveNode}
use Rattle.live_node.specs.declared.run_log.RunLog.{RunLog}
use Rattle.live_node.specs.Nodes.{HasHeard, end_of}
use Rattle.live_node.specs.Calls.{extras_at, LiveCall, Ticks, Beats, Flies}
use Rattle.live_node.specs.Turns.{Turn, Waits, turn_calls, turn_bytes, turn_events, idles_with, pauses_with, idles_over, pauses_over, ReadsOn, ReadFrom, IsHeard, calls_of, IsTurnTimed}
use Rattle.live_node.specs.Ports.{SameRead}
use Rattle.live_node.specs.Runs.{Outside, Stores, IsSpentAt, IsSpentCall, RunsOutIn, LastHeard, RunAt}
use Rattle.live_node.specs.Progress.{Input, Output, Between, TurnTaken, TurnStopped, CallsStopped, IsPiece}
use Rattle.live_node.proofs.Results.{because}
use Rattle.live_node.proofs.Lasts.{all_more, heard_then, last_of_more, calls_with_turn, turns_timed}
use Rattle.live_node.proofs.Waits.{output_regroup}
use Rattle.live_node.proofs.GivenUp.{left_in, wait_leaves}

-- the last turn reads on after all bytes and events before it
pub read_more : (extras : List (ℕ × ℕ)) (taken : List ℕ) (given : List Event) (turns : List Turn) (turn : Turn) → ReadFrom extras taken given turns → ReadsOn extras (taken ++ flat_map turn_bytes turns) (given ++ flat_map turn_events turns) turn → ReadFrom extras taken given (turns ++ turn ∷ [])
read_more extras taken given [] turn h next =
    (subst (λ (t : List ℕ). ReadsOn extras t given turn) (append-nil taken) (subst (λ (g : List Event). ReadsOn extras (taken ++ []) g turn) (append-nil given) next), tt)
read_more extras taken given (x ∷ xs) turn h next = (
  h.0,
  read_more extras (taken ++ turn_bytes x) (given ++ turn_events x) xs turn h.1
      (subst (λ (t : List ℕ). ReadsOn extras t ((given ++ turn_events x) ++ flat_map turn_events xs) turn) (sym (append_assoc taken (turn_bytes x) (flat_map turn_bytes xs)))
      (subst (λ (g : List Event). ReadsOn extras (taken ++ (turn_bytes x ++ flat_map turn_bytes xs)) g turn) (sym (append_assoc given (turn_events x) (flat_map turn_events xs))) next)),
)

idles_more : (turns : List Turn) (turn : Turn) (before : ℕ) → idles_over (turns ++ turn ∷ []) before ≡ idles_with turn (idles_over turns before)
idles_more [] turn before = refl
idles_more (x ∷ xs) turn before = idles_more xs turn (idles_with x before)

pauses_more : (turns : List Turn) (turn : Turn) (p : Pauses) → pauses_over (turns ++ turn ∷ []) p ≡ pauses_with turn (pauses_over turns p)
pauses_more [] turn p = refl
pauses_more (x ∷ xs) turn p = pauses_more xs turn (pauses_with x p)

known_pauses : (turns : List Turn) (turn : Turn) (known : Option Pauses) → option_map (pauses_with turn) (option_map (pauses_over turns) known) ≡ option_map (pauses_over (turns ++ turn ∷ [])) known
known_pauses turns turn None = refl
known_pauses turns turn (Some p) = ap Some (sym (pauses_more turns turn p))

pub last_of : {A : Type 0} (f : Turn → List A) (turns : List Turn) (turn : Turn) → flat_map f (turns ++ turn ∷ []) ≡ flat_map f turns ++ f turn
last_of f turns turn = flat_map-append f turns (turn ∷ []) ∙ ap (λ (l : List _). flat_map f turns ++ l) (append-nil (f turn))

-- what the port returned in a turn
pub record Came (turn : Turn) (old new : LinkState) : Type 0 where
  pub left : old.left ≡ prepend_known (turn_bytes turn) new.left
  pub idles : new.idles ≡ idles_with turn old.idles
  pub pauses : new.pauses ≡ option_map (pauses_with turn) old.pauses

-- what came in, with a turn more
record CameIn (extras : List (ℕ × ℕ)) (turns : List Turn) (first then : LinkState) : Type 0 where
  read : ReadFrom extras [] [] turns
  left : first.left ≡ prepend_known (flat_map turn_bytes turns) then.left
  idles : then.idles ≡ idles_over turns first.idles
  pauses : then.pauses ≡ option_map (pauses_over turns) first.pauses

came_in : (extras : List (ℕ × ℕ)) (turns : List Turn) (turn : Turn) (live : LiveNode) (first now then : LinkState) → Input extras turns live first now → Came turn now then → ReadsOn extras (flat_map turn_bytes turns) (flat_map turn_events turns) turn → CameIn extras (turns ++ turn ∷ []) first then
came_in extras turns turn live first now then i came reads = record {
  read = read_more extras [] [] turns turn i.read reads;
  left = i.left ∙ (ap (prepend_known (flat_map turn_bytes turns)) came.left ∙ (prepend_known_twice then.left (flat_map turn_bytes turns) (turn_bytes turn) ∙ ap (λ (l : List ℕ). prepend_known l then.left) (sym (last_of turn_bytes turns turn))));
  idles = came.idles ∙ (ap (idles_with turn) i.idles ∙ sym (idles_more turns turn first.idles));
  pauses = came.pauses ∙ (ap (option_map (pauses_with turn)) i.pauses ∙ known_pauses turns turn first.pauses);
}

-- a turn was done
pub turn_done : {S : Type 0} (stores : Stores S) (before old now : S) (start : Node) (opening : List LiveCall) (turns : List Turn) (turn : Turn) (was live : LiveNode) (t u : RunLog) (first last then : Outside) → Between stores before old start opening turns [] was t first last → Came turn last.link then.link → IsTurnTimed first.time turn → IsHeard turn → ReadsOn (extras_at start) (flat_map turn_bytes turns) (flat_map turn_events turns) turn → HasHeard (flat_map turn_bytes turns ++ turn_bytes turn) (flat_map turn_events turns ++ turn_events turn) live → (end_of live).endpoint.extras ≡ extras_at start → Output stores before now start (calls_of opening turns [] ++ turn_calls turn) live u first then → TurnTaken stores before now start opening turns live u first then
turn_done stores before old now start opening turns turn was live t u first last then b came timed all reads heard same output =
    let c = came_in (extras_at start) turns turn was first.link last.link then.link b.input came reads in
    record {
      turn = turn;
      between = record {
        timed = record { opened = b.timed.opened; turned = turns_timed first.time turns turn b.timed.turned timed; rested = tt };
        input = record {
          read = c.read;
          all = all_more turns turn b.input.all all;
          heard =
              subst (λ (l : List ℕ). HasHeard l (flat_map turn_events (turns ++ turn ∷ [])) live) (sym (last_of turn_bytes turns turn))
              (subst (λ (g : List Event). HasHeard (flat_map turn_bytes turns ++ turn_bytes turn) g live) (sym (last_of turn_events turns turn)) heard);
          same = same;
          left = c.left;
          idles = c.idles;
          pauses = c.pauses;
        };
        output = output_regroup stores before now start (calls_of opening turns [] ++ turn_calls turn) (calls_of opening (turns ++ turn ∷ []) []) live u first then (sym (calls_with_turn opening turns turn)) output;
      };
    }

spent_in : (extras : List (ℕ × ℕ)) (turns : List Turn) (turn : Turn) (node : Node) (rest : List LiveCall) → IsSpentAt extras (flat_map turn_bytes turns) (flat_map turn_events turns) turn node rest → RunsOutIn extras (turns ++ turn ∷ []) [] node rest
spent_in extras [] turn node rest h = record { turn = turn; taken = []; given = []; last = record { before = []; are = refl; bytes = refl; events = refl }; spent = h }
spent_in extras (x ∷ xs) turn node rest h = record {
  turn = turn;
  taken = flat_map turn_bytes (x ∷ xs);
  given = flat_map turn_events (x ∷ xs);
  last = record { before = x ∷ xs; are = refl; bytes = refl; events = refl };
  spent = h;
}

-- a run stopped in a turn
pub turn_stopped : {S : Type 0} (stores : Stores S) (before old now : S) (end : RunEnd) (start : Node) (opening : List LiveCall) (turns : List Turn) (turn : Turn) (was : LiveNode) (t : RunLog) (first last then : Outside) → Between stores before old start opening turns [] was t first last → Came turn last.link then.link → IsTurnTimed first.time turn → LastHeard (Some end) turn → ReadsOn (extras_at start) (flat_map turn_bytes turns) (flat_map turn_events turns) turn → TurnStopped stores before now end (extras_at start) (flat_map turn_bytes turns) (flat_map turn_events turns) start (calls_of opening turns []) turn first then → RunAt stores before now start (Some end) opening (turns ++ turn ∷ []) [] first then
turn_stopped stores before old now end start opening turns turn was t first last then b came timed heard reads s =
    let c = came_in (extras_at start) turns turn was first.link last.link then.link b.input came reads in
    let made = calls_of opening turns [] in
    record {
      made = made ++ s.more;
      rest = s.rest;
      calls = append_assoc made s.more s.rest ∙ (ap (λ (l : List LiveCall). made ++ l) s.calls ∙ sym (calls_with_turn opening turns turn));
      late = (s.more, s.calls ∙ sym (last_of_more opening turns turn));
      timed = record { opened = b.timed.opened; turned = turns_timed first.time turns turn b.timed.turned timed; rested = tt };
      read = c.read;
      heard = heard_then (Some end) turns turn b.input.all heard;
      left = c.left;
      idles = c.idles;
      pauses = c.pauses;
      written = s.written;
      spent = λ e. spent_in (extras_at start) turns turn s.written.node s.rest (s.spent (because e));
      leaves = λ up. left_in stores before now (extras_at start) (made ++ s.more) s.written.node turns turn s.rest (s.leaves up);
    }

-- calls of a wait that were made in part are those of its turn
pub wait_turn : {S : Type 0} (stores : Stores S) (before now : S) (end : RunEnd) (extras : List (ℕ × ℕ)) (taken : List ℕ) (given : List Event) (start : Node) (made : List LiveCall) (tick beat sim : ℕ) (first last : Outside) → CallsStopped stores before now end start made (Ticks tick ∷ Beats beat ∷ Flies sim ∷ []) first last → TurnStopped stores before now end extras taken given start made (Waits tick beat sim) first last
wait_turn stores before now end extras taken given start made tick beat sim first last s = record {
  more = s.more;
  rest = s.rest;
  calls = s.are;
  written = s.written;
  spent = λ e. at s.written.node s.rest (s.spent e);
  leaves = λ up. wait_leaves stores before now extras (made ++ s.more) s.written.node taken given tick beat sim s.rest (s.leaves up);
}
  where
    at : (node : Node) (rest : List LiveCall) → IsSpentCall node rest → IsSpentAt extras taken given (Waits tick beat sim) node rest
    at node [] h = h
    at node (call ∷ rest) h = h

-- a read moved nothing of what went out
pub output_read : {S : Type 0} (stores : Stores S) (before now : S) (start : Node) (made : List LiveCall) (live : LiveNode) (t : RunLog) (first last then : Outside) → then.link.faults ≡ last.link.faults → then.link.sent ≡ last.link.sent → then.text ≡ last.text → then.time ≡ last.time → Output stores before now start made live t first last → Output stores before now start made live t first then
output_read stores before now start made live t first last then faults sent text time o = record {
  node = o.node;
  events = o.events;
  run = o.run;
  is = o.is;
  name = o.name;
  count = o.count;
  ending = o.ending;
  ticks = o.ticks;
  faults = faults ∙ o.faults;
  sent = sent ∙ o.sent;
  printed = text ∙ o.printed;
  time = time ∙ o.time;
  kept = o.kept;
  stored = o.stored;
}

-- a read that gave bytes, and then calls that read nothing
pub came_piece : (piece : List ℕ) (turn : Turn) (n : ℕ) (buf : List ℕ) (old middle new : LinkState) → IsPiece piece turn → piece ≡ take n buf → length piece ≡ n → old.left ≡ prepend_known (take n buf) middle.left → middle.idles ≡ old.idles → middle.pauses ≡ option_map (pauses_after (Bytes n)) old.pauses → SameRead middle new → Came turn old new
came_piece piece turn n buf old middle new is cut long left idles pauses same = record {
  left = left ∙ (ap (λ (l : List ℕ). prepend_known l middle.left) (sym cut ∙ sym is.bytes) ∙ ap (prepend_known (turn_bytes turn)) (sym same.left));
  idles = same.idles ∙ (idles ∙ sym (is.idles old.idles));
  pauses = same.pauses ∙ (pauses ∙ known old.pauses);
}
  where
    known : (p : Option Pauses) → option_map (pauses_after (Bytes n)) p ≡ option_map (pauses_with turn) p
    known None = refl
    known (Some p) = ap Some (ap (λ (k : ℕ). record p { given = p.given + k }) (sym long) ∙ sym (is.pauses p))

pub came_wait : (tick beat sim : ℕ) (old middle new : LinkState) → old.left ≡ prepend_known [] middle.left → middle.idles ≡ next_count old.idles → middle.pauses ≡ option_map (pauses_after Idle) old.pauses → SameRead middle new → Came (Waits tick beat sim) old new
came_wait tick beat sim old middle new left idles pauses same = record {
  left = left ∙ ap (prepend_known []) (sym same.left);
  idles = same.idles ∙ idles;
  pauses = same.pauses ∙ (pauses ∙ known old.pauses);
}
  where
    known : (p : Option Pauses) → option_map (pauses_after Idle) p ≡ option_map (pauses_with (Waits tick beat sim)) p
    known None = refl
    known (Some p) = refl
