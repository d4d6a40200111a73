-- The last turn of a run, and the last of its calls.
use Rattle.std.proofs.Common.{◌≡◌, ℕ, List, [], ◌∷◌, ◌++◌, Option, Some, refl, sym, ap, ◌∙◌, append_assoc}
use Rattle.std.specs.List.{flat_map}
use Rattle.std.proofs.lemmas.List.{append-nil}
use Rattle.std.proofs.lemmas.Grind.{flat_map-append}
use Rattle.mav_nodes.specs.declared.faults.NodeFault.{NodeFault}
use Rattle.mav_nodes.specs.declared.faults.NodeFault.TheVariants.{StampsSpent, Store, NoMemory}
use Rattle.run_status.specs.declared.run_ends.RunEnd.{RunEnd}
use Rattle.live_node.specs.Calls.{LiveCall}
use Rattle.live_node.specs.Turns.{Turn, Reads, Waits, Breaks, turn_calls, IsHeard, AllHeard, Rest, rest_calls, calls_of, last_turn_calls, last_rest_calls, IsTurnTimed, AreTurnsTimed, AreRestsTimed}
use Rattle.live_node.specs.Ports.{end_by}
use Rattle.live_node.specs.Runs.{GivesUp, LastHeard, HeardBy}

-- ---- what was heard

pub all_more : (turns : List Turn) (turn : Turn) → AllHeard turns → IsHeard turn → AllHeard (turns ++ turn ∷ [])
all_more [] turn all heard = (heard, tt)
all_more (x ∷ xs) turn all heard = (all.0, all_more xs turn all.1 heard)

heard_last : (end : Option RunEnd) (turn : Turn) → IsHeard turn → LastHeard end turn
heard_last end (Reads piece events keeps clock) h = h
heard_last end (Waits tick beat sim) h = h
heard_last end (Breaks piece clock) h = absurd h

pub heard_all : (end : Option RunEnd) (turns : List Turn) → AllHeard turns → HeardBy end turns
heard_all end [] all = tt
heard_all end (turn ∷ []) all = heard_last end turn all.0
heard_all end (turn ∷ next ∷ turns) all = (all.0, heard_all end (next ∷ turns) all.1)

pub heard_then : (end : Option RunEnd) (turns : List Turn) (turn : Turn) → AllHeard turns → LastHeard end turn → HeardBy end (turns ++ turn ∷ [])
heard_then end [] turn all last = last
heard_then end (x ∷ []) turn all last = (all.0, last)
heard_then end (x ∷ next ∷ xs) turn all last = (all.0, heard_then end (next ∷ xs) turn all.1 last)

pub gives_up : (fault : NodeFault) → GivesUp (Some (end_by fault))
gives_up StampsSpent = tt
gives_up Store = tt
gives_up NoMemory = tt

-- ---- the last calls

pub last_of_more : (calls : List LiveCall) (turns : List Turn) (turn : Turn) → last_turn_calls calls (turns ++ turn ∷ []) ≡ turn_calls turn
last_of_more calls [] turn = refl
last_of_more calls (x ∷ xs) turn = last_of_more (turn_calls x) xs turn

pub last_of_rests : (calls : List LiveCall) (rests : List Rest) (r : Rest) → last_rest_calls calls (rests ++ r ∷ []) ≡ rest_calls r
last_of_rests calls [] r = refl
last_of_rests calls (x ∷ xs) r = last_of_rests (rest_calls x) xs r

last_of : {A : Type 0} (f : A → List LiveCall) (xs : List A) (x : A) → flat_map f (xs ++ x ∷ []) ≡ flat_map f xs ++ f x
last_of f xs x = flat_map-append f xs (x ∷ []) ∙ ap (λ (l : List LiveCall). flat_map f xs ++ l) (append-nil (f x))

-- before the first turn, and after one turn or one time more
pub calls_at_start : (opening : List LiveCall) → opening ≡ calls_of opening [] []
calls_at_start opening = sym (append-nil opening)

pub calls_with_turn : (opening : List LiveCall) (turns : List Turn) (turn : Turn) → calls_of opening (turns ++ turn ∷ []) [] ≡ calls_of opening turns [] ++ turn_calls turn
calls_with_turn opening turns turn =
    ap (λ (l : List LiveCall). opening ++ l) (append-nil (flat_map turn_calls (turns ++ turn ∷ [])) ∙ (last_of turn_calls turns turn ∙ ap (λ (l : List LiveCall). l ++ turn_calls turn) (sym (append-nil (flat_map turn_calls turns)))))
    ∙ sym (append_assoc opening (flat_map turn_calls turns ++ []) (turn_calls turn))

pub calls_with_rest : (opening : List LiveCall) (turns : List Turn) (rests : List Rest) (r : Rest) → calls_of opening turns (rests ++ r ∷ []) ≡ calls_of opening turns rests ++ rest_calls r
calls_with_rest opening turns rests r =
    ap (λ (l : List LiveCall). opening ++ (flat_map turn_calls turns ++ l)) (last_of rest_calls rests r)
    ∙ (ap (λ (l : List LiveCall). opening ++ l) (sym (append_assoc (flat_map turn_calls turns) (flat_map rest_calls rests) (rest_calls r)))
    ∙ sym (append_assoc opening (flat_map turn_calls turns ++ flat_map rest_calls rests) (rest_calls r)))

-- ---- times

pub turns_timed : (time : Option ℕ) (turns : List Turn) (turn : Turn) → AreTurnsTimed time turns → IsTurnTimed time turn → AreTurnsTimed time (turns ++ turn ∷ [])
turns_timed time [] turn all one = (one, tt)
turns_timed time (x ∷ xs) turn all one = (all.0, turns_timed time xs turn all.1 one)

pub rests_timed : (time : Option ℕ) (rests : List Rest) (r : Rest) → AreRestsTimed time rests → AreRestsTimed time (r ∷ []) → AreRestsTimed time (rests ++ r ∷ [])
rests_timed time [] r all one = one
rests_timed time (x ∷ xs) r all one = (all.0, rests_timed time xs r all.1 one)
