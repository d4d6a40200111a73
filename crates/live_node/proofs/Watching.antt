-- Turns and times that are taken until the verdict.
use Rattle.std.proofs.Common.{◌≡◌, inl, inr, ℕ, ◌+◌, ◌≤◌, ◌<◌, List, [], ◌∷◌, ◌++◌, Bool, true, false, Option, Some, None, Result, Err, refl, sym, ap, ◌∙◌, subst, arith}
use Rattle.std.specs.Prelude.{◌-◌, ◌^◌, nat_lt, min, length, is_some, if◌then◌else◌}
use Rattle.std.specs.List.{flat_map}
use Rattle.std.proofs.lemmas.Bool.{ltb-true}
use Rattle.std.proofs.lemmas.List.{length-append}
use Rattle.mav_ports.specs.Counts.{next_count}
use Rattle.mav_ports.specs.Gets.{IsSpent}
use Rattle.node_reports.specs.Nodes.{Node}
use Rattle.run_status.specs.declared.live_ends.LiveEnd.TheVariants.{NoAnswer}
use Rattle.run_status.specs.declared.run_ends.RunEnd.{RunEnd}
use Rattle.run_status.specs.declared.run_ends.RunEnd.TheVariants.{Live}
use Rattle.live_node.specs.declared.nodes.LiveNode.{LiveNode}
use Rattle.live_node.specs.declared.stations.StationPlan.{StationPlan}
use Rattle.live_node.specs.declared.run_log.Ending.{Ending}
use Rattle.live_node.specs.declared.run_log.Ending.TheVariants.{Done, Refused, Unanswered}
use Rattle.live_node.specs.declared.run_log.RunLog.{RunLog}
use Rattle.live_node.specs.Calls.{LiveCall, ticks_over}
use Rattle.live_node.specs.Turns.{Turn, turn_calls, Rest, rest_calls, calls_of, last_turn_calls, last_calls}
use Rattle.live_node.specs.Texts.{ending_over}
use Rattle.live_node.specs.Runs.{Outside, Stores}
use Rattle.live_node.specs.Progress.{Output, Between, TurnTaken, TurnStops, PortEnded, WaitStopped}
use Rattle.live_node.specs.Stations.{verdict, Awaits, Awaited}
use Rattle.live_node.specs.Ports.{SameRead}
use Rattle.live_node.specs.Waiting.{WatchStopped, OutlastStopped}
use Rattle.live_node.proofs.Resting.{rest_stopped, cut_rest}
use Rattle.live_node.proofs.Calls.{ticks-append}
use Rattle.live_node.proofs.Lasts.{last_of_more, last_of_rests, calls_with_turn, calls_with_rest}
use Rattle.live_node.proofs.Taken.{length_more}

-- ---- what is awaited

awaits_by : (most : ℕ) (start : Node) (calls : List LiveCall) (node : Node) (passed count : ℕ) (told ending : Option Ending) → passed ≡ count → told ≡ ending → verdict most passed told ≡ None → verdict most count ending ≡ None
awaits_by most start calls node passed count told ending e f none =
    ap (λ (n : ℕ). verdict most n ending) (sym e) ∙ (ap (λ (x : Option Ending). verdict most passed x) (sym f) ∙ none)

-- without a verdict the operation goes on
pub awaits : {S : Type 0} {stores : Stores S} {before now : S} {start : Node} {calls : List LiveCall} {live : LiveNode} {t : RunLog} {first last : Outside} (most : ℕ) → Output stores before now start calls live t first last → verdict most t.ticks t.ending ≡ None → Awaits most start calls
awaits {S} {stores} {before} {now} {start} {calls} {live} {t} {first} {last} most o none = record {
  node = o.node;
  events = o.events;
  run = o.run;
  undecided = awaits_by most start calls o.node t.ticks (ticks_over 0 calls) t.ending (ending_over None o.events) o.ticks o.ending none;
}

pub awaited_turn : (most : ℕ) (start : Node) (opening : List LiveCall) (turns : List Turn) (turn : Turn) → Awaits most start (calls_of opening turns []) → Awaited most start opening (turns ++ turn ∷ []) []
awaited_turn most start opening [] turn a = record {
  early = calls_of opening [] [];
  are = sym (calls_with_turn opening [] turn);
  awaits = a;
}
awaited_turn most start opening (x ∷ xs) turn a = record {
  early = calls_of opening (x ∷ xs) [];
  are = ap (λ (l : List LiveCall). calls_of opening (x ∷ xs) [] ++ l) (last_of_more opening (x ∷ xs) turn) ∙ sym (calls_with_turn opening (x ∷ xs) turn);
  awaits = a;
}

rest_are : (opening : List LiveCall) (turns : List Turn) (rests : List Rest) (r : Rest) → calls_of opening turns rests ++ last_calls opening turns (rests ++ r ∷ []) ≡ calls_of opening turns (rests ++ r ∷ [])
rest_are opening turns rests r =
    ap (λ (l : List LiveCall). calls_of opening turns rests ++ l) (last_of_rests (last_turn_calls opening turns) rests r) ∙ sym (calls_with_rest opening turns rests r)

pub awaited_rest : (most : ℕ) (start : Node) (opening : List LiveCall) (turns : List Turn) (rests : List Rest) (r : Rest) → Awaits most start (calls_of opening turns rests) → Awaited most start opening turns (rests ++ r ∷ [])
awaited_rest most start opening [] [] r a = record { early = calls_of opening [] []; are = rest_are opening [] [] r; awaits = a }
awaited_rest most start opening [] (x ∷ xs) r a = record { early = calls_of opening [] (x ∷ xs); are = rest_are opening [] (x ∷ xs) r; awaits = a }
awaited_rest most start opening (turn ∷ turns) rests r a = record { early = calls_of opening (turn ∷ turns) rests; are = rest_are opening (turn ∷ turns) rests r; awaits = a }

-- ---- turns

-- turns that were taken so far, and what was awaited before the last of them
pub record WatchTaken {S : Type 0} (stores : Stores S) (before now : S) (plan : StationPlan) (start : Node) (opening : List LiveCall) (count : ℕ) (live : LiveNode) (run_log : RunLog) (first last : Outside) : Type 0 where
  pub turns : List Turn
  pub number : length turns ≡ count
  pub between : Between stores before now start opening turns [] live run_log first last
  pub awaited : Awaited plan.ticks start opening turns []

pub watch_more : {S : Type 0} {stores : Stores S} {before old now : S} {plan : StationPlan} {start : Node} {opening : List LiveCall} {count : ℕ} {was live : LiveNode} {t u : RunLog} {first last next : Outside} → (w : WatchTaken stores before old plan start opening count was t first last) → verdict plan.ticks t.ticks t.ending ≡ None → TurnTaken stores before now start opening w.turns live u first next → WatchTaken stores before now plan start opening (count + 1) live u first next
watch_more {S} {stores} {before} {old} {now} {plan} {start} {opening} {count} {was} {live} {t} {u} {first} {last} {next} w none taken = record {
  turns = w.turns ++ taken.turn ∷ [];
  number = length_more w.turns taken.turn count w.number;
  between = taken.between;
  awaited = awaited_turn plan.ticks start opening w.turns taken.turn (awaits plan.ticks w.between.output none);
}

pub watch_stopped : {S : Type 0} {stores : Stores S} {before old now : S} {end : RunEnd} {plan : StationPlan} {start : Node} {opening : List LiveCall} {count : ℕ} {was : LiveNode} {t : RunLog} {first last next : Outside} → (w : WatchTaken stores before old plan start opening count was t first last) → count < plan.turns → verdict plan.ticks t.ticks t.ending ≡ None → TurnStops stores before now end start opening w.turns first next → WatchStopped stores before now end plan start opening first next
watch_stopped {S} {stores} {before} {old} {now} {end} {plan} {start} {opening} {count} {was} {t} {first} {last} {next} w less none (inl cut) = record {
  turns = w.turns ++ cut.turn ∷ [];
  within = omega (arith, length_more w.turns cut.turn count w.number, less);
  stopped = cut.stopped;
  awaited = awaited_turn plan.ticks start opening w.turns cut.turn (awaits plan.ticks w.between.output none);
}
watch_stopped {S} {stores} {before} {old} {now} {end} {plan} {start} {opening} {count} {was} {t} {first} {last} {next} w less none (inr run) = record { turns = w.turns; within = omega (arith, w.number, less); stopped = run; awaited = w.awaited }

-- the verdict as its test tells it
pub no_verdict : {A : Type 0} (said : Option A) → is_some said ≡ false → said ≡ None
no_verdict None e = refl
no_verdict (Some a) e = cc

pub a_verdict : {A B : Type 0} (said : Option A) → is_some said ≡ true → said ≡ None → B
a_verdict None e f = cc
a_verdict (Some a) e f = cc

-- ---- times

-- times that passed so far, and what was awaited before the last of them
pub record OutlastTaken {S : Type 0} (stores : Stores S) (before now : S) (most : ℕ) (start : Node) (opening : List LiveCall) (turns : List Turn) (count : ℕ) (live : LiveNode) (run_log : RunLog) (first last : Outside) : Type 0 where
  pub rests : List Rest
  pub number : length rests ≡ count
  pub ended : PortEnded stores before now start opening turns rests live run_log first last
  pub awaited : Awaited most start opening turns rests

rests_more : (rests : List Rest) (r : Rest) (count : ℕ) → length rests ≡ count → length (rests ++ r ∷ []) ≡ count + 1
rests_more rests r count number = length-append rests (r ∷ []) ∙ ap (λ (n : ℕ). n + 1) number

pub outlast_more : {S : Type 0} {stores : Stores S} {before old now : S} {most : ℕ} {start : Node} {opening : List LiveCall} {turns : List Turn} {count : ℕ} {was live : LiveNode} {t u : RunLog} {first last next : Outside} → (w : OutlastTaken stores before old most start opening turns count was t first last) → verdict most t.ticks t.ending ≡ None → (r : Rest) → PortEnded stores before now start opening turns (w.rests ++ r ∷ []) live u first next → OutlastTaken stores before now most start opening turns (count + 1) live u first next
outlast_more {S} {stores} {before} {old} {now} {most} {start} {opening} {turns} {count} {was} {live} {t} {u} {first} {last} {next} w none r ended = record {
  rests = w.rests ++ r ∷ [];
  number = rests_more w.rests r count w.number;
  ended = ended;
  awaited = awaited_rest most start opening turns w.rests r (awaits most w.ended.between.output none);
}

pub outlast_stopped : {S : Type 0} {stores : Stores S} {before old now : S} {end : RunEnd} {most : ℕ} {start : Node} {opening : List LiveCall} {turns : List Turn} {count : ℕ} {was : LiveNode} {t : RunLog} {first last next : Outside} → (w : OutlastTaken stores before old most start opening turns count was t first last) → verdict most t.ticks t.ending ≡ None → SameRead last.link next.link → WaitStopped stores before now end start (calls_of opening turns w.rests) first next → OutlastStopped stores before now end most start opening turns first next
outlast_stopped {S} {stores} {before} {old} {now} {end} {most} {start} {opening} {turns} {count} {was} {t} {first} {last} {next} w none read s = record {
  rests = w.rests ++ cut_rest s ∷ [];
  stopped = rest_stopped w.ended read s;
  ended = (read.ended ∙ w.ended.ended, subst IsSpent (sym read.left) w.ended.spent);
  awaited = awaited_rest most start opening turns w.rests (cut_rest s) (awaits most w.ended.between.output none);
}

-- each time has a tick
rest_ticks : (rests : List Rest) (before : ℕ) → min (before + length rests) (2 ^ 64 - 1) ≤ ticks_over before (flat_map rest_calls rests)
rest_ticks [] before = omega arith
rest_ticks (r ∷ rests) before =
    let more = rest_ticks rests (next_count before) in
    omega (arith, more)

-- after as many times as a station waits for there is a verdict
few_left : (passed most : ℕ) (few : Bool) → nat_lt passed most ≡ few → ◌≡◌ {A = Option (Result (List ℕ) RunEnd)} (if few then None else Some (Err (Live (NoAnswer most)))) None → most ≤ passed → ⊥
few_left passed most true e f h = let less = ltb-true passed most e in omega (arith, less, h)
few_left passed most false e f h = cc

no_time_left : (ending : Option Ending) (passed most : ℕ) → verdict most passed ending ≡ None → most ≤ passed → ⊥
no_time_left (Some (Done bytes)) passed most e h = cc
no_time_left (Some (Refused code)) passed most e h = cc
no_time_left (Some Unanswered) passed most e h = cc
no_time_left None passed most e h = few_left passed most (nat_lt passed most) refl e h

all_passed : (opening : List LiveCall) (turns : List Turn) (rests : List Rest) (most : ℕ) → most < 2 ^ 64 → length rests ≡ most → most ≤ ticks_over 0 (calls_of opening turns rests)
all_passed opening turns rests most fits number =
    let split = ticks-append opening (flat_map turn_calls turns ++ flat_map rest_calls rests) 0 ∙ ticks-append (flat_map turn_calls turns) (flat_map rest_calls rests) (ticks_over 0 opening) in
    let least = rest_ticks rests (ticks_over (ticks_over 0 opening) (flat_map turn_calls turns)) in
    omega (arith, split, least, number, fits)

pub outlasted : {S : Type 0} {stores : Stores S} {before now : S} {most : ℕ} {start : Node} {opening : List LiveCall} {turns : List Turn} {live : LiveNode} {t : RunLog} {first last : Outside} → most < 2 ^ 64 → OutlastTaken stores before now most start opening turns most live t first last → verdict most t.ticks t.ending ≡ None → ⊥
outlasted {S} {stores} {before} {now} {most} {start} {opening} {turns} {live} {t} {first} {last} fits w none =
    no_time_left t.ending t.ticks most none (subst (λ (n : ℕ). most ≤ n) (sym w.ended.between.output.ticks) (all_passed opening turns w.rests most fits w.number))
