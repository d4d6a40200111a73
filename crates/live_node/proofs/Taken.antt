-- Turns that were taken, and one more.
use Rattle.std.proofs.Common.{◌≡◌, ◌<◌, inl, inr, ℕ, ◌+◌, List, [], ◌∷◌, ◌++◌, ap, ◌∙◌, arith}
use Rattle.std.specs.Prelude.{length}
use Rattle.std.proofs.lemmas.List.{length-append}
use Rattle.node_reports.specs.Nodes.{Node}
use Rattle.run_status.specs.declared.run_ends.RunEnd.{RunEnd}
use Rattle.live_node.specs.declared.nodes.LiveNode.{LiveNode}
use Rattle.live_node.specs.declared.run_log.RunLog.{RunLog}
use Rattle.live_node.specs.Calls.{LiveCall}
use Rattle.live_node.specs.Turns.{Turn}
use Rattle.live_node.specs.Runs.{Outside, Stores}
use Rattle.live_node.specs.Progress.{TurnTaken, TurnsTaken, TurnStops, TurnsStopped}

pub length_more : (turns : List Turn) (turn : Turn) (count : ℕ) → length turns ≡ count → length (turns ++ turn ∷ []) ≡ count + 1
length_more turns turn count number = length-append turns (turn ∷ []) ∙ ap (λ (n : ℕ). n + 1) number

pub taken_more : {S : Type 0} {stores : Stores S} {before now : S} {start : Node} {opening : List LiveCall} {live : LiveNode} {t : RunLog} {first last : Outside} (turns : List Turn) (count : ℕ) → length turns ≡ count → TurnTaken stores before now start opening turns live t first last → TurnsTaken stores before now start opening (count + 1) live t first last
taken_more turns count number t = record { turns = turns ++ t.turn ∷ []; number = length_more turns t.turn count number; between = t.between }

pub stopped_after : {S : Type 0} {stores : Stores S} {before now : S} {end : RunEnd} {start : Node} {opening : List LiveCall} {first last : Outside} (turns : List Turn) (count most : ℕ) → length turns ≡ count → count < most → TurnStops stores before now end start opening turns first last → TurnsStopped stores before now end start opening most first last
stopped_after turns count most number less (inl cut) = record { turns = turns ++ cut.turn ∷ []; number = omega (arith, length_more turns cut.turn count number, less); run = cut.stopped }
stopped_after turns count most number less (inr run) = record { turns = turns; number = omega (arith, number, less); run = run }
