-- Several calls, and calls of which the last ones are no longer made.
use Rattle.std.proofs.Common.{◌≡◌, List, [], ◌∷◌, ◌++◌, Some, sym, ap, ◌∙◌, subst, append_assoc}
use Rattle.node_reports.specs.Nodes.{Node}
use Rattle.run_status.specs.declared.run_ends.RunEnd.{RunEnd}
use Rattle.live_node.specs.declared.nodes.LiveNode.{LiveNode}
use Rattle.live_node.specs.declared.run_log.RunLog.{RunLog}
use Rattle.live_node.specs.Calls.{LiveCall}
use Rattle.live_node.specs.Runs.{Outside, Stores, IsSpentCall}
use Rattle.live_node.specs.Progress.{Output, CallsStopped}
use Rattle.live_node.proofs.GivenUp.{leaves_more}
use Rattle.live_node.proofs.Calls.{regroup}

pub spent_more : (node : Node) (rest more : List LiveCall) → IsSpentCall node rest → IsSpentCall node (rest ++ more)
spent_more node [] more h = absurd h
spent_more node (call ∷ rest) more h = h

-- more calls were still to come
abbrev pub more_to_come : {S : Type 0} (stores : Stores S) (before now : S) (end : RunEnd) (start : Node) (made calls more : List LiveCall) (first last : Outside) → CallsStopped stores before now end start made calls first last → CallsStopped stores before now end start made (calls ++ more) first last
more_to_come stores before now end start made calls more first last s = record {
  more = s.more;
  rest = s.rest ++ more;
  are = sym (append_assoc s.more s.rest more) ∙ ap (λ (l : List LiveCall). l ++ more) s.are;
  written = s.written;
  spent = λ e. spent_more s.written.node s.rest more (s.spent e);
  leaves = λ up. leaves_more (stores.contents now) s.written.node s.rest more (s.leaves up);
}

-- calls were made before these
abbrev pub made_before : {S : Type 0} (stores : Stores S) (before now : S) (end : RunEnd) (start : Node) (made earlier calls : List LiveCall) (first last : Outside) → CallsStopped stores before now end start (made ++ earlier) calls first last → CallsStopped stores before now end start made (earlier ++ calls) first last
made_before stores before now end start made earlier calls first last s = record {
  more = earlier ++ s.more;
  rest = s.rest;
  are = append_assoc earlier s.more s.rest ∙ ap (λ (l : List LiveCall). earlier ++ l) s.are;
  written = regroup stores before now (Some end) start ((made ++ earlier) ++ s.more) (made ++ (earlier ++ s.more)) first last (append_assoc made earlier s.more) s.written;
  spent = s.spent;
  leaves = s.leaves;
}

pub output_regroup : {S : Type 0} (stores : Stores S) (before now : S) (start : Node) (xs ys : List LiveCall) (live : LiveNode) (t : RunLog) (first last : Outside) → xs ≡ ys → Output stores before now start xs live t first last → Output stores before now start ys live t first last
output_regroup stores before now start xs ys live t first last e o = subst (λ (calls : List LiveCall). Output stores before now start calls live t first last) e o
