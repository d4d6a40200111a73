-- Time that passes after the port's end.
use Rattle.std.proofs.Common.{◌≡◌, List, [], ◌∷◌, ◌++◌, ap, sym, ◌∙◌, subst, append_assoc, Some}
use Rattle.std.specs.List.{flat_map}
use Rattle.std.specs.Io.KnownBytes.{prepend_known}
use Rattle.mav_ports.specs.Gets.{IsSpent}
use Rattle.mav_sign.specs.Streams.{reader_of}
use Rattle.node_reports.specs.Nodes.{Node}
use Rattle.run_status.specs.declared.run_ends.RunEnd.{RunEnd}
use Rattle.live_node.specs.declared.nodes.LiveNode.{LiveNode}
use Rattle.live_node.specs.declared.run_log.RunLog.{RunLog}
use Rattle.live_node.specs.Nodes.{end_of}
use Rattle.live_node.specs.Calls.{extras_at, LiveCall}
use Rattle.live_node.specs.Turns.{Turn, turn_bytes, turn_events, Rest, rest_calls, calls_of}
use Rattle.live_node.specs.Ports.{SameRead}
use Rattle.live_node.specs.Runs.{Outside, Stores, HeardIn, IsSpentCall, RunsOutIn, LeavesIn, RunAt}
use Rattle.live_node.specs.GivenUp.{CallLeaves}
use Rattle.live_node.specs.Progress.{WaitDone, WaitStopped, PortEnded}
use Rattle.live_node.proofs.Lasts.{last_of_rests, calls_with_rest, rests_timed}
use Rattle.live_node.proofs.Readers.{heard_same, extras_same}
use Rattle.live_node.proofs.Results.{because}
use Rattle.live_node.proofs.Waits.{output_regroup}

abbrev pub rest_of : {S : Type 0} {stores : Stores S} {before now : S} {start : Node} {made : List LiveCall} {live : LiveNode} {t : RunLog} {first last : Outside} → WaitDone stores before now start made live t first last → Rest
rest_of w = record { tick = w.tick; beat = w.beat; sim = w.sim }

pub rest_done : {S : Type 0} {stores : Stores S} {before old now : S} {start : Node} {opening : List LiveCall} {turns : List Turn} {rests : List Rest} {was live : LiveNode} {t u : RunLog} {first last then : Outside} → PortEnded stores before old start opening turns rests was t first last → SameRead last.link then.link → reader_of (end_of live).endpoint ≡ reader_of (end_of was).endpoint → (w : WaitDone stores before now start (calls_of opening turns rests) live u first then) → PortEnded stores before now start opening turns (rests ++ rest_of w ∷ []) live u first then
rest_done {S} {stores} {before} {old} {now} {start} {opening} {turns} {rests} {was} {live} {t} {u} {first} {last} {then} p read reader w =
    let b = p.between in
    let r = rest_of w in
    record {
      between = record {
        timed = record { opened = b.timed.opened; turned = b.timed.turned; rested = rests_timed first.time rests r b.timed.rested (w.timed, tt) };
        input = record {
          read = b.input.read;
          all = b.input.all;
          heard = heard_same (flat_map turn_bytes turns) (flat_map turn_events turns) was live reader b.input.heard;
          same = extras_same was live reader ∙ b.input.same;
          left = b.input.left ∙ ap (prepend_known (flat_map turn_bytes turns)) (sym read.left);
          idles = read.idles ∙ b.input.idles;
          pauses = read.pauses ∙ b.input.pauses;
        };
        output = output_regroup stores before now start (calls_of opening turns rests ++ rest_calls r) (calls_of opening turns (rests ++ r ∷ [])) live u first then (sym (calls_with_rest opening turns rests r)) w.output;
      };
      ended = read.ended ∙ p.ended;
      spent = subst IsSpent (sym read.left) p.spent;
    }

abbrev pub cut_rest : {S : Type 0} {stores : Stores S} {before now : S} {end : RunEnd} {start : Node} {made : List LiveCall} {first last : Outside} → WaitStopped stores before now end start made first last → Rest
cut_rest w = record { tick = w.tick; beat = w.beat; sim = w.sim }

pub rest_stopped : {S : Type 0} {stores : Stores S} {before old now : S} {end : RunEnd} {start : Node} {opening : List LiveCall} {turns : List Turn} {rests : List Rest} {was : LiveNode} {t : RunLog} {first last then : Outside} → PortEnded stores before old start opening turns rests was t first last → SameRead last.link then.link → (w : WaitStopped stores before now end start (calls_of opening turns rests) first then) → RunAt stores before now start (Some end) opening turns (rests ++ cut_rest w ∷ []) first then
rest_stopped {S} {stores} {before} {old} {now} {end} {start} {opening} {turns} {rests} {was} {t} {first} {last} {then} p read w =
    let b = p.between in
    let r = cut_rest w in
    let s = w.stopped in
    let made = calls_of opening turns rests in
    record {
      made = made ++ s.more;
      rest = s.rest;
      calls = append_assoc made s.more s.rest ∙ (ap (λ (l : List LiveCall). made ++ l) s.are ∙ sym (calls_with_rest opening turns rests r));
      late = (s.more, s.are ∙ sym (last_of_rests _ rests r));
      timed = record { opened = b.timed.opened; turned = b.timed.turned; rested = rests_timed first.time rests r b.timed.rested (w.timed, tt) };
      read = b.input.read;
      heard = heard rests r;
      left = b.input.left ∙ ap (prepend_known (flat_map turn_bytes turns)) (sym read.left);
      idles = read.idles ∙ b.input.idles;
      pauses = read.pauses ∙ b.input.pauses;
      written = s.written;
      spent = λ e. spent rests r s.written.node s.rest (s.spent (because e));
      leaves = λ up. leaves rests r (made ++ s.more) s.written.node s.rest (s.leaves up);
    }
  where
    heard : (xs : List Rest) (x : Rest) → HeardIn (Some end) turns (xs ++ x ∷ [])
    heard [] x = p.between.input.all
    heard (y ∷ ys) x = p.between.input.all

    spent : (xs : List Rest) (x : Rest) (node : Node) (rest : List LiveCall) → IsSpentCall node rest → RunsOutIn (extras_at start) turns (xs ++ x ∷ []) node rest
    spent [] x node rest h = h
    spent (y ∷ ys) x node rest h = h

    leaves : (xs : List Rest) (x : Rest) (calls : List LiveCall) (node : Node) (rest : List LiveCall) → CallLeaves (stores.contents now) node rest → LeavesIn stores before now (extras_at start) turns (xs ++ x ∷ []) calls node rest
    leaves [] x calls node rest h = h
    leaves (y ∷ ys) x calls node rest h = h
