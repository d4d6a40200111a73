-- A piece of which the node heard the frames, or at which it was given up.
use Rattle.std.proofs.Common.{◌≡◌, ℕ, List, [], ◌∷◌, ◌++◌, Bool, Option, Some, refl, sym, ap, ◌∙◌, subst}
use Rattle.std.specs.Prelude.{map}
use Rattle.std.proofs.lemmas.List.{append-nil}
use Rattle.mav_frame.specs.declared.events.Event.{Event}
use Rattle.mav_sign.specs.Endpoints.{frames_of}
use Rattle.mav_nodes.specs.declared.faults.NodeFault.{NodeFault}
use Rattle.mav_nodes.specs.declared.faults.NodeFault.TheVariants.{StampsSpent as NoStamp, Store, NoMemory as NoNodeMemory}
use Rattle.mav_nodes.specs.News.{shown}
use Rattle.mav_nodes.specs.Stores.{Serves, HasFailed, AllKept}
use Rattle.mav_nodes.proofs.StoreCalls.{then_failed}
use Rattle.mav_nodes.specs.Streams.{GrowsBy}
use Rattle.node_reports.specs.Nodes.{Node, Drone, Station, node_name}
use Rattle.run_status.specs.declared.input_errors.InputError.TheVariants.{StampsSpent}
use Rattle.run_status.specs.declared.live_ends.LiveEnd.TheVariants.{StoreFault}
use Rattle.run_status.specs.declared.run_ends.RunEnd.{RunEnd}
use Rattle.run_status.specs.declared.run_ends.RunEnd.TheVariants.{Stopped, Live}
use Rattle.live_node.specs.declared.nodes.LiveNode.{LiveNode}
use Rattle.live_node.specs.declared.nodes.LiveNode.TheVariants.{Drone as LiveDrone, Station as LiveStation}
use Rattle.live_node.specs.declared.run_log.RunLog.{RunLog}
use Rattle.live_node.specs.Nodes.{IsLive, HasHeard, end_of}
use Rattle.live_node.specs.Calls.{LiveCall, Hears, extras_at, calls_do, IsTime}
use Rattle.live_node.specs.Turns.{Reads, Breaks}
use Rattle.live_node.specs.Texts.{frames_text, lines_of}
use Rattle.live_node.specs.Ports.{end_by}
use Rattle.live_node.specs.Parts.{PieceFails}
use Rattle.live_node.specs.GivenUp.{PieceLeaves}
use Rattle.live_node.specs.Runs.{Outside, Stores, Kept, IsSpentAt, IsSpentCall}
use Rattle.live_node.specs.Progress.{Output, CallsStopped, PieceStopped}
use Rattle.live_node.proofs.Endings.{sent_by, despite_by, printed_by}
use Rattle.live_node.proofs.Calls.{kept_on, stored_at_fault}
use Rattle.live_node.proofs.Lasts.{gives_up}
use Rattle.live_node.proofs.GivenUp.{read_leaves}

-- the frames were heard, and then the run stopped
pub piece_stopped : {S : Type 0} {stores : Stores S} {before now : S} {end : RunEnd} {extras : List (ℕ × ℕ)} {taken : List ℕ} {given : List Event} {piece : List ℕ} {start : Node} {made : List LiveCall} {first last : Outside} (at : ℕ) (events : List Event) (keeps : List Bool) → IsTime first.time at → GrowsBy extras (taken ++ piece) given events → CallsStopped stores before now end start made (Hears (frames_of events) keeps at ∷ []) first last → PieceStopped stores before now end extras taken given piece start made first last
piece_stopped {S} {stores} {before} {now} {end} {extras} {taken} {given} {piece} {start} {made} {first} {last} at events keeps timed grows s = record {
  turn = Reads piece events keeps at;
  timed = timed;
  reads = grows;
  heard = λ long. long;
  piece_is = record { bytes = refl; idles = λ count. refl; pauses = λ p. refl };
  stopped = record {
    more = s.more;
    rest = s.rest;
    calls = s.are;
    written = s.written;
    spent = λ e. here s.written.node s.rest (s.spent e);
    leaves = λ up. read_leaves stores before now extras (made ++ s.more) s.written.node taken given piece events keeps at s.rest (s.leaves up);
  };
}
  where
    here : (node : Node) (rest : List LiveCall) → IsSpentCall node rest → IsSpentAt extras taken given (Reads piece events keeps at) node rest
    here node [] h = h
    here node (call ∷ rest) h = h

-- a node knows the messages that its end of the link knows
pub node_extras : (node : Node) (live : LiveNode) → IsLive node live → extras_at node ≡ (end_of live).endpoint.extras
node_extras (Drone n) (LiveDrone v) is = sym is.link.end.extras
node_extras (Drone n) (LiveStation v) is = absurd is
node_extras (Station n) (LiveDrone v) is = absurd is
node_extras (Station n) (LiveStation v) is = sym is.link.end.extras

-- the node was given up at them
pub piece_broken : {S : Type 0} {stores : Stores S} {before old now : S} {taken : List ℕ} {given : List Event} {piece : List ℕ} {start : Node} {made : List LiveCall} {live : LiveNode} {t : RunLog} {first last : Outside} {extras : List (ℕ × ℕ)} (at : ℕ) (fault : NodeFault) → IsTime first.time at → (o : Output stores before old start made live t first last) → (end_of live).endpoint.extras ≡ extras → HasHeard taken given live → Serves stores.faults stores.is_infallible old now → PieceFails fault at piece live (HasFailed stores.faults stores.is_infallible old now) → PieceLeaves at piece (AllKept (HasFailed stores.faults stores.is_infallible old now)) (stores.contents now) live → PieceStopped stores before now (end_by fault) extras taken given piece start made first last
piece_broken {S} {stores} {before} {old} {now} {taken} {given} {piece} {start} {made} {live} {t} {first} {last} {extras} at fault timed o same heard serves fails left = record {
  turn = Breaks piece at;
  timed = timed;
  reads = tt;
  heard = λ long. (long, gives_up fault);
  piece_is = record { bytes = refl; idles = λ count. refl; pauses = λ p. refl };
  stopped = record {
    more = [];
    rest = [];
    calls = refl;
    written = record {
      node = o.node;
      events = o.events;
      run = ap (λ (calls : List LiveCall). calls_do calls start) (append-nil made) ∙ o.run;
      sent = sent_by (Some (end_by fault)) first.link.sent last.link.sent (frames_text (map shown o.events)) o.sent;
      despite = despite_by (Some (end_by fault)) first.link last.link (frames_text (map shown o.events)) o.sent;
      printed = printed_by (Some (end_by fault)) first.text last.text (lines_of (node_name start) 0 o.events) o.printed;
      time = o.time;
      kept = subst (Kept stores before now) (sym (append-nil made)) (kept_on stores before old now made o.kept serves);
      stored = stored_at_fault fault (stores.contents now) o.node;
      store = λ e. then_failed stores.faults stores.is_infallible before old now o.kept.serves (by_store fault fails e);
    };
    spent = λ e. by_fault fault fails e;
    leaves = λ up events grows. record {
      old = old;
      kept = subst (Kept stores before old) (sym (append-nil made)) o.kept;
      given = left o.node taken given events o.is heard (subst (λ (x : List (ℕ × ℕ)). GrowsBy x (taken ++ piece) given events) (sym (node_extras o.node live o.is ∙ same)) grows);
    };
  };
}
  where
    by_store : (why : NodeFault) → PieceFails why at piece live (HasFailed stores.faults stores.is_infallible old now) → ◌≡◌ {A = Option RunEnd} (Some (end_by why)) (Some (Live StoreFault)) → HasFailed stores.faults stores.is_infallible old now
    by_store NoStamp h e = cc
    by_store Store h e = h
    by_store NoNodeMemory h e = cc

    by_fault : (why : NodeFault) → PieceFails why at piece live (HasFailed stores.faults stores.is_infallible old now) → end_by why ≡ Stopped StampsSpent → IsSpentAt extras taken given (Breaks piece at) o.node []
    by_fault NoStamp h e = λ events grows. h o.node taken given events o.is heard (subst (λ (x : List (ℕ × ℕ)). GrowsBy x (taken ++ piece) given events) (sym (node_extras o.node live o.is ∙ same)) grows)
    by_fault Store h e = cc
    by_fault NoNodeMemory h e = cc
