-- Runs that end without a call left to be made, or in their opening.
use Rattle.std.proofs.Common.{◌≡◌, List, [], ◌∷◌, Option, Some, None, refl, sym, ap, ◌∙◌}
use Rattle.std.specs.Prelude.{map}
use Rattle.std.specs.List.{flat_map}
use Rattle.std.specs.Option.{option_map}
use Rattle.std.proofs.lemmas.List.{append-nil}
use Rattle.std.specs.Io.KnownBytes.{prepend_known}
use Rattle.mav_ports.specs.declared.sources.Got.{Got}
use Rattle.mav_ports.specs.declared.sources.Got.TheVariants.{Failed}
use Rattle.mav_ports.proofs.Known.{prepend_known_nil}
use Rattle.mav_links.specs.Links.{Pauses, pauses_after}
use Rattle.mav_nodes.specs.News.{shown}
use Rattle.node_reports.specs.Nodes.{Node, node_name}
use Rattle.run_status.specs.declared.input_errors.InputError.TheVariants.{StampsSpent}
use Rattle.run_status.specs.declared.live_ends.LiveEnd.TheVariants.{StoreFault, PortFault}
use Rattle.run_status.specs.declared.run_ends.RunEnd.{RunEnd}
use Rattle.run_status.specs.declared.run_ends.RunEnd.TheVariants.{Stopped, Live}
use Rattle.live_node.specs.declared.nodes.LiveNode.{LiveNode}
use Rattle.live_node.specs.declared.run_log.RunLog.{RunLog}
use Rattle.live_node.specs.Nodes.{HasHeard, end_of}
use Rattle.live_node.specs.Calls.{extras_at, LiveCall, AreTimed}
use Rattle.live_node.specs.Turns.{Turn, turn_bytes, pauses_over, AllHeard, Rest, calls_of, last_calls}
use Rattle.live_node.specs.Texts.{frames_text, lines_of}
use Rattle.live_node.specs.Ports.{SameRead}
use Rattle.live_node.specs.Runs.{Outside, Stores, HeardIn, RunAt}
use Rattle.live_node.specs.Progress.{Output, Between, CallsStopped}
use Rattle.live_node.proofs.Calls.{stored_by}
use Rattle.live_node.proofs.Endings.{sent_by, despite_by, printed_by}
use Rattle.live_node.proofs.Lasts.{heard_all, calls_at_start}
use Rattle.live_node.proofs.Results.{because}
use Rattle.live_node.proofs.Waits.{output_regroup}
use Rattle.live_node.proofs.GivenUp.{over_leaves}

pub no_pauses : (p : Option Pauses) → p ≡ option_map (pauses_over []) p
no_pauses None = refl
no_pauses (Some p) = refl

-- after the opening, before the first turn
pub between_start : {S : Type 0} (stores : Stores S) (before now : S) (start : Node) (opening : List LiveCall) (live : LiveNode) (t : RunLog) (first last : Outside) → HasHeard [] [] live → (end_of live).endpoint.extras ≡ extras_at start → SameRead first.link last.link → AreTimed first.time opening → Output stores before now start opening live t first last → Between stores before now start opening [] [] live t first last
between_start stores before now start opening live t first last heard same read timed output = record {
  timed = record { opened = timed; turned = tt; rested = tt };
  input = record {
    read = tt;
    all = tt;
    heard = heard;
    same = same;
    left = sym read.left ∙ sym (prepend_known_nil last.link.left);
    idles = read.idles;
    pauses = read.pauses ∙ no_pauses first.link.pauses;
  };
  output = output_regroup stores before now start opening (calls_of opening [] []) live t first last (calls_at_start opening) output;
}

-- a run stopped in its opening
abbrev pub stopped_in_opening : {S : Type 0} (stores : Stores S) (before now : S) (end : RunEnd) (start : Node) (opening : List LiveCall) (first last : Outside) → SameRead first.link last.link → AreTimed first.time opening → CallsStopped stores before now end start [] opening first last → RunAt stores before now start (Some end) opening [] [] first last
stopped_in_opening stores before now end start opening first last read timed s = record {
  made = s.more;
  rest = s.rest;
  calls = s.are ∙ calls_at_start opening;
  late = (s.more, s.are);
  timed = record { opened = timed; turned = tt; rested = tt };
  read = tt;
  heard = tt;
  left = sym read.left ∙ sym (prepend_known_nil last.link.left);
  idles = read.idles;
  pauses = read.pauses ∙ no_pauses first.link.pauses;
  written = s.written;
  spent = λ e. s.spent (because e);
  leaves = λ up. s.leaves up;
}

-- ---- reads that gave nothing

-- nothing was read, and nothing went out
pub record Still (old new : Outside) : Type 0 where
  pub left : new.link.left ≡ old.link.left
  pub idles : new.link.idles ≡ old.link.idles
  pub pauses : new.link.pauses ≡ old.link.pauses
  pub sent : new.link.sent ≡ old.link.sent
  pub text : new.text ≡ old.text
  pub time : new.time ≡ old.time

pub still_self : (o : Outside) → Still o o
still_self o = record { left = refl; idles = refl; pauses = refl; sent = refl; text = refl; time = refl }

nothing_read : (p : Option Pauses) (got : Got) → ((q : Pauses) → pauses_after got q ≡ q) → option_map (pauses_after got) p ≡ p
nothing_read None got h = refl
nothing_read (Some q) got h = ap Some (h q)

-- a read that failed
pub still_failed : (old new : Outside) → old.link.left ≡ prepend_known [] new.link.left → new.link.idles ≡ old.link.idles → new.link.pauses ≡ option_map (pauses_after Failed) old.link.pauses → new.link.sent ≡ old.link.sent → new.text ≡ old.text → new.time ≡ old.time → Still old new
still_failed old new left idles pauses sent text time = record {
  left = sym (left ∙ prepend_known_nil new.link.left);
  idles = idles;
  pauses = pauses ∙ nothing_read old.link.pauses Failed (λ q. refl);
  sent = sent;
  text = text;
  time = time;
}

-- ---- runs of which no call is left

pub heard_in : (end : Option RunEnd) (turns : List Turn) (rests : List Rest) → AllHeard turns → HeardIn end turns rests
heard_in end turns [] all = heard_all end turns all
heard_in end turns (r ∷ rests) all = all

-- all was done, and then the run ended so
abbrev pub run_over : {S : Type 0} (stores : Stores S) (before now : S) (start : Node) (end : Option RunEnd) (opening : List LiveCall) (turns : List Turn) (rests : List Rest) (live : LiveNode) (t : RunLog) (first last then : Outside) → (end ≡ Some (Stopped StampsSpent) → ⊥) → (end ≡ Some (Live StoreFault) → ⊥) → Still last then → (b : Between stores before now start opening turns rests live t first last) → RunAt stores before now start end opening turns rests first then
run_over stores before now start end opening turns rests live t first last then stamps store still b =
    let o = b.output in
    record {
      made = calls_of opening turns rests;
      rest = [];
      calls = append-nil (calls_of opening turns rests);
      late = (last_calls opening turns rests, append-nil (last_calls opening turns rests));
      timed = b.timed;
      read = b.input.read;
      heard = heard_in end turns rests b.input.all;
      left = b.input.left ∙ ap (prepend_known (flat_map turn_bytes turns)) (sym still.left);
      idles = still.idles ∙ b.input.idles;
      pauses = still.pauses ∙ b.input.pauses;
      written = record {
        node = o.node;
        events = o.events;
        run = o.run;
        sent = sent_by end first.link.sent then.link.sent (frames_text (map shown o.events)) (still.sent ∙ o.sent);
        despite = despite_by end first.link then.link (frames_text (map shown o.events)) (still.sent ∙ o.sent);
        printed = printed_by end first.text then.text (lines_of (node_name start) 0 o.events) (still.text ∙ o.printed);
        time = still.time ∙ o.time;
        kept = o.kept;
        stored = stored_by end (stores.contents now) o.node live o.is o.stored;
        store = λ e. absurd (store e);
      };
      spent = λ e. absurd (stamps e);
      leaves = λ up. over_leaves stores before now (extras_at start) (calls_of opening turns rests) o.node turns rests b.input.all (record { live = live; is = o.is; kept = o.stored });
    }

-- a fault of the port is neither want of a timestamp nor a fault of the store
pub port_no_stamps : ◌≡◌ {A = Option RunEnd} (Some (Live PortFault)) (Some (Stopped StampsSpent)) → ⊥
port_no_stamps e = cc

pub port_no_store : ◌≡◌ {A = Option RunEnd} (Some (Live PortFault)) (Some (Live StoreFault)) → ⊥
port_no_store e = cc
