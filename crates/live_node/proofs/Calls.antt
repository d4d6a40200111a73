-- One more call.
use Rattle.std.proofs.Common.{◌≡◌, inl, inr, ℕ, List, [], ◌∷◌, ◌++◌, true, Option, Some, None, Result, Ok, Err, refl, sym, ap, ◌∙◌, subst, append_assoc}
use Rattle.std.specs.Prelude.{map, IfErr, MatchResult}
use Rattle.std.specs.Result.{result_err}
use Rattle.std.proofs.lemmas.List.{append-nil}
use Rattle.std.proofs.lemmas.List.Elements.{All-nil}
use Rattle.std.specs.Io.KnownBytes.{append_known}
use Rattle.mav_names.specs.declared.names.Name.{Name}
use Rattle.mav_links.specs.Links.{LinkState}
use Rattle.param_proto.specs.declared.params.Param.{Param}
use Rattle.mav_nodes.specs.declared.faults.NodeFault.{NodeFault}
use Rattle.mav_nodes.specs.declared.faults.NodeFault.TheVariants.{StampsSpent as NoStamp, Store, NoMemory as NoNodeMemory}
use Rattle.mav_nodes.specs.declared.news.News.{News}
use Rattle.mav_nodes.specs.News.{NodeEvent, shown, events_of}
use Rattle.mav_nodes.specs.Links.{Outcome, done, after_events, and_then}
use Rattle.mav_nodes.specs.Stores.{Serves, HasFailed, AllKept}
use Rattle.mav_nodes.specs.Promises.{Did}
use Rattle.mav_nodes.proofs.StoreCalls.{serves_both, serves_same, then_failed}
use Rattle.node_reports.specs.Nodes.{Node, node_name}
use Rattle.node_reports.specs.ParamLists.{params_of, HaveValues}
use Rattle.node_reports.proofs.ListedValues.{ListsKnown}
use Rattle.run_status.specs.declared.input_errors.InputError.TheVariants.{Bad, AtLimit, StampsSpent}
use Rattle.run_status.specs.declared.live_ends.LiveEnd.TheVariants.{RefusedWith, NoAnswer, StoreFault, PortTurns, PortFault}
use Rattle.run_status.specs.declared.run_ends.RunEnd.{RunEnd}
use Rattle.run_status.specs.declared.run_ends.RunEnd.TheVariants.{Usage, Stopped, ReadFault, WriteFault, NoMemory, TurnsSpent, Live}
use Rattle.live_node.specs.declared.nodes.LiveNode.{LiveNode}
use Rattle.live_node.specs.declared.nodes.Due.{Due}
use Rattle.live_node.specs.declared.nodes.Due.TheVariants.{Tick, Heartbeat, Sim}
use Rattle.live_node.specs.declared.run_log.Ending.{Ending}
use Rattle.live_node.specs.declared.run_log.RunLog.{RunLog}
use Rattle.live_node.specs.Nodes.{IsLive, IsKeptBy}
use Rattle.live_node.specs.Calls.{LiveCall, call_does, calls_do, keeps_in, IsTime, ticks_with, ticks_over}
use Rattle.live_node.specs.Texts.{frames_text, lines_of, count_over, ending_over}
use Rattle.live_node.specs.Ports.{SentBy, SentDespite, PrintedBy, FaultsBy, end_by, IsTellingEnd}
use Rattle.live_node.specs.Parts.{CallFails}
use Rattle.live_node.specs.GivenUp.{StoreIs, CallLeaves}
use Rattle.live_node.specs.Runs.{Outside, outside, Stores, KeptIn, KeptOver, Kept, StoredBy, Written}
use Rattle.live_node.specs.Progress.{Said, Output, CallsStopped, due_call, counted}
use Rattle.live_node.proofs.Endings.{sent_by, despite_by, printed_by, sent_after, despite_after, printed_after, whole_after}
use Rattle.live_node.proofs.Texts.{frames-append, lines-append, count-append, ending-append}
use Rattle.live_node.proofs.Known.{known}

-- ---- outcomes

behind_none : {A : Type 0} (outcome : Outcome A) → after_events [] outcome ≡ outcome
behind_none None = refl
behind_none (Some d) = refl

then_done : {A : Type 0} (outcome : Outcome A) → and_then outcome (λ node. done node []) ≡ outcome
then_done None = refl
then_done (Some d) = ap (λ (l : List NodeEvent). done d.node l) (append-nil d.events)

behind_twice : {A : Type 0} (first next : List NodeEvent) (outcome : Outcome A) → after_events first (after_events next outcome) ≡ after_events (first ++ next) outcome
behind_twice first next None = refl
behind_twice first next (Some d) = ap (λ (l : List NodeEvent). done d.node l) (sym (append_assoc first next d.events))

behind_then : {A B : Type 0} (events : List NodeEvent) (outcome : Outcome A) (next : A → Outcome B) → after_events events (and_then outcome next) ≡ and_then (after_events events outcome) next
behind_then events None next = refl
behind_then events (Some d) next = behind_twice events d.events (next d.node)

-- calls, and then one more
later : (xs : List LiveCall) (call : LiveCall) → ((node : Node) → calls_do (xs ++ call ∷ []) node ≡ and_then (calls_do xs node) (call_does call)) → (o : Outcome Node) → and_then o (calls_do (xs ++ call ∷ [])) ≡ and_then (and_then o (calls_do xs)) (call_does call)
later xs call h None = refl
later xs call h (Some d) = ap (after_events d.events) (h d.node) ∙ behind_then d.events (calls_do xs d.node) (call_does call)

pub one_more : (made : List LiveCall) (call : LiveCall) (node : Node) → calls_do (made ++ call ∷ []) node ≡ and_then (calls_do made node) (call_does call)
one_more [] call node = then_done (call_does call node) ∙ sym (behind_none (call_does call node))
one_more (x ∷ xs) call node = later xs call (λ n. one_more xs call n) (call_does x node)

-- and its ticks
pub ticks-append : (xs ys : List LiveCall) (before : ℕ) → ticks_over before (xs ++ ys) ≡ ticks_over (ticks_over before xs) ys
ticks-append [] ys before = refl
ticks-append (x ∷ xs) ys before = ticks-append xs ys (ticks_with before x)

ticks_more : (made : List LiveCall) (call : LiveCall) (before : ℕ) → ticks_over before (made ++ call ∷ []) ≡ ticks_with (ticks_over before made) call
ticks_more made call before = ticks-append made (call ∷ []) before

-- what a call did
pub record Does (outcome : Outcome Node) (live : LiveNode) (news : List News) : Type 0 where
  pub node : Node
  pub events : List NodeEvent
  pub does : outcome ≡ done node events
  pub is : IsLive node live
  pub said : events_of news ≡ map shown events

pub did_does : (outcome : Outcome Node) (live : LiveNode) (news : List News) → Did outcome (λ node. IsLive node live) [] news → Does outcome live news
did_does None live news h = absurd h
did_does (Some d) live news h = record { node = d.node; events = d.events; does = refl; is = h.0; said = h.1 }

-- ---- stores

-- what a store was served later leaves what it kept
over_on : {S : Type 0} (stores : Stores S) (before old now : S) (made : List LiveCall) → KeptOver stores before old made → Serves stores.faults stores.is_infallible old now → KeptOver stores before now made
over_on stores before old now [] h serves = serves_both stores.faults stores.is_infallible before old now h serves
over_on stores before old now (call ∷ made) (next, kept, more) serves = (next, kept, over_on stores next old now made more serves)

-- one more call
over_more : {S : Type 0} (stores : Stores S) (before old now : S) (made : List LiveCall) (call : LiveCall) → KeptOver stores before old made → KeptIn stores old now call → KeptOver stores before now (made ++ call ∷ [])
over_more stores before old now [] call h kept = (now, kept_from, serves_same stores.faults stores.is_infallible now)
  where
    on : AllKept (HasFailed stores.faults stores.is_infallible old now) (keeps_in call) → AllKept (HasFailed stores.faults stores.is_infallible before now) (keeps_in call)
    on (inl all) = inl all
    on (inr failed) = inr (then_failed stores.faults stores.is_infallible before old now h failed)

    kept_from : KeptIn stores before now call
    kept_from = record { serves = serves_both stores.faults stores.is_infallible before old now h kept.serves; kept = on kept.kept }
over_more stores before old now (x ∷ xs) call (next, first, more) kept = (next, first, over_more stores next old now xs call more kept)

pub kept_on : {S : Type 0} (stores : Stores S) (before old now : S) (made : List LiveCall) → Kept stores before old made → Serves stores.faults stores.is_infallible old now → Kept stores before now made
kept_on stores before old now made k serves = record {
  serves = serves_both stores.faults stores.is_infallible before old now k.serves serves;
  each = over_on stores before old now made k.each serves;
}

pub kept_more : {S : Type 0} (stores : Stores S) (before old now : S) (made : List LiveCall) (call : LiveCall) → Kept stores before old made → Serves stores.faults stores.is_infallible old now → AllKept (HasFailed stores.faults stores.is_infallible old now) (keeps_in call) → Kept stores before now (made ++ call ∷ [])
kept_more stores before old now made call k serves more = record {
  serves = serves_both stores.faults stores.is_infallible before old now k.serves serves;
  each = over_more stores before old now made call k.each (record { serves = serves; kept = more });
}

-- a node whose store has what it has stored
pub stored_by : (end : Option RunEnd) (contents : Option (List ℕ)) (node : Node) (live : LiveNode) → IsLive node live → IsKeptBy contents live → StoredBy end contents node
stored_by None contents node live is kept = (live, is, kept)
stored_by (Some Usage) contents node live is kept = (live, is, kept)
stored_by (Some (Stopped (Bad place reason))) contents node live is kept = (live, is, kept)
stored_by (Some (Stopped (AtLimit limit))) contents node live is kept = (live, is, kept)
stored_by (Some (Stopped StampsSpent)) contents node live is kept = tt
stored_by (Some ReadFault) contents node live is kept = (live, is, kept)
stored_by (Some WriteFault) contents node live is kept = (live, is, kept)
stored_by (Some NoMemory) contents node live is kept = tt
stored_by (Some TurnsSpent) contents node live is kept = (live, is, kept)
stored_by (Some (Live (RefusedWith code))) contents node live is kept = (live, is, kept)
stored_by (Some (Live (NoAnswer ticks))) contents node live is kept = (live, is, kept)
stored_by (Some (Live StoreFault)) contents node live is kept = tt
stored_by (Some (Live (PortTurns turns))) contents node live is kept = (live, is, kept)
stored_by (Some (Live PortFault)) contents node live is kept = (live, is, kept)

-- one that was given up may have saved
pub stored_at_fault : (fault : NodeFault) (contents : Option (List ℕ)) (node : Node) → StoredBy (Some (end_by fault)) contents node
stored_at_fault NoStamp contents node = tt
stored_at_fault Store contents node = tt
stored_at_fault NoNodeMemory contents node = tt

-- ---- one call

-- what is known of a call that returned news: its run_log wrote them, or stopped so
pub record Called {S : Type 0} (stores : Stores S) (before old now : S) (start : Node) (made : List LiveCall) (call : LiveCall) (was live : LiveNode) (t u : RunLog) (first : Outside) (l m : LinkState) (x y : Option (List ℕ)) (z w : Option ℕ) (news : List News) (values : List Param) (end : Option RunEnd) : Type 0 where
  pub output : Output stores before old start made was t first (outside l x z)
  pub stays : w ≡ z
  pub did : Did (call_does call output.node) (λ node. IsLive node live) [] news
  pub serves : Serves stores.faults stores.is_infallible old now
  pub kept : AllKept (HasFailed stores.faults stores.is_infallible old now) (keeps_in call)
  pub stored : IsKeptBy (stores.contents old) was → IsKeptBy (stores.contents now) live
  pub values_are : (node : Node) → IsLive node live → values ≡ params_of (Some node)
  pub said : (events : List NodeEvent) → events_of news ≡ map shown events → HaveValues values events → Said end events (counted call t) u l m x y

-- the events of the call, and what was told of them
record Heard {S : Type 0} (stores : Stores S) (now : S) (start : Node) (made : List LiveCall) (call : LiveCall) (live : LiveNode) (earlier : List NodeEvent) (t u : RunLog) (l m : LinkState) (x y : Option (List ℕ)) (end : Option RunEnd) : Type 0 where
  node : Node
  events : List NodeEvent
  run : calls_do (made ++ call ∷ []) start ≡ done node (earlier ++ events)
  is : IsLive node live
  told : Said end events (counted call t) u l m x y

known_in : (outcome : Outcome Node) (node : Node) (events : List NodeEvent) → outcome ≡ done node events → ListsKnown outcome → HaveValues (params_of (Some node)) events
known_in outcome node events e h = subst ListsKnown e h

heard : {S : Type 0} {stores : Stores S} {before old now : S} {start : Node} {made : List LiveCall} {call : LiveCall} {was live : LiveNode} {t u : RunLog} {first : Outside} {l m : LinkState} {x y : Option (List ℕ)} {z w : Option ℕ} {news : List News} {values : List Param} {end : Option RunEnd} (c : Called stores before old now start made call was live t u first l m x y z w news values end) → Heard stores now start made call live c.output.events t u l m x y end
heard {S} {stores} {before} {old} {now} {start} {made} {call} {was} {live} {t} {u} {first} {l} {m} {x} {y} {z} {w} {news} {values} {end} c =
    let o = c.output in
    let d = did_does (call_does call o.node) live news c.did in
    let have = subst (λ (v : List Param). HaveValues v d.events) (sym (c.values_are d.node d.is)) (known_in (call_does call o.node) d.node d.events d.does (known call o.node)) in
    record {
      node = d.node;
      events = d.events;
      run = one_more made call start ∙ (ap (λ (out : Outcome Node). and_then out (call_does call)) o.run ∙ ap (after_events o.events) d.does);
      is = d.is;
      told = c.said d.events d.said have;
    }

lines_told : (t : RunLog) (name : Name) (events more : List NodeEvent) → t.name ≡ name → t.sent ≡ count_over 0 events → lines_of t.name t.sent more ≡ lines_of name (count_over 0 events) more
lines_told t name events more e f = ap (λ (n : Name). lines_of n t.sent more) e ∙ ap (λ (k : ℕ). lines_of name k more) f

-- a call was made, and all that it told was written
pub call_told : {S : Type 0} {stores : Stores S} {before old now : S} {start : Node} {made : List LiveCall} {call : LiveCall} {was live : LiveNode} {t u : RunLog} {first : Outside} {l m : LinkState} {x y : Option (List ℕ)} {z w : Option ℕ} {news : List News} {values : List Param} {end : Option RunEnd} (c : Called stores before old now start made call was live t u first l m x y z w news values end) → end ≡ None → m.faults ≡ l.faults → Output stores before now start (made ++ call ∷ []) live u first (outside m y w)
call_told {S} {stores} {before} {old} {now} {start} {made} {call} {was} {live} {t} {u} {first} {l} {m} {x} {y} {z} {w} {news} {values} {end} c none faults =
    let o = c.output in
    let h = heard c in
    let told = h.told.told none in
    let sent = subst (λ (e : Option RunEnd). SentBy e l.sent m.sent (frames_text (map shown h.events))) none h.told.sent in
    let printed = subst (λ (e : Option RunEnd). PrintedBy e x y (lines_of t.name t.sent h.events)) none h.told.printed in
    let lines = lines_told t (node_name start) o.events h.events o.name o.count in
    record {
      node = h.node;
      events = o.events ++ h.events;
      run = h.run;
      is = h.is;
      name = ap (λ (v : RunLog). v.name) told ∙ o.name;
      count = ap (λ (v : RunLog). v.sent) told ∙ (ap (λ (k : ℕ). count_over k h.events) o.count ∙ sym (count-append 0 o.events h.events));
      ending = ap (λ (v : RunLog). v.ending) told ∙ (ap (λ (e : Option Ending). ending_over e h.events) o.ending ∙ sym (ending-append None o.events h.events));
      ticks = ap (λ (v : RunLog). v.ticks) told ∙ (ap (λ (k : ℕ). ticks_with k call) o.ticks ∙ sym (ticks_more made call 0));
      faults = faults ∙ o.faults;
      time = c.stays ∙ o.time;
      sent = whole_after first.link.sent l.sent m.sent (frames_text (map shown o.events)) (frames_text (map shown h.events)) o.sent sent ∙ ap (append_known first.link.sent) (sym (frames-append o.events h.events));
      printed = whole_after first.text x y (lines_of (node_name start) 0 o.events) (lines_of t.name t.sent h.events) o.printed printed
          ∙ ap (append_known first.text) (ap (λ (more : List ℕ). lines_of (node_name start) 0 o.events ++ more) lines ∙ sym (lines-append (node_name start) 0 o.events h.events));
      kept = kept_more stores before old now made call o.kept c.serves c.kept;
      stored = c.stored o.stored;
    }

-- an end while news are written isn't want of a timestamp
pub not_spent : (end : RunEnd) → IsTellingEnd end → end ≡ Stopped StampsSpent → ⊥
not_spent end (inl e) h = cc
not_spent end (inr (inl e)) h = cc
not_spent end (inr (inr e)) h = cc

-- nor a fault of the store
pub not_store : (end : RunEnd) → IsTellingEnd end → ◌≡◌ {A = Option RunEnd} (Some end) (Some (Live StoreFault)) → ⊥
not_store end (inl e) h = cc
not_store end (inr (inl e)) h = cc
not_store end (inr (inr e)) h = cc

-- a call was made, and then the run stopped while its news were written; its store has what the node has stored
written_left : {S : Type 0} {stores : Stores S} {before old now : S} {start : Node} {made : List LiveCall} {call : LiveCall} {was live : LiveNode} {t u : RunLog} {first : Outside} {l m : LinkState} {x y : Option (List ℕ)} {z w : Option ℕ} {news : List News} {values : List Param} {end : Option RunEnd} (c : Called stores before old now start made call was live t u first l m x y z w news values end) → (end ≡ Some (Live StoreFault) → ⊥) → (v : Written stores before now end start (made ++ call ∷ []) first (outside m y w)) × StoreIs (stores.contents now) v.node
written_left {S} {stores} {before} {old} {now} {start} {made} {call} {was} {live} {t} {u} {first} {l} {m} {x} {y} {z} {w} {news} {values} {end} c other =
    let o = c.output in
    let h = heard c in
    let lines = lines_told t (node_name start) o.events h.events o.name o.count in (
      record {
        node = h.node;
        events = o.events ++ h.events;
        run = h.run;
        sent = subst (SentBy end first.link.sent m.sent) (sym (frames-append o.events h.events)) (sent_after end first.link.sent l.sent m.sent (frames_text (map shown o.events)) (frames_text (map shown h.events)) o.sent h.told.sent);
        despite = subst (SentDespite end first.link m) (sym (frames-append o.events h.events))
            (despite_after end first.link l m (frames_text (map shown o.events)) (frames_text (map shown h.events)) o.sent o.faults h.told.despite);
        printed = subst (PrintedBy end first.text y) (ap (λ (more : List ℕ). lines_of (node_name start) 0 o.events ++ more) lines ∙ sym (lines-append (node_name start) 0 o.events h.events))
            (printed_after end first.text x y (lines_of (node_name start) 0 o.events) (lines_of t.name t.sent h.events) o.printed h.told.printed);
        time = c.stays ∙ o.time;
        kept = kept_more stores before old now made call o.kept c.serves c.kept;
        stored = stored_by end (stores.contents now) h.node live h.is (c.stored o.stored);
        store = λ e. absurd (other e);
      },
      record { live = live; is = h.is; kept = c.stored o.stored },
    )

-- all was written, and then the run ended so
abbrev pub written : {S : Type 0} (stores : Stores S) (before now : S) (end : Option RunEnd) (start : Node) (made : List LiveCall) (live : LiveNode) (t : RunLog) (first last : Outside) → Output stores before now start made live t first last → (end ≡ Some (Live StoreFault) → ⊥) → Written stores before now end start made first last
written {S} stores before now end start made live t first last o other = record {
  node = o.node;
  events = o.events;
  run = o.run;
  sent = sent_by end first.link.sent last.link.sent (frames_text (map shown o.events)) o.sent;
  despite = despite_by end first.link last.link (frames_text (map shown o.events)) o.sent;
  printed = printed_by end first.text last.text (lines_of (node_name start) 0 o.events) o.printed;
  time = o.time;
  kept = o.kept;
  stored = stored_by end (stores.contents now) o.node live o.is o.stored;
  store = λ e. absurd (other e);
}

pub call_stopped : {S : Type 0} {stores : Stores S} {before old now : S} {start : Node} {made : List LiveCall} {call : LiveCall} {was live : LiveNode} {t u : RunLog} {first : Outside} {l m : LinkState} {x y : Option (List ℕ)} {z w : Option ℕ} {news : List News} {values : List Param} {end : Option RunEnd} (c : Called stores before old now start made call was live t u first l m x y z w news values end) → (why : RunEnd) → end ≡ Some why → IsTellingEnd why → CallsStopped stores before now why start made (call ∷ []) first (outside m y w)
call_stopped {S} {stores} {before} {old} {now} {start} {made} {call} {was} {live} {t} {u} {first} {l} {m} {x} {y} {z} {w} {news} {values} {end} c why e telling =
    let both = subst (λ (how : Option RunEnd). (v : Written stores before now how start (made ++ call ∷ []) first (outside m y w)) × StoreIs (stores.contents now) v.node) e
    (written_left c (λ failed. not_store why telling (sym e ∙ failed))) in
    record {
      more = call ∷ [];
      rest = [];
      are = refl;
      written = both.0;
      spent = λ spent. absurd (not_spent why telling spent);
      leaves = λ up. both.1;
    }

-- a call's news were written, or the run stopped there
pub told_by : {S A : Type 0} {stores : Stores S} {before old now : S} {start : Node} {made : List LiveCall} {was live : LiveNode} {t u : RunLog} {first : Outside} {l m : LinkState} {x y : Option (List ℕ)} {z w : Option ℕ} {news : List News} {values : List Param} (call : LiveCall) (r : Result A RunEnd) (Told : A → Type 0) (Cut : RunEnd → Type 0) (p q : ℕ) → Called stores before old now start made call was live t u first l m x y z w news values (result_err r) → IfErr r IsTellingEnd → FaultsBy (result_err r) l.faults m.faults p q → ((a : A) → Output stores before now start (made ++ call ∷ []) live u first (outside m y w) → Told a) → ((end : RunEnd) → IsTellingEnd end → CallsStopped stores before now end start made (call ∷ []) first (outside m y w) → Cut end) → MatchResult r Told Cut
told_by call (Ok a) Told Cut p q c is faults told cut = told a (call_told c refl faults.0)
told_by call (Err end) Told Cut p q c is faults told cut = cut end is (call_stopped c end refl is)

-- only want of a timestamp ends a run so
pub spent_by : (fault : NodeFault) (outcome : Outcome Node) (failed : Type 0) → CallFails fault outcome failed → end_by fault ≡ Stopped StampsSpent → outcome ≡ None
spent_by NoStamp outcome failed h e = h
spent_by Store outcome failed h e = absurd (differs e)
  where
    differs : end_by Store ≡ Stopped StampsSpent → ⊥
    differs e = cc
spent_by NoNodeMemory outcome failed h e = absurd (differs e)
  where
    differs : end_by NoNodeMemory ≡ Stopped StampsSpent → ⊥
    differs e = cc

-- only a fault of the store ends it so
pub failed_by : (fault : NodeFault) (outcome : Outcome Node) (failed : Type 0) → CallFails fault outcome failed → ◌≡◌ {A = Option RunEnd} (Some (end_by fault)) (Some (Live StoreFault)) → failed
failed_by NoStamp outcome failed h e = absurd (differs e)
  where
    differs : ◌≡◌ {A = Option RunEnd} (Some (end_by NoStamp)) (Some (Live StoreFault)) → ⊥
    differs e = cc
failed_by Store outcome failed h e = h
failed_by NoNodeMemory outcome failed h e = absurd (differs e)
  where
    differs : ◌≡◌ {A = Option RunEnd} (Some (end_by NoNodeMemory)) (Some (Live StoreFault)) → ⊥
    differs e = cc

-- the same calls, grouped in another way
abbrev pub regroup : {S : Type 0} (stores : Stores S) (before now : S) (end : Option RunEnd) (start : Node) (xs ys : List LiveCall) (first last : Outside) → xs ≡ ys → Written stores before now end start xs first last → Written stores before now end start ys first last
regroup stores before now end start xs ys first last e w = record {
  node = w.node;
  events = w.events;
  run = ap (λ (calls : List LiveCall). calls_do calls start) (sym e) ∙ w.run;
  sent = w.sent;
  despite = w.despite;
  printed = w.printed;
  time = w.time;
  kept = subst (Kept stores before now) e w.kept;
  stored = w.stored;
  store = w.store;
}

-- a call wasn't made, since the node failed
pub not_called : {S : Type 0} (stores : Stores S) (before old now : S) (start : Node) (made : List LiveCall) (call : LiveCall) (live : LiveNode) (t : RunLog) (first last : Outside) (fault : NodeFault) → (o : Output stores before old start made live t first last) → Serves stores.faults stores.is_infallible old now → CallFails fault (call_does call o.node) (HasFailed stores.faults stores.is_infallible old now) → CallLeaves (stores.contents now) o.node (call ∷ []) → CallsStopped stores before now (end_by fault) start made (call ∷ []) first last
not_called stores before old now start made call live t first last fault o serves fails left = record {
  more = [];
  rest = call ∷ [];
  are = refl;
  written = record {
    node = o.node;
    events = o.events;
    run = ap (λ (calls : List LiveCall). calls_do calls start) (append-nil made) ∙ o.run;
    sent = sent_by (Some (end_by fault)) first.link.sent last.link.sent (frames_text (map shown o.events)) o.sent;
    despite = despite_by (Some (end_by fault)) first.link last.link (frames_text (map shown o.events)) o.sent;
    printed = printed_by (Some (end_by fault)) first.text last.text (lines_of (node_name start) 0 o.events) o.printed;
    time = o.time;
    kept = subst (Kept stores before now) (sym (append-nil made)) (kept_on stores before old now made o.kept serves);
    stored = stored_at_fault fault (stores.contents now) o.node;
    store = λ e. then_failed stores.faults stores.is_infallible before old now o.kept.serves (failed_by fault (call_does call o.node) _ fails e);
  };
  spent = λ e. spent_by fault (call_does call o.node) _ fails e;
  leaves = λ up. left;
}

-- a call that is due changes no plan
pub due_kept : (failed : Type 0) (due : Due) (at : ℕ) → AllKept failed (keeps_in (due_call due at))
due_kept failed Tick at = inl (All-nil (λ kept. kept ≡ true))
due_kept failed Heartbeat at = inl (All-nil (λ kept. kept ≡ true))
due_kept failed Sim at = inl (All-nil (λ kept. kept ≡ true))

-- a clock was asked
abbrev pub output_later : {S : Type 0} {stores : Stores S} {before now : S} {start : Node} {made : List LiveCall} {live : LiveNode} {t : RunLog} {first : Outside} {l : LinkState} {x : Option (List ℕ)} (z w : Option ℕ) → w ≡ z → Output stores before now start made live t first (outside l x z) → Output stores before now start made live t first (outside l x w)
output_later z w e o = record {
  node = o.node;
  events = o.events;
  run = o.run;
  is = o.is;
  name = o.name;
  count = o.count;
  ending = o.ending;
  ticks = o.ticks;
  faults = o.faults;
  sent = o.sent;
  printed = o.printed;
  time = e ∙ o.time;
  kept = o.kept;
  stored = o.stored;
}

-- its answer is the time that it always returns
pub on_time : (known first : Option ℕ) (at : ℕ) → known ≡ first → IsTime known at → IsTime first at
on_time known first at e h = subst (λ (time : Option ℕ). IsTime time at) e h
