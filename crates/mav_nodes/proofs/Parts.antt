-- A piece of a stream, frame by frame: what was heard so far.
use Rattle.std.proofs.Common.{◌≡◌, ℕ, ◌+◌, ◌-◌, ◌<◌, ◌≤◌, Bool, true, false, List, [], ◌∷◌, ◌++◌, length, take, drop, slice_range, Option, Some, None, inl, inr, refl, sym, ap, ◌∙◌, subst, arith, append_assoc, length-take}
use Rattle.std.specs.Prelude.{map}
use Rattle.std.proofs.lemmas.List.{append-nil, map-append, take-append-drop}
use Rattle.mav_frame.specs.Packet.{Packet}
use Rattle.mav_frame.specs.Parse.{Incremental, BeginsIncremental}
use Rattle.mav_frame.specs.declared.events.Event.{Event}
use Rattle.mav_stream.specs.Held.{Held}
use Rattle.mav_stream.specs.Progress.{Progress}
use Rattle.mav_sign.specs.Endpoints.{frames_of}
use Rattle.mav_sign.specs.Streams.{ReadTo, reader_of}
use Rattle.mav_nodes.specs.declared.faults.NodeFault.{NodeFault}
use Rattle.mav_nodes.specs.declared.faults.NodeFault.TheVariants.{StampsSpent, Store, NoMemory}
use Rattle.mav_nodes.specs.declared.news.News.{News}
use Rattle.mav_nodes.specs.News.{NodeEvent, Shown, shown, events_of}
use Rattle.mav_nodes.specs.Links.{Link, LinkView, IsLink, Outcome, after_events, and_then}
use Rattle.mav_names.specs.declared.names.Stream.{Stream}
use Rattle.plan_items.specs.declared.messages.PlanMsg.{PlanMsg}
use Rattle.mav_nodes.specs.Stores.{GivenUp, IsKept, AllKept}
use Rattle.mav_nodes.specs.Steps.{Side, IsNode, CoreStep, Rules, hears, hears_all, hears_keeping}
use Rattle.plan_upload.specs.Station.{StationState}
use Rattle.mav_nodes.specs.Services.{StationServices}
use Rattle.mav_nodes.specs.Nodes.{StationSide, StationView, station_rules}
use Rattle.mav_nodes.specs.Promises.{Did, NodeDid, StationDid, SpentKeeping, FailsKeeping, AtFrame, GivenUpIn}
use Rattle.mav_nodes.specs.Streams.{HasRead, GrowsBy, NodePart, StationPart, PartFails}
use Rattle.mav_nodes.proofs.Cores.{Keeps, hears_keep}
use Rattle.mav_nodes.proofs.Keeping.{none_yet, all_so, one_more, kept_so, keeps_all}
use Rattle.mav_nodes.proofs.Leads.{behind_none, behind_twice, part_length}
use Rattle.mav_nodes.proofs.Growing.{frames_first, one_frame, no_frame, bytes_on, holds_taken, frame_takes}

-- a stream is read as far by an endpoint with the same reader
pub read_on : (taken : List ℕ) (given : List Event) (one other : LinkView) → reader_of other.endpoint ≡ reader_of one.endpoint → HasRead taken given one → HasRead taken given other
read_on taken given one other same read = subst (λ (h : Held). Progress h.extras false taken given h) (sym same) read

-- what was read of a piece from a place on
pub read_at : (taken piece : List ℕ) (place size : ℕ) (given : List Event) (one mid : LinkView) (result frame : Option Packet) → size ≤ length piece - place → result ≡ frame → ReadTo one.endpoint.extras ((taken ++ take place piece) ++ take size (slice_range piece place (length piece))) given result (reader_of mid.endpoint)
    → ReadTo one.endpoint.extras (taken ++ take (place + size) piece) given frame (reader_of mid.endpoint)
read_at taken piece place size given one mid result frame few is r =
    subst (λ (bytes : List ℕ). ReadTo one.endpoint.extras bytes given frame (reader_of mid.endpoint)) (bytes_on taken piece place size few)
    (subst (λ (f : Option Packet). ReadTo one.endpoint.extras ((taken ++ take place piece) ++ take size (slice_range piece place (length piece))) given f (reader_of mid.endpoint)) is r)

-- the bytes of a piece, up to a place and from there on
pub cut_at : (taken piece : List ℕ) (place : ℕ) → taken ++ piece ≡ (taken ++ take place piece) ++ drop place piece
cut_at taken piece place = ap (λ (l : List ℕ). taken ++ l) (sym (take-append-drop place piece)) ∙ sym (append_assoc taken (take place piece) (drop place piece))

-- with a frame the bytes that are held and those that aren't read yet become fewer
pub fewer_left : (piece : List ℕ) (place size : ℕ) (one mid new : LinkView) (result : Option Packet) (packet : Packet) → size ≤ length piece - place → place ≤ length piece → result ≡ Some packet
    → ((taken : List ℕ) (given : List Event) → HasRead taken given one → ReadTo one.endpoint.extras (taken ++ take size (slice_range piece place (length piece))) given result (reader_of mid.endpoint)) → reader_of new.endpoint ≡ reader_of mid.endpoint
    → length new.endpoint.held + (length piece - (place + size)) < length one.endpoint.held + (length piece - place)
fewer_left piece place size one mid new result packet few within is read same =
    let part = take size (slice_range piece place (length piece)) in
    let r = subst (λ (f : Option Packet). ReadTo one.endpoint.extras (one.endpoint.held ++ part) [] f (reader_of mid.endpoint)) is (read one.endpoint.held [] (holds_taken one.endpoint)) in
    let takes = frame_takes one.endpoint.extras one.endpoint.held part packet (reader_of mid.endpoint) r in
    omega (arith, takes, length-take size (slice_range piece place (length piece)), part_length piece place, few, within, ap (λ (h : Held). length h.bytes) same)

-- a node with the link after a read
pub node_read : {Core Services : Type 0} (node : Side Core Services) (end mid : LinkView) (view : Core) (services : Services) → ((link : Link) → IsLink link end → IsLink link mid) → IsNode node end view services → IsNode node mid view services
node_read node end mid view services link is = record { link = link node.link is.link; core = is.core; services = is.services }

module _ {Core Services : Type 0} (rules : Bool → Rules Core Services) (clock : ℕ) where
  -- these frames were heard, with a store that kept this: this is the node now, and the news so far report what was done
  pub record Heard (start : Side Core Services) (packets : List Packet) (Is : Side Core Services → Type 0) (failed : Type 0) (news : List News) : Type 0 where
    pub keeps : List Bool
    pub is_kept : AllKept failed keeps
    pub node : Side Core Services
    pub is : Is node
    pub events : List NodeEvent
    pub said : events_of news ≡ map shown events
    pub leads : (more : List Bool) (others : List Packet) → hears_keeping rules clock (keeps ++ more) (packets ++ others) start ≡ after_events events (hears_keeping rules clock more others node)
    pub extras : node.link.extras ≡ start.link.extras

  pub heard_at_first : (start : Side Core Services) (Is : Side Core Services → Type 0) (failed : Type 0) (news : List News) → news ≡ [] → Is start → Heard start [] Is failed news
  heard_at_first start Is failed news none is = record {
    keeps = [];
    is_kept = none_yet failed;
    node = start;
    is = is;
    events = [];
    said = ap events_of none;
    leads = λ more others. sym (behind_none (hears_keeping rules clock more others start));
    extras = refl;
  }

  here : (start : Side Core Services) (packets others : List Packet) (Is : Side Core Services → Type 0) (failed : Type 0) (news : List News) (packet : Packet) (kept : Bool) (more : List Bool) → (h : Heard start packets Is failed news)
      → hears_keeping rules clock ((h.keeps ++ kept ∷ []) ++ more) ((packets ++ packet ∷ []) ++ others) start ≡ after_events h.events (and_then (hears (rules kept) clock packet h.node) (hears_keeping rules clock more others))
  here start packets others Is failed news packet kept more h =
      (λ i. hears_keeping rules clock (append_assoc h.keeps (kept ∷ []) more i) (append_assoc packets (packet ∷ []) others i) start)
      ∙ h.leads (kept ∷ more) (packet ∷ others)

  goes_on : (start : Side Core Services) (packets : List Packet) (first : Outcome (Side Core Services)) (extras : List (ℕ × ℕ)) (Is : Side Core Services → Type 0) (failed : Type 0) (news after : List News) (events : List NodeEvent) (keeps : List Bool) → AllKept failed keeps → extras ≡ start.link.extras → Keeps (rules true) clock first extras → events_of news ≡ map shown events
      → ((more : List Bool) (others : List Packet) → hears_keeping rules clock (keeps ++ more) (packets ++ others) start ≡ after_events events (and_then first (hears_keeping rules clock more others))) → Did first Is news after → Heard start packets Is failed after
  goes_on start packets None extras Is failed news after events keeps all same kept said e did = absurd did
  goes_on start packets (Some d) extras Is failed news after events keeps all same kept said e did = record {
    keeps = keeps;
    is_kept = all;
    node = d.node;
    is = did.0;
    events = events ++ d.events;
    said = did.1 ∙ (ap (λ (l : List Shown). l ++ map shown d.events) said ∙ sym (map-append shown events d.events));
    leads = λ more others. e more others ∙ behind_twice events d.events (hears_keeping rules clock more others d.node);
    extras = kept ∙ same;
  }

  -- one frame more
  pub heard_on : (start : Side Core Services) (packets : List Packet) (Is Now : Side Core Services → Type 0) (failed now_failed : Type 0) (news after : List News) (packet : Packet) (kept : Bool) → (h : Heard start packets Is failed news)
      → (failed → now_failed) → IsKept kept now_failed → Did (hears (rules kept) clock packet h.node) Now news after → Heard start (packets ++ packet ∷ []) Now now_failed after
  heard_on start packets Is Now failed now_failed news after packet kept h f is_kept did =
      goes_on start (packets ++ packet ∷ []) (hears (rules kept) clock packet h.node) h.node.link.extras Now now_failed news after h.events (h.keeps ++ kept ∷ []) (one_more h.keeps kept f h.is_kept is_kept) h.extras (hears_keep (rules kept) clock packet h.node) h.said (λ more others. here start packets others Is failed news packet kept more h) did

  -- a frame whose reply has no timestamp left
  pub heard_to_none : (start : Side Core Services) (packets others : List Packet) (Is : Side Core Services → Type 0) (failed here_failed now_failed : Type 0) (news : List News) (packet : Packet) → (h : Heard start packets Is failed news)
      → (failed → now_failed) → (here_failed → now_failed) → SpentKeeping (λ kept. IsKept kept here_failed) (λ kept. hears (rules kept) clock packet h.node)
      → SpentKeeping (AllKept now_failed) (λ keeps. hears_keeping rules clock keeps ((packets ++ packet ∷ []) ++ others) start)
  heard_to_none start packets others Is failed here_failed now_failed news packet h f g spent = record {
    keeps = (h.keeps ++ spent.keeps ∷ []) ++ [];
    is_kept = subst (AllKept now_failed) (sym (append-nil (h.keeps ++ spent.keeps ∷ []))) (one_more h.keeps spent.keeps f h.is_kept (kept_so spent.keeps g spent.is_kept));
    none =
        here start packets others Is failed news packet spent.keeps [] h
        ∙ ap (λ (o : Outcome (Side Core Services)). after_events h.events (and_then o (hears_keeping rules clock [] others))) spent.none;
  }

  -- the node is given up at the next frame
  pub heard_given : (taken : Bool → Core → Stream → PlanMsg → CoreStep Core) (stored : Core → ℕ → List ℕ → Type 0) (contents : Option (List ℕ)) (start : Side Core Services) (packets others all : List Packet) (end : LinkView) (view : Core) (services : Services) (failed now_failed : Type 0) (news : List News) (packet : Packet)
      → (h : Heard start packets (λ n. IsNode n end view services) failed news) → all ≡ (packets ++ packet ∷ []) ++ others → (failed → now_failed) → GivenUp contents stored end.low (AtFrame taken h.node.link packet view) → GivenUpIn taken stored rules clock (AllKept now_failed) contents all start
  heard_given taken stored contents start packets others all end view services failed now_failed news packet h are f given = record {
    before = packets;
    packet = packet;
    after = others;
    are = are ∙ append_assoc packets (packet ∷ []) others;
    keeps = h.keeps ++ [];
    is_kept = subst (AllKept now_failed) (sym (append-nil h.keeps)) (all_so h.keeps f h.is_kept);
    here = h.node;
    events = h.events ++ [];
    heard = ap (λ (l : List Packet). hears_keeping rules clock (h.keeps ++ []) l start) (sym (append-nil packets)) ∙ h.leads [] [];
    given =
        subst (λ (low : Option ℕ). GivenUp contents stored low (AtFrame taken h.node.link packet h.node.core)) h.is.link.low
        (subst (λ (core : Core). GivenUp contents stored end.low (AtFrame taken h.node.link packet core)) h.is.core given);
  }

  pub heard_whole : (start : Side Core Services) (packets : List Packet) (Is : Side Core Services → Type 0) (failed : Type 0) (news : List News) (h : Heard start packets Is failed news) → Did (hears_keeping rules clock (h.keeps ++ []) packets start) Is [] news
  heard_whole start packets Is failed news h =
      let e : hears_keeping rules clock (h.keeps ++ []) packets start ≡ after_events h.events (hears_keeping rules clock [] [] h.node) = ap (λ (l : List Packet). hears_keeping rules clock (h.keeps ++ []) l start) (sym (append-nil packets)) ∙ h.leads [] [] in
      subst (λ (o : Outcome (Side Core Services)). Did o Is [] news) (sym e) (h.is, h.said ∙ ap (map shown) (sym (append-nil h.events)))

  -- the parse has come to the end of these bytes, and the frames by which it grew were heard
  pub record PartTo (extras : List (ℕ × ℕ)) (start : Side Core Services) (taken : List ℕ) (given : List Event) (failed : Type 0) (end : LinkView) (view : Core) (services : Services) (news : List News) : Type 0 where
    pub events : List Event
    pub same : end.endpoint.extras ≡ extras
    pub read : HasRead taken (given ++ events) end
    pub heard : Heard start (frames_of events) (λ n. IsNode n end view services) failed news

  pub part_at_first : (start : Side Core Services) (taken : List ℕ) (given : List Event) (failed : Type 0) (end : LinkView) (view : Core) (services : Services) (news : List News) → news ≡ [] → IsNode start end view services → HasRead taken given end → PartTo end.endpoint.extras start (taken ++ []) given failed end view services news
  part_at_first start taken given failed end view services news none is read = record {
    events = [];
    same = refl;
    read = subst (λ (bytes : List ℕ). HasRead bytes (given ++ []) end) (sym (append-nil taken)) (subst (λ (events : List Event). HasRead taken events end) (sym (append-nil given)) read);
    heard = heard_at_first start (λ n. IsNode n end view services) failed news none is;
  }

  module _ (extras : List (ℕ × ℕ)) (start : Side Core Services) (taken now : List ℕ) (given : List Event) (failed : Type 0) (end mid : LinkView) (view : Core) (services : Services) (news : List News) (so : PartTo extras start taken given failed end view services news) where
    -- what was read next
    read_next : {frame : Option Packet} → (r : ReadTo end.endpoint.extras now (given ++ so.events) frame (reader_of mid.endpoint)) → HasRead now (given ++ (so.events ++ r.events)) mid
    read_next r =
        let own = subst (λ (e : List (ℕ × ℕ)). Progress e false now ((given ++ so.events) ++ r.events) (reader_of mid.endpoint)) (sym r.progress.same) r.progress in
        subst (λ (events : List Event). HasRead now events mid) (append_assoc given so.events r.events) own

    same_next : {frame : Option Packet} → (r : ReadTo end.endpoint.extras now (given ++ so.events) frame (reader_of mid.endpoint)) → mid.endpoint.extras ≡ extras
    same_next r = r.progress.same ∙ so.same

    -- a frame was read and heard
    pub part_on : (new : LinkView) (core : Core) (served : Services) (now_failed : Type 0) (after : List News) (packet : Packet) (kept : Bool) → ReadTo end.endpoint.extras now (given ++ so.events) (Some packet) (reader_of mid.endpoint) → reader_of new.endpoint ≡ reader_of mid.endpoint
        → (failed → now_failed) → IsKept kept now_failed → NodeDid (hears (rules kept) clock packet so.heard.node) new core served news after → PartTo extras start now given now_failed new core served after
    part_on new core served now_failed after packet kept r same f is_kept did = record {
      events = so.events ++ r.events;
      same = ap (λ (h : Held). h.extras) same ∙ same_next r;
      read = read_on now (given ++ (so.events ++ r.events)) mid new same (read_next r);
      heard = subst (λ (packets : List Packet). Heard start packets (λ n. IsNode n new core served) now_failed after) (sym (one_frame so.events r.events packet r.frames))
          (heard_on start (frames_of so.events) (λ n. IsNode n end view services) (λ n. IsNode n new core served) failed now_failed news after packet kept so.heard f is_kept did);
    }

    -- a frame was read whose reply has no timestamp left
    pub part_to_none : (here_failed now_failed : Type 0) (more : List ℕ) (packet : Packet) (others : List Event) → ReadTo end.endpoint.extras now (given ++ so.events) (Some packet) (reader_of mid.endpoint) → GrowsBy extras (now ++ more) given others
        → (failed → now_failed) → (here_failed → now_failed) → SpentKeeping (λ kept. IsKept kept here_failed) (λ kept. hears (rules kept) clock packet so.heard.node)
        → SpentKeeping (AllKept now_failed) (λ keeps. hears_keeping rules clock keeps (frames_of others) start)
    part_to_none here_failed now_failed more packet others r grows f g spent =
        let begun = subst (λ (e : List (ℕ × ℕ)). BeginsIncremental e false (given ++ (so.events ++ r.events)) mid.endpoint.held now) (same_next r) ((read_next r).incremental refl) in
        let first = frames_first extras now more mid.endpoint.held given (so.events ++ r.events) others begun grows in
        let all : frames_of others ≡ (frames_of so.events ++ packet ∷ []) ++ first.0 = first.1 ∙ ap (λ (l : List Packet). l ++ first.0) (one_frame so.events r.events packet r.frames) in
        subst (λ (packets : List Packet). SpentKeeping (AllKept now_failed) (λ keeps. hears_keeping rules clock keeps packets start)) (sym all)
        (heard_to_none start (frames_of so.events) first.0 (λ n. IsNode n end view services) failed here_failed now_failed news packet so.heard f g spent)

    -- the node is given up at a frame that was read
    pub part_given : (taken_by : Bool → Core → Stream → PlanMsg → CoreStep Core) (stored : Core → ℕ → List ℕ → Type 0) (contents : Option (List ℕ)) (now_failed : Type 0) (more : List ℕ) (packet : Packet) (others : List Event) → ReadTo end.endpoint.extras now (given ++ so.events) (Some packet) (reader_of mid.endpoint) → GrowsBy extras (now ++ more) given others
        → (failed → now_failed) → GivenUp contents stored end.low (AtFrame taken_by so.heard.node.link packet view) → GivenUpIn taken_by stored rules clock (AllKept now_failed) contents (frames_of others) start
    part_given taken_by stored contents now_failed more packet others r grows f left =
        let begun = subst (λ (e : List (ℕ × ℕ)). BeginsIncremental e false (given ++ (so.events ++ r.events)) mid.endpoint.held now) (same_next r) ((read_next r).incremental refl) in
        let first = frames_first extras now more mid.endpoint.held given (so.events ++ r.events) others begun grows in
        let all : frames_of others ≡ (frames_of so.events ++ packet ∷ []) ++ first.0 = first.1 ∙ ap (λ (l : List Packet). l ++ first.0) (one_frame so.events r.events packet r.frames) in
        heard_given taken_by stored contents start (frames_of so.events) first.0 (frames_of others) end view services failed now_failed news packet so.heard all f left

    -- all was read
    pub part_whole : extras ≡ start.link.extras → ReadTo end.endpoint.extras now (given ++ so.events) None (reader_of mid.endpoint) → ((link : Link) → IsLink link end → IsLink link mid) → NodePart rules clock start now given (AllKept failed) mid view services news
    part_whole known r link = record {
      events = so.events ++ r.events;
      same = r.progress.same ∙ (so.same ∙ known);
      grows =
          subst (λ (events : List Event). Incremental mid.endpoint.extras false events mid.endpoint.held now) (append_assoc given so.events r.events)
          (subst (λ (e : List (ℕ × ℕ)). Incremental e false ((given ++ so.events) ++ r.events) mid.endpoint.held now) (sym r.progress.same) (r.whole refl));
      read = read_next r;
      did = record {
        keeps = so.heard.keeps ++ [];
        is_kept = subst (AllKept failed) (sym (append-nil so.heard.keeps)) so.heard.is_kept;
        did =
            subst (λ (packets : List Packet). Did (hears_keeping rules clock (so.heard.keeps ++ []) packets start) (λ n. IsNode n mid view services) [] news) (sym (no_frame so.events r.events r.frames))
            (did_read (hears_keeping rules clock (so.heard.keeps ++ []) (frames_of so.events) start) (heard_whole start (frames_of so.events) (λ n. IsNode n end view services) failed news so.heard));
      };
    }
      where
        did_read : (outcome : Outcome (Side Core Services)) → Did outcome (λ n. IsNode n end view services) [] news → Did outcome (λ n. IsNode n mid view services) [] news
        did_read None did = did
        did_read (Some d) did = (node_read d.node end mid view services link did.0, did.1)

-- what fails in a frame of a piece, fails in the piece
pub part_fails : {I Node : Type 0} {P : I → Type 0} (one : I → Node → Outcome Node) (Is Now : Node → Type 0) (old : LinkView) (piece : List ℕ) (spent : List Packet → Node → Type 0) (F G : Type 0) (fault : NodeFault) → (F → G)
    → ((node : Node) (taken : List ℕ) (given events : List Event) → Is node → HasRead taken given old → GrowsBy old.endpoint.extras (taken ++ piece) given events → (next : Node) × Now next × (SpentKeeping P (λ kept. one kept next) → spent (frames_of events) node))
    → FailsKeeping fault Now one P F → PartFails fault Is old piece spent G
part_fails one Is Now old piece spent F G StampsSpent f same h = λ node taken given events is read grows.
    let next = same node taken given events is read grows in
    next.2 (h next.0 next.1)
part_fails one Is Now old piece spent F G Store f same h = f h
part_fails one Is Now old piece spent F G NoMemory f same h = tt

-- the same, of a node in another view
pub part_fails_so : {A B : Type 0} (fault : NodeFault) (Is : A → Type 0) (one : LinkView) (spent : List Packet → A → Type 0) (Now : B → Type 0) (other : LinkView) (also : List Packet → B → Type 0) (piece : List ℕ) (F G : Type 0) → (F → G) → one ≡ other
    → ((b : B) → Now b → (a : A) × Is a × ((packets : List Packet) → spent packets a → also packets b)) → PartFails fault Is one piece spent F → PartFails fault Now other piece also G
part_fails_so StampsSpent Is one spent Now other also piece F G f same so h = λ node taken given events is read grows.
    let inside = so node is in
    inside.2 (frames_of events)
    (h inside.0 taken given events inside.1 (subst (HasRead taken given) (sym same) read) (subst (λ (v : LinkView). GrowsBy v.endpoint.extras (taken ++ piece) given events) (sym same) grows))
part_fails_so Store Is one spent Now other also piece F G f same so h = f h
part_fails_so NoMemory Is one spent Now other also piece F G f same so h = tt

-- ---- stations

abbrev pub sure_rules : Bool → Rules StationState StationServices
sure_rules kept = station_rules

-- a station has no store that could fail
pub station_part : (clock : ℕ) (node : StationSide) (taken : List ℕ) (given : List Event) (failed : Type 0) (view : StationView) (news : List News) → (failed → ⊥) → NodePart sure_rules clock node taken given (AllKept failed) view.link view.station view.services news → StationPart clock node taken given view news
station_part clock node taken given failed view news never p = record {
  events = p.events;
  same = p.same;
  grows = p.grows;
  read = p.read;
  did = by_kept p.did.is_kept;
}
  where
    by_kept : AllKept failed p.did.keeps → StationDid (hears_all station_rules clock (frames_of p.events) node) view [] news
    by_kept (inl all) =
        subst (λ (o : Outcome StationSide). StationDid o view [] news) (keeps_all sure_rules clock p.did.keeps (frames_of p.events) node all) p.did.did
    by_kept (inr h) = absurd (never h)

pub station_spent : (clock : ℕ) (packets : List Packet) (node : StationSide) (failed : Type 0) → (failed → ⊥) → SpentKeeping (AllKept failed) (λ keeps. hears_keeping sure_rules clock keeps packets node) → hears_all station_rules clock packets node ≡ None
station_spent clock packets node failed never s = by_kept s.is_kept
  where
    by_kept : AllKept failed s.keeps → hears_all station_rules clock packets node ≡ None
    by_kept (inl all) = sym (keeps_all sure_rules clock s.keeps packets node all) ∙ s.none
    by_kept (inr h) = absurd (never h)
