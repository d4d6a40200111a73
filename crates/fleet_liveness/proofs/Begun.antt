-- From a begin line that a station accepts, a long enough flow brings the upload to its end.
use Rattle.std.proofs.Common.{◌≡◌, ◌≢◌, ◌∙◌, ℕ, zero, suc, ◌+◌, ◌*◌, ◌<◌, ◌≤◌, inl, inr, Bool, true, false, not, ◌&&◌, nat_lt, is_some, List, [], ◌∷◌, ◌++◌, length, slice_get, find, position, Option, Some, None, refl, sym, ap, subst, arith, length-append}
use Rattle.std.specs.Prelude.{IfOk}
use Rattle.std.specs.List.{position_or_len}
use Rattle.std.proofs.lemmas.Bool.{cond-true, lt-ltb}
use Rattle.std.proofs.lemmas.List.Folds.{find_at}
use Rattle.mav_names.specs.declared.names.Name.{Name}
use Rattle.plan_items.specs.declared.kinds.PlanKind.{PlanKind}
use Rattle.plan_items.specs.declared.messages.PlanMsg.{PlanMsg}
use Rattle.plan_items.specs.Kinds.{number_of}
use Rattle.plan_items.specs.Validation.{IsValid}
use Rattle.plan_items.proofs.KindNumbers.{number_of-bound}
use Rattle.plan_upload.specs.declared.faults.OpFault.{OpFault}
use Rattle.plan_upload.specs.declared.faults.OpFault.TheVariants.{PingsSpent}
use Rattle.mav_names.specs.Addresses.{node_of, same_name, drone_name}
use Rattle.plan_upload.specs.Drone.{is_other, has_no_room, result_of, most_results}
use Rattle.plan_upload.specs.Station.{StationState, StationStep, Uploads, operation_of, is_synced, last_ping, pinging, sends as says, begin_upload, untold}
use Rattle.plan_upload.specs.Refusals.{busy_with, first_of, spent, empty_plan, unfit, upload_refusal}
use Rattle.plan_ranges.specs.Ranges.{NameInRange}
use Rattle.mav_frame.specs.Packet.{Packet}
use Rattle.mav_messages.specs.Plans.{message_of_plan}
use Rattle.mav_sign.specs.History.{low_of, last_of, next_in, greatest_stamp}
use Rattle.mav_nodes.specs.News.{Sends}
use Rattle.mav_nodes.specs.Links.{Link, Outcome, done, after_events, sent_at}
use Rattle.mav_nodes.specs.Signed.{signed_packet}
use Rattle.mav_nodes.specs.Steps.{CoreStep, with_core, steps}
use Rattle.mav_nodes.specs.Nodes.{DroneSide, StationSide, station_does, station_begins, told_events}
use Rattle.scenario_lines.specs.declared.naming.Named.{Named}
use Rattle.scenario_lines.specs.declared.lines.Line.TheVariants.{Begin}
use Rattle.node_reports.specs.Nodes.{Node, Drone, Station, node_name}
use Rattle.node_reports.specs.Calls.{as_station}
use Rattle.node_reports.specs.Reporting.{reported_by}
use Rattle.fleet_world.specs.WorldState.{WorldState, named, stream_of, names_of, drones_in, is_station_named}
use Rattle.fleet_world.specs.Steps.{Step, node_does, flows, station_line, upload_begins, orders_at, orders_found, after_line}
use Rattle.fleet_invariants.specs.Sound.{Sound}
use Rattle.fleet_invariants.specs.Kept.{StepKeeps, OutcomeReads}
use Rattle.fleet_invariants.proofs.Lists.{some_is, nowhere, within, set_there, set_elsewhere, last_there, at_end}
use Rattle.fleet_invariants.proofs.Tests.{by_test, name_eq, name_same, name_is, differ}
use Rattle.fleet_invariants.proofs.Histories.{sending_is, next_later}
use Rattle.fleet_invariants.proofs.Rooms.{room_for}
use Rattle.fleet_invariants.proofs.Restated.{sound_restated}
use Rattle.fleet_invariants.proofs.Calls.{sound_does}
use Rattle.fleet_liveness.specs.Uncontended.{Upload, HasHeard, Installs}
use Rattle.fleet_liveness.proofs.Hearing.{Carries}
use Rattle.fleet_liveness.proofs.States.{IsAbove, same_place, few_streams, last_before, next_recent, last_next}
use Rattle.fleet_liveness.proofs.Sendings.{reads_at, carries_last}
use Rattle.fleet_liveness.proofs.Steps.{moved, does, does_nothing, weaker}
use Rattle.fleet_liveness.proofs.Stages.{Stage, Pings, Counts, is_up, is_ping, message_of, costs, DroneIs, StationIs, station_untold, is_carried}
use Rattle.fleet_liveness.proofs.Reporting.{upload_of, goal_of, up_not_last}
use Rattle.fleet_liveness.proofs.Waits.{Waits, sender, listener}
use Rattle.fleet_liveness.proofs.Others.{no_frames_reported}
use Rattle.fleet_liveness.proofs.Rounds.{named_extra, extra, all_extra, no_extra}
use Rattle.fleet_liveness.proofs.Landing.{lands}

-- the first element that a test holds of
record First {A : Type 0} (test : A → Bool) (xs : List A) : Type 0 where
  index : ℕ
  element : A
  is : position test xs ≡ Some index
  there : slice_get xs index ≡ Some element
  holds : test element ≡ true

record Finds {A : Type 0} (test : A → Bool) (xs : List A) : Type 0 where
  element : A
  found : find test xs ≡ Some element
  holds : test element ≡ true

finds_more : {A : Type 0} (test : A → Bool) (z : A) (zs : List A) (k : ℕ) (x : A) → slice_get (z ∷ zs) k ≡ Some x → test x ≡ true → ((j : ℕ) → slice_get zs j ≡ Some x → Finds test zs) → (b : Bool) → test z ≡ b → Finds test (z ∷ zs)
finds_more test z zs k x e h on true it = record { element = z; found = rw it refl; holds = it }
finds_more test z zs zero x e h on false other = absurd (differ (test z) (ap test (some_is e) ∙ h) other)
finds_more test z zs (suc k) x e h on false other = let f = on k e in record { element = f.element; found = rw other f.found; holds = f.holds }

finds : {A : Type 0} (test : A → Bool) (xs : List A) (k : ℕ) (x : A) → slice_get xs k ≡ Some x → test x ≡ true → Finds test xs
finds test [] k x e h = absurd (nowhere k x e)
finds test (z ∷ zs) k x e h = finds_more test z zs k x e h (λ j f. finds test zs j x f h) (test z) refl

first_of_all : {A : Type 0} (test : A → Bool) (xs : List A) (k : ℕ) (x : A) → slice_get xs k ≡ Some x → test x ≡ true → First test xs
first_of_all test xs k x e h =
    let f = finds test xs k x e h in
    let there : slice_get xs (position_or_len test xs) ≡ Some f.element = sym (find_at test xs) ∙ f.found in
    record {
      index = position_or_len test xs;
      element = f.element;
      is = cond-true (nat_lt (position_or_len test xs) (length xs)) _ _ (lt-ltb _ _ (within xs (position_or_len test xs) f.element there));
      there = there;
      holds = f.holds;
    }

-- the drones among the nodes are those that may answer a PING more
shifted : (b : Bool) (x : Named) (xs : List Named) (j n : ℕ) → extra b (x ∷ xs) (suc j) n ≡ extra b xs j n
shifted b x xs j zero = refl
shifted b x xs j (suc n) =
    let one = named_extra b (slice_get xs j) in
    ap (λ i. one + extra b (x ∷ xs) i n) (let e : suc j + 1 ≡ suc (j + 1) = omega arith in e) ∙ ap (λ z. one + z) (shifted b x xs (j + 1) n)

drones_extra : (nodes : List Node) → all_extra true (names_of nodes) ≡ drones_in nodes
drones_extra [] = refl
drones_extra (Drone n ∷ ns) = ap (λ z. 1 + z) (shifted true (named (Drone n)) (names_of ns) 0 (length (names_of ns)) ∙ drones_extra ns)
drones_extra (Station n ∷ ns) =
    let e : extra true (names_of (Station n ∷ ns)) 1 (length (names_of ns)) ≡ drones_in ns = shifted true (named (Station n)) (names_of ns) 0 (length (names_of ns)) ∙ drones_extra ns in
    omega arith

third_none : (a b c d : Option OpFault) → first_of a (first_of b (first_of c d)) ≡ None → c ≡ None
third_none None None None d e = refl
third_none None None (Some x) d e = absurd (cc)
third_none None (Some x) c d e = absurd (cc)
third_none (Some x) b c d e = absurd (cc)

number_left : (t : StationState) → spent t ≡ None → nat_lt t.pings last_ping ≡ true
number_left t = by_test (λ (z : Option OpFault). z ≡ None → nat_lt t.pings last_ping ≡ true) (nat_lt t.pings last_ping) None (Some PingsSpent) (λ e _. e) (λ _ e. absurd (cc))

-- what isn't below a timestamp that was heard is above the low bound
heard_above : (low last : Option ℕ) (stamp : ℕ) → HasHeard low last → ((l : ℕ) → last ≡ Some l → l ≤ stamp) → (n : ℕ) → low ≡ Some n → n < stamp
heard_above None last stamp h most n e = absurd (cc)
heard_above (Some low) None stamp h most n e = absurd h
heard_above (Some low) (Some last) stamp h most n e =
    let same = some_is e in
    let under = most last refl in
    omega arith

-- what a node sends at an order
data Says {Core Services : Type 0} (clock : ℕ) (link : Link) (v : Services) (r : CoreStep Core) (answer : PlanMsg) : Type 0 where
  Spent : steps clock link v r ≡ None → Says clock link v r answer
  Said : (packet : Packet) → packet ≡ signed_packet link.key link.extras link.me link.seq (next_in link.history clock) (message_of_plan answer)
      → steps clock link v r ≡ done (record { link = sent_at (next_in link.history clock) link; core = r.core; services = v }) (r.first ++ Sends packet (message_of_plan answer) ∷ r.last) → Says clock link v r answer

orders_say : {Core Services : Type 0} (clock : ℕ) (link : Link) (v : Services) (r : CoreStep Core) (answer : PlanMsg) → r.answer ≡ Some answer → Says clock link v r answer
orders_say clock link v r answer is =
    let stamp = next_in link.history clock in
    by_test (λ (o : Outcome Link). steps clock link v r ≡ after_events r.first (with_core r.core v r.last o) → Says clock link v r answer) (nat_lt greatest_stamp stamp) _ _
    (λ _ e. Spent e)
    (λ _ e. Said (signed_packet link.key link.extras link.me link.seq stamp (message_of_plan answer)) refl e)
    (ap (λ z. steps clock link v (record r { answer = z })) is)

module _ (s : WorldState) (g : Sound s) (dp sp : ℕ) (d : DroneSide) (t : StationSide) (d_there : slice_get s.nodes dp ≡ Some (Drone d)) (t_there : slice_get s.nodes sp ≡ Some (Station t))
    (kind : PlanKind) (valid : IsValid (number_of kind) s.draft) (accepted : upload_refusal t.core (number_of kind) s.draft ≡ None) (free : is_other d.core.upload (stream_of t.core.me) ≡ false)
    (heard : HasHeard (low_of d.link.history) (last_of (stream_of (drone_name d.core.sys)) t.link.history)) where
  abbrev sys : ℕ
  sys = d.core.sys

  abbrev me : Name
  me = t.core.me

  abbrev number : ℕ
  number = number_of kind

  d_named : node_name (Drone d) ≡ drone_name sys
  d_named = let core = g.cores dp (Drone d) d_there in name_is (node_name (Drone d)) (drone_name sys) (sym core.sys) core.comp

  t_named : node_name (Station t) ≡ me
  t_named = sym (g.cores sp (Station t) t_there).me

  abbrev upload : Upload
  upload = upload_of sys me kind s.draft valid

  -- a flow that is long enough ends the upload, from this state on
  abbrev LeadsOn : WorldState → Type 0
  LeadsOn x = (k : ℕ) → 2 * length s.draft + 6 + drones_in s.nodes ≤ k → IfOk (flows k x) (λ u. Installs upload u.events)

  room : has_no_room d.core (stream_of me) ≡ false
  room =
      let core = g.cores dp (Drone d) d_there in
      let few = few_streams s g dp (Drone d) d_there in
      let less = room_for d.link.history d.core core.roomy in
      full (not (is_some (result_of d.core.results (stream_of me)))) (nat_lt (length d.core.results) most_results) (lt-ltb (length d.core.results) most_results (omega arith))
    where
      full : (a b : Bool) → b ≡ true → (a && not b) ≡ false
      full true b e = ap not e
      full false b e = refl

  -- the first message
  record Begins (r : StationStep) : Type 0 where
    stage : Stage s.draft
    answer : r.answer ≡ Some (message_of sys me kind s.draft valid stage)
    up : is_up stage ≡ true
    station_is : StationIs sys me kind s.draft valid stage r.station
    drone_is : DroneIs sys me kind s.draft valid stage d.core
    cost : costs sys me kind s.draft valid stage + all_extra (is_ping stage) (names_of s.nodes) + 1 ≤ 2 * length s.draft + 6 + drones_in s.nodes

  begin_is : Begins (begin_upload t.core (stream_of (drone_name sys)) number s.draft)
  begin_is =
      let op = operation_of Uploads (stream_of (drone_name sys)) number s.draft in
      let ready : StationState = record t.core { outcome = None } in
      let none = no_extra (names_of s.nodes) 0 (length (names_of s.nodes)) in
      let all = drones_extra s.nodes in
      by_test Begins (is_synced t.core.synced (stream_of (drone_name sys))) _ _
      (λ _. record {
        stage = Counts;
        answer = refl;
        up = refl;
        station_is = (None, record { base = ready; idle = 0; is = refl });
        drone_is = record { base = d.core; upload = d.core.upload; is = refl; free = free; room = room };
        cost = omega arith;
      })
      (λ _. subst Begins (sym (cond-true (nat_lt t.core.pings last_ping) (says (record ready { pings = t.core.pings + 1 }) (pinging op (Some (t.core.pings + 1))) _) _ (number_left t.core (third_none (busy_with t.core.operation) (empty_plan s.draft) (spent t.core) (unfit number s.draft) accepted))))
      (record {
        stage = Pings t.core.boot (t.core.pings + 1);
        answer = refl;
        up = refl;
        station_is = (refl, record { base = record ready { pings = t.core.pings + 1 }; idle = 0; is = refl });
        drone_is = record { base = d.core; upload = d.core.upload; is = refl; free = free; room = room };
        cost = omega arith;
      }))

  abbrev x : WorldState
  x = station_line s

  abbrev from : WorldState
  from = record x { draft = [] }

  x_sound : Sound x
  x_sound = sound_restated s (length s.sent) s.draft s.clock g (omega arith) g.draft (omega arith) g.clock

  abbrev stamp : ℕ
  stamp = next_in t.link.history s.clock

  stamp_above : IsAbove d.link.history stamp
  stamp_above = heard_above (low_of d.link.history) (last_of (stream_of (drone_name sys)) t.link.history) stamp heard (last_next (stream_of (drone_name sys)) t.link.history s.clock)

  -- the step of the core, and the station after it
  abbrev does_so : StationStep
  does_so = begin_upload t.core (stream_of (drone_name sys)) number s.draft

  abbrev call : Outcome StationSide
  call = station_begins s.clock (stream_of (drone_name sys)) number s.draft t

  abbrev new : StationSide
  new = record t { link = sent_at stamp t.link; core = untold does_so.station }

  differ_places : dp ≢ sp
  differ_places e = roles (same_place s.nodes dp sp (Drone d) (Station t) d_there t_there e)
    where
      roles : Drone d ≡ Station t → ⊥
      roles e = absurd (cc)

  module _ (b : Begins does_so) (packet : Packet) (made : packet ≡ signed_packet t.link.key t.link.extras t.link.me t.link.seq stamp (message_of_plan (message_of sys me kind s.draft valid b.stage))) where
    abbrev after : WorldState
    after = moved from sp (Station new) (packet ∷ [])

    waits : Sound after → Carries s.key packet stamp (message_of sys me kind s.draft valid b.stage) → Waits sys me kind s.draft valid dp sp after (length s.sent) b.stage
    waits sound carries = record {
      sound = sound;
      drone = d;
      drone_there = set_elsewhere s.nodes sp dp (Station new) differ_places ∙ d_there;
      drone_named = d_named;
      station = new;
      station_there = set_there s.nodes sp (Station t) (Station new) t_there;
      station_named = t_named;
      drone_is = b.drone_is;
      station_is = station_untold sys me kind s.draft valid b.stage does_so.station b.station_is;
      above = subst (IsAbove d.link.history) (sym (sending_is t.link.history stamp)) stamp_above;
      flies = record {
        frame = packet;
        found = last_there s.sent packet;
        from = ap (λ (p : Packet). p.from) made ∙ t_named ∙ ap (sender sys me kind s.draft valid dp sp) (sym b.up);
        stamp = stamp;
        carries = carries;
        recent = next_recent t.link.history s.clock;
        fresh = fresh (is_up b.stage) b.up;
        above = subst (λ up. IsAbove (listener sys me kind s.draft valid dp sp up d.link new.link).history stamp) (sym b.up) stamp_above;
      };
      asides = λ i q le e ne. elim (at_end s.sent packet q i e) [
        | inl old ↦ let inside = within s.sent i q old in absurd (omega arith)
        | inr last ↦ absurd (ne last.0)
      ];
    }
      where
        fresh : (up : Bool) → up ≡ true → (l : ℕ) → last_of (stream_of (sender sys me kind s.draft valid dp sp up)) (listener sys me kind s.draft valid dp sp up d.link new.link).history ≡ Some l → l < stamp
        fresh true e l h =
            let below = last_before s g dp sp (Drone d) (Station t) d_there t_there me t_named l h in
            let above = next_later t.link.history s.clock in
            omega arith
        fresh false e l h = absurd (cc)

    leads : (u : Step) → StepKeeps x u.state → u.state ≡ after → Carries u.state.key packet stamp (message_of sys me kind s.draft valid b.stage) → LeadsOn u.state
    leads u keeps is carries k enough =
        let key : u.state.key ≡ s.key = ap (λ (y : WorldState). y.key) is in
        let w = waits (subst Sound is keeps.sound) (subst (λ z. Carries z packet stamp (message_of sys me kind s.draft valid b.stage)) key carries) in
        let sent : length after.sent ≡ length s.sent + 1 = length-append s.sent (packet ∷ []) in
        let names : names_of after.nodes ≡ names_of s.nodes = ap (λ (y : WorldState). names_of y.nodes) (sym is) ∙ keeps.names in
        let more : all_extra (is_ping b.stage) (names_of after.nodes) ≡ all_extra (is_ping b.stage) (names_of s.nodes) = ap (all_extra (is_ping b.stage)) names in
        let cost = b.cost in
        subst (λ y. IfOk (flows k y) (λ v. Installs upload v.events)) (sym is)
        (subst (λ z. IfOk (flows k after) (λ v. goal_of upload z v.events)) (up_not_last b.stage b.up)
        (lands sys me kind s.draft valid g.draft dp sp k after (length s.sent) b.stage w (omega arith) (omega arith)))

  -- its order
  order_leads : (b : Begins does_so) → Says s.clock t.link t.services (station_does does_so) (message_of sys me kind s.draft valid b.stage) → IfOk (node_does from sp (node_of t.link.me) (as_station call)) (λ u. LeadsOn u.state)
  order_leads b (Spent e) = does_nothing (λ u. LeadsOn u.state) from sp (node_of t.link.me) (as_station call) (ap as_station e)
  order_leads b (Said packet made e) =
      let m = message_of sys me kind s.draft valid b.stage in
      let name = node_of t.link.me in
      let last = told_events does_so.station.outcome in
      let events = Sends packet (message_of_plan m) ∷ last in
      let link = g.links sp (Station t) t_there in
      let d_link = g.links dp (Drone d) d_there in
      let sys_is : sys ≡ d.link.me.sys = (g.cores dp (Drone d) d_there).sys in
      let me_is = d_link.me in
      let known : NameInRange (drone_name sys) = record { sys = omega arith; comp = omega arith } in
      let small = number_of-bound kind in
      let keeps = (sound_does x x_sound).begins sp t (drone_name sys) number known (omega arith) accepted name t_there in
      let whole : as_station call ≡ done (Station new) events = ap as_station e in
      let reads = reads_at [] last packet (message_of_plan m) (subst OutcomeReads whole keeps.1) in
      weaker (λ u. StepKeeps x u.state × ((u.state ≡ moved from sp (Station new) (packet ∷ [])) × (u.events ≡ reported_by name (length s.sent) events))) (λ u. LeadsOn u.state) (node_does from sp name (as_station call))
      (λ u h. leads b packet made u h.0 h.1.0
      (carries_last u.state s.sent t.link.key t.link.me t.link.seq stamp (message_of_plan m) m packet h.0.sound (ap (λ (y : WorldState). y.sent) h.1.0)
      (made ∙ ap (λ z. signed_packet t.link.key z t.link.me t.link.seq stamp (message_of_plan m)) link.extras) reads (is_carried sys me kind s.draft valid g.draft b.stage)))
      (does x from sp name (as_station call) (record { node = Station new; events = events }) (packet ∷ []) whole (ap (λ ps. packet ∷ ps) (no_frames_reported does_so.station.outcome)) keeps.0)

  -- the index at which the station is found
  index_is : position (is_station_named me) s.nodes ≡ Some sp
  index_is =
      let f = first_of_all (is_station_named me) s.nodes sp (Station t) t_there (ap (λ n. same_name n me) t_named ∙ name_same me) in
      f.is ∙ ap Some (g.apart f.index sp f.element (Station t) f.there t_there (called f.element f.holds ∙ sym t_named))
    where
      called : (y : Node) → is_station_named me y ≡ true → node_name y ≡ me
      called (Drone y) e = absurd (cc)
      called (Station y) e = name_eq (node_of y.link.me) me e

  -- the begin line itself
  pub begin_leads : IfOk (after_line s (Begin me (drone_name sys) kind)) (λ u. LeadsOn u.state)
  begin_leads =
      let P : Step → Type 0 = λ u. LeadsOn u.state in
      let order = λ (k : ℕ) (node : StationSide). upload_begins x k node (drone_name sys) number (upload_refusal node.core number x.draft) in
      let b = begin_is in
      subst (λ p. IfOk (orders_found x p order) P) (sym index_is)
      (subst (λ o. IfOk (orders_at x sp o order) P) (sym t_there)
      (subst (λ why. IfOk (upload_begins x sp t (drone_name sys) number why) P) (sym accepted)
      (order_leads b (orders_say s.clock t.link t.services (station_does does_so) (message_of sys me kind s.draft valid b.stage) b.answer))))
