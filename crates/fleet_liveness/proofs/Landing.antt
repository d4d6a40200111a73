-- A flow that is long enough brings an upload to its end.
use Rattle.std.proofs.Common.{◌≡◌, ◌≢◌, ◌∙◌, ℕ, zero, suc, ◌+◌, ◌<◌, ◌≤◌, ◌⊎◌, inl, inr, Bool, true, false, List, [], ◌++◌, length, slice_get, Option, Some, None, refl, sym, ap, subst, arith, append_assoc}
use Rattle.std.specs.Prelude.{IfOk, All}
use Rattle.std.proofs.lemmas.List.{length-map}
use Rattle.mav_names.specs.declared.names.Name.{Name}
use Rattle.plan_items.specs.declared.items.Item.{Item}
use Rattle.plan_items.specs.declared.kinds.PlanKind.{PlanKind}
use Rattle.plan_items.specs.declared.messages.PlanMsg.{PlanMsg}
use Rattle.plan_items.specs.declared.messages.PlanMsg.TheVariants.{Ping}
use Rattle.plan_items.specs.Kinds.{number_of}
use Rattle.plan_items.specs.Validation.{IsValid}
use Rattle.mav_names.specs.Addresses.{same_name, same_stream, drone_name}
use Rattle.plan_upload.specs.Drone.{rests, drone_step}
use Rattle.plan_upload.specs.Station.{stays, station_step}
use Rattle.plan_ranges.specs.Ranges.{ItemInRange}
use Rattle.mav_frame.specs.Packet.{Packet}
use Rattle.mav_frame.specs.Encoding.{encoding}
use Rattle.fleet_report.specs.Events.{Event}
use Rattle.node_reports.specs.Nodes.{Node, Drone, Station, node_name}
use Rattle.node_reports.specs.Calls.{node_receives}
use Rattle.fleet_world.specs.WorldState.{WorldState, named, stream_of, names_of}
use Rattle.fleet_world.specs.Steps.{Step, node_does, given_to, given_from, given_to_all, flow_next, flows}
use Rattle.fleet_invariants.proofs.Lists.{some_is, within}
use Rattle.fleet_invariants.proofs.Tests.{differ}
use Rattle.fleet_invariants.proofs.Restated.{sound_restated}
use Rattle.fleet_liveness.proofs.Names.{names_apart, streams_apart, station_deaf}
use Rattle.fleet_liveness.proofs.Hearing.{Carries}
use Rattle.fleet_liveness.proofs.States.{same_place, drone_leaves}
use Rattle.fleet_liveness.proofs.Steps.{always, weaker, ok_then, ok_given, step_behind}
use Rattle.fleet_liveness.proofs.Stages.{Stage, Acks, is_up, is_last, is_ping, message_of, costs, is_busy}
use Rattle.fleet_liveness.proofs.Reporting.{Goal}
use Rattle.fleet_liveness.proofs.Waits.{IsAside, Waits, sender}
use Rattle.fleet_liveness.proofs.Others.{Near, near_same, own_drone, own_station, apart_indices, station_holds}
use Rattle.fleet_liveness.proofs.Turns.{left_alone, station_end}
use Rattle.fleet_liveness.proofs.Rounds.{same_or, found_within, extra, all_extra, no_extra, last_is, wanted_behind, names_differ, here, Sent, sent_on, more_at, other_place, frame_is, Taken, give_first}

module _ (sys : ℕ) (me : Name) (kind : PlanKind) (plan : List Item) (valid : IsValid (number_of kind) plan) (fits : All ItemInRange plan) (dp sp : ℕ) where
  abbrev IsWaiting : WorldState → ℕ → Stage plan → Type 0
  IsWaiting = Waits sys me kind plan valid dp sp

  abbrev Beside : WorldState → ℕ → ℕ → Stage plan → Step → Type 0
  Beside = Near sys me kind plan valid dp sp

  abbrev sends_it : Bool → Name
  sends_it = sender sys me kind plan valid dp sp

  abbrev says : Stage plan → PlanMsg
  says = message_of sys me kind plan valid

  abbrev cost : Stage plan → ℕ
  cost = costs sys me kind plan valid

  abbrev Wanted : Stage plan → List Event → Type 0
  Wanted = Goal sys me kind plan valid

  abbrev Aside : List ℕ → Packet → Type 0
  Aside = IsAside sys me kind plan valid dp sp

  -- the acknowledgement
  module _ (i : ℕ) (f : Packet) (stamp : ℕ) (from : f.from ≡ drone_name sys) where
    abbrev IsSent : WorldState → Type 0
    IsSent = Sent sys me kind plan valid fits dp sp Acks i f stamp from

    abbrev Told : Step → Type 0
    Told t = (es : List Event) → Wanted Acks (t.events ++ es)

    its_end : (s : WorldState) (w : IsWaiting s i Acks) → IsSent s → IfOk (given_to s sp f (slice_get s.nodes sp)) Told
    its_end s w h =
        subst (λ o. IfOk (given_to s sp f o) Told) (sym w.station_there)
        (ok_given Told s sp f (Station w.station)
        (λ own. absurd (differ _ own (ap (λ n. same_name n f.from) w.station_named ∙ ap (same_name me) from ∙ names_apart me (drone_name sys) (λ e. names_differ sys me kind plan valid fits dp sp s i Acks w (sym e)))))
        (λ other. subst (λ x. IfOk (node_does s sp (node_name (Station w.station)) (node_receives s.clock (encoding x) (Station w.station))) Told) (frame_is sys me kind plan valid fits dp sp Acks i f stamp from s w h)
        (station_end sys me kind plan valid fits dp sp s i w)))

    reported_behind : (es : List Event) (t : Step) → Told t → Told (step_behind es t)
    reported_behind es t h fs = subst (Wanted Acks) (sym (append_assoc es t.events fs)) (wanted_behind sys me kind plan valid fits dp sp Acks es (t.events ++ fs) (h fs))

    reported_before : (t u : Step) → Told t → Told (step_behind t.events u)
    reported_before t u h fs = subst (Wanted Acks) (sym (append_assoc t.events u.events fs)) (h (u.events ++ fs))

    give_last : (n j : ℕ) (s : WorldState) → IsWaiting s i Acks → IsSent s → j ≤ sp → sp < j + n → IfOk (given_from s j n f) Told
    give_last zero j s w h before here = absurd (omega arith)
    give_last (suc n) j s w h before here = elim (same_or j sp) [
      | inl is ↦
          let first = given_to s j f (slice_get s.nodes j) in
          ok_then Told first (λ t. given_from t (j + 1) n f)
          (weaker Told (λ t. IfOk (given_from t.state (j + 1) n f) (λ u. Told (step_behind t.events u))) first
          (λ t h. always (λ u. Told (step_behind t.events u)) (given_from t.state (j + 1) n f) (λ u. reported_before t u h))
          (subst (λ k. IfOk (given_to s k f (slice_get s.nodes k)) Told) (sym is) (its_end s w h)))
      | inr not ↦
          let first = given_to s j f (slice_get s.nodes j) in
          let one = more_at sys me kind plan valid fits dp sp Acks i f stamp from s j in
          ok_then Told first (λ t. given_from t (j + 1) n f)
          (weaker (Beside s one i Acks) (λ t. IfOk (given_from t.state (j + 1) n f) (λ u. Told (step_behind t.events u))) first
          (λ t near. weaker Told (λ u. Told (step_behind t.events u)) (given_from t.state (j + 1) n f) (λ u h. reported_behind t.events u h)
          (give_last n (j + 1) t.state near.waits (sent_on sys me kind plan valid fits dp sp Acks i f stamp from s t.state h near.key near.there) (next_place j sp not before) (omega arith)))
          (other_place sys me kind plan valid fits dp sp Acks i f stamp from s i Acks w h j not))
    ]
      where
        next_place : (a b : ℕ) → a ≢ b → a ≤ b → a + 1 ≤ b
        next_place a b ne le = grind arith

  -- a reply of another drone
  module _ (i : ℕ) (f : Packet) where
    not_sender : (key : List ℕ) → Aside key f → (up : Bool) → f.from ≢ sends_it up
    not_sender key a true = a.not_station
    not_sender key a false = a.not_drone

    aside_place : (s : WorldState) (r : ℕ) (q : Stage plan) → IsWaiting s r q → slice_get s.sent i ≡ Some f → Aside s.key f → (j : ℕ) → IfOk (given_to s j f (slice_get s.nodes j)) (Beside s 0 r q)
    aside_place s r q w found a j = at (slice_get s.nodes j) refl
      where
        rests_here : Beside s 0 r q (record { state = s; events = [] })
        rests_here = near_same sys me kind plan valid dp sp s r q [] w

        deaf : station_step w.station.core (stream_of f.from) (Ping me a.boot a.number) ≡ stays w.station.core
        deaf =
            let b = is_busy sys me kind plan valid q w.station.core w.station_is in
            station_deaf w.station.core (stream_of f.from) (Ping me a.boot a.number) b.operation b.is (ap (same_stream (stream_of f.from)) b.with_drone ∙ streams_apart f.from (drone_name sys) a.not_drone)

        alone : drone_step true w.drone.core (stream_of f.from) (Ping me a.boot a.number) ≡ rests w.drone.core
        alone =
            drone_leaves s w.sound me (station_holds sys me kind plan valid dp sp s r q w) dp w.drone w.drone_there (apart_indices sys me kind plan valid dp sp s r q w) (stream_of f.from) (Ping me a.boot a.number) refl

        by_place : (y : Node) → slice_get s.nodes j ≡ Some y → (j ≡ dp) ⊎ (j ≢ dp) → (j ≡ sp) ⊎ (j ≢ sp) → IfOk (node_does s j (node_name y) (node_receives s.clock (encoding f) y)) (Beside s 0 r q)
        by_place y there (inl is) t =
            subst (λ k. IfOk (node_does s k (node_name y) (node_receives s.clock (encoding f) y)) (Beside s 0 r q)) (sym is)
            (subst (λ z. IfOk (node_does s dp (node_name y) (node_receives s.clock (encoding f) z)) (Beside s 0 r q)) (sym (same_place s.nodes j dp y (Drone w.drone) there w.drone_there is))
            (own_drone sys me kind plan valid dp sp s r q w i f found a.stamp (Ping me a.boot a.number) a.carries (node_name y) (not_sender s.key a (is_up q)) alone))
        by_place y there (inr nd) (inl is) =
            subst (λ k. IfOk (node_does s k (node_name y) (node_receives s.clock (encoding f) y)) (Beside s 0 r q)) (sym is)
            (subst (λ z. IfOk (node_does s sp (node_name y) (node_receives s.clock (encoding f) z)) (Beside s 0 r q)) (sym (same_place s.nodes j sp y (Station w.station) there w.station_there is))
            (own_station sys me kind plan valid dp sp s r q w i f found a.stamp (Ping me a.boot a.number) a.carries (node_name y) (not_sender s.key a (is_up q)) deaf))
        by_place y there (inr nd) (inr ns) =
            left_alone sys me kind plan valid fits dp sp s r q w i f found a.stamp (Ping me a.boot a.number) a.carries (node_name y) false refl j y there nd ns

        at : (o : Option Node) → slice_get s.nodes j ≡ o → IfOk (given_to s j f o) (Beside s 0 r q)
        at None there = rests_here
        at (Some y) there = ok_given (Beside s 0 r q) s j f y (λ _. rests_here) (λ _. by_place y there (same_or j dp) (same_or j sp))

    give_aside : (n j : ℕ) (s : WorldState) (r : ℕ) (q : Stage plan) → IsWaiting s r q → slice_get s.sent i ≡ Some f → Aside s.key f → IfOk (given_from s j n f) (Beside s 0 r q)
    give_aside zero j s r q w found a = near_same sys me kind plan valid dp sp s r q [] w
    give_aside (suc n) j s r q w found a =
        let first = given_to s j f (slice_get s.nodes j) in
        ok_then (Beside s 0 r q) first (λ t. given_from t (j + 1) n f)
        (weaker (Beside s 0 r q) (λ t. IfOk (given_from t.state (j + 1) n f) (λ u. Beside s 0 r q (step_behind t.events u))) first
        (λ t near. weaker (Beside t.state 0 r q) (λ u. Beside s 0 r q (step_behind t.events u)) (given_from t.state (j + 1) n f)
        (λ u more.
        let a = near.sent in
        let b = more.sent in
        record {
          waits = more.waits;
          given = more.given ∙ near.given;
          names = more.names ∙ near.names;
          sent = omega arith;
          there = λ i q e. more.there i q (near.there i q e);
          key = more.key ∙ near.key;
        })
        (give_aside n (j + 1) t.state r q near.waits (near.there i f found) (subst (λ k. Aside k f) (sym near.key) a)))
        (aside_place s r q w found a j))

  -- one frame more counts as given
  abbrev counted : WorldState → WorldState
  counted s = record s { given = s.given + 1 }

  waits_counted : (s : WorldState) (r : ℕ) (p : Stage plan) → IsWaiting s r p → s.given + 1 ≤ length s.sent → IsWaiting (counted s) r p
  waits_counted s r p w few = record {
    sound = sound_restated s (s.given + 1) s.draft s.clock w.sound few w.sound.draft (omega arith) w.sound.clock;
    drone = w.drone;
    drone_there = w.drone_there;
    drone_named = w.drone_named;
    station = w.station;
    station_there = w.station_there;
    station_named = w.station_named;
    drone_is = w.drone_is;
    station_is = w.station_is;
    above = w.above;
    flies = record {
      frame = w.flies.frame;
      found = w.flies.found;
      from = w.flies.from;
      stamp = w.flies.stamp;
      carries = w.flies.carries;
      recent = w.flies.recent;
      fresh = w.flies.fresh;
      above = w.flies.above;
    };
    asides = λ j q le e ne. w.asides j q (omega arith) e ne;
  }

  size_of : (s : WorldState) → length (names_of s.nodes) ≡ length s.nodes
  size_of s = length-map s.nodes named

  one_below : (a b : ℕ) → a ≢ b → a ≤ b → a + 1 ≤ b
  one_below a b ne le = grind arith

  -- what a flow of so many frames leads to
  abbrev Leads : ℕ → Type 0
  Leads k = (s : WorldState) (r : ℕ) (p : Stage plan) → IsWaiting s r p → s.given ≤ r → length s.sent + cost p + all_extra (is_ping p) (names_of s.nodes) ≤ s.given + k → IfOk (flows k s) (λ u. Wanted p u.events)

  module _ (k : ℕ) (on : Leads k) (s : WorldState) (r : ℕ) (p : Stage plan) (w : IsWaiting s r p) (le : s.given ≤ r) (enough : length s.sent + cost p + all_extra (is_ping p) (names_of s.nodes) ≤ s.given + suc k) where
    few : s.given + 1 ≤ length s.sent
    few = let inside = within s.sent r w.flies.frame w.flies.found in omega arith

    abbrev leads_on : Packet → Type 0
    leads_on f = IfOk (given_to_all (counted s) f) (λ t. IfOk (flows k t.state) (λ u. Wanted p (t.events ++ u.events)))

    all_nodes : extra (is_ping p) (names_of s.nodes) 0 (length s.nodes) ≡ all_extra (is_ping p) (names_of s.nodes)
    all_nodes = ap (extra (is_ping p) (names_of s.nodes) 0) (sym (size_of s))

    -- the acknowledgement
    acknowledged : (f : Packet) → slice_get s.sent r ≡ Some f → (w : IsWaiting s r Acks) → IfOk (given_to_all (counted s) f) (λ t. IfOk (flows k t.state) (λ u. Wanted Acks (t.events ++ u.events)))
    acknowledged f found w =
        let same : w.flies.frame ≡ f = some_is (sym w.flies.found ∙ found) in
        let from : f.from ≡ drone_name sys = ap (λ (q : Packet). q.from) (sym same) ∙ w.flies.from in
        let index = here sys me kind plan valid fits dp sp s r Acks w false in
        weaker (λ t. (es : List Event) → Wanted Acks (t.events ++ es)) (λ t. IfOk (flows k t.state) (λ u. Wanted Acks (t.events ++ u.events))) (given_to_all (counted s) f)
        (λ t h. always (λ u. Wanted Acks (t.events ++ u.events)) (flows k t.state) (λ u. h u.events))
        (give_last r f w.flies.stamp from (length s.nodes) 0 (counted s) (waits_counted s r Acks w few)
        (record { found = found; carries = subst (λ q. Carries s.key q w.flies.stamp (says Acks)) same w.flies.carries }) (omega arith) (omega arith))

    -- the message itself
    own_frame : (f : Packet) → slice_get s.sent r ≡ Some f → s.given ≡ r → (last : Bool) → is_last p ≡ last → leads_on f
    own_frame f found is false goes_on =
        let same : w.flies.frame ≡ f = some_is (sym w.flies.found ∙ found) in
        let from : f.from ≡ sends_it (is_up p) = ap (λ (q : Packet). q.from) (sym same) ∙ w.flies.from in
        let budget = s.given + suc k in
        let index = here sys me kind plan valid fits dp sp s r p w (is_up p) in
        weaker (Taken sys me kind plan valid fits dp sp p r f w.flies.stamp from (counted s).given budget) (λ t. IfOk (flows k t.state) (λ u. Wanted p (t.events ++ u.events))) (given_to_all (counted s) f)
        (λ t x.
        let given = x.given_is in
        let later = x.later in
        let bound = x.bound in
        let none : all_extra (is_ping x.next) (names_of t.state.nodes) ≡ 0 = ap (λ b. all_extra b (names_of t.state.nodes)) x.not_ping ∙ no_extra (names_of t.state.nodes) 0 (length (names_of t.state.nodes)) in
        weaker (λ u. Wanted x.next u.events) (λ u. Wanted p (t.events ++ u.events)) (flows k t.state) (λ u g. x.wanted u.events g)
        (on t.state x.index x.next x.waits (omega arith) (omega arith)))
        (give_first sys me kind plan valid fits dp sp p r f w.flies.stamp from goes_on (length s.nodes) 0 (counted s) (waits_counted s r p w few)
        (record { found = found; carries = subst (λ q. Carries s.key q w.flies.stamp (says p)) same w.flies.carries })
        (omega arith) (omega arith) (omega arith) budget (omega (arith, all_nodes)))
    own_frame f found is true last =
        let stage : p ≡ Acks = last_is p last in
        subst (λ q. IsWaiting s r q → IfOk (given_to_all (counted s) f) (λ t. IfOk (flows k t.state) (λ u. Wanted q (t.events ++ u.events)))) (sym stage) (λ w. acknowledged f found w) w

    -- a late reply of another drone
    other_frame : (f : Packet) → slice_get s.sent s.given ≡ Some f → s.given ≢ r → leads_on f
    other_frame f found not =
        weaker (Beside (counted s) 0 r p) (λ t. IfOk (flows k t.state) (λ u. Wanted p (t.events ++ u.events))) (given_to_all (counted s) f)
        (λ t near.
        let given = near.given in
        let sent = near.sent in
        let later = one_below s.given r not le in
        let same : all_extra (is_ping p) (names_of t.state.nodes) ≡ all_extra (is_ping p) (names_of s.nodes) = ap (all_extra (is_ping p)) near.names in
        weaker (λ u. Wanted p u.events) (λ u. Wanted p (t.events ++ u.events)) (flows k t.state) (λ u g. wanted_behind sys me kind plan valid fits dp sp p t.events u.events g)
        (on t.state r p near.waits (omega arith) (omega arith)))
        (give_aside s.given f (length s.nodes) 0 (counted s) r p (waits_counted s r p w few) found (w.asides s.given f (omega arith) found not))

    one_more : IfOk (flows (suc k) s) (λ u. Wanted p u.events)
    one_more =
        let inside = within s.sent r w.flies.frame w.flies.found in
        let first = found_within s.sent s.given (omega arith) in
        subst (λ o. IfOk (flow_next s o (flows k)) (λ u. Wanted p u.events)) (sym first.is)
        (ok_then (λ u. Wanted p u.events) (given_to_all (counted s) first.element) (flows k)
        (elim (same_or s.given r) [
          | inl is ↦ own_frame first.element (ap (slice_get s.sent) (sym is) ∙ first.is) is (is_last p) refl
          | inr not ↦ other_frame first.element first.is not
        ]))

  pub lands : (k : ℕ) → Leads k
  lands zero s r p w le enough = let inside = within s.sent r w.flies.frame w.flies.found in absurd (omega arith)
  lands (suc k) s r p w le enough = one_more k (lands k) s r p w le enough
