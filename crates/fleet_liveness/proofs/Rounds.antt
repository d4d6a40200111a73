-- A frame is given to all nodes, and a flow: a long enough one brings the upload to its end.
use Rattle.std.proofs.Common.{◌≡◌, ◌≢◌, ◌∙◌, ℕ, zero, suc, ◌+◌, ◌<◌, ◌≤◌, ◌⊎◌, inl, inr, Bool, true, false, ◌==◌, List, [], ◌∷◌, ◌++◌, length, slice_get, Option, Some, None, refl, sym, ap, subst, arith, append_assoc}
use Rattle.std.specs.Prelude.{IfOk, All, option_map}
use Rattle.std.proofs.lemmas.Option.{slice_get-map}
use Rattle.mav_names.specs.declared.names.Name.{Name}
use Rattle.plan_items.specs.declared.items.Item.{Item}
use Rattle.plan_items.specs.declared.kinds.PlanKind.{PlanKind}
use Rattle.plan_items.specs.declared.messages.PlanMsg.{PlanMsg}
use Rattle.plan_items.specs.Kinds.{number_of}
use Rattle.plan_items.specs.Validation.{IsValid}
use Rattle.mav_names.specs.Addresses.{same_name, drone_name}
use Rattle.plan_ranges.specs.Ranges.{ItemInRange}
use Rattle.mav_frame.specs.Packet.{Packet}
use Rattle.mav_frame.specs.Encoding.{encoding}
use Rattle.scenario_lines.specs.declared.naming.Named.{Named}
use Rattle.scenario_lines.specs.declared.naming.Role.{Role}
use Rattle.scenario_lines.specs.declared.naming.Role.TheVariants.{Drone as DroneRole, Station as StationRole}
use Rattle.fleet_report.specs.Events.{Event}
use Rattle.node_reports.specs.Nodes.{Node, Drone, Station, node_name}
use Rattle.node_reports.specs.Calls.{node_receives}
use Rattle.fleet_world.specs.WorldState.{WorldState, named, names_of}
use Rattle.fleet_world.specs.Steps.{Step, node_does, given_to, given_from}
use Rattle.fleet_invariants.proofs.Lists.{some_is, within}
use Rattle.fleet_invariants.proofs.Tests.{eq_true, differ, name_same, number_same}
use Rattle.fleet_liveness.proofs.Names.{names_apart}
use Rattle.fleet_liveness.proofs.Hearing.{Carries}
use Rattle.fleet_liveness.proofs.States.{same_place}
use Rattle.fleet_liveness.proofs.Steps.{weaker, ok_then, ok_given, step_behind}
use Rattle.fleet_liveness.proofs.Stages.{Stage, Pings, Replies, Cancels, Settles, Counts, Asks, Gives, Acks, is_up, is_last, is_ping, message_of, costs}
use Rattle.fleet_liveness.proofs.Reporting.{Goal, upload_of, goal_behind}
use Rattle.fleet_liveness.proofs.Waits.{IsAside, Waits, sender}
use Rattle.fleet_liveness.proofs.Others.{Near, near_same, near_more, apart_indices}
use Rattle.fleet_liveness.proofs.Turns.{extra_at, others, Moved, drone_turn, station_turn}

pub same_or : (a b : ℕ) → (a ≡ b) ⊎ (a ≢ b)
same_or a b = by_bool (a == b) refl
  where
    by_bool : (t : Bool) → (a == b) ≡ t → (a ≡ b) ⊎ (a ≢ b)
    by_bool true e = inl (eq_true a b e)
    by_bool false e = inr (λ is. differ _ (subst (λ x. (a == x) ≡ true) is (number_same a)) e)

-- there is an element at each index of a list
pub record Found {A : Type 0} (xs : List A) (i : ℕ) : Type 0 where
  pub element : A
  pub is : slice_get xs i ≡ Some element

pub found_within : {A : Type 0} (xs : List A) (i : ℕ) → i < length xs → Found xs i
found_within [] i h = absurd (omega arith)
found_within (x ∷ xs) zero h = record { element = x; is = refl }
found_within (x ∷ xs) (suc i) h = let r = found_within xs i (omega arith) in record { element = r.element; is = r.is }

-- how many frames more the nodes from an index on send at a PING for all
abbrev pub role_extra : Role → ℕ
role_extra DroneRole = 1
role_extra StationRole = 0

abbrev pub named_extra : Bool → Option Named → ℕ
named_extra true (Some n) = role_extra n.role
named_extra true None = 0
named_extra false n = 0

abbrev pub extra : Bool → List Named → ℕ → ℕ → ℕ
extra b names j zero = 0
extra b names j (suc n) = named_extra b (slice_get names j) + extra b names (j + 1) n

-- at all nodes
abbrev pub all_extra : Bool → List Named → ℕ
all_extra b names = extra b names 0 (length names)

pub no_extra : (names : List Named) (j n : ℕ) → extra false names j n ≡ 0
no_extra names j zero = refl
no_extra names j (suc n) = let e = no_extra names (j + 1) n in omega arith

node_extra : (b : Bool) (y : Node) → extra_at b y ≡ named_extra b (Some (named y))
node_extra true (Drone n) = refl
node_extra true (Station n) = refl
node_extra false y = refl

extra_here : (b : Bool) (nodes : List Node) (j : ℕ) (y : Node) → slice_get nodes j ≡ Some y → extra_at b y ≡ named_extra b (slice_get (names_of nodes) j)
extra_here b nodes j y e = node_extra b y ∙ ap (named_extra b) (sym (slice_get-map named nodes j ∙ ap (option_map named) e))

pub last_is : {plan : List Item} (p : Stage plan) → is_last p ≡ true → p ≡ Acks
last_is (Pings boot n) e = absurd (cc)
last_is (Replies boot n) e = absurd (cc)
last_is Cancels e = absurd (cc)
last_is (Settles code known) e = absurd (cc)
last_is Counts e = absurd (cc)
last_is (Asks items x rest whole) e = absurd (cc)
last_is (Gives items x rest whole) e = absurd (cc)
last_is Acks e = refl

module _ (sys : ℕ) (me : Name) (kind : PlanKind) (plan : List Item) (valid : IsValid (number_of kind) plan) (fits : All ItemInRange plan) (dp sp : ℕ) where
  abbrev IsWaiting : WorldState → ℕ → Stage plan → Type 0
  IsWaiting = Waits sys me kind plan valid dp sp

  abbrev Beside : WorldState → ℕ → ℕ → Stage plan → Step → Type 0
  Beside = Near sys me kind plan valid dp sp

  abbrev sends_it : Bool → Name
  sends_it = sender sys me kind plan valid dp sp

  abbrev says : Stage plan → PlanMsg
  says = message_of sys me kind plan valid

  abbrev cost : Stage plan → ℕ
  cost = costs sys me kind plan valid

  abbrev Wanted : Stage plan → List Event → Type 0
  Wanted = Goal sys me kind plan valid

  abbrev Aside : List ℕ → Packet → Type 0
  Aside = IsAside sys me kind plan valid dp sp

  pub wanted_behind : (p : Stage plan) (es fs : List Event) → Wanted p fs → Wanted p (es ++ fs)
  wanted_behind p es fs g = goal_behind (upload_of sys me kind plan valid) (is_last p) es fs g

  -- the index of the node that waits for a message, and the one that sent it
  abbrev pub place_to : Bool → ℕ
  place_to true = dp
  place_to false = sp

  abbrev pub place_from : Bool → ℕ
  place_from true = sp
  place_from false = dp

  neither : (up : Bool) (j : ℕ) → j ≢ place_to up → j ≢ place_from up → (j ≢ dp) × (j ≢ sp)
  neither true j a b = (a, b)
  neither false j a b = (b, a)

  -- the two have the names of their roles, which differ
  module _ (s : WorldState) (r : ℕ) (q : Stage plan) (w : IsWaiting s r q) where
    pub own_name : (up : Bool) (j : ℕ) (y : Node) → slice_get s.nodes j ≡ Some y → j ≡ place_from up → node_name y ≡ sends_it up
    own_name true j y there e = ap node_name (same_place s.nodes j sp y (Station w.station) there w.station_there e) ∙ w.station_named
    own_name false j y there e = ap node_name (same_place s.nodes j dp y (Drone w.drone) there w.drone_there e) ∙ w.drone_named

    pub names_differ : drone_name sys ≢ me
    names_differ e = apart_indices sys me kind plan valid dp sp s r q w (w.sound.apart dp sp (Drone w.drone) (Station w.station) w.drone_there w.station_there (w.drone_named ∙ e ∙ sym w.station_named))

    pub here : (up : Bool) → place_to up < length s.nodes
    here true = within s.nodes dp (Drone w.drone) w.drone_there
    here false = within s.nodes sp (Station w.station) w.station_there

  -- the frame that is given
  module _ (p : Stage plan) (i : ℕ) (f : Packet) (stamp : ℕ) (from : f.from ≡ sends_it (is_up p)) where
    pub record Sent (s : WorldState) : Type 0 where
      pub found : slice_get s.sent i ≡ Some f
      pub carries : Carries s.key f stamp (says p)

    pub sent_on : (s t : WorldState) → Sent s → t.key ≡ s.key → ((i : ℕ) (q : Packet) → slice_get s.sent i ≡ Some q → slice_get t.sent i ≡ Some q) → Sent t
    sent_on s t h key there = record { found = there i f h.found; carries = subst (λ k. Carries k f stamp (says p)) (sym key) h.carries }

    -- how many frames more the node at an index sends
    abbrev pub more_at : WorldState → ℕ → ℕ
    more_at s j = named_extra (is_ping p) (slice_get (names_of s.nodes) j)

    -- to a node that it isn't for
    pub other_place : (s : WorldState) (r : ℕ) (q : Stage plan) → IsWaiting s r q → Sent s → (j : ℕ) → j ≢ place_to (is_up p) → IfOk (given_to s j f (slice_get s.nodes j)) (Beside s (more_at s j) r q)
    other_place s r q w h j nt = at (slice_get s.nodes j) refl
      where
        rests_here : Beside s (more_at s j) r q (record { state = s; events = [] })
        rests_here = near_more sys me kind plan valid dp sp s 0 (more_at s j) r q (record { state = s; events = [] }) (omega arith) (near_same sys me kind plan valid dp sp s r q [] w)

        at : (o : Option Node) → slice_get s.nodes j ≡ o → IfOk (given_to s j f o) (Beside s (more_at s j) r q)
        at None there = rests_here
        at (Some y) there =
            ok_given (Beside s (more_at s j) r q) s j f y (λ _. rests_here) (λ other.
            let nf : j ≢ place_from (is_up p) = λ e. differ _ (subst (λ x. same_name x f.from ≡ true) (from ∙ sym (own_name s r q w (is_up p) j y there e)) (name_same f.from)) other in
            let places = neither (is_up p) j nt nf in
            subst (λ k. IfOk (node_does s j (node_name y) (node_receives s.clock (encoding f) y)) (Beside s k r q)) (extra_here (is_ping p) s.nodes j y there)
            (others sys me kind plan valid fits dp sp s r q w p i f h.found stamp h.carries (node_name y) from j y there places.0 places.1))

    -- after the one that it was for
    record After (r : ℕ) (q : Stage plan) (given budget : ℕ) (t : Step) : Type 0 where
      waits : IsWaiting t.state r q
      given_is : t.state.given ≡ given
      bound : length t.state.sent + cost q ≤ budget

    give_past : (n j : ℕ) (s : WorldState) (r : ℕ) (q : Stage plan) → IsWaiting s r q → Sent s → place_to (is_up p) < j → (budget : ℕ) → length s.sent + cost q + extra (is_ping p) (names_of s.nodes) j n ≤ budget
        → IfOk (given_from s j n f) (After r q s.given budget)
    give_past zero j s r q w h past budget le = record { waits = w; given_is = refl; bound = omega arith }
    give_past (suc n) j s r q w h past budget le =
        let first = given_to s j f (slice_get s.nodes j) in
        let one = more_at s j in
        let not_target : j ≢ place_to (is_up p) = λ e. absurd (omega arith) in
        ok_then (After r q s.given budget) first (λ t. given_from t (j + 1) n f)
        (weaker (Beside s one r q) (λ t. IfOk (given_from t.state (j + 1) n f) (λ u. After r q s.given budget (step_behind t.events u))) first
        (λ t near.
        let names : extra (is_ping p) (names_of t.state.nodes) (j + 1) n ≡ extra (is_ping p) (names_of s.nodes) (j + 1) n = ap (λ ns. extra (is_ping p) ns (j + 1) n) near.names in
        let more = near.sent in
        weaker (After r q t.state.given budget) (λ u. After r q s.given budget (step_behind t.events u)) (given_from t.state (j + 1) n f)
        (λ u a. record { waits = a.waits; given_is = a.given_is ∙ near.given; bound = a.bound })
        (give_past n (j + 1) t.state r q near.waits (sent_on s t.state h near.key near.there) (omega arith) budget (omega arith)))
        (other_place s r q w h j not_target))

    -- the next message is on its way, within the budget
    pub record Taken (given budget : ℕ) (t : Step) : Type 0 where
      pub next : Stage plan
      pub not_ping : is_ping next ≡ false
      pub index : ℕ
      pub waits : IsWaiting t.state index next
      pub later : given ≤ index
      pub given_is : t.state.given ≡ given
      pub bound : length t.state.sent + cost next ≤ budget
      pub wanted : (es : List Event) → Wanted next es → Wanted p (t.events ++ es)

    taken_behind : (given budget : ℕ) (es : List Event) (t : Step) → Taken given budget t → Taken given budget (step_behind es t)
    taken_behind given budget es t k = record {
      next = k.next;
      not_ping = k.not_ping;
      index = k.index;
      waits = k.waits;
      later = k.later;
      given_is = k.given_is;
      bound = k.bound;
      wanted = λ fs g. subst (Wanted p) (sym (append_assoc es t.events fs)) (wanted_behind p es (t.events ++ fs) (k.wanted fs g));
    }

    pub frame_is : (s : WorldState) (w : IsWaiting s i p) → Sent s → w.flies.frame ≡ f
    frame_is s w h = some_is (sym w.flies.found ∙ h.found)

    -- the one that it is for takes it
    its_turn : is_last p ≡ false → (s : WorldState) (w : IsWaiting s i p) → Sent s → i < s.given → (up : Bool) → is_up p ≡ up → IfOk (given_to s (place_to up) f (slice_get s.nodes (place_to up))) (Moved sys me kind plan valid fits dp sp s i p w)
    its_turn goes_on s w h given_on true up =
        subst (λ o. IfOk (given_to s dp f o) (Moved sys me kind plan valid fits dp sp s i p w)) (sym w.drone_there)
        (ok_given (Moved sys me kind plan valid fits dp sp s i p w) s dp f (Drone w.drone)
        (λ own. absurd (differ _ own (ap (λ n. same_name n f.from) w.drone_named ∙ ap (same_name (drone_name sys)) (from ∙ ap sends_it up) ∙ names_apart (drone_name sys) me (names_differ s i p w))))
        (λ other. subst (λ x. IfOk (node_does s dp (node_name (Drone w.drone)) (node_receives s.clock (encoding x) (Drone w.drone))) (Moved sys me kind plan valid fits dp sp s i p w)) (frame_is s w h)
        (drone_turn sys me kind plan valid fits dp sp s i p w up given_on)))
    its_turn goes_on s w h given_on false down =
        subst (λ o. IfOk (given_to s sp f o) (Moved sys me kind plan valid fits dp sp s i p w)) (sym w.station_there)
        (ok_given (Moved sys me kind plan valid fits dp sp s i p w) s sp f (Station w.station)
        (λ own. absurd (differ _ own (ap (λ n. same_name n f.from) w.station_named ∙ ap (same_name me) (from ∙ ap sends_it down) ∙ names_apart me (drone_name sys) (λ e. names_differ s i p w (sym e)))))
        (λ other. subst (λ x. IfOk (node_does s sp (node_name (Station w.station)) (node_receives s.clock (encoding x) (Station w.station))) (Moved sys me kind plan valid fits dp sp s i p w)) (frame_is s w h)
        (station_turn sys me kind plan valid fits dp sp s i p w down goes_on given_on)))

    pub give_first : is_last p ≡ false → (n j : ℕ) (s : WorldState) → IsWaiting s i p → Sent s → i < s.given → j ≤ place_to (is_up p) → place_to (is_up p) < j + n → (budget : ℕ) → length s.sent + cost p + extra (is_ping p) (names_of s.nodes) j n ≤ budget
        → IfOk (given_from s j n f) (Taken s.given budget)
    give_first goes_on zero j s w h given_on before here budget le = absurd (omega arith)
    give_first goes_on (suc n) j s w h given_on before here budget le = elim (same_or j (place_to (is_up p))) [
      | inl is ↦
          let first = given_to s j f (slice_get s.nodes j) in
          ok_then (Taken s.given budget) first (λ t. given_from t (j + 1) n f)
          (weaker (Moved sys me kind plan valid fits dp sp s i p w) (λ t. IfOk (given_from t.state (j + 1) n f) (λ u. Taken s.given budget (step_behind t.events u))) first
          (λ t m.
          let names : extra (is_ping p) (names_of t.state.nodes) (j + 1) n ≡ extra (is_ping p) (names_of s.nodes) (j + 1) n = ap (λ ns. extra (is_ping p) ns (j + 1) n) m.names in
          let one = m.sent in
          let fewer = m.fewer in
          let few = w.sound.given in
          weaker (After (length s.sent) m.next t.state.given budget) (λ u. Taken s.given budget (step_behind t.events u)) (given_from t.state (j + 1) n f)
          (λ u a. record {
            next = m.next;
            not_ping = m.not_ping;
            index = length s.sent;
            waits = a.waits;
            later = few;
            given_is = a.given_is ∙ m.given;
            bound = a.bound;
            wanted = λ es g. subst (Wanted p) (sym (append_assoc t.events u.events es)) (m.goal (u.events ++ es) (wanted_behind m.next u.events es g));
          })
          (give_past n (j + 1) t.state (length s.sent) m.next m.waits (sent_on s t.state h m.key m.there) (omega arith) budget (omega arith)))
          (subst (λ k. IfOk (given_to s k f (slice_get s.nodes k)) (Moved sys me kind plan valid fits dp sp s i p w)) (sym is) (its_turn goes_on s w h given_on (is_up p) refl)))
      | inr not ↦
          let first = given_to s j f (slice_get s.nodes j) in
          let one = more_at s j in
          ok_then (Taken s.given budget) first (λ t. given_from t (j + 1) n f)
          (weaker (Beside s one i p) (λ t. IfOk (given_from t.state (j + 1) n f) (λ u. Taken s.given budget (step_behind t.events u))) first
          (λ t near.
          let names : extra (is_ping p) (names_of t.state.nodes) (j + 1) n ≡ extra (is_ping p) (names_of s.nodes) (j + 1) n = ap (λ ns. extra (is_ping p) ns (j + 1) n) near.names in
          let more = near.sent in
          let same = near.given in
          weaker (Taken t.state.given budget) (λ u. Taken s.given budget (step_behind t.events u)) (given_from t.state (j + 1) n f)
          (λ u k. taken_behind s.given budget t.events u (subst (λ g. Taken g budget u) near.given k))
          (give_first goes_on n (j + 1) t.state near.waits (sent_on s t.state h near.key near.there) (omega arith) (next_place j not before) (omega arith) budget (omega arith)))
          (other_place s i p w h j not))
    ]
      where
        next_place : (j : ℕ) → j ≢ place_to (is_up p) → j ≤ place_to (is_up p) → j + 1 ≤ place_to (is_up p)
        next_place j ne le = below j (place_to (is_up p)) ne le
          where
            below : (a b : ℕ) → a ≢ b → a ≤ b → a + 1 ≤ b
            below a b ne le = grind arith
