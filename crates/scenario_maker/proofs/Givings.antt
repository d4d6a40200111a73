-- Frames that are given, and calls and orders of one node: what each of them counts for.
use Rattle.std.proofs.Common.{◌≡◌, ◌∙◌, ℕ, zero, suc, ◌+◌, ◌-◌, ◌≤◌, Bool, true, false, ◌==◌, ◌&&◌, List, [], ◌∷◌, length, drop, map, slice_get, Option, Some, None, Ok, Err, is_some, refl, sym, ap, subst, arith, add-one}
use Rattle.std.specs.Prelude.{position}
use Rattle.std.specs.declared.result.Result.{Result}
use Rattle.std.proofs.lemmas.List.{length-map}
use Rattle.std.proofs.lemmas.List.Elements.{All-nil}
use Rattle.mav_names.specs.declared.names.Name.{Name}
use Rattle.mav_frame.specs.Packet.{Packet}
use Rattle.mav_frame.specs.Encoding.{encoding}
use Rattle.plan_items.specs.declared.messages.PlanMsg.{PlanMsg}
use Rattle.plan_ranges.specs.Ranges.{ItemInRange, NameInRange, Is8}
use Rattle.plan_upload.specs.declared.faults.OpFault.{OpFault}
use Rattle.plan_upload.specs.Addresses.{same_name, node_of, everyone}
use Rattle.plan_upload.specs.Heard.{is_heard}
use Rattle.plan_upload.specs.Refusals.{upload_refusal}
use Rattle.plan_upload.specs.Station.{addressee, begin_upload, station_cancel}
use Rattle.mav_nodes.specs.Payloads.{plan_in}
use Rattle.mav_nodes.specs.Links.{Outcome}
use Rattle.mav_nodes.specs.Nodes.{StationSide, station_begins, station_cancels}
use Rattle.scenario_lines.specs.declared.naming.Named.{Named}
use Rattle.node_reports.specs.Nodes.{Node, Drone, Station, node_name}
use Rattle.node_reports.specs.Calls.{node_receives, node_ticks, as_station}
use Rattle.fleet_world.specs.WorldState.{WorldState, named, is_named, is_station_named, stream_of}
use Rattle.fleet_world.specs.Steps.{Step, StepError, At_limit, Stamps_spent, and_then, calls_at, calls_found, calls, given_to, given_from, given_to_all, flow_next, flows, delivers, station_line, orders, upload_begins, orders_at, orders_found, orders_to, begins, cancels}
use Rattle.fleet_invariants.specs.Sound.{link_of}
use Rattle.fleet_invariants.specs.Laws.{CallKeeps}
use Rattle.fleet_invariants.proofs.Lists.{nowhere, some_is, within}
use Rattle.fleet_invariants.proofs.Tests.{by_test}
use Rattle.fleet_invariants.proofs.Restated.{restated, regiven, sound_restated}
use Rattle.fleet_invariants.proofs.Heard.{heard_is, sent_known}
use Rattle.fleet_invariants.proofs.Calls.{sound_does}
use Rattle.scenario_maker.proofs.Weights.{draws, weight}
use Rattle.scenario_maker.proofs.StationReplies.{one_if}
use Rattle.scenario_maker.proofs.Turns.{Turn, any_step, ticks_turn, drone_receiving, station_receiving}
use Rattle.scenario_maker.proofs.Goings.{weigh_from, from_next, from_covers, from_end, carried_at, the_names, answering, answerers, few_answer, Calm, size, Goes, stays, goes_then, goes_more, lands, does_calm}

-- a call that counts for so many counts for more
turn_more : (a : Node) (b c : ℕ) (o : Outcome Node) → b ≤ c → Turn a b o → Turn a c o
turn_more a b c None le h = tt
turn_more a b c (Some d) le h = λ read. let w = h read in let weighs = w.weighs in record { weighs = omega (arith, weighs, le); carry = w.carry; idle = w.idle }

-- ---- one frame

-- a plan message that is there
pub record Carried (p : Packet) : Type 0 where
  pub message : PlanMsg
  pub is : plan_in p.id p.payload ≡ Some message

of_some : (p : Packet) (o : Option PlanMsg) → plan_in p.id p.payload ≡ o → is_some o ≡ true → Carried p
of_some p None e h = absurd (cc)
of_some p (Some m) e h = record { message = m; is = e }

carried : (s : WorldState) → Calm s → (i : ℕ) (p : Packet) → slice_get s.sent i ≡ Some p → Carried p
carried s g i p e = of_some p (plan_in p.id p.payload) refl (carried_at s.sent i p g.carry e)

some_sys : (name : Name) → 1 ≤ name.sys → same_name name everyone ≡ false
some_sys name h = off (name.sys == 0) (name.comp == 0) (zero_not name.sys h)
  where
    zero_not : (n : ℕ) → 1 ≤ n → (n == 0) ≡ false
    zero_not n h = grind arith

    off : (a b : Bool) → a ≡ false → (a && b) ≡ false
    off true b e = absurd (cc)
    off false b e = refl

-- a frame that was sent, and the message that it carries
module _ (p : Packet) (m : PlanMsg) (plan : plan_in p.id p.payload ≡ Some m) where
  -- it was sent in this state
  abbrev There : WorldState → Type 0
  There s = (i : ℕ) × (slice_get s.sent i ≡ Some p)

  name_sys : (a : Node) → 1 ≤ (link_of a).me.sys → 1 ≤ (node_name a).sys
  name_sys (Drone n) h = h
  name_sys (Station n) h = h

  not_everyone : (s : WorldState) → Calm s → There s → same_name p.from everyone ≡ false
  not_everyone s g (i, e) =
      let q = (g.sound.sent i p e).from in
      some_sys p.from (subst (λ (n : Name). 1 ≤ n.sys) q.name_is (name_sys q.node (g.sound.links q.index q.node q.found).me.0))

  turn : (s : WorldState) (g : Calm s) → There s → (k : ℕ) (a : Node) → slice_get s.nodes k ≡ Some a → Turn a (one_if (answering (named a) m)) (node_receives s.clock (encoding p) a)
  turn s g (i, e) k (Drone n) found =
      let alone = (heard_is s g.sound p (g.sound.sent i p e)).frames in
      subst (λ sys. Turn (Drone n) (one_if (is_heard sys m)) (node_receives s.clock (encoding p) (Drone n))) (g.sound.cores k (Drone n) found).sys
      (drone_receiving p m alone plan s.clock n (g.sound.links k (Drone n) found).extras (not_everyone s g (i, e)))
  turn s g (i, e) k (Station n) found =
      let alone = (heard_is s g.sound p (g.sound.sent i p e)).frames in
      subst (λ name. Turn (Station n) (one_if (same_name (addressee m) name)) (node_receives s.clock (encoding p) (Station n))) (g.sound.cores k (Station n) found).me
      (station_receiving p m alone plan s.clock n (g.sound.links k (Station n) found).extras (g.idle k (Station n) found))

  -- it is given to one node
  to_node : (s : WorldState) (g : Calm s) → There s → (k : ℕ) (a : Node) → slice_get s.nodes k ≡ Some a → size s + one_if (answering (named a) m) ≤ 100000 → Goes s (one_if (answering (named a) m)) (given_to s k p (Some a))
  to_node s g (i, e) k a found small =
      let c = one_if (answering (named a) m) in
      let law = (sound_does s g.sound).receives (encoding p) (sent_known s g.sound i p e) k a (node_name a) found in
      by_test (Goes s c) (same_name (node_name a) p.from) _ _
      (λ _. stays s c g)
      (λ _. does_calm s g k (node_name a) a found c small (node_receives s.clock (encoding p) a) (turn s g (i, e) k a found) law.1 (lands s _ g.names law.0))

  named_at : (nodes : List Node) (k : ℕ) (a : Node) (x : Named) (more : List Named) → slice_get nodes k ≡ Some a → drop k (map named nodes) ≡ x ∷ more → named a ≡ x
  named_at [] k a x more found e = absurd (nowhere k a found)
  named_at (n ∷ ns) zero a x more found e = let same : n ≡ a = some_is found in let is : named n ≡ x = cc in ap named (sym same) ∙ is
  named_at (n ∷ ns) (suc k) a x more found e = named_at ns k a x more found e

  drop_more : (xs : List Named) (k : ℕ) (x : Named) (more : List Named) → drop k xs ≡ x ∷ more → drop (suc k) xs ≡ more
  drop_more [] zero x more e = absurd (cc)
  drop_more [] (suc k) x more e = absurd (cc)
  drop_more (y ∷ ys) zero x more e = cc
  drop_more (y ∷ ys) (suc k) x more e = drop_more ys k x more e

  to_one : (s : WorldState) (g : Calm s) → There s → (k : ℕ) (x : Named) (more : List Named) → drop k the_names ≡ x ∷ more → size s + one_if (answering x m) ≤ 100000
      → (o : Option Node) → slice_get s.nodes k ≡ o → Goes s (one_if (answering x m)) (given_to s k p o)
  to_one s g there k x more e small None found = stays s (one_if (answering x m)) g
  to_one s g there k x more e small (Some a) found =
      let is : named a ≡ x = named_at s.nodes k a x more found (ap (drop k) g.names ∙ e) in
      subst (λ y. size s + one_if (answering y m) ≤ 100000 → Goes s (one_if (answering y m)) (given_to s k p (Some a))) is (to_node s g there k a found) small

  -- and to those that are left, one after another
  to_rest : (rest : List Named) (s : WorldState) (g : Calm s) → There s → (k : ℕ) → drop k the_names ≡ rest → size s + answerers rest m ≤ 100000 → Goes s (answerers rest m) (given_from s k (length rest) p)
  to_rest [] s g there k e small = stays s 0 g
  to_rest (x ∷ more) s g (i, sent) k e small =
      goes_then s (one_if (answering x m)) (answerers more m) (given_to s k p (slice_get s.nodes k)) (λ t. given_from t (k + 1) (length more) p)
      (to_one s g (i, sent) k x more e (omega (arith, small)) (slice_get s.nodes k) refl)
      (λ t w.
      let grown = w.grown in
      to_rest more t w.calm (i, w.sent i p sent) (k + 1) (ap (λ j. drop j the_names) (add-one k) ∙ drop_more the_names k x more e) (omega (arith, small, grown)))

  to_all : (s : WorldState) (g : Calm s) → There s → size s + draws m ≤ 100000 → Goes s (draws m) (given_to_all s p)
  to_all s g there small =
      let few = few_answer m in
      let eight : length s.nodes ≡ 8 = sym (length-map s.nodes named) ∙ ap (λ (xs : List Named). length xs) g.names in
      goes_more s (answerers the_names m) (draws m) (given_to_all s p) few
      (subst (λ n. Goes s (answerers the_names m) (given_from s 0 n p)) (sym eight) (to_rest the_names s g there 0 refl (omega (arith, few, small))))

  -- the node of a name
  pub again : (s : WorldState) (g : Calm s) → There s → (k : ℕ) (a : Node) → slice_get s.nodes k ≡ Some a → Turn a 1 (node_receives s.clock (encoding p) a)
  again s g there k a found = turn_more a (one_if (answering (named a) m)) 1 (node_receives s.clock (encoding p) a) (one_few (answering (named a) m)) (turn s g there k a found)
    where
      one_few : (b : Bool) → one_if b ≤ 1
      one_few true = omega arith
      one_few false = omega arith

-- ---- flows

-- a frame less waits
given_one : (s : WorldState) → Calm s → (p : Packet) → slice_get s.sent s.given ≡ Some p → Calm (record s { given = s.given + 1 })
given_one s g p e =
    let inside = within s.sent s.given p e in
    record { sound = regiven s (s.given + 1) g.sound (omega (arith, inside)); carry = g.carry; idle = g.idle; names = g.names }

size_given : (s : WorldState) (p : Packet) → slice_get s.sent s.given ≡ Some p → size (record s { given = s.given + 1 }) + weight (plan_in p.id p.payload) ≡ size s + 1
size_given s p e =
    let next = from_next s.given s.sent p e in
    let one : weigh_from (s.given + 1) s.sent ≡ weigh_from (suc s.given) s.sent = ap (λ n. weigh_from n s.sent) (add-one s.given) in
    omega (arith, next, one)

-- a step of a state with the same frames is one of the state
goes_from : (s t : WorldState) (a b : ℕ) (r : Result Step StepError) → size t + a ≤ size s + b → ((i : ℕ) (p : Packet) → slice_get s.sent i ≡ Some p → slice_get t.sent i ≡ Some p) → Goes t a r → Goes s b r
goes_from s t a b (Ok u) le same w = let grown = w.grown in record { calm = w.calm; grown = omega (arith, grown, le); sent = λ i p e. w.sent i p (same i p e) }
goes_from s t a b (Err Stamps_spent) le same h = tt
goes_from s t a b (Err (At_limit limit)) le same h = h

flow_one : (k : ℕ) (s : WorldState) → Calm s → size s + suc k ≤ 100000 → ((t : WorldState) → Calm t → size t + k ≤ 100000 → Goes t k (flows k t)) → (o : Option Packet) → slice_get s.sent s.given ≡ o → Goes s (suc k) (flow_next s o (flows k))
flow_one k s g small each None e = stays s (suc k) g
flow_one k s g small each (Some p) e =
    let c = carried s g s.given p e in
    let t = record s { given = s.given + 1 } in
    let before = size_given s p e in
    let drawn : weight (plan_in p.id p.payload) ≡ draws c.message = ap weight c.is in
    goes_from s t (draws c.message + k) (suc k) (and_then (given_to_all t p) (flows k)) (omega (arith, before, drawn)) (λ i q h. h)
    (goes_then t (draws c.message) k (given_to_all t p) (flows k)
    (to_all p c.message c.is t (given_one s g p e) (s.given, e) (omega (arith, before, drawn, small)))
    (λ u w. let grown = w.grown in each u w.calm (omega (arith, before, drawn, small, grown))))

pub flow_calm : (k : ℕ) (s : WorldState) → Calm s → size s + k ≤ 100000 → Goes s k (flows k s)
flow_calm zero s g small = stays s 0 g
flow_calm (suc k) s g small = flow_one k s g small (λ t h few. flow_calm k t h few) (slice_get s.sent s.given) refl

-- ---- calls and orders

module _ (s : WorldState) (g : Calm s) (c : ℕ) (small : size s + c ≤ 100000) where
  module _ (call : Node → Outcome Node) (each : (k : ℕ) (a : Node) → slice_get s.nodes k ≡ Some a → Turn a c (call a)) (law : CallKeeps s call) where
    called_at : (k : ℕ) (o : Option Node) → slice_get s.nodes k ≡ o → Goes s c (calls_at s k o call)
    called_at k None found = stays s c g
    called_at k (Some a) found =
        let l = law k a (node_name a) found in
        does_calm s g k (node_name a) a found c small (call a) (each k a found) l.1 (lands s _ g.names l.0)

    called : (k : Option ℕ) → Goes s c (calls_found s k call)
    called None = stays s c g
    called (Some k) = called_at k (slice_get s.nodes k) refl

    pub calls_calm : (name : Name) → Goes s c (calls s name call)
    calls_calm name = called (position (is_named name) s.nodes)

  module _ (order : ℕ → StationSide → Result Step StepError) (each : (k : ℕ) (n : StationSide) → slice_get s.nodes k ≡ Some (Station n) → Goes s c (order k n)) where
    ordered_at : (k : ℕ) (o : Option Node) → slice_get s.nodes k ≡ o → Goes s c (orders_at s k o order)
    ordered_at k None found = stays s c g
    ordered_at k (Some (Drone n)) found = stays s c g
    ordered_at k (Some (Station n)) found = each k n found

    ordered : (k : Option ℕ) → Goes s c (orders_found s k order)
    ordered None = stays s c g
    ordered (Some k) = ordered_at k (slice_get s.nodes k) refl

    pub orders_calm : (name : Name) → Goes s c (orders_to s name order)
    orders_calm name = ordered (position (is_station_named name) s.nodes)

pub tick_calm : (s : WorldState) → Calm s → size s + 8 ≤ 100000 → (name : Name) → Goes s 8 (calls s name (node_ticks s.clock))
tick_calm s g small name = calls_calm s g 8 small (node_ticks s.clock) (λ k a found. ticks_turn s.clock a (g.idle k a found)) (sound_does s g.sound).ticks name

-- a frame that is delivered once more, if it was sent
pub deliver_calm : (s : WorldState) → Calm s → size s + 1 ≤ 100000 → (number : ℕ) (name : Name) (o : Option Packet) → slice_get s.sent (number - 1) ≡ o → Goes s 1 (delivers s number name o)
deliver_calm s g small number name None e = stays s 1 g
deliver_calm s g small number name (Some p) e =
    let c = carried s g (number - 1) p e in
    calls_calm s g 1 small (node_receives s.clock (encoding p)) (again p c.message c.is s g (number - 1, e)) ((sound_does s g.sound).receives (encoding p) (sent_known s g.sound (number - 1) p e)) name

-- an order sets the place of flows
at_line : (s : WorldState) → Calm s → Calm (station_line s)
at_line s g = record { sound = regiven s (length s.sent) g.sound (omega arith); carry = g.carry; idle = g.idle; names = g.names }

line_smaller : (s : WorldState) → size (station_line s) ≤ size s
line_smaller s = let covers = from_covers s.given s.sent in let end = from_end s.sent in omega (arith, covers, end)

pub from_line : (s : WorldState) (c : ℕ) (r : Result Step StepError) → Goes (station_line s) c r → Goes s c r
from_line s c r h = let le = line_smaller s in goes_from s (station_line s) c c r (omega (arith, le)) (λ i p e. e) h

cancelling : (s : WorldState) (g : Calm s) → size s + 8 ≤ 100000 → (station : Name) → Goes s 8 (cancels s station)
cancelling s g small station =
    orders_calm s g 8 small (λ k n. orders s k n None (station_cancels s.clock n))
    (λ k n found.
    let law = (sound_does s g.sound).cancels k n (node_of n.link.me) found in
    does_calm s g k (node_of n.link.me) (Station n) found 8 small (as_station (station_cancels s.clock n)) (any_step s.clock n (g.idle k (Station n) found) (station_cancel n.core)) law.1 (lands s _ g.names law.0))
    station

pub cancel_calm : (s : WorldState) → Calm s → size s + 8 ≤ 100000 → (station : Name) → Goes s 8 (cancels (station_line s) station)
cancel_calm s g small station =
    let le = line_smaller s in from_line s 8 (cancels (station_line s) station) (cancelling (station_line s) (at_line s g) (omega (arith, small, le)) station)

begun : (s : WorldState) (g : Calm s) → size s + 8 ≤ 100000 → (k : ℕ) (n : StationSide) → slice_get s.nodes k ≡ Some (Station n) → (drone : Name) → NameInRange drone → (kind : ℕ) → Is8 kind → (why : Option OpFault) → upload_refusal n.core kind s.draft ≡ why → Goes s 8 (upload_begins s k n drone kind why)
begun s g small k n found drone range kind few (Some why) e = stays s 8 g
begun s g small k n found drone range kind few None e =
    let law = (sound_does s g.sound).begins k n drone kind range few e (node_of n.link.me) found in
    let t : WorldState = restated s s.given [] s.clock in
    let calm : Calm t = record { sound = sound_restated s s.given [] s.clock g.sound g.sound.given (All-nil ItemInRange) (omega arith) g.sound.clock; carry = g.carry; idle = g.idle; names = g.names } in
    goes_from s t 8 8 _ (omega arith) (λ i p h. h)
    (does_calm t calm k (node_of n.link.me) (Station n) found 8 small (as_station (station_begins s.clock (stream_of drone) kind s.draft n))
    (any_step s.clock n (g.idle k (Station n) found) (begin_upload n.core (stream_of drone) kind s.draft)) law.1 (lands s _ g.names law.0))

beginning : (s : WorldState) (g : Calm s) → size s + 8 ≤ 100000 → (station drone : Name) → NameInRange drone → (kind : ℕ) → Is8 kind → Goes s 8 (begins s station drone kind)
beginning s g small station drone range kind few =
    orders_calm s g 8 small (λ k n. upload_begins s k n drone kind (upload_refusal n.core kind s.draft))
    (λ k n found. begun s g small k n found drone range kind few (upload_refusal n.core kind s.draft) refl) station

pub begin_calm : (s : WorldState) → Calm s → size s + 8 ≤ 100000 → (station drone : Name) → NameInRange drone → (kind : ℕ) → Is8 kind → Goes s 8 (begins (station_line s) station drone kind)
begin_calm s g small station drone range kind few =
    let le = line_smaller s in
    from_line s 8 (begins (station_line s) station drone kind) (beginning (station_line s) (at_line s g) (omega (arith, small, le)) station drone range kind few)
