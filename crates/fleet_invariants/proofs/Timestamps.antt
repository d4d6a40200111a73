-- A call of a node is done while there is room below the greatest timestamp: for one frame, or for all answers to each
-- frame of a datagram.
use Rattle.std.proofs.Common.{◌≡◌, ℕ, suc, ◌+◌, ◌-◌, ◌*◌, ◌≤◌, true, nat_lt, List, [], ◌∷◌, ◌++◌, length, slice_get, Option, Some, None, refl, sym, subst, arith}
use Rattle.mav_names.specs.declared.names.Stream.{Stream}
use Rattle.plan_items.specs.declared.messages.PlanMsg.{PlanMsg}
use Rattle.mav_frame.specs.Packet.{Packet, SignatureBlock}
use Rattle.mav_messages.specs.declared.messages.Message.{Message}
use Rattle.mav_messages.specs.Plans.{message_of_plan}
use Rattle.mav_sign.specs.declared.admission.Admit.{Admit}
use Rattle.mav_sign.specs.declared.admission.Admit.TheVariants.{Admitted, Unsigned, BadSignature, BelowFloor, NotLater, TooOld, TooManyStreams}
use Rattle.mav_sign.specs.Signing.{Verifies}
use Rattle.mav_sign.specs.History.{Entry, tried, sent, local_of, next_in, answer_to, greatest_stamp, stream_of}
use Rattle.mav_nodes.specs.News.{NodeEvent}
use Rattle.mav_nodes.specs.Links.{Link, Outcome, after_events, and_then, tries, sends, sends_all}
use Rattle.mav_nodes.specs.Payloads.{plan_in, service_in}
use Rattle.mav_nodes.specs.Services.{ServiceStep}
use Rattle.mav_nodes.specs.Steps.{Side, Rules, CoreStep, answers, with_core, steps, serves, takes, admits, hears, hears_all}
use Rattle.fleet_invariants.proofs.Tests.{by_test, less}
use Rattle.fleet_invariants.proofs.Growth.{at_most_on}
use Rattle.fleet_invariants.proofs.Histories.{previous_local, sending_is, sending_near, trying_sends, Leaves, Nothing, Stamp, leaves, admitting_near, nothing_near}
use Rattle.fleet_invariants.proofs.Links.{admitted_verifies}
use Rattle.fleet_invariants.proofs.Services.{most_answers}

-- a call is done
abbrev pub IsDone : {A : Type 0} → Outcome A → Type 0
IsDone None = ⊥
IsDone (Some d) = Unit {0}

-- and leaves this
abbrev pub Ends : {A : Type 0} → (A → Type 0) → Outcome A → Type 0
Ends P None = ⊥
Ends P (Some d) = P d.node

pub ends_done : {A : Type 0} (P : A → Type 0) (o : Outcome A) → Ends P o → IsDone o
ends_done P None h = h
ends_done P (Some d) h = tt

ends_behind : {A : Type 0} (P : A → Type 0) (events : List NodeEvent) (o : Outcome A) → Ends P o → Ends P (after_events events o)
ends_behind P events None h = h
ends_behind P events (Some d) h = h

ends_on : {A : Type 0} (P Q : A → Type 0) → ((a : A) → P a → Q a) → (o : Outcome A) → Ends P o → Ends Q o
ends_on P Q f None h = h
ends_on P Q f (Some d) h = f d.node h

ends_then : {A B : Type 0} (P : A → Type 0) (Q : B → Type 0) (o : Outcome A) (next : A → Outcome B) → Ends P o → ((a : A) → P a → Ends Q (next a)) → Ends Q (and_then o next)
ends_then P Q None next h each = h
ends_then P Q (Some d) next h each = ends_behind Q d.events (next d.node) (each d.node h)

behind_done : {A : Type 0} (events : List NodeEvent) (o : Outcome A) → IsDone o → IsDone (after_events events o)
behind_done events None h = h
behind_done events (Some d) h = tt

then_done : {A B : Type 0} (P : A → Type 0) (o : Outcome A) (next : A → Outcome B) → Ends P o → ((a : A) → P a → IsDone (next a)) → IsDone (and_then o next)
then_done P None next h each = h
then_done P (Some d) next h each = behind_done d.events (next d.node) (each d.node h)

-- an end of the links with this key, of which no timestamp is ahead of the clock by more than n
pub record Near (clock : ℕ) (key : List ℕ) (n : ℕ) (link : Link) : Type 0 where
  pub key_is : link.key ≡ key
  pub local : local_of link.history ≤ clock + n

later : (clock : ℕ) (key : List ℕ) (n m : ℕ) (link : Link) → n ≤ m → Near clock key n link → Near clock key m link
later clock key n m link more h = record { key_is = h.key_is; local = at_most_on _ _ _ h.local (omega (arith, more)) }

-- ---- messages are sent

next_near : (history : List Entry) (clock n : ℕ) → local_of history ≤ clock + n → next_in history clock ≤ clock + (n + 1)
next_near history clock n h =
    let stamp = next_in history clock in
    subst (λ m. m ≤ clock + (n + 1)) (sending_is history stamp) (at_most_on _ _ _ (previous_local (history ++ sent stamp ∷ [])) (sending_near history clock n h))

message_near : (clock : ℕ) (key : List ℕ) (n : ℕ) (link : Link) (message : Message) → Near clock key n link → clock + (n + 1) ≤ greatest_stamp → Ends (Near clock key (n + 1)) (sends clock message link)
message_near clock key n link message h room =
    by_test (Ends (Near clock key (n + 1))) (nat_lt greatest_stamp (next_in link.history clock)) None _
    (λ late. too_late (next_in link.history clock) (next_near link.history clock n h.local) late)
    (λ _. record { key_is = h.key_is; local = sending_near link.history clock n h.local })
  where
    too_late : (stamp : ℕ) → stamp ≤ clock + (n + 1) → nat_lt greatest_stamp stamp ≡ true → ⊥
    too_late stamp near late = let above = less greatest_stamp stamp late in omega (arith, room, near, above)

answer_near : (clock : ℕ) (key : List ℕ) (n : ℕ) (link : Link) (answer : Option PlanMsg) → Near clock key n link → clock + (n + 1) ≤ greatest_stamp → Ends (Near clock key (n + 1)) (answers clock answer link)
answer_near clock key n link None h room = later clock key n (n + 1) link (omega arith) h
answer_near clock key n link (Some m) h room = message_near clock key n link (message_of_plan m) h room

-- at most so many
messages_near : (clock : ℕ) (key : List ℕ) (messages : List Message) (n most : ℕ) (link : Link) → length messages ≤ most → Near clock key n link → clock + (n + most) ≤ greatest_stamp → Ends (Near clock key (n + most)) (sends_all clock messages link)
messages_near clock key [] n most link few h room = later clock key n (n + most) link (omega arith) h
messages_near clock key (m ∷ ms) n most link few h room =
    ends_then (Near clock key (n + 1)) (Near clock key (n + most)) (sends clock m link) (sends_all clock ms) (message_near clock key n link m h (omega (arith, few, room))) (λ next k.
    ends_on (Near clock key ((n + 1) + (most - 1))) (Near clock key (n + most)) (λ end g. later clock key _ _ end (omega (arith, few)) g) (sends_all clock ms next)
    (messages_near clock key ms (n + 1) (most - 1) next (omega (arith, few)) k (omega (arith, few, room))))

-- ---- a frame is tried

-- if it verifies, its timestamp isn't ahead of the clock by more than n
abbrev pub NearFrame : ℕ → List ℕ → ℕ → Packet → Type 0
NearFrame clock key n p = Verifies key p p.block → (block : SignatureBlock) → p.block ≡ Some block → block.stamp ≤ clock + n

tries_near : (clock : ℕ) (key : List ℕ) (n : ℕ) (link : Link) (p : Packet) → Near clock key n link → NearFrame clock key n p → Near clock key n (tries p link)
tries_near clock key n link p h near = record {
  key_is = h.key_is;
  local = by_answer (answer_to link.key link.history p) (λ is block signed. near (verified is) block signed) (leaves link.history p (answer_to link.key link.history p) p.block refl);
}
  where
    verified : answer_to link.key link.history p ≡ Admitted → Verifies key p p.block
    verified is = subst (λ k. Verifies k p p.block) h.key_is (admitted_verifies link.key link.history p is)

    by_answer : (answer : Admit) → (answer ≡ Admitted → (block : SignatureBlock) → p.block ≡ Some block → block.stamp ≤ clock + n) → Leaves link.history (link.history ++ tried p answer ∷ []) p answer → local_of (link.history ++ tried p answer ∷ []) ≤ clock + n
    by_answer answer known (Nothing none _) =
        subst (λ m. m ≤ clock + n) (sym (nothing_near link.history (link.history ++ tried p answer ∷ []) (trying_sends link.history p answer) none)) h.local
    by_answer answer known (Stamp block is signed last accepted _) =
        admitting_near link.history (link.history ++ tried p answer ∷ []) block.stamp (clock + n) (trying_sends link.history p answer) accepted h.local (known is block signed)

-- ---- a node, whose services send few messages at a time

-- services of which this holds send at most so many messages at one that they hear, and it goes on to hold
pub record SendsFew {Core Services : Type 0} (rules : Rules Core Services) (Few : Services → Type 0) : Type 0 where
  pub few : (core : Core) (v : Services) (from : Stream) (m : Message) → Few v → length (rules.serve core v from m).answers ≤ most_answers
  pub again : (core : Core) (v : Services) (from : Stream) (m : Message) → Few v → Few (rules.serve core v from m).services
  pub noted : (v : Services) (events : List NodeEvent) → Few v → Few (rules.note v events)

module _ {Core Services : Type 0} (clock : ℕ) (key : List ℕ) (Few : Services → Type 0) where
  abbrev pub IsNear : ℕ → Side Core Services → Type 0
  IsNear n node = Near clock key n node.link × Few node.services

  core_near : (n : ℕ) (core : Core) (services : Services) (last : List NodeEvent) (o : Outcome Link) → Few services → Ends (Near clock key n) o → Ends (IsNear n) (with_core core services last o)
  core_near n core services last None few h = h
  core_near n core services last (Some d) few h = (h, few)

  node_later : (n m : ℕ) → n ≤ m → (node : Side Core Services) → IsNear n node → IsNear m node
  node_later n m more node h = (later clock key n m node.link more h.0, h.1)

  pub beats_near : (n : ℕ) (link : Link) (core : Core) (services : Services) (message : Message) → Few services → Near clock key n link → clock + (n + 1) ≤ greatest_stamp → Ends (IsNear (n + 1)) (with_core core services [] (sends clock message link))
  beats_near n link core services message few h room =
      core_near (n + 1) core services [] (sends clock message link) few (message_near clock key n link message h room)

  pub steps_near : (n : ℕ) (link : Link) (services : Services) (step : CoreStep Core) → Few services → Near clock key n link → clock + (n + 1) ≤ greatest_stamp → Ends (IsNear (n + 1)) (steps clock link services step)
  steps_near n link services step few h room =
      let said = answers clock step.answer link in
      ends_behind (IsNear (n + 1)) step.first (with_core step.core services step.last said) (core_near (n + 1) step.core services step.last said few (answer_near clock key n link step.answer h room))

  pub serves_near : (n : ℕ) (link : Link) (core : Core) (step : ServiceStep Services) → Few step.services → length step.answers ≤ most_answers → Near clock key n link → clock + (n + most_answers) ≤ greatest_stamp → Ends (IsNear (n + most_answers)) (serves clock link core step)
  serves_near n link core step few short h room =
      core_near (n + most_answers) core step.services step.last (sends_all clock step.answers link) few (messages_near clock key step.answers n most_answers link short h room)

  -- a step of the core, and then one of the services
  pub both_done : (n : ℕ) (link : Link) (services : Services) (step : CoreStep Core) (next : Services → ServiceStep Services) → Few services → ((v : Services) → Few v → Few (next v).services × (length (next v).answers ≤ most_answers)) → Near clock key n link
      → clock + (n + 1 + most_answers) ≤ greatest_stamp → IsDone (and_then (steps clock link services step) (λ (node : Side Core Services). serves clock node.link node.core (next node.services)))
  both_done n link services step next few each h room =
      then_done (IsNear (n + 1)) (steps clock link services step) (λ (node : Side Core Services). serves clock node.link node.core (next node.services)) (steps_near n link services step few h (omega (arith, room))) (λ node k.
      ends_done (IsNear (n + 1 + most_answers)) (serves clock node.link node.core (next node.services))
      (serves_near (n + 1) node.link node.core (next node.services) (each node.services k.1).0 (each node.services k.1).1 k.0 room))

  module _ (rules : Rules Core Services) (sends_few : SendsFew rules Few) where
    takes_near : (n : ℕ) (node : Side Core Services) (from : Stream) (m : Option PlanMsg) (other : Option Message) → IsNear n node → clock + (n + most_answers) ≤ greatest_stamp → Ends (IsNear (n + most_answers)) (takes rules clock node from m other)
    takes_near n node from None None h room = node_later n (n + most_answers) (omega arith) node h
    takes_near n node from None (Some m) h room =
        serves_near n node.link node.core (rules.serve node.core node.services from m) (sends_few.again node.core node.services from m h.1) (sends_few.few node.core node.services from m h.1) h.0 room
    takes_near n node from (Some m) other h room =
        let step = rules.take node.core from m in
        let services = rules.note node.services step.first in
        ends_on (IsNear (n + 1)) (IsNear (n + most_answers)) (node_later (n + 1) (n + most_answers) (omega arith)) (steps clock node.link services step)
        (steps_near n node.link services step (sends_few.noted node.services step.first h.1) h.0 (omega (arith, room)))

    admits_near : (n : ℕ) (node : Side Core Services) (p : Packet) (answer : Admit) (block : Option SignatureBlock) → IsNear n node → clock + (n + most_answers) ≤ greatest_stamp → Ends (IsNear (n + most_answers)) (admits rules clock node p answer block)
    admits_near n node p Admitted None h room = node_later n (n + most_answers) (omega arith) node h
    admits_near n node p Admitted (Some block) h room = takes_near n node (stream_of p block) (plan_in p.id p.payload) (service_in p.id p.payload) h room
    admits_near n node p Unsigned block h room = node_later n (n + most_answers) (omega arith) node h
    admits_near n node p BadSignature block h room = node_later n (n + most_answers) (omega arith) node h
    admits_near n node p (BelowFloor floor) block h room = node_later n (n + most_answers) (omega arith) node h
    admits_near n node p (NotLater last) block h room = node_later n (n + most_answers) (omega arith) node h
    admits_near n node p (TooOld local) block h room = node_later n (n + most_answers) (omega arith) node h
    admits_near n node p TooManyStreams block h room = node_later n (n + most_answers) (omega arith) node h

    hears_near : (n : ℕ) (node : Side Core Services) (p : Packet) → IsNear n node → NearFrame clock key n p → clock + (n + most_answers) ≤ greatest_stamp → Ends (IsNear (n + most_answers)) (hears rules clock p node)
    hears_near n node p h near room =
        admits_near n (record node { link = tries p node.link }) p (answer_to node.link.key node.link.history p) p.block (tries_near clock key n node.link p h.0 near, h.1) room

    -- all frames of a datagram
    pub all_done : (packets : List Packet) (base n : ℕ) (node : Side Core Services) → base ≤ n → IsNear n node → ((index : ℕ) (p : Packet) → slice_get packets index ≡ Some p → NearFrame clock key base p)
        → clock + (n + 40 * length packets) ≤ greatest_stamp → IsDone (hears_all rules clock packets node)
    all_done [] base n node few h near room = tt
    all_done (p ∷ packets) base n node few h near room =
        then_done (IsNear (n + most_answers)) (hears rules clock p node) (hears_all rules clock packets)
        (hears_near n node p h (λ v block signed. at_most_on _ _ _ (near 0 p refl v block signed) (omega arith)) (omega (arith, room)))
        (λ next k. all_done packets base (n + most_answers) next (omega arith) k (λ index q e. near (suc index) q e) (omega (arith, room)))
