-- What a world sends: no more frames than its potential, and one for each frame that is given.
use Rattle.std.proofs.Common.{◌≡◌, ◌∙◌, ℕ, zero, suc, ◌+◌, ◌*◌, ◌<◌, ◌≤◌, Bool, true, false, if◌then◌else◌, ◌==◌, ◌&&◌, ◌||◌, inl, inr, List, [], ◌∷◌, ◌++◌, length, length-append, slice_get, slice_set, Some, None, IfOk, Ok, Err, is_some, refl, sym, ap, subst, arith}
use Rattle.std.specs.Prelude.{nat_le}
use Rattle.std.specs.declared.result.Result.{Result}
use Rattle.mav_names.specs.declared.names.Name.{Name}
use Rattle.mav_frame.specs.Packet.{Packet}
use Rattle.plan_items.specs.declared.messages.PlanMsg.{PlanMsg}
use Rattle.plan_items.specs.declared.messages.PlanMsg.TheVariants.{Count, Request, Item as Give, Ack, List as Listing, Clear, Ping}
use Rattle.plan_upload.specs.Addresses.{same_name, everyone}
use Rattle.plan_upload.specs.Heard.{is_heard}
use Rattle.plan_upload.specs.Station.{addressee}
use Rattle.mav_nodes.specs.Payloads.{plan_in}
use Rattle.mav_nodes.specs.Links.{Done, Outcome}
use Rattle.scenario_lines.specs.declared.naming.Named.{Named}
use Rattle.scenario_lines.specs.declared.naming.Role.{Role}
use Rattle.scenario_lines.specs.declared.naming.Role.TheVariants.{Drone as DroneRole, Station as StationRole}
use Rattle.fleet_report.specs.Events.{Event}
use Rattle.node_reports.specs.Nodes.{Node}
use Rattle.fleet_world.specs.WorldState.{WorldState, names_of}
use Rattle.fleet_world.specs.Steps.{Step, StepError, At_limit, Stamps_spent, most_frames, after_events, and_then, packets_in, node_does}
use Rattle.fleet_invariants.specs.Sound.{Sound}
use Rattle.fleet_invariants.specs.Kept.{OutcomeReads, Keeps}
use Rattle.fleet_invariants.proofs.Lists.{nowhere, some_is, which, more_there}
use Rattle.fleet_invariants.proofs.Tests.{by_test, name_eq}
use Rattle.scenario_maker.proofs.Weights.{draws, weight, weigh, AllCarry, opens, weigh_all, weigh_append, carry_append}
use Rattle.scenario_maker.proofs.StationReplies.{one_if}
use Rattle.scenario_maker.proofs.Turns.{IsIdle, Within, Turn}

-- ---- frames that wait to be given

-- the weight of the frames from index `n` on
abbrev pub weigh_from : ℕ → List Packet → ℕ
weigh_from zero ps = weigh ps
weigh_from (suc n) [] = 0
weigh_from (suc n) (p ∷ ps) = weigh_from n ps

pub from_append : (n : ℕ) (ps qs : List Packet) → n ≤ length ps → weigh_from n (ps ++ qs) ≡ weigh_from n ps + weigh qs
from_append zero ps qs h = weigh_append ps qs
from_append (suc n) [] qs h = absurd (omega (arith, h))
from_append (suc n) (p ∷ ps) qs h = from_append n ps qs (omega (arith, h))

pub from_next : (n : ℕ) (ps : List Packet) (p : Packet) → slice_get ps n ≡ Some p → weigh_from n ps ≡ weight (plan_in p.id p.payload) + weigh_from (suc n) ps
from_next zero [] p e = absurd (nowhere 0 p e)
from_next zero (q ∷ qs) p e = ap (λ (x : Packet). weight (plan_in x.id x.payload) + weigh qs) (some_is e)
from_next (suc n) [] p e = absurd (nowhere (suc n) p e)
from_next (suc n) (q ∷ qs) p e = from_next n qs p e

pub from_covers : (n : ℕ) (ps : List Packet) → length ps ≤ n + weigh_from n ps
from_covers zero ps = let h = weigh_all ps in omega (arith, h)
from_covers (suc n) [] = omega arith
from_covers (suc n) (p ∷ ps) = let h = from_covers n ps in omega (arith, h)

pub from_end : (ps : List Packet) → weigh_from (length ps) ps ≡ 0
from_end [] = refl
from_end (p ∷ ps) = from_end ps

pub carried_at : (ps : List Packet) (i : ℕ) (p : Packet) → AllCarry ps → slice_get ps i ≡ Some p → is_some (plan_in p.id p.payload) ≡ true
carried_at [] i p h e = absurd (nowhere i p e)
carried_at (q ∷ qs) zero p h e = subst (λ (x : Packet). is_some (plan_in x.id x.payload) ≡ true) (some_is e) h.0
carried_at (q ∷ qs) (suc i) p h e = carried_at qs i p h.1 e

-- ---- uploads that may end

abbrev pub all_opens : List Node → ℕ
all_opens [] = 0
all_opens (n ∷ ns) = opens n + all_opens ns

opens_set : (ns : List Node) (k : ℕ) (a b : Node) → slice_get ns k ≡ Some a → all_opens (slice_set ns k b) + opens a ≡ all_opens ns + opens b
opens_set [] k a b e = absurd (nowhere k a e)
opens_set (n ∷ ns) zero a b e = let same = ap opens (some_is e) in omega (arith, same)
opens_set (n ∷ ns) (suc k) a b e = let h = opens_set ns k a b e in omega (arith, h)

opens_inside : (ns : List Node) (k : ℕ) (a : Node) → slice_get ns k ≡ Some a → opens a ≤ all_opens ns
opens_inside [] k a e = absurd (nowhere k a e)
opens_inside (n ∷ ns) zero a e = let same = ap opens (some_is e) in omega (arith, same)
opens_inside (n ∷ ns) (suc k) a e = let h = opens_inside ns k a e in omega (arith, h)

-- ---- names

abbrev drone_named : ℕ → Named
drone_named sys = record { role = DroneRole; name = record { sys = sys; comp = 1 } }

abbrev station_named : ℕ → Named
station_named sys = record { role = StationRole; name = record { sys = sys; comp = 190 } }

abbrev pub the_names : List Named
the_names =
    drone_named 1 ∷ drone_named 2 ∷ drone_named 3 ∷ drone_named 4 ∷ station_named 251 ∷ station_named 252 ∷ station_named 253 ∷ station_named 254 ∷ []

-- a node of this name may reply to the message
abbrev answering_as : Role → Name → PlanMsg → Bool
answering_as DroneRole name m = is_heard name.sys m
answering_as StationRole name m = same_name (addressee m) name

abbrev pub answering : Named → PlanMsg → Bool
answering x m = answering_as x.role x.name m

abbrev pub answerers : List Named → PlanMsg → ℕ
answerers [] m = 0
answerers (x ∷ xs) m = one_if (answering x m) + answerers xs m

-- of these names one alone has the system of an addressee
abbrev hits : ℕ → ℕ
hits sys =
    one_if (sys == 1) + (one_if (sys == 2) + (one_if (sys == 3) + (one_if (sys == 4) + (one_if (sys == 251) + (one_if (sys == 252) + (one_if (sys == 253) + (one_if (sys == 254) + 0)))))))

one_hit : (sys : ℕ) → hits sys ≤ 1
one_hit sys = grind arith

one_and : (a b : Bool) → one_if (a && b) ≤ one_if a
one_and true true = omega arith
one_and true false = omega arith
one_and false b = omega arith

few_to : (to : Name) → answerers the_names (Ack to 0 0) ≤ 1
few_to to =
    let all = one_hit to.sys in
    let for_all = (to.comp == 1) || (to.comp == 0) in
    let a = one_and (to.sys == 1) for_all in
    let b = one_and (to.sys == 2) for_all in
    let c = one_and (to.sys == 3) for_all in
    let d = one_and (to.sys == 4) for_all in
    let p = one_and (to.sys == 251) (to.comp == 190) in
    let q = one_and (to.sys == 252) (to.comp == 190) in
    let r = one_and (to.sys == 253) (to.comp == 190) in
    let t = one_and (to.sys == 254) (to.comp == 190) in
    omega (arith, all, a, b, c, d, p, q, r, t)

-- a PING for one node draws the reply of one station at most, and one for everyone those of the drones
few_pinged : (to : Name) (usec seq : ℕ) (b : Bool) → same_name to everyone ≡ b → answerers the_names (Ping to usec seq) ≤ draws (Ping to usec seq)
few_pinged to usec seq true e =
    subst (λ n. answerers the_names (Ping n usec seq) ≤ draws (Ping n usec seq)) (sym (name_eq to everyone e)) (omega arith)
few_pinged to usec seq false e =
    let none = ap one_if e in
    let one : draws (Ping to usec seq) ≡ 1 = ap (λ b. if b then 4 else 1) e in
    let all = one_hit to.sys in
    let p = one_and (to.sys == 251) (to.comp == 190) in
    let q = one_and (to.sys == 252) (to.comp == 190) in
    let r = one_and (to.sys == 253) (to.comp == 190) in
    let t = one_and (to.sys == 254) (to.comp == 190) in
    omega (arith, none, one, all, p, q, r, t)

pub few_answer : (m : PlanMsg) → answerers the_names m ≤ draws m
few_answer (Ping to usec seq) = few_pinged to usec seq (same_name to everyone) refl
few_answer (Count to count kind) = few_to to
few_answer (Request to seq kind) = few_to to
few_answer (Give to seq kind item) = few_to to
few_answer (Ack to code kind) = few_to to
few_answer (Listing to kind) = few_to to
few_answer (Clear to kind) = few_to to

-- ---- states

-- a state of the generated scenario: only plan messages are sent, and stations ask nothing else
pub record Calm (s : WorldState) : Type 0 where
  pub sound : Sound s
  pub carry : AllCarry s.sent
  pub idle : (k : ℕ) (a : Node) → slice_get s.nodes k ≡ Some a → IsIdle a
  pub names : names_of s.nodes ≡ the_names

-- how many frames it has sent, and may still send for those that wait
abbrev pub size : WorldState → ℕ
size s = s.given + weigh_from s.given s.sent + 4 * all_opens s.nodes

pub record Went (s : WorldState) (c : ℕ) (t : WorldState) : Type 0 where
  pub calm : Calm t
  pub grown : size t ≤ size s + c
  pub sent : (i : ℕ) (p : Packet) → slice_get s.sent i ≡ Some p → slice_get t.sent i ≡ Some p

-- a step leads there, or a node has no timestamp left; no limit is met
abbrev pub Goes : WorldState → ℕ → Result Step StepError → Type 0
Goes s c (Ok t) = Went s c t.state
Goes s c (Err Stamps_spent) = Unit {0}
Goes s c (Err (At_limit limit)) = ⊥

pub stays : (s : WorldState) (c : ℕ) → Calm s → Went s c s
stays s c g = record { calm = g; grown = omega arith; sent = λ i p e. e }

pub went_more : (s : WorldState) (a b : ℕ) (t : WorldState) → a ≤ b → Went s a t → Went s b t
went_more s a b t le w = let h = w.grown in record { calm = w.calm; grown = omega (arith, h, le); sent = w.sent }

went_on : (s : WorldState) (a b : ℕ) (t u : WorldState) → Went s a t → Went t b u → Went s (a + b) u
went_on s a b t u w v = let h = w.grown in let k = v.grown in record { calm = v.calm; grown = omega (arith, h, k); sent = λ i p e. v.sent i p (w.sent i p e) }

goes_behind : (s : WorldState) (a b : ℕ) (t : WorldState) (events : List Event) (r : Result Step StepError) → Went s a t → Goes t b r → Goes s (a + b) (after_events events r)
goes_behind s a b t events (Ok u) w h = went_on s a b t u.state w h
goes_behind s a b t events (Err Stamps_spent) w h = tt
goes_behind s a b t events (Err (At_limit limit)) w h = h

pub goes_then : (s : WorldState) (a b : ℕ) (r : Result Step StepError) (next : WorldState → Result Step StepError) → Goes s a r → ((t : WorldState) → Went s a t → Goes t b (next t)) → Goes s (a + b) (and_then r next)
goes_then s a b (Ok t) next w each = goes_behind s a b t.state t.events (next t.state) w (each t.state w)
goes_then s a b (Err Stamps_spent) next h each = tt
goes_then s a b (Err (At_limit limit)) next h each = h

pub goes_more : (s : WorldState) (a b : ℕ) (r : Result Step StepError) → a ≤ b → Goes s a r → Goes s b r
goes_more s a b (Ok t) le h = went_more s a b t.state le h
goes_more s a b (Err Stamps_spent) le h = tt
goes_more s a b (Err (At_limit limit)) le h = h

-- ---- one node

-- what the laws say of a step
abbrev pub Lands : Result Step StepError → Type 0
Lands r = IfOk r (λ t. Sound t.state × (names_of t.state.nodes ≡ the_names))

pub lands : (s : WorldState) (r : Result Step StepError) → names_of s.nodes ≡ the_names → Keeps s r → Lands r
lands s (Ok t) names h = (h.sound, h.names ∙ names)
lands s (Err error) names h = tt

module _ (s : WorldState) (g : Calm s) (k : ℕ) (name : Name) (a : Node) (found : slice_get s.nodes k ≡ Some a) (c : ℕ) (small : size s + c ≤ 100000) where
  idle_set : (b : Node) → IsIdle b → (i : ℕ) (x : Node) → slice_get (slice_set s.nodes k b) i ≡ Some x → IsIdle x
  idle_set b idle i x e = elim (which s.nodes k a b found i x e) [
    | inl h ↦ subst IsIdle (sym h.1) idle
    | inr h ↦ g.idle i x h.1
  ]

  did : (d : Done Node) → Within a c d → Lands (node_does s k name (Some d)) → Goes s c (node_does s k name (Some d))
  did d w =
      let covers = from_covers s.given s.sent in
      let frames = weigh_all (packets_in d.events) in
      let inside = opens_inside s.nodes k a found in
      let weighs = w.weighs in
      let sum = length-append s.sent (packets_in d.events) in
      by_test (λ r. Lands r → Goes s c r) (nat_le (length s.sent + length (packets_in d.events)) most_frames) _ _
      (λ _ h.
      let more = from_append s.given s.sent (packets_in d.events) g.sound.given in
      let set = opens_set s.nodes k a d.node found in
      record {
        calm = record { sound = h.0; carry = carry_append s.sent (packets_in d.events) g.carry w.carry; idle = idle_set d.node w.idle; names = h.1 };
        grown = omega (arith, more, set, weighs);
        sent = λ i p e. more_there s.sent (packets_in d.events) p i e;
      })
      (λ past h. absurd (let over = not_few (length s.sent + length (packets_in d.events)) past in omega (arith, covers, frames, inside, weighs, over, small)))
    where
      not_few : (n : ℕ) → nat_le n most_frames ≡ false → 100000 < n
      not_few n e = grind arith

  pub does_calm : (o : Outcome Node) → Turn a c o → OutcomeReads o → Lands (node_does s k name o) → Goes s c (node_does s k name o)
  does_calm None turn reads h = tt
  does_calm (Some d) turn reads h = did d (turn reads) h
