-- One answer of the drone: what has to be shown of each of its steps.
use Rattle.std.proofs.Common.{◌≡◌, ◌≢◌, ℕ, ◌+◌, ◌<◌, inr, if◌then◌else◌, ◌==◌, List, ◌∷◌, length, Option, Some, None, sym, ap, subst, arith}
use Rattle.std.specs.Prelude.{slice_get}
use Rattle.mav_names.specs.declared.names.Stream.{Stream}
use Rattle.plan_items.specs.declared.items.Item.{Item}
use Rattle.plan_items.specs.declared.messages.PlanMsg.{PlanMsg}
use Rattle.plan_items.specs.declared.messages.PlanMsg.TheVariants.{Count, Item as Give}
use Rattle.plan_upload.specs.Addresses.{node_of}
use Rattle.plan_upload.specs.Plans.{every_kind}
use Rattle.plan_upload.specs.Drone.{DroneState, DroneStep, PlanEvent, Quiet, Installs, Empties, Shows as Showing}
use Rattle.plan_upload.specs.Station.{addressee}
use Rattle.plan_safety.specs.Frames.{Frame, Said}
use Rattle.plan_safety.specs.World.{frame_of}
use Rattle.plan_safety.specs.Store.{Transaction, Fresh, In_place, ItemAsked, staged, saw}
use Rattle.plan_safety.proofs.Pair.{Pair, Facts, SentByDrone}
use Rattle.plan_safety.proofs.Part.{Seen, Shows, Copies, IsClear, Settles, Accepts, Answers, Answered, kind_of, shown_of, emptied_of, Part, Moments, pair_of, Truths, subject, Gathers, Inv, Keeps, keeps_truth, truths_keep, gathers_more, operates_more}

-- what an installation needs of the pair
pub record CanInstall (d s : Stream) (sent : List Frame) (kind : ℕ) (plan : List Item) (t : Transaction) : Type 0 where
  pub fresh : t.stage ≡ Fresh
  pub drone : t.drone ≡ d
  pub kind_is : t.kind ≡ kind
  pub plan_is : t.plan ≡ plan
  pub count : Said sent s t.since (Count (node_of d) (length t.plan) t.kind)
  pub items : (i : ℕ) (x : Item) → slice_get t.plan i ≡ Some x → Said sent s t.since (Give (node_of d) i t.kind x)

-- what the step's event needs of the pair
abbrev pub OwnNeeds : Stream → Stream → List Frame → Transaction → Option Seen → PlanEvent → Type 0
OwnNeeds d s sent t c Quiet = Unit {0}
OwnNeeds d s sent t c (Installs by kind plan) = (by ≡ s) × CanInstall d s sent kind plan t
OwnNeeds d s sent t c (Empties by kind) = (by ≡ s) × IsClear kind c
OwnNeeds d s sent t c (Showing to kind plan) = to ≡ s

abbrev pub own_transaction : Transaction → PlanEvent → Transaction
own_transaction t Quiet = t
own_transaction t (Installs by kind plan) = staged t In_place
own_transaction t (Empties by kind) = t
own_transaction t (Showing to kind plan) = t

-- a download sees the plan that is shown
abbrev pub shown_in : Option Seen → ℕ → List Item → Option Seen
shown_in None kind plan = None
shown_in (Some c) kind plan = if c.kind == kind then Some (record c { job = saw c.job plan }) else Some c

-- a clear has emptied its kinds
abbrev pub emptied_kinds : ℕ → List ℕ → List ℕ
emptied_kinds kind emptied = if kind == every_kind then 2 ∷ 1 ∷ 0 ∷ emptied else kind ∷ emptied

abbrev pub emptied_in : Option Seen → ℕ → Option Seen
emptied_in None kind = None
emptied_in (Some c) kind = Some (record c { emptied = emptied_kinds kind c.emptied })

abbrev pub own_opening : Option Seen → PlanEvent → Option Seen
own_opening c Quiet = c
own_opening c (Installs by kind plan) = c
own_opening c (Empties by kind) = emptied_in c kind
own_opening c (Showing to kind plan) = shown_in c kind plan

-- the drone says a, or nothing
abbrev pub part_says : Stream → Part → Option PlanMsg → Part
part_says d p None = p
part_says d p (Some a) = record p { drone_next = p.drone_next + 1; sent = frame_of d p.drone_next (Some a) ∷ p.sent }

-- the part after a step of the drone at the station's message
abbrev pub own_part : Stream → Part → DroneStep → Part
own_part d p r = part_says d (record p { drone = r.drone; transaction = own_transaction p.transaction r.event; opening = own_opening p.opening r.event }) r.answer

pub record Own (d s : Stream) (p : Part) (r : DroneStep) : Type 0 where
  pub needs : OwnNeeds d s p.sent p.transaction p.opening r.event
  pub moments : Moments
  pub inv : Inv d s (own_part d p r) moments

-- the drone says a, and is e then
abbrev pub said_part : Stream → Part → DroneState → PlanMsg → Part
said_part d p e a = part_says d (record p { drone = e }) (Some a)

-- q is the pair after it, however it is spelled
pub drone_said : (d s : Stream) → d ≢ s → (p : Part) (g h : Moments) (e : DroneState) (a : PlanMsg) (q : Pair) → Inv d s p g → pair_of s (said_part d p e a) h ≡ q → Facts q → Keeps (pair_of s p g) q → (addressee a ≡ node_of s → SentByDrone q p.drone_next (Some a)) → p.drone_next < q.drone_next → Gathers d s p.sent p.transaction e.upload → h.first_count ≡ g.first_count → (addressee a ≡ node_of s → Shows q (kind_of p.opening) (shown_of p.opening) p.drone_next (Some a)) → ((k : ℕ) (x : List Item) → Copies s k x p.drone.download → Copies s k x e.download) → (0 < h.first_open → ItemAsked (said_part d p e a).sent d s p.transaction) → ((pair_of s p g).phase ≡ 3 → Answered d s p.transaction h.counted h.first_open p.sent) → ((pair_of s p g).phase ≡ 3 → addressee a ≡ node_of s → Answers d s p.transaction h.counted h.first_open p.drone_next p.sent (Some a)) → (addressee a ≡ node_of s → Settles d s q (subject p.transaction p.opening) p.drone_next p.sent (Some a) × Accepts q (emptied_of p.opening) p.drone_next (Some a)) → Inv d s (said_part d p e a) h
drone_said d s ne p g h e a q i is f k n l u c sh cp ask old new set = record {
  facts = subst Facts (sym is) f;
  truths = subst (λ x. Truths d s x (subject p.transaction p.opening) (said_part d p e a).sent) (sym is) (
    record { drone = λ _ y. n y; shows = λ _ y. sh y; last = λ _ y. (set y).0; accepts = λ _ y. (set y).1; station = λ x _. absurd (ne x); named = λ x _. absurd (ne x); by_drone = λ _. l; by_station = λ x. absurd (ne x) },
    truths_keep d s (pair_of s p g) q (subject p.transaction p.opening) (subject p.transaction p.opening) (keeps_truth d s (pair_of s p g) q (subject p.transaction p.opening) k) p.sent i.truths,
  );
  upload = gathers_more d s p.sent _ p.transaction e.upload u;
  operation = operates_more d s p.sent _ p.transaction p.opening p.cancelled p.pings p.operation i.operation;
  for_drone = i.for_drone;
  since = i.since;
  since_count = λ x. rw c (i.since_count (rw (← c) x));
  count = λ x. inr (i.count (rw (← c) x));
  download = λ a b. let e = k.shows (subst (λ x. 4 < x.phase) is a) (subst (λ x. 0 < x.now_shown) is b) in let w : 0 < g.now_shown = (let z = e.1 in let y : h.now_shown ≡ q.now_shown = ap (λ x. x.now_shown) is in omega arith) in let o = i.download e.0 w in (o.0, cp _ _ o.1);
  asked = ask;
  answers = λ ph. (λ _ y. new ph y, old ph);
}
