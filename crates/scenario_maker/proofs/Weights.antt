-- What a frame counts for: itself, and for a PING to everyone the three further replies that four drones give it.
use Rattle.std.proofs.Common.{◌≡◌, ℕ, ◌+◌, ◌≤◌, Bool, true, false, if◌then◌else◌, List, [], ◌∷◌, ◌++◌, length, Option, Some, None, is_some, refl, ap, arith}
use Rattle.mav_frame.specs.Packet.{Packet}
use Rattle.plan_items.specs.declared.messages.PlanMsg.{PlanMsg}
use Rattle.plan_items.specs.declared.messages.PlanMsg.TheVariants.{Count, Request, Item as Give, Ack, List as Listing, Clear, Ping}
use Rattle.plan_upload.specs.Addresses.{same_name, everyone}
use Rattle.plan_upload.specs.Station.{Phase, Pinging, Cancelling, Sending, Clearing, Listing_items, Getting, Operation, addressee}
use Rattle.mav_messages.specs.Plans.{plan_of, message_of_plan}
use Rattle.mav_nodes.specs.Payloads.{plan_in}
use Rattle.node_reports.specs.Nodes.{Node, Drone, Station}

-- a PING that every drone answers
abbrev pub is_call : PlanMsg → Bool
is_call (Ping to usec seq) = same_name to everyone
is_call (Count to count kind) = false
is_call (Request to seq kind) = false
is_call (Give to seq kind item) = false
is_call (Ack to code kind) = false
is_call (Listing to kind) = false
is_call (Clear to kind) = false

abbrev pub draws : PlanMsg → ℕ
draws m = if is_call m then 4 else 1

-- of a frame by what it carries, and of a reply, if there is one
abbrev pub weight : Option PlanMsg → ℕ
weight None = 1
weight (Some m) = draws m

abbrev pub cost : Option PlanMsg → ℕ
cost None = 0
cost (Some m) = draws m

-- of frames
abbrev pub weigh : List Packet → ℕ
weigh [] = 0
weigh (p ∷ ps) = weight (plan_in p.id p.payload) + weigh ps

-- each carries a plan message
abbrev pub AllCarry : List Packet → Type 0
AllCarry [] = Unit {0}
AllCarry (p ∷ ps) = (is_some (plan_in p.id p.payload) ≡ true) × AllCarry ps

-- an upload that is sending, or any operation that wasn't told to end, may send one PING more without a tick or an order
abbrev pub undecided : Bool → ℕ
undecided true = 0
undecided false = 1

abbrev pub may_end : Phase → Bool → ℕ
may_end Pinging terminating = undecided terminating
may_end Cancelling terminating = undecided terminating
may_end Sending terminating = 1
may_end Clearing terminating = undecided terminating
may_end Listing_items terminating = undecided terminating
may_end Getting terminating = undecided terminating

abbrev pub opens_in : Option Operation → ℕ
opens_in None = 0
opens_in (Some o) = may_end o.phase o.terminating

abbrev pub opens : Node → ℕ
opens (Drone n) = 0
opens (Station n) = opens_in n.core.operation

-- ---- bounds

pub draws_some : (m : PlanMsg) → 1 ≤ draws m
draws_some m = either (is_call m)
  where
    either : (b : Bool) → 1 ≤ (if b then 4 else 1)
    either true = omega arith
    either false = omega arith

pub draws_few : (m : PlanMsg) → draws m ≤ 4
draws_few m = either (is_call m)
  where
    either : (b : Bool) → (if b then 4 else 1) ≤ 4
    either true = omega arith
    either false = omega arith

pub cost_few : (answer : Option PlanMsg) → cost answer ≤ 4
cost_few None = omega arith
cost_few (Some m) = draws_few m

weight_some : (m : Option PlanMsg) → 1 ≤ weight m
weight_some None = omega arith
weight_some (Some m) = draws_some m

pub weigh_all : (ps : List Packet) → length ps ≤ weigh ps
weigh_all [] = omega arith
weigh_all (p ∷ ps) = let h = weigh_all ps in let w = weight_some (plan_in p.id p.payload) in omega (arith, h, w)

pub weigh_append : (ps qs : List Packet) → weigh (ps ++ qs) ≡ weigh ps + weigh qs
weigh_append [] qs = omega arith
weigh_append (p ∷ ps) qs = let h = weigh_append ps qs in omega (arith, h)

pub carry_append : (ps qs : List Packet) → AllCarry ps → AllCarry qs → AllCarry (ps ++ qs)
carry_append [] qs h k = k
carry_append (p ∷ ps) qs h k = (h.0, carry_append ps qs h.1 k)

undecided_few : (b : Bool) → undecided b ≤ 1
undecided_few true = omega arith
undecided_few false = omega arith

pub may_end_few : (phase : Phase) (b : Bool) → may_end phase b ≤ 1
may_end_few Pinging b = undecided_few b
may_end_few Cancelling b = undecided_few b
may_end_few Sending b = omega arith
may_end_few Clearing b = undecided_few b
may_end_few Listing_items b = undecided_few b
may_end_few Getting b = undecided_few b

pub opens_few : (operation : Option Operation) → opens_in operation ≤ 1
opens_few None = omega arith
opens_few (Some o) = may_end_few o.phase o.terminating

-- one that isn't for everyone counts for one
pub single : (m : PlanMsg) → same_name (addressee m) everyone ≡ false → draws m ≡ 1
single (Ping to usec seq) e = ap (λ b. if b then 4 else 1) e
single (Count to count kind) e = refl
single (Request to seq kind) e = refl
single (Give to seq kind item) e = refl
single (Ack to code kind) e = refl
single (Listing to kind) e = refl
single (Clear to kind) e = refl

-- what is sent for a reply carries one, which counts as much
pub carried_weight : (m : PlanMsg) → weight (plan_of (message_of_plan m)) ≡ draws m
carried_weight (Ping to usec seq) = refl
carried_weight (Count to count kind) = refl
carried_weight (Request to seq kind) = refl
carried_weight (Give to seq kind item) = refl
carried_weight (Ack to code kind) = refl
carried_weight (Listing to kind) = refl
carried_weight (Clear to kind) = refl

pub carried_some : (m : PlanMsg) → is_some (plan_of (message_of_plan m)) ≡ true
carried_some (Ping to usec seq) = refl
carried_some (Count to count kind) = refl
carried_some (Request to seq kind) = refl
carried_some (Give to seq kind item) = refl
carried_some (Ack to code kind) = refl
carried_some (Listing to kind) = refl
carried_some (Clear to kind) = refl
