-- Steps of a node whose store may not keep what is saved.
use Rattle.std.proofs.Common.{◌≡◌, ℕ, Bool, true, List, [], ◌∷◌, ◌++◌, Some, None, inl, inr, refl, ap, ◌∙◌, subst}
use Rattle.std.specs.Prelude.{All}
use Rattle.std.proofs.lemmas.List.Elements.{All-nil, All-push, All-head, All-tail}
use Rattle.mav_frame.specs.Packet.{Packet}
use Rattle.mav_nodes.specs.declared.faults.NodeFault.{NodeFault}
use Rattle.mav_nodes.specs.declared.faults.NodeFault.TheVariants.{StampsSpent, Store, NoMemory}
use Rattle.mav_nodes.specs.declared.steps.Step.{Step}
use Rattle.mav_nodes.specs.News.{NodeEvent}
use Rattle.mav_nodes.specs.Links.{LinkView, Link, IsLink, Outcome, after_events, and_then}
use Rattle.mav_nodes.specs.Stores.{IsKept, AllKept, HasFailedAt, HasFailed}
use Rattle.mav_nodes.specs.Steps.{Side, Rules, CoreStep, steps, steps_noted, hears, hears_all, hears_keeping, IsNode}
use Rattle.mav_nodes.specs.Cores.{IsStep, says}
use Rattle.mav_nodes.specs.Promises.{Fails, SpentKeeping, FailsKeeping}
use Rattle.mav_nodes.proofs.Cores.{steps_none}

-- a store keeps what is saved, or a call of it has failed
pub kept_so : {F G : Type 0} (kept : Bool) → (F → G) → IsKept kept F → IsKept kept G
kept_so kept f (inl h) = inl h
kept_so kept f (inr h) = inr (f h)

pub none_yet : (failed : Type 0) → AllKept failed []
none_yet failed = inl (All-nil (λ kept. kept ≡ true))

pub all_so : {F G : Type 0} (keeps : List Bool) → (F → G) → AllKept F keeps → AllKept G keeps
all_so keeps f (inl all) = inl all
all_so keeps f (inr h) = inr (f h)

-- one step more
pub one_more : {F G : Type 0} (keeps : List Bool) (kept : Bool) → (F → G) → AllKept F keeps → IsKept kept G → AllKept G (keeps ++ kept ∷ [])
one_more keeps kept f (inl all) (inl h) = inl (All-push (λ k. k ≡ true) keeps kept all h)
one_more keeps kept f (inl all) (inr h) = inr h
one_more keeps kept f (inr h) more = inr (f h)

-- ---- what fails

-- a call that fails by its store, or for want of memory
pub store_fails : {I A B Store : Type 0} (fault : NodeFault) (Is : A → Type 0) (does : I → A → Outcome B) (kept : I → Type 0) (faults : Store → ℕ) (sure : Store → Type 0) (before now : Store) (failed : Type 0) → (HasFailed faults sure before now → failed) → HasFailedAt fault faults sure before now → FailsKeeping fault Is does kept failed
store_fails StampsSpent Is does kept faults sure before now failed f h = absurd h
store_fails Store Is does kept faults sure before now failed f h = f h
store_fails NoMemory Is does kept faults sure before now failed f h = tt

-- a core's step was done, and then the link fails to do what it asks for
pub step_fails : {Core Services : Type 0} (clock : ℕ) (step : Bool → Core → CoreStep Core) (note : Services → List NodeEvent → Services) (kept : Bool) (end : LinkView) (old view : Core) (services : Services) (given : Step) (F G : Type 0) (fault : NodeFault) → IsStep (step kept old) view given → IsKept kept G → (F → G)
    → ((first last : List NodeEvent) → Fails fault (λ (link : Link). IsLink link end) (λ (link : Link). says clock first given.answer last link) F)
    → FailsKeeping fault (λ (node : Side Core Services). IsNode node end old services) (λ (kept : Bool) (node : Side Core Services). steps_noted note clock node.link node.services (step kept node.core)) (λ kept. IsKept kept G) G
step_fails {Core} clock step note kept end old view services given F G StampsSpent is is_kept f h = λ node is_node.
    let did = step kept node.core in
    let here = subst (λ (core : Core). IsStep (step kept core) view given) is_node.core is in
    record { keeps = kept; is_kept = is_kept; none = steps_none clock node.link (note node.services did.first) did view given here (h did.first did.last node.link is_node.link) }
step_fails clock step note kept end old view services given F G Store is is_kept f h = f (h [] [])
step_fails clock step note kept end old view services given F G NoMemory is is_kept f h = tt

pub tick_fails : {Core Services : Type 0} (clock : ℕ) (step : Core → CoreStep Core) (end : LinkView) (old view : Core) (services : Services) (given : Step) (F : Type 0) (fault : NodeFault) → IsStep (step old) view given
    → ((first last : List NodeEvent) → Fails fault (λ (link : Link). IsLink link end) (λ (link : Link). says clock first given.answer last link) F)
    → Fails fault (λ (node : Side Core Services). IsNode node end old services) (λ (node : Side Core Services). steps clock node.link node.services (step node.core)) F
tick_fails {Core} clock step end old view services given F StampsSpent is h = λ node is_node.
    let did = step node.core in
    let here = subst (λ (core : Core). IsStep (step core) view given) is_node.core is in
    steps_none clock node.link node.services did view given here (h did.first did.last node.link is_node.link)
tick_fails clock step end old view services given F Store is h = h [] []
tick_fails clock step end old view services given F NoMemory is h = tt

-- what fails in a frame's step, fails in the frame
pub frame_fails : {Core Services : Type 0} (one other : Bool → Side Core Services → Outcome (Side Core Services)) (Is Now : Side Core Services → Type 0) (F G : Type 0) (fault : NodeFault) → (F → G)
    → ((node : Side Core Services) → Is node → (next : Side Core Services) × Now next × ((kept : Bool) → other kept node ≡ one kept next))
    → FailsKeeping fault Now one (λ kept. IsKept kept F) F → FailsKeeping fault Is other (λ kept. IsKept kept G) G
frame_fails one other Is Now F G StampsSpent f same h = λ node is.
    let next = same node is in
    let spent = h next.0 next.1 in
    record { keeps = spent.keeps; is_kept = kept_so spent.keeps f spent.is_kept; none = next.2 spent.keeps ∙ spent.none }
frame_fails one other Is Now F G Store f same h = f h
frame_fails one other Is Now F G NoMemory f same h = tt

-- what fails in the services' step, fails in the frame
pub served_fails : {Node : Type 0} (one : Node → Outcome Node) (other : Bool → Node → Outcome Node) (Is Now : Node → Type 0) (F G : Type 0) (fault : NodeFault) → (F → G)
    → ((node : Node) → Is node → (next : Node) × Now next × (other true node ≡ one next))
    → Fails fault Now one F → FailsKeeping fault Is other (λ kept. IsKept kept G) G
served_fails one other Is Now F G StampsSpent f same h = λ node is.
    let next = same node is in
    record { keeps = true; is_kept = inl refl; none = next.2 ∙ h next.0 next.1 }
served_fails one other Is Now F G Store f same h = f h
served_fails one other Is Now F G NoMemory f same h = tt

-- what fails in a frame of a datagram, fails in the datagram
pub receive_fails : {I J Node : Type 0} {P : I → Type 0} {Q : J → Type 0} (one : I → Node → Outcome Node) (whole : J → Node → Outcome Node) (Is Now : Node → Type 0) (F G : Type 0) (fault : NodeFault) → (F → G)
    → ((node : Node) → Is node → (next : Node) × Now next × (SpentKeeping P (λ kept. one kept next) → SpentKeeping Q (λ keeps. whole keeps node)))
    → FailsKeeping fault Now one P F → FailsKeeping fault Is whole Q G
receive_fails one whole Is Now F G StampsSpent f same h = λ node is.
    let next = same node is in
    next.2 (h next.0 next.1)
receive_fails one whole Is Now F G Store f same h = f h
receive_fails one whole Is Now F G NoMemory f same h = tt

-- ---- a store that keeps all

and_so : {A B : Type 0} (outcome : Outcome A) (f g : A → Outcome B) → ((a : A) → f a ≡ g a) → and_then outcome f ≡ and_then outcome g
and_so None f g h = refl
and_so (Some d) f g h = ap (after_events d.events) (h d.node)

module _ {Core Services : Type 0} (rules : Bool → Rules Core Services) (clock : ℕ) where
  pub keeps_all : (keeps : List Bool) (packets : List Packet) (node : Side Core Services) → All (λ kept. kept ≡ true) keeps → hears_keeping rules clock keeps packets node ≡ hears_all (rules true) clock packets node
  keeps_all keeps [] node all = refl
  keeps_all [] (packet ∷ packets) node all =
      and_so (hears (rules true) clock packet node) _ _ (λ n. keeps_all [] packets n all)
  keeps_all (kept ∷ keeps) (packet ∷ packets) node all =
      ap (λ (b : Bool). and_then (hears (rules b) clock packet node) (hears_keeping rules clock keeps packets)) (All-head (λ k. k ≡ true) kept keeps all)
      ∙ and_so (hears (rules true) clock packet node) _ _ (λ n. keeps_all keeps packets n (All-tail (λ k. k ≡ true) kept keeps all))
