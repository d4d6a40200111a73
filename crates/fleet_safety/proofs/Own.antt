-- What the abstract mission store goes through in one action: of one call it is one event, or some that report no line of their own.
use Rattle.std.proofs.Common.{◌≡◌, ◌⊎◌, inl, inr, ◌==◌, List, [], ◌∷◌, ◌++◌, Option, Some, None, refl, sym, ap, subst, ◌∙◌}
use Rattle.std.proofs.lemmas.List.{append_assoc, append-nil}
use Rattle.mav_names.specs.declared.names.Stream.{Stream}
use Rattle.plan_upload.specs.Drone.{PlanEvent, Quiet, Installs, Empties, Shows}
use Rattle.plan_upload.specs.Plans.{every_kind}
use Rattle.plan_upload.specs.Station.{Operation, Told}
use Rattle.plan_safety.specs.Frames.{Frame}
use Rattle.plan_safety.specs.Store.{StoreEvent, Upload_begun, Installed, Clear_begun, Cleared, Get_begun, Shown, Cancelled, Ended, Restarted}
use Rattle.plan_safety.specs.History.{Step, step, steps_of, history}
use Rattle.plan_safety.specs.World as world
use Rattle.plan_safety.specs.World.{Nodes, World, drone_news, outcome_news, cancel_news}
use Rattle.plan_safety.proofs.Keys.{by_test}
use Rattle.fleet_safety.specs.Actions.{Order, cancelled}
use Rattle.fleet_safety.specs.Safe.{order_of, orders_in}

-- neither an installation nor the end of an operation
abbrev pub IsPlain : StoreEvent → Type 0
IsPlain (Upload_begun station drone kind plan since drone_since) = Unit {0}
IsPlain (Installed drone kind plan station) = ⊥
IsPlain (Clear_begun station drone kind drone_since) = Unit {0}
IsPlain (Cleared drone kind station) = Unit {0}
IsPlain (Get_begun station drone kind drone_since) = Unit {0}
IsPlain (Shown drone kind plan station) = Unit {0}
IsPlain (Cancelled station) = Unit {0}
IsPlain (Ended station told) = ⊥
IsPlain (Restarted drone) = Unit {0}

-- of each event, and of each step
abbrev pub Each : (StoreEvent → Type 0) → List StoreEvent → Type 0
Each P [] = Unit {0}
Each P (e ∷ es) = P e × Each P es

abbrev pub EachStep : (StoreEvent → Type 0) → List Step → Type 0
EachStep P [] = Unit {0}
EachStep P (x ∷ h) = P x.event × EachStep P h

pub each_on : (P : StoreEvent → Type 0) (g h : List Step) → EachStep P g → EachStep P h → EachStep P (g ++ h)
each_on P [] h a b = b
each_on P (x ∷ g) h a b = (a.0, each_on P g h a.1 b)

each_steps : (P : StoreEvent → Type 0) (sent : List Frame) (es : List StoreEvent) (h : List Step) → Each P es → EachStep P h → EachStep P (steps_of sent es h)
each_steps P sent [] h a b = b
each_steps P sent (e ∷ es) h a b = each_steps P sent es (step sent e ∷ h) a.1 (a.0, b)

-- one event, or plain ones
abbrev pub Few : List StoreEvent → Type 0
Few es = ((e : StoreEvent) × (es ≡ e ∷ [])) ⊎ Each IsPlain es

abbrev pub FewSteps : List Step → Type 0
FewSteps h = ((x : Step) × (h ≡ x ∷ [])) ⊎ EachStep IsPlain h

pub record IsTame (es : List StoreEvent) : Type 0 where
  pub few : Few es

few_steps : (sent : List Frame) (es : List StoreEvent) → Few es → FewSteps (steps_of sent es [])
few_steps sent es (inl one) = inl (step sent one.0, ap (λ (x : List StoreEvent). steps_of sent x []) one.1)
few_steps sent es (inr plain) = inr (each_steps IsPlain sent es [] plain tt)

-- ---- what the events of a call are

pub tame_nothing : IsTame []
tame_nothing = record { few = inr tt }

pub tame_drone : (d : Stream) (e : PlanEvent) → IsTame (drone_news d e)
tame_drone d Quiet = tame_nothing
tame_drone d (Installs by kind items) = record { few = inl (Installed d kind items by, refl) }
tame_drone d (Empties by kind) =
    by_test (λ (es : List StoreEvent). IsTame es) (kind == every_kind) _ _
    (λ _. record { few = inr (tt, (tt, (tt, tt))) })
    (λ _. record { few = inr (tt, tt) })
tame_drone d (Shows to kind items) = record { few = inr (tt, tt) }

pub tame_reported : (s : Stream) (told : Option Told) → IsTame (outcome_news s told)
tame_reported s None = tame_nothing
tame_reported s (Some told) = record { few = inl (Ended s told, refl) }

-- an operation begins, and reports nothing
pub tame_begun : (e : StoreEvent) (s : Stream) (told : Option Told) → told ≡ None → IsTame (e ∷ outcome_news s told)
tame_begun e s told none =
    let is : e ∷ outcome_news s told ≡ e ∷ [] = ap (λ o. e ∷ outcome_news s o) none in
    subst IsTame (sym is) (record { few = inl (e, refl) })

pub tame_cancel : (s : Stream) (o : Option Operation) (told : Option Told) → told ≡ None → IsTame (cancel_news s o ++ outcome_news s told)
tame_cancel s None told none = tame_reported s told
tame_cancel s (Some o) told none = tame_begun (Cancelled s) s told none

-- ---- their orders

abbrev pub orders_among : List StoreEvent → List Order
orders_among [] = []
orders_among (e ∷ es) = order_of e ++ orders_among es

pub no_order_of_drone : (d : Stream) (e : PlanEvent) → orders_among (drone_news d e) ≡ []
no_order_of_drone d Quiet = refl
no_order_of_drone d (Installs by kind items) = refl
no_order_of_drone d (Empties by kind) = by_test (λ (es : List StoreEvent). orders_among es ≡ []) (kind == every_kind) _ _ (λ _. refl) (λ _. refl)
no_order_of_drone d (Shows to kind items) = refl

pub no_order_reported : (s : Stream) (told : Option Told) → orders_among (outcome_news s told) ≡ []
no_order_reported s None = refl
no_order_reported s (Some told) = refl

pub one_order : (e : StoreEvent) (s : Stream) (told : Option Told) → orders_among (e ∷ outcome_news s told) ≡ order_of e
one_order e s told = ap (λ os. order_of e ++ os) (no_order_reported s told) ∙ append-nil (order_of e)

pub order_of_cancel : (s : Stream) (o : Option Operation) (told : Option Told) → orders_among (cancel_news s o ++ outcome_news s told) ≡ cancelled s o
order_of_cancel s None told = no_order_reported s told
order_of_cancel s (Some o) told = one_order (Cancelled s) s told

pub orders_steps : (sent : List Frame) (es : List StoreEvent) (h : List Step) → orders_in (steps_of sent es h) ≡ orders_in h ++ orders_among es
orders_steps sent [] h = sym (append-nil (orders_in h))
orders_steps sent (e ∷ es) h = orders_steps sent es (step sent e ∷ h) ∙ append_assoc (orders_in h) (order_of e) (orders_among es)

-- ---- of the events of an action

pub record Own (n : Nodes) (w : World) (events : List world.Event) (orders : List Order) : Type 0 where
  pub orders_are : orders_in (history n w [] events) ≡ orders
  pub few : FewSteps (history n w [] events)

pub own_of : (n : Nodes) (w : World) (events : List world.Event) (sent : List Frame) (news : List StoreEvent) (orders : List Order) → history n w [] events ≡ steps_of sent news [] → IsTame news → orders_among news ≡ orders → Own n w events orders
own_of n w events sent news orders is tame among = record {
  orders_are = ap orders_in is ∙ orders_steps sent news [] ∙ among;
  few = subst FewSteps (sym is) (few_steps sent news tame.few);
}

pub own_nothing : (n : Nodes) (w : World) → Own n w [] []
own_nothing n w = record { orders_are = refl; few = inr tt }
