use Rattle.std.proofs.Common.{◌≡◌, ℕ, ◌==◌, ◌<◌, ◌≤◌, Bool, true, false, ◌&&◌, not, nat_lt, if◌then◌else◌, Option, Some, None, refl, sym, ap, ◌∙◌, arith}
use Rattle.std.specs.Prelude.{is_some}
use Rattle.std.proofs.lemmas.Bool.Decides.{nat_tests}
use Rattle.mav_names.specs.declared.names.Stream.{Stream}
use Rattle.plan_items.specs.Kinds.{number_of, kind_of}
use Rattle.plan_items.specs.declared.kinds.PlanKind.{PlanKind}
use Rattle.plan_items.specs.declared.messages.PlanMsg.{PlanMsg}
use Rattle.plan_items.proofs.KindNumbers.{kind_of-none, number_of-kind_of, number_of-bound}
use Rattle.plan_upload.specs.Changes.{change_by}
use Rattle.plan_upload.specs.declared.changes.Change.TheVariants.{Empty}
use Rattle.plan_upload.specs.Drone.{DroneState, DroneStep, Empties, closed, answers, ack, is_own, is_other, with_result, clear_comes}
use Rattle.plan_upload.specs.DroneView.{drone_view}
use Rattle.plan_upload.specs.Kinds.{clear_number}
use Rattle.plan_upload.specs.Plans.{Plans, without_plan}
use Rattle.plan_upload.proofs.drone.Drone.clear.Goals.{else-is_none-via-then-is_none+else-kind-ne-ALL, else-is_none-via-else-is_none, then-is_of_other-via-then-is_of_other, then-is_of_other-via-else-is_of_other+then-not-keeps}
use Rattle.plan_upload.proofs.drone.Drone.clear.Goals as goal

abbrev is_unknown : ℕ → Bool
is_unknown kind = nat_lt 2 kind && not (kind == 255)

high : (kind : ℕ) → 2 < kind → (kind ≡ 255 → ⊥) → is_unknown kind ≡ true
high kind above other = grind (arith, nat_tests)

low : (kind : ℕ) → kind ≤ 2 → is_unknown kind ≡ false
low kind most = grind (arith, nat_tests)

every : (kind : ℕ) → kind ≡ 255 → is_unknown kind ≡ false
every kind all = grind (arith, nat_tests)

-- the number of a kind that is cleared
data Cleared (kind : ℕ) (a : Option PlanKind) : Type 0 where
  cleared : is_unknown kind ≡ false → clear_number a ≡ kind → Cleared kind a

of_kind : (kind : ℕ) (a : Option PlanKind) (none : Bool) → a ≡ kind_of kind → is_some a ≡ not none → none ≡ false → Cleared kind a
of_kind kind None true is test fails = absurd (cc)
of_kind kind None false is test fails = absurd (cc)
of_kind kind (Some known) none is test fails =
    let number : number_of known ≡ kind = number_of-kind_of kind known (sym is) in
    cleared (low kind (rw (sym number) (number_of-bound known))) number

of_all : (kind : ℕ) (a : Option PlanKind) (none : Bool) → is_some a ≡ not none → none ≡ true → kind ≡ 255 → Cleared kind a
of_all kind None none test holds all = cleared (every kind all) (sym all)
of_all kind (Some known) true test holds all = absurd (cc)
of_all kind (Some known) false test holds all = absurd (cc)

-- a kind without a number
unknown_clear : (keeps : Bool) (d : DroneState) (s : Stream) (kind : ℕ) (a : Option PlanKind) (none : Bool) → a ≡ kind_of kind → is_some a ≡ not none → none ≡ true → (kind ≡ 255 → ⊥) → answers d (ack s 3 kind) ≡ clear_comes keeps d s kind
unknown_clear keeps d s kind (Some known) true is test holds other = absurd (cc)
unknown_clear keeps d s kind (Some known) false is test holds other = absurd (cc)
unknown_clear keeps d s kind None none is test holds other = sym (rw (high kind (kind_of-none kind (sym is)) other) refl)

abbrev empties : DroneState → Stream → ℕ → DroneStep
empties d s kind = record { drone = record (closed d s) { plans = without_plan d.plans kind }; answer = Some (ack s 0 kind); event = Empties s kind }

tests : (keeps : Bool) (d : DroneState) (s : Stream) (kind : ℕ) (other kept : Bool) → is_unknown kind ≡ false → is_other d.upload s ≡ other → keeps ≡ kept → clear_comes keeps d s kind ≡ (if other then answers d (ack s 14 kind) else if kept then empties d s kind else answers d (ack s 14 kind))
tests keeps d s kind other kept known e k = λ i. if known i then answers d (ack s 3 kind) else if e i then answers d (ack s 14 kind) else if k i then empties d s kind else answers d (ack s 14 kind)

kept_alone : (o : Bool) (refused wanted : DroneStep) → (if o then refused else if false then wanted else refused) ≡ refused
kept_alone true refused wanted = refl
kept_alone false refused wanted = refl

seen : (v d : DroneState) (s : Stream) (other want : Bool) → v ≡ d → other ≡ is_other v.upload s → other ≡ want → is_other d.upload s ≡ want
seen v d s other want view is at = ap (λ (t : DroneState). is_other t.upload s) (sym view) ∙ (sym is ∙ at)

-- another stream's upload is open
denied_clear : (keeps : Bool) (v d : DroneState) (s : Stream) (kind : ℕ) (a : Option PlanKind) (other : Bool) → Cleared kind a → v ≡ d → other ≡ is_other v.upload s → other ≡ true → answers d (ack s 14 kind) ≡ clear_comes keeps d s kind
denied_clear keeps v d s kind a other (cleared known number) view is at = sym (tests keeps d s kind true keeps known (seen v d s other true view is at) refl)

-- what is left can't be kept
unkept_clear : (keeps : Bool) (d : DroneState) (s : Stream) (kind : ℕ) (a : Option PlanKind) → Cleared kind a → keeps ≡ false → answers d (ack s 14 kind) ≡ clear_comes keeps d s kind
unkept_clear keeps d s kind a (cleared known number) fails =
    sym (tests keeps d s kind (is_other d.upload s) false known refl fails ∙ kept_alone (is_other d.upload s) (answers d (ack s 14 kind)) (empties d s kind))

kept_clear : (keeps : Bool) (v d : DroneState) (s : Stream) (kind : ℕ) (a : Option PlanKind) (other : Bool) → Cleared kind a → v ≡ d → other ≡ is_other v.upload s → other ≡ false → keeps ≡ true → empties d s kind ≡ clear_comes keeps d s kind
kept_clear keeps v d s kind a other (cleared known number) view is at holds = sym (tests keeps d s kind false true known (seen v d s other false view is at) holds)

plans_of : (b : Bool) (d e : DroneState) → e.plans ≡ d.plans → (if b then e else d).plans ≡ d.plans
plans_of true d e same = same
plans_of false d e same = refl

-- the drone after the plans were emptied
emptied : (e d : DroneState) (s : Stream) (kind : ℕ) (a : Option PlanKind) (plans : Plans) → Cleared kind a → e ≡ closed d s → plans ≡ without_plan e.plans (clear_number a) → record e { plans = plans } ≡ record (closed d s) { plans = without_plan d.plans kind }
emptied e d s kind a plans (cleared known number) after made =
    let alike = plans_of (is_own d.upload s) d (record d { upload = None; results = with_result d.results s false }) refl in
    (λ i. record e { plans = made i })
    ∙ ((λ i. record (after i) { plans = without_plan (after i).plans (number i) })
    ∙ (λ i. record (closed d s) { plans = without_plan (alike i) kind }))

pub returns-then-kind-ne-ALL-clause-drone : goal.returns-then-kind-ne-ALL-clause-drone
returns-then-kind-ne-ALL-clause-drone c =
    ap (λ (t : DroneStep). t.drone) (unknown_clear c.args.keeps c.args.self.now c.args.from c.args.kind c.of-known.result c.is_none.result c.of-known.ensures c.is_none.ensures c.if-is_none.true c.if-kind-ne-ALL.true)

pub returns-then-kind-ne-ALL-clause-answer : goal.returns-then-kind-ne-ALL-clause-answer
returns-then-kind-ne-ALL-clause-answer c =
    c.unchanging.ensures.answer ∙ (ap (λ (m : PlanMsg). Some m) c.acknowledge.ensures
    ∙ ap (λ (t : DroneStep). t.answer) (unknown_clear c.args.keeps c.args.self.now c.args.from c.args.kind c.of-known.result c.is_none.result c.of-known.ensures c.is_none.ensures c.if-is_none.true c.if-kind-ne-ALL.true))

pub returns-then-kind-ne-ALL-clause-change : goal.returns-then-kind-ne-ALL-clause-change
returns-then-kind-ne-ALL-clause-change c =
    c.unchanging.ensures.change
    ∙ ap (λ (t : DroneStep). change_by t.event) (unknown_clear c.args.keeps c.args.self.now c.args.from c.args.kind c.of-known.result c.is_none.result c.of-known.ensures c.is_none.ensures c.if-is_none.true c.if-kind-ne-ALL.true)

pub returns-then-is_of_other-clause-drone : goal.returns-then-is_of_other-clause-drone
returns-then-is_of_other-clause-drone c =
    let known : Cleared c.args.kind c.of-known.result = elim c.else-is_none.branch [
      | else-is_none-via-then-is_none+else-kind-ne-ALL w ↦ of_all c.args.kind c.of-known.result c.is_none.result c.is_none.ensures w.if-is_none.true w.if-kind-ne-ALL.false
      | else-is_none-via-else-is_none w ↦ of_kind c.args.kind c.of-known.result c.is_none.result c.of-known.ensures c.is_none.ensures w.if-is_none.false
    ] in
    let denied : answers c.args.self.now (ack c.args.from 14 c.args.kind) ≡ clear_comes c.args.keeps c.args.self.now c.args.from c.args.kind = elim c.then-is_of_other.branch [
      | then-is_of_other-via-then-is_of_other w ↦ denied_clear c.args.keeps (drone_view c.self.inside) c.args.self.now c.args.from c.args.kind c.of-known.result c.is_of_other.result known c.self.view_is c.is_of_other.ensures w.if-is_of_other.true
      | then-is_of_other-via-else-is_of_other+then-not-keeps w ↦ unkept_clear c.args.keeps c.args.self.now c.args.from c.args.kind c.of-known.result known w.if-not-keeps.true
    ] in
    ap (λ (t : DroneStep). t.drone) denied

pub returns-then-is_of_other-clause-answer : goal.returns-then-is_of_other-clause-answer
returns-then-is_of_other-clause-answer c =
    let known : Cleared c.args.kind c.of-known.result = elim c.else-is_none.branch [
      | else-is_none-via-then-is_none+else-kind-ne-ALL w ↦ of_all c.args.kind c.of-known.result c.is_none.result c.is_none.ensures w.if-is_none.true w.if-kind-ne-ALL.false
      | else-is_none-via-else-is_none w ↦ of_kind c.args.kind c.of-known.result c.is_none.result c.of-known.ensures c.is_none.ensures w.if-is_none.false
    ] in
    let denied : answers c.args.self.now (ack c.args.from 14 c.args.kind) ≡ clear_comes c.args.keeps c.args.self.now c.args.from c.args.kind = elim c.then-is_of_other.branch [
      | then-is_of_other-via-then-is_of_other w ↦ denied_clear c.args.keeps (drone_view c.self.inside) c.args.self.now c.args.from c.args.kind c.of-known.result c.is_of_other.result known c.self.view_is c.is_of_other.ensures w.if-is_of_other.true
      | then-is_of_other-via-else-is_of_other+then-not-keeps w ↦ unkept_clear c.args.keeps c.args.self.now c.args.from c.args.kind c.of-known.result known w.if-not-keeps.true
    ] in
    c.unchanging-then-is_of_other.ensures.answer ∙ (ap (λ (m : PlanMsg). Some m) c.acknowledge-then-is_of_other.ensures ∙ ap (λ (t : DroneStep). t.answer) denied)

pub returns-then-is_of_other-clause-change : goal.returns-then-is_of_other-clause-change
returns-then-is_of_other-clause-change c =
    let known : Cleared c.args.kind c.of-known.result = elim c.else-is_none.branch [
      | else-is_none-via-then-is_none+else-kind-ne-ALL w ↦ of_all c.args.kind c.of-known.result c.is_none.result c.is_none.ensures w.if-is_none.true w.if-kind-ne-ALL.false
      | else-is_none-via-else-is_none w ↦ of_kind c.args.kind c.of-known.result c.is_none.result c.of-known.ensures c.is_none.ensures w.if-is_none.false
    ] in
    let denied : answers c.args.self.now (ack c.args.from 14 c.args.kind) ≡ clear_comes c.args.keeps c.args.self.now c.args.from c.args.kind = elim c.then-is_of_other.branch [
      | then-is_of_other-via-then-is_of_other w ↦ denied_clear c.args.keeps (drone_view c.self.inside) c.args.self.now c.args.from c.args.kind c.of-known.result c.is_of_other.result known c.self.view_is c.is_of_other.ensures w.if-is_of_other.true
      | then-is_of_other-via-else-is_of_other+then-not-keeps w ↦ unkept_clear c.args.keeps c.args.self.now c.args.from c.args.kind c.of-known.result known w.if-not-keeps.true
    ] in
    c.unchanging-then-is_of_other.ensures.change ∙ ap (λ (t : DroneStep). change_by t.event) denied

pub invariant_of-self : goal.invariant_of-self
invariant_of-self c =
    c.self-2.invariant

pub returns-clause-drone : goal.returns-clause-drone
returns-clause-drone c =
    let known : Cleared c.args.kind c.of-known.result = elim c.else-is_none.branch [
      | else-is_none-via-then-is_none+else-kind-ne-ALL w ↦ of_all c.args.kind c.of-known.result c.is_none.result c.is_none.ensures w.if-is_none.true w.if-kind-ne-ALL.false
      | else-is_none-via-else-is_none w ↦ of_kind c.args.kind c.of-known.result c.is_none.result c.of-known.ensures c.is_none.ensures w.if-is_none.false
    ] in
    let kept = kept_clear c.args.keeps (drone_view c.self.inside) c.args.self.now c.args.from c.args.kind c.of-known.result c.is_of_other.result known c.self.view_is c.is_of_other.ensures c.if-is_of_other.false c.if-not-keeps.false in
    emptied (drone_view c.self-2.inside) c.args.self.now c.args.from c.args.kind c.of-known.result c.empty.new.self known (c.self-2.view_is ∙ c.close.ensures) c.empty.ensures
    ∙ ap (λ (t : DroneStep). t.drone) kept

pub returns-clause-answer : goal.returns-clause-answer
returns-clause-answer c =
    let known : Cleared c.args.kind c.of-known.result = elim c.else-is_none.branch [
      | else-is_none-via-then-is_none+else-kind-ne-ALL w ↦ of_all c.args.kind c.of-known.result c.is_none.result c.is_none.ensures w.if-is_none.true w.if-kind-ne-ALL.false
      | else-is_none-via-else-is_none w ↦ of_kind c.args.kind c.of-known.result c.is_none.result c.of-known.ensures c.is_none.ensures w.if-is_none.false
    ] in
    let kept = kept_clear c.args.keeps (drone_view c.self.inside) c.args.self.now c.args.from c.args.kind c.of-known.result c.is_of_other.result known c.self.view_is c.is_of_other.ensures c.if-is_of_other.false c.if-not-keeps.false in
    ap (λ (m : PlanMsg). Some m) c.acknowledge-2.ensures ∙ ap (λ (t : DroneStep). t.answer) kept

pub returns-clause-change : goal.returns-clause-change
returns-clause-change c =
    let known : Cleared c.args.kind c.of-known.result = elim c.else-is_none.branch [
      | else-is_none-via-then-is_none+else-kind-ne-ALL w ↦ of_all c.args.kind c.of-known.result c.is_none.result c.is_none.ensures w.if-is_none.true w.if-kind-ne-ALL.false
      | else-is_none-via-else-is_none w ↦ of_kind c.args.kind c.of-known.result c.is_none.result c.of-known.ensures c.is_none.ensures w.if-is_none.false
    ] in
    let kept = kept_clear c.args.keeps (drone_view c.self.inside) c.args.self.now c.args.from c.args.kind c.of-known.result c.is_of_other.result known c.self.view_is c.is_of_other.ensures c.if-is_of_other.false c.if-not-keeps.false in
    ap Empty c.of-known.ensures ∙ ap (λ (t : DroneStep). change_by t.event) kept
