-- The closing plans of nodes, one after another.
use Rattle.std.specs.Prelude.{OnOk}
use Rattle.std.proofs.Common.{◌≡◌, ℕ, zero, suc, ◌+◌, ◌<◌, ◌≤◌, List, [], ◌∷◌, ◌++◌, length, drop, get_or, slice_get, Option, Some, Result, Ok, Err, refl, sym, ap, ◌∙◌, subst, arith}
use Rattle.mav_names.specs.declared.names.Name.{Name}
use Rattle.scenario_lines.specs.declared.naming.Named.{Named}
use Rattle.plan_upload.specs.Plans.{Plans}
use Rattle.plan_upload.specs.Drone.{DroneState}
use Rattle.fleet_report.specs.Events.{plan_text}
use Rattle.fleet_report.specs.Reports.{ReportState, with_text}
use Rattle.node_reports.specs.Nodes.{Node, Drone, Station}
use Rattle.node_reports.proofs.Reporting.{with_text-none, with_text-both}
use Rattle.fleet_world.specs.declared.nodes.Node.{Node as ViewNode}
use Rattle.fleet_world.specs.WorldView.{IsNode, named_in, Fleet, IsFleet}
use Rattle.fleet_world.specs.Closing.{closing_at}
use Rattle.fleet_world.specs.Steps.{closing_of, closing_text}
use Rattle.fleet_world.proofs.NodeLists.{AtPlace, none, one, at_index, as_many, name_is}
use Rattle.fleet_world.proofs.FleetCalls.{view_there}

abbrev pub plans_text : Name → Plans → List ℕ
plans_text name plans = plan_text name 0 plans.mission ++ plan_text name 1 plans.fence ++ plan_text name 2 plans.rally

pub drone_closed : {T E : Type 0} (r : Result T E) (view : ViewNode) (plans : Plans) (drone : DroneState) (found : Named) (start end : ReportState) → found ≡ named_in view → ((n : _) → IsNode (Drone n) view → drone ≡ n.core) → ((n : _) → IsNode (Station n) view → ⊥) → plans ≡ drone.plans → OnOk r (end ≡ with_text start (plans_text found.name plans)) → OnOk r ((node : Node) → IsNode node view → end ≡ with_text start (closing_of node))
drone_closed (Err e) view plans drone found start end named is other same put = tt
drone_closed (Ok t) view plans drone found start end named is other same put = by_node
  where
    by_node : (node : Node) → IsNode node view → end ≡ with_text start (closing_of node)
    by_node (Drone n) h =
        put ∙ ap (λ (p : Plans). with_text start (plans_text found.name p)) (same ∙ ap (λ (d : DroneState). d.plans) (is n h))
        ∙ ap (λ (m : Name). with_text start (plans_text m n.core.plans)) (name_is view found named (Drone n) h)
    by_node (Station n) h = absurd (other n h)

pub station_closed : (view : ViewNode) (start : ReportState) → ((n : _) → IsNode (Drone n) view → ⊥) → (node : Node) → IsNode node view → start ≡ with_text start (closing_of node)
station_closed view start other (Drone n) h = absurd (other n h)
station_closed view start other (Station n) h = sym (with_text-none start)

-- ---- the node at an index

closed_by : (nodes : List Node) (seen : List ViewNode) (k : ℕ) (view : ViewNode) (start end : ReportState) → AtPlace nodes seen k → slice_get seen k ≡ Some view → ((node : Node) → IsNode node view → end ≡ with_text start (closing_of node)) → end ≡ with_text start (closing_at (slice_get nodes k))
closed_by nodes seen k view start end (none a b) there closed = cc
closed_by nodes seen k view start end (one node v a b is) there closed =
    let same : v ≡ view = cc in
    closed node (subst (IsNode node) same is) ∙ ap (λ (o : Option Node). with_text start (closing_at o)) (sym a)

pub closed_at : {T E : Type 0} (r : Result T E) (inside seen : Fleet) (k : ℕ) (view : ViewNode) (start end : ReportState) → inside ≡ seen → k < length seen.nodes → view ≡ get_or inside.nodes k view → OnOk r ((node : Node) → IsNode node view → end ≡ with_text start (closing_of node)) → OnOk r ((nodes : List Node) → IsFleet nodes seen → end ≡ with_text start (closing_at (slice_get nodes k)))
closed_at (Err e) inside seen k view start end same within read closed = tt
closed_at (Ok t) inside seen k view start end same within read closed = λ nodes f.
    closed_by nodes seen.nodes k view start end (at_index nodes seen.nodes k f) (view_there inside seen k view same within read) closed

-- ---- all of them

closing_split : (nodes : List Node) (k : ℕ) → k < length nodes → closing_at (slice_get nodes k) ++ closing_text (drop (k + 1) nodes) ≡ closing_text (drop k nodes)
closing_split [] k within = absurd (omega arith)
closing_split (n ∷ ns) zero within = refl
closing_split (n ∷ ns) (suc k) within =
    let e : suc k + 1 ≡ suc (k + 1) = omega arith in
    ap (λ (j : ℕ). closing_at (slice_get ns k) ++ closing_text (drop j (n ∷ ns))) e ∙ closing_split ns k (omega arith)

-- what was reported before index `k`, with what the rest reports
abbrev pub Closed : Fleet → ℕ → ReportState → ReportState → Type 0
Closed fleet k start now = (nodes : List Node) → IsFleet nodes fleet → with_text now (closing_text (drop k nodes)) ≡ with_text start (closing_text nodes)

pub close_more : (fleet : Fleet) (k end : ℕ) (start now next : ReportState) → k < end → end ≡ length fleet.nodes → Closed fleet k start now → ((nodes : List Node) → IsFleet nodes fleet → next ≡ with_text now (closing_at (slice_get nodes k))) → Closed fleet (k + 1) start next
close_more fleet k end start now next within size closed here nodes f =
    let less : k < length nodes = omega (arith, size, as_many nodes fleet.nodes f, within) in
    ap (λ (r : ReportState). with_text r (closing_text (drop (k + 1) nodes))) (here nodes f)
    ∙ with_text-both now (closing_at (slice_get nodes k)) (closing_text (drop (k + 1) nodes))
    ∙ ap (with_text now) (closing_split nodes k less) ∙ closed nodes f

none_left : (nodes : List Node) (k : ℕ) → length nodes ≤ k → drop k nodes ≡ []
none_left [] zero past = refl
none_left [] (suc k) past = refl
none_left (n ∷ ns) zero past = absurd (omega arith)
none_left (n ∷ ns) (suc k) past = none_left ns k (omega arith)

pub close_end : (fleet : Fleet) (k end : ℕ) (start now : ReportState) → end ≤ k → end ≡ length fleet.nodes → Closed fleet k start now → (nodes : List Node) → IsFleet nodes fleet → now ≡ with_text start (closing_text nodes)
close_end fleet k end start now past size closed nodes f =
    let beyond : length nodes ≤ k = omega (arith, size, as_many nodes fleet.nodes f, past) in
    sym (with_text-none now) ∙ ap (λ (l : List Node). with_text now (closing_text l)) (sym (none_left nodes k beyond)) ∙ closed nodes f
