use Rattle.std.proofs.Common.{◌≡◌, List, ℕ, [], Some, w32, ap, subst, ◌∙◌}
use Rattle.std.proofs.lemmas.Int.{to_z-of_z}
use Rattle.std.specs.Int.{cast_signed, cast_unsigned}
use Rattle.plan_store.specs.MemStores.{MemStore}
use Rattle.drone_sim.specs.declared.points.Point.{Point}
use Rattle.mav_nodes.specs.Starts.{StartedFrom}
use Rattle.fleet_world.proofs.Restarting.{starts_new}
use Rattle.fleet_world.proofs.stored_drone.StoredDrone.start.Goals as goal

pub returns-clause-started : goal.returns-clause-started
returns-clause-started c =
    let empty : c.new-store.result.contents ≡ [] = ap (λ (s : MemStore). s.contents) c.new-store.ensures.start ∙ c.new.ensures.items in
    let x = to_z-of_z w32 c.args.x c.ranges.x in
    let y = to_z-of_z w32 c.args.y c.ranges.y in
    starts_new c.args.key c.args.sys (record { x = c.args.x; y = c.args.y }) c.in_ok-node.node c.start.new.keeper (c.start.ensures.stays ∙ ap (λ (l : List ℕ). Some l) empty) (c.start.ensures.serves.infallible (c.new-store.ensures.infallible c.new-2.ensures.items))
    (subst (λ (home : Point). StartedFrom c.args.key c.args.sys home [] c.in_ok-node.node) (λ i. record { x = x i; y = y i })
    (subst (λ (l : List ℕ). StartedFrom c.args.key c.args.sys (record { x = cast_signed w32 (cast_unsigned w32 c.args.x); y = cast_signed w32 (cast_unsigned w32 c.args.y) }) l c.in_ok-node.node) empty c.in_ok-node.ensures.from))
