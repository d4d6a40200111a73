use Rattle.std.proofs.Common.{refl, ap}
use Rattle.plan_items.specs.declared.kinds.PlanKind.{PlanKind}
use Rattle.mav_nodes.specs.declared.orders.Order.TheVariants.{Begin}
use Rattle.live_node.proofs.order_words.order_of.Goals as goal

pub returns-in-Upload : goal.returns-in-Upload
returns-in-Upload c =
    let plan = c.args.contents.plan in
    rw c.in-Upload.is (record { plan = plan; order_is = ap (λ (k : PlanKind). Begin c.args.drone k plan) c.kind_of.ensures; has = refl })

pub returns-in-FilePut : goal.returns-in-FilePut
returns-in-FilePut c = rw c.in-FilePut.is (record { file = c.args.contents.bytes; order_is = refl; has = refl })
