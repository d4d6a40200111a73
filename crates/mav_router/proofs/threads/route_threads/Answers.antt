use Rattle.std.proofs.Common.{◌≡◌, length, refl, arith, false}
use Rattle.mav_router.specs.Journal.{Rules}
use Rattle.mav_router.proofs.PortEnds.{unrouted}
use Rattle.mav_router.proofs.Served.{rules_ports, stocked_as}
use Rattle.mav_router.proofs.threads.route_threads.Goals as goal

pub returns-in_default : goal.returns-in_default
returns-in_default g c = unrouted false _ _ _ c.args.ports.now.items c.args.ports.now.items c.no_memory.result c.no_memory.ensures.why c.no_memory.ensures.journal refl

pub returns-in_default-new_stock : goal.returns-in_default-new_stock
returns-in_default-new_stock g c =
    let none = c.no_memory-in_default-new_stock in
    unrouted false _ _ _ c.args.ports.now.items c.args.ports.now.items none.result none.ensures.why none.ensures.journal refl

pub route_stocked-requires-clause-stocked : goal.route_stocked-requires-clause-stocked
route_stocked-requires-clause-stocked g c κs within =
    let same : c.len-count.result ≡ length c.args.ports.now.items = omega (arith, c.len-count.ensures, c.args.ports.now.ok.0) in
    let rules : Rules = record { key = c.args.key.now; known = c.args.known.now; ports = 0; plain = c.args.plan.plain } in
    stocked_as _ _ _ (rules_ports rules c.len-count.result (length c.args.ports.now.items) same) (c.in-Ok-new_stock.ensures c.args.key.now)
