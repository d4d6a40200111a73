use Rattle.std.proofs.Common.{◌≡◌, length, refl, arith, false}
use Rattle.mav_router.specs.Journal.{Rules}
use Rattle.mav_router.proofs.PortEnds.{unrouted}
use Rattle.mav_router.proofs.Served.{rules_ports, ended_as}
use Rattle.mav_router.proofs.threads.route_stocked.Goals as goal

pub returns-in_default : goal.returns-in_default
returns-in_default g c = unrouted false _ _ _ c.args.ports.now.items c.args.ports.now.items c.no_memory.result c.no_memory.ensures.why c.no_memory.ensures.journal refl

pub returns-in_default-new : goal.returns-in_default-new
returns-in_default-new g c =
    let none = c.no_memory-in_default-new in
    unrouted false _ _ _ c.args.ports.now.items c.args.ports.now.items none.result none.ensures.why none.ensures.journal refl

pub returns : goal.returns
returns g c =
    let same : c.len-count.result ≡ length c.args.ports.now.items = omega (arith, c.len-count.ensures, c.args.ports.now.ok.0) in
    let rules : Rules = record { key = c.args.key.now; known = c.args.known.now; ports = 0; plain = c.args.plan.plain } in
    ended_as c.route_seated.result _ _ _ _ c.args.ports.now.items c.route_seated.new.ports.items (rules_ports rules c.len-count.result (length c.args.ports.now.items) same) c.route_seated.ensures
