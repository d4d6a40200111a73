use Rattle.std.proofs.Common.{List, sym, subst}
use Rattle.mav_router.specs.declared.entries.Entry.{Entry}
use Rattle.mav_router.specs.declared.entries.SwitchFault.TheVariants.{NoMemory}
use Rattle.mav_router.specs.declared.lane.Lane.{Lane}
use Rattle.mav_router.specs.Journal.{Rules}
use Rattle.mav_router.specs.Runs.{AllFresh}
use Rattle.mav_router.specs.Faults.{RouteStopped}
use Rattle.mav_router.proofs.PortEnds.{nothing_routed}
use Rattle.mav_router.proofs.routing.route_in.Goals as goal

pub returns-in_default-clause-ended : goal.returns-in_default-clause-ended
returns-in_default-clause-ended g c = λ key ports.
    let rules : Rules = record { key = key; known = c.args.known.now; ports = ports; plain = c.args.plan.plain } in
    record {
      count = tt;
      each = tt;
      stopped = subst (λ (j : List Entry). RouteStopped g.L.Link.state rules c.args.plan.turns NoMemory j c.args.links.now c.args.links.now) (sym c.requires.journal) (nothing_routed g.L.Link.state rules c.args.plan.turns c.args.links.now);
    }

pub returns-clause-ended : goal.returns-clause-ended
returns-clause-ended g c = λ key ports.
    let rules : Rules = record { key = key; known = c.args.known.now; ports = ports; plain = c.args.plan.plain } in
    c.route_lanes.ensures.ended rules (subst (λ (lanes : List Lane). AllFresh rules lanes) (sym c.as_mut_slice.ensures.value) (c.in-Ok.ensures.fresh key ports))
