use Rattle.route_command.proofs.Runs.{run_reports, run_stops}
use Rattle.route_command.proofs.commands.route.Goals as goal

pub returns-in-Ok-clause-routes : goal.returns-in-Ok-clause-routes
returns-in-Ok-clause-routes g c =
    let end = c.in-Ok.end in
    run_reports _ _ _ c.args.plan.turns c.args.ports.now.items c.route_ports.new.ports.items end.journal end.ports.items _ _ _ _ _ c.route_ports.ensures.links c.in-Ok.ensures.routed c.report.ensures.wrote

pub returns-in-Err-clause-routes : goal.returns-in-Err-clause-routes
returns-in-Err-clause-routes g c =
    let fault = c.in-Err.fault in
    rw c.end_of_fault.ensures
    (run_stops _ _ _ c.args.plan.turns c.args.ports.now.items c.route_ports.new.ports.items fault.journal fault.why _ _ c.route_ports.ensures.links c.in-Err.ensures.stopped)
