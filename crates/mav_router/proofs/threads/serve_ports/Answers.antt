use denote.Exit.{no}
use denote.Param.Object.{Vt, ghosts_of}
use denote.Param.Send.{arg_send, param_send, sendable}
use Rattle.std.proofs.Crossing.{dyn_box_send}
use Rattle.mav_router.specs.contracts.threads.serve_ports.dyn-1.{slots}
use Rattle.mav_router.proofs.crew.PortJob.TheSendSync.{the_send}
use Rattle.mav_router.proofs.Served.{jobs_ready, jobs_served}
use Rattle.mav_router.proofs.threads.serve_ports.Goals as goal

pub run_all-requires-send-J : goal.run_all-requires-send-J
run_all-requires-send-J g c κs within =
    param_send 1 _ (arg_send _ no _ (the_send _ _ _ (dyn_box_send (Vt (slots g.row.R) g.dyn-1.0) (ghosts_of (slots g.row.R) g.dyn-1.0 g.dyn-1.1) g.dyn-1.2 (search sendable))))

pub run_all-requires-clause-ready : goal.run_all-requires-clause-ready
run_all-requires-clause-ready g c κs within =
    let m = c.muster.ensures in
    jobs_ready c.args.crew.now c.muster.new.jobs.items c.args.stock.now.lanes.items c.args.seats.now.items c.requires.to c.requires.seats m.seats m.lanes c.requires.stocked.turned m.placed m.shared

pub returns-clause-served : goal.returns-clause-served
returns-clause-served g c =
    let m = c.muster.ensures in
    jobs_served _ c.args.crew.now c.args.ports.now.items c.args.stock.now.lanes.items c.args.seats.now.items c.muster.new.jobs.items c.run_all.new.jobs.items c.dismiss.new.sides.items c.dismiss.new.seats.items c.requires.seats m.links m.lanes m.seats c.requires.stocked.fresh m.placed m.shared c.run_all.ensures.length c.run_all.ensures.each c.dismiss.ensures.sides c.dismiss.ensures.seats
