use Rattle.std.proofs.Common.{◌<◌, length, arith, false}
use Rattle.mav_router.proofs.PortEnds.{unrouted}
use Rattle.mav_router.proofs.Served.{closed, ended, seats_long, seats_outside, sides_long, taken_within}
use Rattle.mav_router.proofs.threads.route_seated.Goals as goal

pub returns-in-Err : goal.returns-in-Err
returns-in-Err g c =
    unrouted false _ c.args.rules.now c.args.turns c.args.ports.now.items c.serve_ports.new.ports.items c.no_memory.result c.no_memory.ensures.why c.no_memory.ensures.journal c.in-Err.ensures.kept

pub close-requires-clause-outside : goal.close-requires-clause-outside
close-requires-clause-outside g c = seats_outside _ c.args.turn c.args.rules.now c.args.turns c.args.ports.now.items c.serve_ports.new.stock.sides.items c.serve_ports.new.seats.items c.in_default.ensures.served

pub finish-requires-clause-within : goal.finish-requires-clause-within
finish-requires-clause-within g c κs =
    let some : 0 < length c.args.ports.now.items = omega (arith, c.requires.from, c.requires.ports) in
    taken_within _ c.close.result.rules c.args.turns c.close.result.journal c.args.ports.now.items c.serve_ports.new.stock.sides.items
    (closed _ c.args.turn c.args.rules.now c.args.turns c.args.ports.now.items c.serve_ports.new.stock.sides.items c.serve_ports.new.seats.items c.close.result c.args.turn.opening some c.in_default.ensures.served c.close.ensures.begins c.requires.opening c.close.ensures.whole)

pub returns : goal.returns
returns g c =
    let some : 0 < length c.args.ports.now.items = omega (arith, c.requires.from, c.requires.ports) in
    ended c.finish.result _ c.args.turn c.args.rules.now c.args.turns c.args.ports.now.items c.finish.new.ports.items c.serve_ports.new.stock.sides.items c.serve_ports.new.seats.items c.close.result c.args.turn.opening some c.in_default.ensures.served c.close.ensures.begins c.requires.opening c.close.ensures.whole c.finish.ensures

pub serve_ports-requires-clause-ports : goal.serve_ports-requires-clause-ports
serve_ports-requires-clause-ports g c κs lives = c.requires.ports

pub close-requires-clause-all : goal.close-requires-clause-all
close-requires-clause-all g c =
    let long = seats_long _ c.args.turn c.args.rules.now c.args.turns c.args.ports.now.items c.serve_ports.new.stock.sides.items c.serve_ports.new.seats.items c.in_default.ensures.served in
    omega (arith, long, c.serve_ports.new.seats.ok.0, c.requires.handles, c.requires.ports)

pub finish-requires-clause-few : goal.finish-requires-clause-few
finish-requires-clause-few g c κs =
    let long = sides_long _ c.args.turn c.args.rules.now c.args.turns c.args.ports.now.items c.serve_ports.new.stock.sides.items c.serve_ports.new.seats.items c.in_default.ensures.served in
    omega (arith, long, c.serve_ports.new.stock.sides.ok.0, c.requires.to, c.requires.ports)

pub finish-requires-clause-new : goal.finish-requires-clause-new
finish-requires-clause-new g c κs = (c.requires.new, c.in_default.ensures.moved)

pub finish-requires-clause-end_room : goal.finish-requires-clause-end_room
finish-requires-clause-end_room g c κs =
    let long = sides_long _ c.args.turn c.args.rules.now c.args.turns c.args.ports.now.items c.serve_ports.new.stock.sides.items c.serve_ports.new.seats.items c.in_default.ensures.served in
    omega (arith, long, c.serve_ports.new.stock.sides.ok.0, c.requires.room, c.requires.ports)
