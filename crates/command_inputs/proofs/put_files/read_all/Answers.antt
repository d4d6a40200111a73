use Rattle.std.proofs.Common.{arith}
use Rattle.command_inputs.proofs.PutHalts.{room_within, more_within, some_room, holds_all}
use Rattle.command_inputs.proofs.put_files.read_all.Goals as goal

pub loop-bytes-preserved : goal.loop-bytes-preserved
loop-bytes-preserved g c =
    let inv = c.loop-bytes.invariant in let read = c.in-Ok-true.ensures in
    record {
      held = read.held _ _ _ inv.held;
      fits = more_within c.loop-bytes.bytes.items c.read_behind.new.bytes.items c.loop-bytes.buf c.len-in-loop-bytes.result c.min-room.result (omega (arith, c.len-in-loop-bytes.ensures)) c.min-room.ensures inv.fits read.fits;
      room = some_room c.read_behind.new.part c.loop-bytes.buf c.min-room.result c.read_behind.auto.part inv.room;
    }

pub returns-in-Ok-false-clause-holds : goal.returns-in-Ok-false-clause-holds
returns-in-Ok-false-clause-holds g c =
    let read = c.in-Ok-false.ensures in
    holds_all c.loop-bytes.bytes.items c.read_behind.new.bytes.items (read.held _ _ _ c.loop-bytes.invariant.held) (rw c.in-Ok-false.field-0-test at read.goes_on) (omega (arith, c.loop-bytes-test.true, c.len.ensures))

pub returns-in-Err-clause-within : goal.returns-in-Err-clause-within
returns-in-Err-clause-within g c =
    let inv = c.loop-bytes.invariant in
    c.in-Err.ensures.within _ _ _ inv.held (room_within c.loop-bytes.bytes.items c.loop-bytes.buf c.len-in-loop-bytes.result c.min-room.result (omega (arith, c.len-in-loop-bytes.ensures)) c.min-room.ensures inv.fits)
