use Rattle.std.proofs.Common.{◌≤◌, ◌<◌, ◌-◌, length}
use Rattle.command_inputs.specs.PutFiles.{Held}
use Rattle.command_inputs.proofs.put_files.read_all.Given as goal

abbrev pub invariant-loop-bytes : goal.invariant-loop-bytes
invariant-loop-bytes g l = record {
  held : Held (g.S.Source.left l.initial.input) (g.S.Source.faults l.initial.input) (g.S.Source.idles l.initial.input) (g.S.Source.left l.input) (g.S.Source.faults l.input) (g.S.Source.idles l.input) l.bytes.items;
  fits : length l.bytes.items ≤ 1048577;
  room : 0 < length l.buf;
}

abbrev pub decreases-loop-bytes : goal.decreases-loop-bytes
decreases-loop-bytes g l = 1048577 - length l.bytes.items
