use Rattle.std.proofs.Common.{◌≡◌, ◌+◌, ◌-◌, ◌≤◌, ◌++◌, drop, length, take, vec_len}
use Rattle.mav_text.specs.FrameText.{skip_lines}
use Rattle.mav_text.proofs.skips.append_runs.Given as goal

abbrev pub invariant-loop-done : goal.invariant-loop-done
invariant-loop-done l = record {
  within : l.done ≤ length l.bytes;
  why : l.block.1 ≡ l.fn.block.1;
  kept : take (vec_len l.fn.out) l.out.items ≡ l.fn.out.items;
  text : l.out.items ++ skip_lines (l.offset + l.done) (drop l.done l.bytes) l.fn.block.1 ≡ l.fn.out.items ++ skip_lines l.offset l.bytes l.fn.block.1;
}

abbrev pub decreases-loop-done : goal.decreases-loop-done
decreases-loop-done l = length l.bytes - l.done
