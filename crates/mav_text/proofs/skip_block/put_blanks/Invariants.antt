use Rattle.std.proofs.Common.{◌≡◌, ◌*◌, ◌≤◌, length, take}
use Rattle.mav_text.specs.SkipBlocks.{blank_lines}
use Rattle.mav_text.proofs.skip_block.put_blanks.Given as goal

abbrev pub invariant-loop-pair : goal.invariant-loop-pair
invariant-loop-pair l = record {
  room : l.at ≤ 34 * l.pair;
  at : l.at ≡ length (blank_lines l.pair l.ten_thousands 0 l.fn.why);
  lines : take l.at l.bytes ≡ blank_lines l.pair l.ten_thousands 0 l.fn.why;
}
