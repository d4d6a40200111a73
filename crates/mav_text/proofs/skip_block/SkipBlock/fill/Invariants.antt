use Rattle.std.proofs.Common.{◌≡◌, ◌+◌, ◌-◌, ◌*◌, ◌%◌, ◌++◌, length, take}
use Rattle.std.specs.Fmt.{decimal}
use Rattle.mav_text.specs.FrameText.{skip_lines}
use Rattle.mav_text.specs.SkipBlocks.{blank_lines}
use Rattle.mav_text.proofs.skip_block.SkipBlock.fill.Given as goal

abbrev pub invariant-loop-byte : goal.invariant-loop-byte
invariant-loop-byte l = record {
  at : l.at ≡ length (skip_lines (10000 * l.self.0 + l.last_four) (take l.byte-index l.bytes) l.self.1) + length (decimal l.self.0);
  lines : l.lines ≡ skip_lines (10000 * l.self.0 + l.last_four) (take l.byte-index l.bytes) l.self.1 ++ blank_lines (length l.bytes - l.byte-index) l.self.0 (l.last_four % 100 + l.byte-index) l.self.1;
}
