use Rattle.std.proofs.Common.{◌≡◌, ◌+◌, ◌++◌, drop, take, vec_len}
use Rattle.mav_text.specs.FrameText.{skip_lines}
use Rattle.mav_text.proofs.skips.append_each.Given as goal

abbrev pub invariant-loop-byte : goal.invariant-loop-byte
invariant-loop-byte l = record {
  line_offset : l.line_offset ≡ l.offset + l.byte-index;
  kept : take (vec_len l.fn.out) l.out.items ≡ l.fn.out.items;
  text : l.out.items ++ skip_lines l.line_offset (drop l.byte-index l.bytes) l.why ≡ l.fn.out.items ++ skip_lines l.offset l.bytes l.why;
}
