use Rattle.std.proofs.Common.{◌≡◌, ◌+◌, ◌*◌, ◌≤◌, ◌++◌, length, take}
use Rattle.field_layout.specs.Reading.{words_from}
use Rattle.mav_text.specs.FrameText.{chars_text}
use Rattle.mav_text.proofs.values.put_chars.Given as goal

abbrev pub invariant-loop-left : goal.invariant-loop-left
invariant-loop-left l = record {
  within : l.offset + l.left ≤ length l.payload;
  behind : l.at ≤ l.end;
  short : l.end + 4 * l.left ≤ l.at + 4 * l.count;
  text : take l.end l.chunk ++ chars_text (words_from l.payload l.offset 1 l.left) ≡ take l.at l.fn.chunk ++ chars_text (words_from l.payload l.from 1 l.count);
}

abbrev pub decreases-loop-left : goal.decreases-loop-left
decreases-loop-left l = l.left
