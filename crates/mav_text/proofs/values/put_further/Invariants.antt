use Rattle.std.proofs.Common.{◌≡◌, ◌+◌, ◌*◌, ◌≤◌, ◌++◌, length, take}
use Rattle.field_layout.specs.Reading.{words_from}
use Rattle.mav_text.specs.FrameText.{further_text}
use Rattle.mav_text.proofs.values.put_further.Given as goal

abbrev pub invariant-loop-left : goal.invariant-loop-left
invariant-loop-left l = record {
  within : l.offset + l.size * l.left ≤ length l.payload;
  behind : l.at ≤ l.end;
  short : l.end + 5 * (l.size * l.left) ≤ l.at + 5 * (l.size * l.count);
  text : take l.end l.chunk ++ further_text l.ty (words_from l.payload l.offset l.size l.left) ≡ take l.at l.fn.chunk ++ further_text l.ty (words_from l.payload l.from l.size l.count);
}

abbrev pub decreases-loop-left : goal.decreases-loop-left
decreases-loop-left l = l.left
