use Rattle.std.proofs.Common.{◌≡◌, ◌+◌, ◌*◌, ◌≤◌, ◌++◌, length, take}
use Rattle.field_layout.specs.declared.ty.Ty.TheVariants.{U8}
use Rattle.field_layout.specs.Reading.{words_from}
use Rattle.mav_text.specs.FrameText.{further_text}
use Rattle.mav_text.proofs.values.put_further_bytes.Given as goal

abbrev pub invariant-loop-left : goal.invariant-loop-left
invariant-loop-left l = record {
  within : l.offset + l.left ≤ length l.payload;
  behind : l.at ≤ l.end;
  short : l.end + 5 * l.left ≤ l.at + 5 * l.count;
  text : take l.end l.chunk ++ further_text U8 (words_from l.payload l.offset 1 l.left) ≡ take l.at l.fn.chunk ++ further_text U8 (words_from l.payload l.from 1 l.count);
}

abbrev pub decreases-loop-left : goal.decreases-loop-left
decreases-loop-left l = l.left
