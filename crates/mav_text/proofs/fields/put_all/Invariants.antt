use Rattle.std.proofs.Common.{◌≡◌, ◌≤◌, ◌++◌, drop, take, vec_len}
use Rattle.field_layout.specs.Definition.{all_fields}
use Rattle.mav_text.specs.FrameText.{fields_text, words_in}
use Rattle.mav_text.proofs.fields.put_all.Given as goal

abbrev pub invariant-loop-number : goal.invariant-loop-number
invariant-loop-number l = record {
  room : l.end ≤ 512;
  kept : take (vec_len l.fn.out) l.out.items ≡ l.fn.out.items;
  text : (l.out.items ++ take l.end l.chunk) ++ fields_text (words_in l.layout l.payload) l.number (drop l.number (all_fields l.layout)) ≡ (l.fn.out.items ++ take l.at l.fn.chunk) ++ fields_text (words_in l.layout l.payload) 0 (all_fields l.layout);
}
