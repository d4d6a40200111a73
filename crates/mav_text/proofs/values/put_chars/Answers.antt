use Rattle.std.proofs.Common.{ℕ, List, ◌+◌, ◌-◌, ◌++◌, take, sym, ap, ◌∙◌, arith}
use Rattle.field_layout.specs.Reading.{words_from}
use Rattle.mav_text.specs.FrameText.{char_text, chars_text}
use Rattle.mav_text.proofs.WordSteps.{chars_next, chars_end}
use Rattle.mav_text.proofs.values.put_chars.Goals as goal

pub loop-left-preserved : goal.loop-left-preserved
loop-left-preserved c =
    let l = c.loop-left in let payload = c.args.payload.now in let h = l.invariant in
    let some = c.loop-left-test.true in let byte = c.read_byte-byte.ensures in
    let now : List ℕ = take l.end l.chunk in
    let rest = chars_text (words_from payload (l.offset + 1) 1 (l.left - 1)) in
    record {
      within = omega (arith, h.within);
      behind = omega (arith, h.behind, c.put_char-end.ensures.index);
      short = omega (arith, h.short, c.put_char-end.ensures.index);
      text =
          ap (λ (t : List ℕ). t ++ rest) (c.put_char-end.ensures.text ∙ ap (λ (b : ℕ). now ++ char_text b) byte)
          ∙ (sym (chars_next payload l.offset l.left now some (λ e. c.if-byte-eq0.false (byte ∙ e))) ∙ h.text);
    }

pub returns-then-byte-eq0-clause-text : goal.returns-then-byte-eq0-clause-text
returns-then-byte-eq0-clause-text c =
    let l = c.loop-left in
    sym (chars_end c.args.payload.now l.offset l.left (take l.end l.chunk) c.loop-left-test.true (sym c.read_byte-byte.ensures ∙ c.if-byte-eq0.true))
    ∙ l.invariant.text
