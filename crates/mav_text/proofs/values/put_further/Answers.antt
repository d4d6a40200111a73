use Rattle.std.proofs.Common.{ℕ, List, ◌+◌, ◌-◌, ◌*◌, ◌++◌, ◌∷◌, [], take, sym, ap, ◌∙◌, arith}
use Rattle.field_layout.specs.Types.{element_size}
use Rattle.field_layout.specs.Reading.{word_from, words_from}
use Rattle.mav_text.specs.FrameText.{number_text, further_text}
use Rattle.mav_text.proofs.NumberLengths.{some_size}
use Rattle.mav_text.proofs.WordSteps.{further_next, one_less}
use Rattle.mav_text.proofs.values.put_further.Goals as goal

pub loop-left-preserved : goal.loop-left-preserved
loop-left-preserved c =
    let l = c.loop-left in let payload = c.args.payload.now in let h = l.invariant in let ty = c.args.ty in
    let size : ℕ = c.size-size.result in let some = c.loop-left-test.true in
    let product = one_less size l.left some in let four = ap (λ (n : ℕ). 4 * n) (sym c.size-size.ensures) in
    let now : List ℕ = take l.end l.chunk in
    let rest = further_text ty (words_from payload (l.offset + size) size (l.left - 1)) in
    record {
      within = omega (arith, h.within, product);
      behind = omega (arith, h.behind, c.put_byte-start.ensures.index, c.put_one-end.ensures.index);
      short = omega (arith, h.short, product, four, c.size-size.ensures, c.put_byte-start.ensures.index, c.put_one-end.ensures.index, some_size ty);
      text =
          ap (λ (t : List ℕ). t ++ rest) (c.put_one-end.ensures.text ∙ (ap (λ (t : List ℕ). t ++ number_text ty (word_from payload l.offset (element_size ty))) c.put_byte-start.ensures.text ∙ ap (λ (n : ℕ). (now ++ 44 ∷ []) ++ number_text ty (word_from payload l.offset n)) (sym c.size-size.ensures)))
          ∙ (sym (further_next ty payload l.offset size l.left now some) ∙ h.text);
    }
