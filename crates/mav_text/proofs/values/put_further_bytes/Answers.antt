use Rattle.std.proofs.Common.{ℕ, List, ◌+◌, ◌-◌, ◌++◌, ◌∷◌, [], take, sym, ap, ◌∙◌, arith}
use Rattle.std.specs.Fmt.{decimal}
use Rattle.field_layout.specs.declared.ty.Ty.TheVariants.{U8}
use Rattle.field_layout.specs.Reading.{words_from}
use Rattle.mav_text.specs.FrameText.{further_text}
use Rattle.mav_text.proofs.WordSteps.{further_next}
use Rattle.mav_text.proofs.values.put_further_bytes.Goals as goal

pub loop-left-preserved : goal.loop-left-preserved
loop-left-preserved c =
    let l = c.loop-left in let payload = c.args.payload.now in let h = l.invariant in
    let some = c.loop-left-test.true in
    let now : List ℕ = take l.end l.chunk in
    let rest = further_text U8 (words_from payload (l.offset + 1) 1 (l.left - 1)) in
    record {
      within = omega (arith, h.within);
      behind = omega (arith, h.behind, c.put_byte-start.ensures.index, c.put_small-end.ensures.index);
      short = omega (arith, h.short, c.put_byte-start.ensures.index, c.put_small-end.ensures.index);
      text =
          ap (λ (t : List ℕ). t ++ rest) (c.put_small-end.ensures.text ∙ (ap (λ (t : List ℕ). t ++ decimal c.read_byte.result) c.put_byte-start.ensures.text ∙ ap (λ (w : ℕ). (now ++ 44 ∷ []) ++ decimal w) c.read_byte.ensures))
          ∙ (sym (further_next U8 payload l.offset 1 l.left now some) ∙ h.text);
    }
