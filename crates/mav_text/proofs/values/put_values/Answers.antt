use Rattle.std.proofs.Common.{ℕ, List, ◌+◌, ◌-◌, ◌++◌, take, sym, ap, ◌∙◌}
use Rattle.field_layout.specs.Types.{element_size}
use Rattle.field_layout.specs.Reading.{word_from, words_from}
use Rattle.mav_text.specs.FrameText.{number_text, further_text}
use Rattle.mav_text.proofs.WordSteps.{values_first}
use Rattle.mav_text.proofs.values.put_values.Goals as goal

pub returns-clause-text : goal.returns-clause-text
returns-clause-text c =
    let payload = c.args.payload.now in let ty = c.args.ty in let from : ℕ = c.args.from in
    let size = element_size ty in let count : ℕ = c.args.count in
    let now : List ℕ = take c.args.at c.args.chunk.now in
    let further = λ (n : ℕ). further_text ty (words_from payload (from + n) size (count - 1)) in
    c.put_further.ensures.text
    ∙ (ap (λ (t : List ℕ). t ++ further c.size.result) c.put_one-first.ensures.text
    ∙ (ap (λ (n : ℕ). (now ++ number_text ty (word_from payload from size)) ++ further n) c.size.ensures
    ∙ sym (values_first ty payload from size count now c.requires.some)))
