use Rattle.std.proofs.Common.{◌≡◌, ℕ, ◌+◌, ◌≤◌, List, [], ◌∷◌, ◌++◌, take, drop, length, slice_index, ap, ◌∙◌, sym, arith, append_assoc, length-take}
use Rattle.mav_text.specs.FrameText.{byte_hex}
use Rattle.mav_text.proofs.ChunkSteps.{digits_put}
use Rattle.mav_text.proofs.skips.put_behind.Goals as goal

pub returns-clause-text : goal.returns-clause-text
returns-clause-text g c =
    let text : List ℕ = take c.skip_ending.inside.len c.skip_ending.inside.bytes in
    let digits : List ℕ = c.byte_digits.result in
    let high : ℕ = slice_index digits 0 in let low : ℕ = slice_index digits 1 in
    let at : ℕ = c.args.at in let end : ℕ = c.put_part-end.result in
    let prefix : List ℕ = take at c.args.chunk.now in
    let same = ap length c.skip_ending.view_is in
    let short : c.skip_ending.inside.len ≤ 22 = c.skip_ending.invariant in
    let whole = length-take c.skip_ending.inside.len c.skip_ending.inside.bytes in
    let long : end ≡ at + length text = omega (arith, whole, short, c.skip_ending.told, c.put_part-end.ensures.index) in
    let some : 6 + 2 ≤ length text = omega (arith, same, c.requires.digits) in
    ap (λ (l : List ℕ). take end l) c.set_two.ensures
    ∙ (digits_put 6 at end c.args.chunk.now c.put_part-end.new.chunk text high low (omega arith) some long c.put_part-end.ensures.text
    ∙ (sym (ap (λ (l : List ℕ). prefix ++ l) (append_assoc (take 6 text) (high ∷ low ∷ []) (drop 8 text)))
    ∙ ((λ i. prefix ++ (take 6 text ++ (slice_index (c.byte_digits.ensures i) 0 ∷ slice_index (c.byte_digits.ensures i) 1 ∷ []) ++ drop 8 text))
    ∙ ap (λ (t : List ℕ). prefix ++ (take 6 t ++ byte_hex c.args.byte ++ drop 8 t)) c.skip_ending.view_is)))
