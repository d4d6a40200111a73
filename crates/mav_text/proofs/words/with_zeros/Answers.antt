use Rattle.std.proofs.Common.{◌≡◌, ◌-◌, List, ℕ, ◌++◌, drop, length, replicate, ap, ◌∙◌}
use Rattle.std.proofs.lemmas.List.{drop-replicate}
use Rattle.mav_text.proofs.words.with_zeros.Goals as goal

pub returns : goal.returns
returns c =
    let payload : List ℕ = c.args.payload.now in
    let no : ℕ = 0 in
    let behind : drop (length payload) (replicate 255 no) ≡ replicate (255 - length payload) no = drop-replicate (length payload) 255 no in
    c.fill.ensures ∙ ap (λ (t : List ℕ). payload ++ t) behind
