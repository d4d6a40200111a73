use Rattle.std.proofs.Common.{List, ℕ, ◌++◌, take, drop, ap, ◌∙◌}
use Rattle.mav_text.specs.FrameText.{byte_hex}
use Rattle.mav_text.proofs.SkipSteps.{line_joined}
use Rattle.mav_text.proofs.skips.put_skip.Goals as goal

pub returns-clause-ok : goal.returns-clause-ok
returns-clause-ok c =
    let skip_ending : List ℕ = c.of.result in
    let out : List ℕ = c.args.out.now.items in
    c.in_ok-extend_from_slice.ensures.items
    ∙ ap (λ (t : List ℕ). out ++ t) (c.put_behind-end.ensures.text
    ∙ (ap (λ (t : List ℕ). t ++ (take 6 skip_ending ++ byte_hex c.args.byte ++ drop 8 skip_ending)) c.put_number-index.ensures.text
    ∙ line_joined c.args.offset c.args.byte c.args.why skip_ending c.of.ensures.text))
