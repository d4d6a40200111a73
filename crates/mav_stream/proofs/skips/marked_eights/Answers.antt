use Rattle.std.proofs.Common.{◌≡◌, ℕ, ◌+◌, ◌-◌, inl, inr, ap, ◌∙◌, arith}
use Rattle.std.proofs.lemmas.Bool.{cases_lt}
use Rattle.mav_stream.specs.Skips.{is_marked}
use Rattle.mav_stream.proofs.skips.marked_eights.Goals as goal

pub loop-at-preserved : goal.loop-at-preserved
loop-at-preserved c =
    let at : ℕ = c.loop-at.at in let bytes = c.args.bytes.now in
    record {
      within = omega (arith, c.loop-at-test.true);
      each = λ k h. elim (cases_lt k at) [
        | inl less ↦ c.loop-at.invariant.each k less
        | inr more ↦ let here : k ≡ at + (k - at) = omega arith in
            ap (λ (n : ℕ). is_marked c.args.byte c.args.gap c.args.high bytes n) here ∙ c.are_marked.ensures c.if-are_marked.true (k - at) (omega arith)
      ];
    }
