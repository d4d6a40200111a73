use Rattle.std.proofs.Common.{◌≡◌, List, ℕ, ◌++◌, take, append_assoc, append-nil, ap, ◌∙◌}
use Rattle.mav_text.proofs.SkipSteps.{kept_same, kept_prefix}
use Rattle.mav_text.proofs.fields.put_name.Goals as goal

-- two pieces were appended
both : (start first second middle after : List ℕ) → middle ≡ start ++ first → after ≡ middle ++ second → after ≡ start ++ (first ++ second)
both start first second middle after one two = two ∙ (ap (λ (t : List ℕ). t ++ second) one ∙ append_assoc start first second)

pub returns-in_err-extend_from_slice-clause-prefix : goal.returns-in_err-extend_from_slice-clause-prefix
returns-in_err-extend_from_slice-clause-prefix c =
    kept_same c.args.out.now.items c.extend_from_slice.new.self.items _ c.args.out.now.ok.0 c.in_err-extend_from_slice.ensures.items

pub returns-in_err-extend_from_slice-2-clause-prefix : goal.returns-in_err-extend_from_slice-2-clause-prefix
returns-in_err-extend_from_slice-2-clause-prefix c =
    kept_prefix c.args.out.now.items (take c.args.at c.args.chunk.now) c.extend_from_slice-2.new.self.items _ c.args.out.now.ok.0
    (c.in_err-extend_from_slice-2.ensures.items ∙ c.in_ok-extend_from_slice.ensures.items)

pub returns-clause-prefix : goal.returns-clause-prefix
returns-clause-prefix c =
    kept_prefix c.args.out.now.items (take c.args.at c.args.chunk.now ++ c.args.name.now) c.extend_from_slice-2.new.self.items _ c.args.out.now.ok.0
    (both c.args.out.now.items (take c.args.at c.args.chunk.now) c.args.name.now c.extend_from_slice.new.self.items c.extend_from_slice-2.new.self.items
    c.in_ok-extend_from_slice.ensures.items c.in_ok-extend_from_slice-2.ensures.items)

pub returns-clause-text : goal.returns-clause-text
returns-clause-text c =
    append-nil c.extend_from_slice-2.new.self.items
    ∙ (c.in_ok-extend_from_slice-2.ensures.items ∙ ap (λ (t : List ℕ). t ++ c.args.name.now) c.in_ok-extend_from_slice.ensures.items)
