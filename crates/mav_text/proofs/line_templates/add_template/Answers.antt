use Rattle.std.proofs.Common.{◌≡◌, ℕ, List, ◌∷◌, ◌++◌, [], Some, Option, length, set, sym, ap, ◌∙◌, arith, subst}
use Rattle.std.specs.Prelude.{option_map}
use Rattle.mav_profile.specs.Messages.{definition_with}
use Rattle.mav_text.specs.TemplateText.{HasIndices, LineTemplate, line_template_of}
use Rattle.mav_text.proofs.TemplateIndices.{index_added}
use Rattle.mav_text.proofs.line_templates.add_template.Goals as goal

pub returns-clause-indices : goal.returns-clause-indices
returns-clause-indices c =
    let defs = c.args.dialect.now in let id : ℕ = c.args.id in
    let line_templates : List LineTemplate = c.args.line_templates.now.items in let low : List (Option ℕ) = c.args.low.now.items in
    let line_template : LineTemplate = c.in-Some-2.line_template in
    let same : line_template ≡ line_template_of c.in-Some.layout.now = rw c.in-Some-2.is at c.in_ok-line_template.ensures.same in
    let known : Some line_template ≡ option_map line_template_of (definition_with id defs) = ap Some same ∙ ap (option_map line_template_of) c.in-Some.ensures in
    let count : length line_templates ≡ c.len-index.result = omega (arith, c.len-index.ensures, c.args.line_templates.now.ok.0) in
    let P : ℕ → Type 0 = λ n. HasIndices defs (line_templates ++ line_template ∷ []) (set low id (Some n)) in
    let Q : List LineTemplate → Type 0 = λ rs. HasIndices defs rs (set low id (Some c.len-index.result)) in
    subst Q (sym c.in_ok-push.ensures.items) (subst P count (index_added defs line_templates low id line_template c.requires.indices known (omega (arith, c.requires.len))))
