use Rattle.std.proofs.Common.{◌≡◌, ◌<◌, List, Some, length, sym, ap, ◌∙◌, arith, refl}
use Rattle.std.specs.Prelude.{slice_get, option_map}
use Rattle.std.proofs.lemmas.Option.{slice_get_read}
use Rattle.field_layout.specs.Definition.{Definition}
use Rattle.mav_profile.specs.Messages.{definition_with}
use Rattle.mav_text.specs.TemplateText.{line_template_of}
use Rattle.mav_text.proofs.line_templates.LineTemplates.line_template.Goals as goal

pub index-requires-2 : goal.index-requires-2
index-requires-2 c =
    let low = c.self.inside.low.items in
    let entry : slice_get low c.args.id ≡ Some (Some c.in_ok-index.index) = slice_get_read low (length low) c.args.id c.index.result.now refl (omega (arith, c.self.invariant.0)) c.index.ensures ∙ ap Some c.in_ok-index.was in
    let placed = c.self.invariant.1 c.args.id c.in_ok-index.index entry in
    omega (arith, placed.within, c.from.ensures, c.self.inside.line_templates.ok.0)

pub returns : goal.returns
returns c =
    let low = c.self.inside.low.items in let line_templates = c.self.inside.line_templates.items in
    let entry : slice_get low c.args.id ≡ Some (Some c.in_ok-index.index) = slice_get_read low (length low) c.args.id c.index.result.now refl (omega (arith, c.self.invariant.0)) c.index.ensures ∙ ap Some c.in_ok-index.was in
    let placed = c.self.invariant.1 c.args.id c.in_ok-index.index entry in
    let inside : c.from.result < length line_templates = omega (arith, placed.within, c.from.ensures) in
    ap (λ (defs : List Definition). option_map line_template_of (definition_with c.args.id defs)) (sym c.self.view_is)
    ∙ (sym placed.there
    ∙ (ap (slice_get line_templates) (sym c.from.ensures)
    ∙ slice_get_read line_templates (length line_templates) c.from.result c.index-2.result.now refl inside c.index-2.ensures))
