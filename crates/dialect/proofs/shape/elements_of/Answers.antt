-- An array's elements are those of the list that was read.
use Rattle.std.proofs.Common.{Some, map, option_map, sym, ap, ◌∙◌}
use Rattle.serde_json.specs.View.{view}
use Rattle.dialect.specs.Shape.{elements}
use Rattle.dialect.proofs.Elements.{elements-items_of}
use Rattle.dialect.proofs.shape.elements_of.Goals as goal

pub returns-in-Some : goal.returns-in-Some
returns-in-Some c =
    ap (λ values. Some (map view values)) c.as_slice.ensures.value
    ∙ ap Some (sym (elements-items_of (map view c.in-Some.values.now.items)))
    ∙ ap (option_map elements) c.in-Some.ensures
