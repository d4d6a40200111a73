use Rattle.std.proofs.Common.{◌≡◌, map, drop}
use Rattle.serde_json.specs.View.{view}
use Rattle.dialect.specs.Shape.{each_field}
use Rattle.dialect.proofs.Elements.{behind}
use Rattle.dialect.proofs.shape.each_field.Given as goal

-- the fields that were read and those of the rest are all
abbrev pub invariant-loop-value : goal.invariant-loop-value
invariant-loop-value l = behind l.fields.items (each_field (map view (drop l.value-index l.values))) ≡ each_field (map view l.values)
