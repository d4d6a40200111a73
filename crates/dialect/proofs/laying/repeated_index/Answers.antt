-- The names before an index are known, and the name there is tested against them.
use Rattle.std.proofs.Common.{◌<◌, ◌++◌, [], ◌∷◌, take, length, sym, ap, ◌∙◌, below_more, arith}
use Rattle.field_layout.specs.Definition.{all_fields}
use Rattle.field_layout.specs.Faults.{names_of}
use Rattle.field_layout.proofs.Names.{length-names, first_repeat_here, first_repeat_nowhere}
use Rattle.dialect.proofs.ManyFields.{take-names, repeats_at-tested}
use Rattle.dialect.proofs.laying.repeated_index.Goals as goal

pub returns-then-has-clause-first : goal.returns-then-has-clause-first
returns-then-has-clause-first c =
    let names = names_of c.args.def.now in
    let inside : c.loop-index.index < length names = omega (arith, length-names c.args.def.now) in
    sym (first_repeat_here names c.loop-index.index inside c.loop-index.invariant.single
    (repeats_at-tested c.args.def.now c.loop-index.index c.field.result.now c.field.ensures c.bytes-name.result.now c.loop-index.names c.has.result
    c.bytes-name.ensures c.loop-index.invariant.known c.has.ensures ∙ c.if-has.true))

pub loop-index-preserved : goal.loop-index-preserved
loop-index-preserved c =
    let tested = repeats_at-tested c.args.def.now c.loop-index.index c.field.result.now c.field.ensures c.bytes-name.result.now c.loop-index.names c.has.result
    c.bytes-name.ensures c.loop-index.invariant.known c.has.ensures in
    let within : c.loop-index.index < length (all_fields c.args.def.now) = omega arith in
    record {
      known =
          c.in_ok-add.ensures.added
          ∙ ap (λ known. known ++ c.bytes-name.result.now ∷ []) c.loop-index.invariant.known
          ∙ ap (λ name. take c.loop-index.index (names_of c.args.def.now) ++ name ∷ []) c.bytes-name.ensures
          ∙ sym (take-names c.args.def.now c.loop-index.index c.field.result.now c.field.ensures within);
      single = below_more _ _ c.loop-index.invariant.single (tested ∙ c.if-has.false);
    }

pub returns-clause-first : goal.returns-clause-first
returns-clause-first c =
    sym (first_repeat_nowhere (names_of c.args.def.now) (λ k h. c.loop-index.invariant.single k (omega (arith, length-names c.args.def.now))))
