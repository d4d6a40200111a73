use Rattle.std.proofs.Common.{◌<◌, length, sym, ◌∙◌, arith}
use Rattle.field_layout.proofs.Names.{length-names, first_repeat_here, first_repeat_nowhere}
use Rattle.field_layout.specs.Faults.{names_of}
use Rattle.field_layout.proofs.faults.repeated_place.Goals as goal

pub returns-then-repeats-clause-first : goal.returns-then-repeats-clause-first
returns-then-repeats-clause-first c =
    let names = names_of c.args.def.now in
    let inside : c.loop-place.place < length names = omega (arith, length-names c.args.def.now) in
    sym (first_repeat_here names c.loop-place.place inside c.loop-place.invariant (sym c.repeats.ensures ∙ c.if-repeats.true))

pub returns-clause-first : goal.returns-clause-first
returns-clause-first c =
    let names = names_of c.args.def.now in
    sym (first_repeat_nowhere names (λ k h. c.loop-place.invariant k (omega (arith, length-names c.args.def.now))))
