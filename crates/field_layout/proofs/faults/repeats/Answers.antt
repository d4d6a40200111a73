use Rattle.std.proofs.Common.{◌≡◌, ◌<◌, true, false, length, sym, ◌∙◌, arith}
use Rattle.std.specs.Str.{bytes_eq}
use Rattle.field_layout.proofs.Names.{name_of_field, length-names, differs_more, repeats_here}
use Rattle.field_layout.specs.Faults.{names_of, name_at}
use Rattle.field_layout.proofs.faults.repeats.Goals as goal

pub loop-earlier-preserved : goal.loop-earlier-preserved
loop-earlier-preserved c =
    let names = names_of c.args.def.now in
    let own : name_at names c.args.place ≡ c.field.result.now.name = name_of_field c.args.def.now c.args.place c.field.result.now c.field.ensures in
    let other : name_at names c.loop-earlier.earlier ≡ c.field-in-loop-earlier.result.now.name = name_of_field c.args.def.now c.loop-earlier.earlier c.field-in-loop-earlier.result.now c.field-in-loop-earlier.ensures in
    let differs : bytes_eq c.field.result.now.name c.field-in-loop-earlier.result.now.name ≡ false = sym c.is_same.ensures ∙ c.if-is_same.false in
    let inside : c.loop-earlier.earlier < length names = omega (arith, length-names c.args.def.now) in
    differs_more names (name_at names c.args.place) c.loop-earlier.earlier inside c.loop-earlier.invariant (rw (own, other) differs)

pub returns-then-is_same : goal.returns-then-is_same
returns-then-is_same c =
    let names = names_of c.args.def.now in
    let own : name_at names c.args.place ≡ c.field.result.now.name = name_of_field c.args.def.now c.args.place c.field.result.now c.field.ensures in
    let other : name_at names c.loop-earlier.earlier ≡ c.field-in-loop-earlier.result.now.name = name_of_field c.args.def.now c.loop-earlier.earlier c.field-in-loop-earlier.result.now c.field-in-loop-earlier.ensures in
    let same : bytes_eq c.field.result.now.name c.field-in-loop-earlier.result.now.name ≡ true = sym c.is_same.ensures ∙ c.if-is_same.true in
    let inside : c.args.place < length names = omega (arith, length-names c.args.def.now) in
    sym (repeats_here names c.args.place c.loop-earlier.earlier inside (omega arith) (rw (own, other) same))
