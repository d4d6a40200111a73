use Rattle.std.proofs.Common.{◌≡◌, ◌<◌, ℕ, Bool, true, false, Some, None, List, length, get_or, sym, ap, ◌∙◌, below_more, arith}
use Rattle.std.specs.Prelude.{position, option_map}
use Rattle.std.proofs.lemmas.Option.{get_or_from_slice_get}
use Rattle.field_layout.specs.declared.fields.Field.{Field}
use Rattle.field_layout.specs.Definition.{all_fields}
use Rattle.field_layout.specs.WireOrder.{offset_of}
use Rattle.field_layout.specs.Target.{is_target}
use Rattle.field_layout.proofs.Walking.{nowhere, length-offsets, offset_in_table}
use Rattle.field_layout.proofs.FirstField.{position_here, position_nowhere}
use Rattle.field_layout.proofs.target.target_offset.Goals as goal

pub bounds-offsets-place : goal.bounds-offsets-place
bounds-offsets-place c = omega (arith, ap length c.requires, length-offsets c.args.def.now)

pub returns-then-is_target : goal.returns-then-is_target
returns-then-is_target c =
    let fields = all_fields c.args.def.now in
    let place = c.loop-place.place in
    let test : Field → Bool = is_target c.args.name.now in
    let inside : place < length fields = omega arith in
    let here : test (get_or fields place nowhere.1) ≡ true = ap test (get_or_from_slice_get fields place c.field.result.now nowhere.1 c.field.ensures) ∙ (sym c.is_target.ensures ∙ c.if-is_target.true) in
    let found : position test fields ≡ Some place = position_here test fields place inside c.loop-place.invariant here in
    ap Some (ap (λ (l : List ℕ). get_or l place 0) c.requires ∙ offset_in_table c.args.def.now place inside) ∙ ap (option_map (offset_of c.args.def.now)) (sym found)

pub loop-place-preserved : goal.loop-place-preserved
loop-place-preserved c =
    let fields = all_fields c.args.def.now in
    let test : Field → Bool = is_target c.args.name.now in
    let here : test (get_or fields c.loop-place.place nowhere.1) ≡ false = ap test (get_or_from_slice_get fields c.loop-place.place c.field.result.now nowhere.1 c.field.ensures) ∙ (sym c.is_target.ensures ∙ c.if-is_target.false) in
    below_more _ _ c.loop-place.invariant here

pub returns : goal.returns
returns c =
    let fields = all_fields c.args.def.now in
    let test : Field → Bool = is_target c.args.name.now in
    let none : position test fields ≡ None = position_nowhere test fields (λ k h. c.loop-place.invariant k (omega arith)) in
    ap (option_map (offset_of c.args.def.now)) (sym none)
