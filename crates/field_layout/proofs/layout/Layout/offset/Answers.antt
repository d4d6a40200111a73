use Rattle.std.proofs.Common.{◌≡◌, ℕ, List, length, get_or, ap, ◌∙◌, arith}
use Rattle.field_layout.proofs.Walking.{offsets_of, length-offsets, offset_in_table}
use Rattle.field_layout.proofs.layout.Layout.offset.Goals as goal

pub bounds-offsets-field : goal.bounds-offsets-field
bounds-offsets-field c =
    let table : c.as_slice-offsets.result.now ≡ offsets_of c.args.self.now = c.as_slice-offsets.ensures.value ∙ (c.self.invariant.offsets ∙ ap offsets_of c.self.view_is) in
    omega (arith, ap length table, length-offsets c.args.self.now)

pub returns : goal.returns
returns c =
    let table : c.as_slice-offsets.result.now ≡ offsets_of c.args.self.now = c.as_slice-offsets.ensures.value ∙ (c.self.invariant.offsets ∙ ap offsets_of c.self.view_is) in
    ap (λ (l : List ℕ). get_or l c.args.field 0) table ∙ offset_in_table c.args.self.now c.args.field c.requires
