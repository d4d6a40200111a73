use Rattle.std.proofs.Common.{◌≡◌, ◌&&◌, Bool, true, false, rules, ◌∙◌, sym, FitsSigned, w32}
use Rattle.std.proofs.lemmas.Int.{to_z-of_z}
use Rattle.fence_watch.specs.Segments.{overlap}
use Rattle.fence_watch.proofs.segments.boxes_overlap.Goals as goal

then_both : (r s a b : Bool) → r ≡ a → r ≡ true → s ≡ b → s ≡ (a && b)
then_both r s true b e f g = g
then_both r s false b e f g = absurd (let bad : true ≡ false = sym f ∙ e in cc)

else_first : (r a b : Bool) → r ≡ a → r ≡ false → r ≡ (a && b)
else_first r true b e f = absurd (let bad : true ≡ false = sym e ∙ f in cc)
else_first r false b e f = e

pub returns-then-overlap : goal.returns-then-overlap
returns-then-overlap c =
    let f1 : FitsSigned w32 c.args.a.from.x = search rules in
    let f2 : FitsSigned w32 c.args.a.to.x = search rules in
    let f3 : FitsSigned w32 c.args.b.from.x = search rules in
    let f4 : FitsSigned w32 c.args.b.to.x = search rules in
    let f5 : FitsSigned w32 c.args.a.from.y = search rules in
    let f6 : FitsSigned w32 c.args.a.to.y = search rules in
    let f7 : FitsSigned w32 c.args.b.from.y = search rules in
    let f8 : FitsSigned w32 c.args.b.to.y = search rules in
    then_both c.overlap.result c.overlap-then-overlap.result (overlap c.args.a.from.x c.args.a.to.x c.args.b.from.x c.args.b.to.x) (overlap c.args.a.from.y c.args.a.to.y c.args.b.from.y c.args.b.to.y) (simp to_z-of_z at c.overlap.ensures) c.if-overlap.true (simp to_z-of_z at c.overlap-then-overlap.ensures)

pub returns-else-overlap : goal.returns-else-overlap
returns-else-overlap c =
    let f1 : FitsSigned w32 c.args.a.from.x = search rules in
    let f2 : FitsSigned w32 c.args.a.to.x = search rules in
    let f3 : FitsSigned w32 c.args.b.from.x = search rules in
    let f4 : FitsSigned w32 c.args.b.to.x = search rules in
    else_first c.overlap.result (overlap c.args.a.from.x c.args.a.to.x c.args.b.from.x c.args.b.to.x) (overlap c.args.a.from.y c.args.a.to.y c.args.b.from.y c.args.b.to.y) (simp to_z-of_z at c.overlap.ensures) c.if-overlap.false
