use Rattle.std.proofs.Common.{◌≡◌, refl, arith, ℤ, rules, FitsSigned, w32}
use Rattle.std.specs.Int.{w64, w128}
use Rattle.std.specs.Prelude.{◌-ℤ◌, ◌*ℤ◌}
use Rattle.std.proofs.lemmas.Int.{ints, to_z-of_z}
use Rattle.fence_watch.proofs.segments.side.Goals as goal

same : (l r a b c d e f g h : ℤ) → l ≡ a *ℤ b → r ≡ c *ℤ d → a ≡ e → b ≡ f → c ≡ g → d ≡ h → l -ℤ r ≡ (e *ℤ f) -ℤ (g *ℤ h)
same l r a b c d e f g h left right p q s t = rw (left, right, p, q, s, t) refl

pub overflow_sub-result : goal.overflow_sub-result
overflow_sub-result c = omega (arith, ints, c.product-left.ensures.bound, c.product-right.ensures.bound)

pub returns : goal.returns
returns c =
    let f1 : FitsSigned w32 c.args.o.x = search rules in
    let f2 : FitsSigned w32 c.args.o.y = search rules in
    let f3 : FitsSigned w32 c.args.a.x = search rules in
    let f4 : FitsSigned w32 c.args.a.y = search rules in
    let f5 : FitsSigned w32 c.args.p.x = search rules in
    let f6 : FitsSigned w32 c.args.p.y = search rules in
    let f7 : FitsSigned w64 c.difference.result = search rules in
    let f8 : FitsSigned w64 c.difference-2.result = search rules in
    let f9 : FitsSigned w64 c.difference-3.result = search rules in
    let f10 : FitsSigned w64 c.difference-4.result = search rules in
    let d1 = simp to_z-of_z at c.difference.ensures.value in
    let d2 = simp to_z-of_z at c.difference-2.ensures.value in
    let d3 = simp to_z-of_z at c.difference-3.ensures.value in
    let d4 = simp to_z-of_z at c.difference-4.ensures.value in
    let left = simp to_z-of_z at c.product-left.ensures.value in
    let right = simp to_z-of_z at c.product-right.ensures.value in
    let f11 : FitsSigned w128 c.product-left.result = search rules in
    let f12 : FitsSigned w128 c.product-right.result = search rules in
    let f13 : FitsSigned w128 (c.product-left.result -ℤ c.product-right.result) = omega (arith, ints, c.product-left.ensures.bound, c.product-right.ensures.bound) in
    simp to_z-of_z (same c.product-left.result c.product-right.result c.difference.result c.difference-2.result c.difference-3.result c.difference-4.result (c.args.a.x -ℤ c.args.o.x) (c.args.p.y -ℤ c.args.o.y) (c.args.a.y -ℤ c.args.o.y) (c.args.p.x -ℤ c.args.o.x) left right d1 d2 d3 d4)
