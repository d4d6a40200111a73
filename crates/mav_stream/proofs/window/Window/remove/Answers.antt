use Rattle.std.proofs.Common.{◌≡◌, ℕ, ◌-◌, ◌≤◌, drop, length, slice_range, ap, ◌∙◌, arith, length-take}
use Rattle.mav_stream.proofs.Windows.{without_first}
use Rattle.mav_stream.proofs.window.Window.remove.Goals as goal

pub returns : goal.returns
returns g c =
    let buffer = c.self.inside.buffer in let start : ℕ = c.self.inside.start in let end : ℕ = c.self.inside.end in
    let count : ℕ = c.args.count in
    let order = c.self.invariant.0 in
    let held : slice_range buffer start end ≡ c.args.self.now = c.self.view_is in
    let long : length (slice_range buffer start end) ≡ length c.args.self.now = ap (length {A = ℕ}) held in
    let fits : count ≤ end - start = (let r = c.requires in omega (arith, length-take (end - start) (drop start buffer))) in
    without_first count start end buffer order fits ∙ ap (drop count) held
