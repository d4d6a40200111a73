use Rattle.std.proofs.Common.{◌∙◌, ◌≡◌, ◌^◌, ◌%◌, ◌*◌, ℕ, ap, arith}
use Rattle.std.specs.Int.Bits.{bit_or}
use Rattle.std.proofs.Math.Nat.{mod-eq_of_lt}
use Rattle.std.proofs.lemmas.Nat.{pow_below}
use Rattle.link_table.specs.OpenLinks.{has_link}
use Rattle.link_table.proofs.Bits.{link_more}
use Rattle.link_table.proofs.link_set.LinkSet.with.Goals as goal

pub returns : goal.returns
returns c = λ k.
    let pow = pow_below c.args.link 32 c.requires in
    let is : 1 * 2 ^ c.args.link % 4294967296 ≡ 2 ^ c.args.link = mod-eq_of_lt (omega (arith, pow)) ∙ omega arith in
    ap (λ (n : ℕ). has_link (bit_or c.args.self.bits n) k) is ∙ link_more c.args.self.bits c.args.link k
