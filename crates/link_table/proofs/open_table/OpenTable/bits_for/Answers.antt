use Rattle.std.proofs.Common.{◌==◌, ◌∙◌, ℕ, ap, arith, true, if◌then◌else◌}
use Rattle.std.proofs.lemmas.Nat.Bits.{bit_at_ones}
use Rattle.link_table.proofs.open_table.OpenTable.bits_for.Goals as goal

pub returns-then-target-eq0 : goal.returns-then-target-eq0
returns-then-target-eq0 c = λ links k few of. rw c.if-target-eq0.true (ap (λ (n : ℕ). n == 1) (bit_at_ones 32 k few))
