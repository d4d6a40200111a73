use Rattle.std.proofs.Common.{◌∙◌, sym, ap, arith, ℕ, ◌-◌}
use Rattle.link_table.specs.Bits.{has_bit}
use Rattle.link_table.proofs.Bits.{all_bits, not_own, other_bits}
use Rattle.link_table.proofs.table.other_ports.Goals.{then-own-eq0-via-then-own-eq0, then-own-eq0-via-else-own-eq0+then-own-gt8}
use Rattle.link_table.proofs.table.other_ports.Goals as goal

pub returns-then-own-eq0 : goal.returns-then-own-eq0
returns-then-own-eq0 c = λ port from to.
    all_bits port from to ∙ sym (not_own port c.args.own (λ same. elim c.then-own-eq0.branch [
      | then-own-eq0-via-then-own-eq0 w ↦ omega (arith, same, w.if-own-eq0, from)
      | then-own-eq0-via-else-own-eq0+then-own-gt8 w ↦ omega (arith, same, w.if-own-gt8, to)
    ]))

pub returns : goal.returns
returns c = λ port from to.
    ap (λ (m : ℕ). has_bit (255 - m) port) c.bit_of.ensures ∙ other_bits c.args.own port (omega arith) (omega arith) from to
