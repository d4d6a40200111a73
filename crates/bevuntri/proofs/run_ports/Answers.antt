use Rattle.std.proofs.Common.{◌≡◌, ◌∙◌, ap, arith, length}
use Rattle.bevuntri.proofs.run_ports.Goals as goal

pub run_stores-requires-clause-links : goal.run_stores-requires-clause-links
run_stores-requires-clause-links g c = λ lifetimes outlives.
    let all : c.loop-port.port-index ≡ length c.deref-port-items.result.now = omega (arith, c.loop-port-test.false, c.loop-port.auto.port-index-end) in
    c.loop-port.invariant ∙ all ∙ ap length c.deref-port-items.ensures.value
