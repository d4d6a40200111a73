use Rattle.std.proofs.Common.{arith, sym, ◌∙◌}
use Rattle.mav_ports.proofs.Known.{prepend_known_nil}
use Rattle.run_status.proofs.reading.read_on.Goals as goal

pub loop-turn-preserved : goal.loop-turn-preserved
loop-turn-preserved g c =
    let before = c.loop-turn.invariant in
    record {
      left = sym (prepend_known_nil (g.S.Source.left c.read.new.self)) ∙ sym c.in-Idle.ensures.bytes ∙ before.left;
      faults = c.in-Idle.ensures.faults ∙ before.faults;
      later = omega (arith, before.later, c.in-Idle.ensures.idles);
      idles = omega (arith, before.idles, c.in-Idle.ensures.idles);
    }
