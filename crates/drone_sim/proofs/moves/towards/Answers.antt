use Rattle.std.proofs.Common.{arith}
use Rattle.std.proofs.lemmas.Int.{ints, clamps}
use Rattle.drone_sim.proofs.moves.towards.Goals as goal

pub overflow_cast-result : goal.overflow_cast-result
overflow_cast-result c = omega (arith, ints, clamps, c.clamp.ensures.value, c.ranges.step, c.ranges.from, c.ranges.target, c.from-from.ensures, c.from-step.ensures, c.from.ensures)

pub returns : goal.returns
returns c = omega (arith, ints, clamps, c.clamp.ensures.value, c.ranges.step, c.ranges.from, c.ranges.target, c.from-from.ensures, c.from-step.ensures, c.from.ensures)
