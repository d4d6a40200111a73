use Rattle.mav_router.specs.Parts.{KeepsOn}
use Rattle.mav_router.proofs.running.write_until_ready.Given as goal

abbrev pub invariant-loop : goal.invariant-loop
invariant-loop g l = KeepsOn g.L.Link.state l.crew.turn.now l.crew.rules.now l.initial.part l.part
