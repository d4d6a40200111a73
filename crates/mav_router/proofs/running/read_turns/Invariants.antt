use Rattle.std.proofs.Common.{◌≡◌}
use Rattle.mav_links.specs.Links.{LinkState}
use Rattle.mav_router.specs.Runs.{HadTurns}
use Rattle.mav_router.specs.Parts.{IsReady, PartSoFar}
use Rattle.mav_router.proofs.running.read_turns.Given as goal

abbrev pub invariant-loop-turned : goal.invariant-loop-turned
invariant-loop-turned g l = record {
  ready : IsReady l.crew.turn.now l.crew.rules.now l.part;
  port : l.part.port ≡ l.initial.part.port;
  so_far : (first : LinkState) → PartSoFar g.L.Link.state l.crew.rules.now first l.initial.part → PartSoFar g.L.Link.state l.crew.rules.now first l.part;
  turned : HadTurns l.part.side.lane l.turned;
}
