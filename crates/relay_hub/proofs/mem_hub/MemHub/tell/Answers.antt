use Rattle.std.proofs.Common.{◌≡◌, ◌∙◌, ap}
use Rattle.relay_hub.specs.MemHubs.{MemHubState}
use Rattle.relay_hub.specs.Seats.{ports_of}
use Rattle.relay_hub.proofs.Seated.{ports_happens}
use Rattle.relay_hub.proofs.mem_hub.MemHub.tell.Goals as goal

pub returns-clause-ports : goal.returns-clause-ports
returns-clause-ports c =
    ap (λ (s : MemHubState). ports_of s.hub) c.advance.ensures.state
    ∙ ports_happens c.args.news c.args.self.now.hub c.advance.ensures.opened
