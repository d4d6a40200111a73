use Rattle.std.proofs.Common.{◌≡◌, ◌∙◌, ap}
use Rattle.relay_hub.specs.MemHubs.{MemHubState}
use Rattle.relay_hub.specs.Seats.{seats_of}
use Rattle.relay_hub.proofs.Seated.{seats_adopts}
use Rattle.relay_hub.proofs.mem_calls.MemHubHub.adopt.Goals as goal

pub returns-clause-seats : goal.returns-clause-seats
returns-clause-seats c =
    ap (λ (s : MemHubState). seats_of s.hub) c.take_in.ensures.after
    ∙ seats_adopts c.take_in.result c.args.from c.args.self.now.hub c.take_in.ensures.opened
