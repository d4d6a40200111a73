use Rattle.std.proofs.Common.{◌≡◌, ◌∙◌, ap}
use Rattle.relay_hub.specs.Seats.{seats_of}
use Rattle.relay_hub.proofs.Seated.{seats_asks}
use Rattle.relay_hub.proofs.mem_calls.MemHubHub.stranger.Goals as goal

pub returns-clause-seats : goal.returns-clause-seats
returns-clause-seats c =
    ap seats_of c.hear_next.ensures.state ∙ seats_asks c.hear_next.result c.hear_next.new.buf c.args.self.now.hub
