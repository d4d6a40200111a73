use Rattle.std.proofs.Common.{◌≡◌, ◌∙◌, ap, take}
use Rattle.relay_hub.specs.Seats.{seats_of}
use Rattle.relay_hub.proofs.Seated.{seats_gives}
use Rattle.relay_hub.proofs.mem_calls.MemHubHub.read.Goals as goal

pub returns-clause-seats : goal.returns-clause-seats
returns-clause-seats c =
    ap seats_of c.give_next.ensures.state ∙ seats_gives c.args.index (take c.give_next.result c.give_next.new.buf) c.args.self.now.hub
