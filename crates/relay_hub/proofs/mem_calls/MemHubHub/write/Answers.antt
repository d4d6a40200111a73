use Rattle.std.proofs.Common.{◌≡◌, ◌∙◌, ap, take}
use Rattle.relay_hub.specs.Seats.{seats_of}
use Rattle.relay_hub.proofs.Seated.{seats_takes}
use Rattle.relay_hub.proofs.mem_calls.MemHubHub.write.Goals as goal

pub returns-clause-seats : goal.returns-clause-seats
returns-clause-seats c =
    ap seats_of c.take_next.ensures.state ∙ seats_takes c.args.index (take c.take_next.result c.args.bytes.now) c.args.self.now.hub
