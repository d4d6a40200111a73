use Rattle.std.proofs.Common.{◌≡◌, ◌+◌, ◌-◌, ◌*◌, ◌≤◌, List, length}
use Rattle.std.specs.Prelude.{vec_len, vec_capacity}
use Rattle.mav_sign.specs.History.{Entry}
use Rattle.mav_sign.specs.Kept.{Represents}
use Rattle.mav_sign.specs.Endpoints.{HeardTo}
use Rattle.mav_sign.proofs.endpoint.Endpoint.receive.Given as goal

abbrev pub invariant-loop-place : goal.invariant-loop-place
invariant-loop-place l = record {
  within : l.place ≤ length l.datagram;
  same : l.self ≡ record l.initial.self { stamps = l.self.stamps };
  room : vec_len l.out * 12 + (length l.datagram - l.place) ≤ vec_capacity l.out * 12 + 11;
  heard : (history : List Entry) → Represents l.initial.self.stamps history → HeardTo l.initial.self.extras l.initial.self.key history l.datagram l.place l.initial.out.items l.out.items l.self.stamps;
}

abbrev pub decreases-loop-place : goal.decreases-loop-place
decreases-loop-place l = length l.datagram - l.place
