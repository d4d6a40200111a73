-- The next frame of a flow, and its sender.
use Rattle.std.specs.Prelude.{ℕ, ◌≡◌, ◌+◌, ◌<◌, ◌≤◌, Bool, length, Option, Some, None}
use Rattle.mav_frame.specs.Packet.{Packet}
use Rattle.plan_upload.specs.Addresses.{same_name}
use Rattle.node_reports.specs.Nodes.{Node, node_name}
use Rattle.fleet_world.specs.WorldView.{WorldView}

-- whether the node, if there is one, sent the frame
abbrev pub IsSender : Option Node → Packet → Bool → Type 0
IsSender None packet answer = Unit {0}
IsSender (Some node) packet answer = answer ≡ same_name (node_name node) packet.from

-- the flow takes the index of a frame that was sent
abbrev pub IsTaken : WorldView → Option ℕ → WorldView → Type 0
IsTaken w None after = (length w.sent ≤ w.given) × (after ≡ w)
IsTaken w (Some number) after = (number ≡ w.given) × (w.given < length w.sent)
    × (after ≡ record w { given = w.given + 1 })
