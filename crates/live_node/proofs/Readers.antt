-- Calls after which a node has read the same.
use Rattle.std.proofs.Common.{◌≡◌, ℕ, List, false, sym, ap, subst}
use Rattle.mav_frame.specs.declared.events.Event.{Event}
use Rattle.mav_stream.specs.Held.{Held}
use Rattle.mav_stream.specs.Progress.{Progress}
use Rattle.mav_sign.specs.Streams.{reader_of}
use Rattle.live_node.specs.declared.nodes.LiveNode.{LiveNode}
use Rattle.live_node.specs.Nodes.{HasHeard, end_of}

pub heard_same : (taken : List ℕ) (given : List Event) (old new : LiveNode) → reader_of (end_of new).endpoint ≡ reader_of (end_of old).endpoint → HasHeard taken given old → HasHeard taken given new
heard_same taken given old new same heard = subst (λ (h : Held). Progress h.extras false taken given h) (sym same) heard

pub extras_same : (old new : LiveNode) → reader_of (end_of new).endpoint ≡ reader_of (end_of old).endpoint → (end_of new).endpoint.extras ≡ (end_of old).endpoint.extras
extras_same old new same = ap (λ (h : Held). h.extras) same
