-- How a part goes on.
use Rattle.std.proofs.Common.{◌∙◌, ℕ, ◌≤◌, List, length, take, ap, sym, subst, arith, length-append}
use mathlib.Core.List.{IsPrefix}
use Rattle.mav_frame.specs.Packet.{Packet}
use Rattle.mav_links.specs.Links.{LinkState}
use Rattle.mav_router.specs.declared.entries.Entry.{Entry}
use Rattle.mav_router.specs.declared.lane.Lane.{Lane}
use Rattle.mav_router.specs.Journal.{frames_to}
use Rattle.mav_router.specs.Runs.{Output}
use Rattle.mav_stream.specs.Held.{Held}
use Rattle.mav_router.proofs.Seats.{take_prefix}

-- what was given for a port is the same of a longer journal
pub output_longer : (port taken : ℕ) (before after : List Entry) (first now : LinkState) (lane : Lane) → taken ≤ length before → IsPrefix before after → Output (frames_to port (take taken before)) first now lane → Output (frames_to port (take taken after)) first now lane
output_longer port taken before after first now lane within p o =
    subst (λ (f : List Packet). Output f first now lane) (ap (frames_to port) (sym (take_prefix taken before after within p))) o

pub within_longer : {E : Type 0} (n : ℕ) (xs ys : List E) → n ≤ length xs → IsPrefix xs ys → n ≤ length ys
within_longer n xs ys within p = let long = ap length (sym p.1) ∙ length-append xs p.0 in omega (arith, within, long)

-- what was written doesn't depend on the port's reader
pub output_relaned : (frames : List Packet) (first now : LinkState) (lane : Lane) (held : Held) (skips : ℕ) → Output frames first now lane → Output frames first now (record lane { scanner = held; skipped = skips })
output_relaned frames first now lane held skips o = record { written = o.written; rest = o.rest; sent = o.sent; front = o.front; all = o.all; most = o.most; count = o.count }
