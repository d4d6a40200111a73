-- What was read at a port and isn't parsed yet.
use Rattle.std.specs.Prelude.{ℕ, ◌≡◌, List}
use Rattle.mav_links.specs.Links.{LinkState}
use Rattle.mav_stream.specs.Held.{Held}
use Rattle.mav_router.specs.declared.entries.Entry.{Entry}
use Rattle.mav_router.specs.declared.lane.Lane.{Lane}
use Rattle.mav_router.specs.Journal.{Rules}
use Rattle.mav_router.specs.Runs.{Reading, AllRead, Input}
use Rattle.mav_router.specs.Faults.{StopsReading, StopsInput}

-- the port's reader is still to look at these bytes: if it looks at all of them, the port's input goes on, and if the
-- switch doesn't take a frame of them, the input stops there
pub record Unheard (rules : Rules) (journal : List Entry) (port : ℕ) (unread : List ℕ) (first now : LinkState)
    (lane : Lane) : Type 0 where
  pub bytes : List ℕ
  pub reading : Reading rules port bytes (record lane.scanner { bytes = unread }) lane.skipped journal
  pub heard : (after : List Entry) (held : Held) (skips : ℕ) → held.ended ≡ lane.scanner.ended
      → AllRead rules port bytes held skips after
      → Input rules after port first now (record lane { scanner = held; skipped = skips })
  pub stops : (after : List Entry) → StopsReading lane.scanner.ended rules port bytes after
      → StopsInput rules after lane.turns lane.failed port first now
