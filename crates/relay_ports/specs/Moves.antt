-- How many bytes a call on the system moved.
use Rattle.std.specs.Prelude.{ℕ, ◌≤◌, ⊤}
use Rattle.relay_ports.specs.declared.wires.Moved.{Moved}
use Rattle.relay_ports.specs.declared.wires.Moved.TheVariants.{Bytes, Nothing, Ended, Failed}

-- no more than there was room for, or were there
abbrev pub MovesWithin : Moved → ℕ → Type 0
MovesWithin (Bytes count) most = count ≤ most
MovesWithin Nothing most = ⊤
MovesWithin Ended most = ⊤
MovesWithin Failed most = ⊤
