-- How long a link waits.
use Rattle.std.specs.Prelude.{ℕ, ◌-◌}

-- what is left of a span that began then; nothing, once it is over
abbrev pub nanos_left : (span since now : ℕ) → ℕ
nanos_left span since now = span - (now - since)
