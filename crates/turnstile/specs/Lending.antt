-- The value that a `Held` lends.
use Rattle.std.specs.Borrow.{Lends, MutBor, Fml}
use denote.RattleType.{RattleType}
use Rattle.turnstile.specs.declared.held.Held.{Held}
use Rattle.turnstile.specs.contracts.held.Held.{the_row}

-- the held value ends as what was written
abbrev pub LendsValue : (R : RattleType) → MutBor (Held R.Denot) → MutBor R.Denot → Fml
LendsValue R s r = Lends (the_row R) R s r (λ w. record s.now { value = w })
