-- What a link is to a contract: a source and a sink with one count of faults.
use Rattle.std.specs.Prelude.{ℕ, ◌+◌, Bool, List, [], ◌∷◌, ◌++◌}
use Rattle.std.specs.declared.option.Option.{Option}
use Rattle.mav_ports.specs.declared.sources.Got.{Got}
use Rattle.mav_ports.specs.declared.sources.Got.TheVariants.{Bytes, Idle, End, Failed}

-- how many bytes were read so far, and for each Idle answer how many of them came before it
pub record Pauses : Type 0 where
  pub given : ℕ
  pub before : List ℕ

pub record LinkState : Type 0 where
  -- the bytes left to read, if they are known
  pub left : Option (List ℕ)
  -- the bytes that it was sent, if they are known
  pub sent : Option (List ℕ)
  -- how many calls failed, reads and writes together; it never falls, and stays at 2 ^ 64 - 1
  pub faults : ℕ
  -- how many reads returned Idle; it never falls, and stays at 2 ^ 64 - 1
  pub idles : ℕ
  -- where among the bytes these Idle answers came, if that is known
  pub pauses : Option Pauses
  -- it has returned End
  pub ended : Bool

-- the Idle answers after a read: an Idle answer alone is one more
abbrev pub pauses_after : Got → Pauses → Pauses
pauses_after (Bytes n) p = record p { given = p.given + n }
pauses_after Idle p = record p { before = p.before ++ p.given ∷ [] }
pauses_after End p = p
pauses_after Failed p = p

-- the read gave no bytes
abbrev pub IsNoBytes : Got → Type 0
IsNoBytes (Bytes n) = ⊥
IsNoBytes _ = Unit {0}
