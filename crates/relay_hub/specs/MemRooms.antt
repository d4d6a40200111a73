-- What a hub over memory has room for, so that no call of it needs memory.
use Rattle.std.specs.Prelude.{ℕ, ◌+◌, ◌-◌, ◌<◌, ◌≤◌, List, length, get_or, None, Some}
use Rattle.std.specs.declared.option.Option.{Option}

-- how much there is of each, and how much has room
pub record Rooms : Type 0 where
  pub links : List ℕ
  pub tapes : ℕ
  pub tape_room : ℕ
  pub spares : ℕ
  pub link_room : ℕ
  pub asker : Option ℕ
  pub datagram : ℕ
  pub datagram_room : ℕ
  pub script : ℕ
  pub step : ℕ
  pub bytes : ℕ
  pub at : ℕ

-- one link may open by a stranger who waits
abbrev pub waiting : Option ℕ → ℕ
waiting None = 0
waiting (Some port) = 1

-- each link that is open has a tape; each that may still open has a spare one, and room for it
pub record HasRooms (r : Rooms) : Type 0 where
  pub opened : (i : ℕ) → i < length r.links → get_or r.links i 0 - 1 < r.tapes
  pub few : length r.links ≤ 32
  pub link_room : 32 ≤ r.link_room
  pub tape_room : r.tapes + (r.script - r.step) + waiting r.asker ≤ r.tape_room
  pub spares : (r.script - r.step) + waiting r.asker ≤ r.spares
  pub datagram : r.datagram ≤ 65536
  pub datagram_room : 65536 ≤ r.datagram_room
  pub step : r.step ≤ r.script
  pub at : r.at ≤ r.bytes
