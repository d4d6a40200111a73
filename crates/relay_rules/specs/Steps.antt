-- The history of a relay: what happens one after another, and which histories there are.
use Rattle.std.specs.Prelude.{ℕ, ◌≡◌, ◌+◌, ◌<◌, false, List, [], ◌∷◌, length, slice_get, Some}
use Rattle.mav_frame.specs.Packet.{Packet}
use Rattle.mav_sign.specs.declared.admission.Admit.{Admit}
use Rattle.mav_sign.specs.History.{is_admitted}
use Rattle.mav_sign.specs.Kept.{Kept, HasRoom}
use Rattle.link_table.specs.Routing.{has_port}
use Rattle.mav_router.specs.Admitting.{IsVerdictBy}
use Rattle.mav_router.specs.Journal.{Rules, IsPortOf}
use Rattle.relay_rules.specs.States.{LinkState, RelayState, opened, closed, heard}

-- a link opens, with its number and its port; one closes; a frame comes in at a link, with its verdict; a frame of
-- somebody who has no link is refused at a port; the verifier forgets who left, if it has no room
pub data Event : Type 0 where
  opens : ℕ → ℕ → Event
  closes : ℕ → Event
  hears : ℕ → Packet → Admit → Event
  refuses : ℕ → Packet → Admit → Event
  forgets : Event

-- at most 32 links are open, and a number is the next one
pub record Opens (rules : Rules) (number port : ℕ) (before after : RelayState) : Type 0 where
  pub at : IsPortOf rules port
  pub few : length before.links < 32
  pub next : number ≡ before.given + 1
  pub state : after ≡ opened port before

pub record Closes (number : ℕ) (before after : RelayState) : Type 0 where
  pub index : ℕ
  pub link : LinkState
  pub there : slice_get before.links index ≡ Some link
  pub same : link.number ≡ number
  pub state : after ≡ closed index before

-- the verdict is that of the verifier of all links, which forgets who left if it has no room, by the link's port
pub record Hears (rules : Rules) (number : ℕ) (packet : Packet) (answer : Admit)
    (before after : RelayState) : Type 0 where
  pub index : ℕ
  pub link : LinkState
  pub there : slice_get before.links index ≡ Some link
  pub same : link.number ≡ number
  pub room : Kept
  pub made : HasRoom before.kept room
  pub verdict : IsVerdictBy rules.key (has_port rules.plain link.port) room after.kept packet answer
  pub state : after ≡ heard index (is_admitted answer) packet.from after.kept before

pub record Refuses (rules : Rules) (port : ℕ) (packet : Packet) (answer : Admit)
    (before after : RelayState) : Type 0 where
  pub at : IsPortOf rules port
  pub made : HasRoom before.kept after.kept
  pub verdict : IsVerdictBy rules.key (has_port rules.plain port) after.kept after.kept packet answer
  pub refused : is_admitted answer ≡ false
  pub given : after.given ≡ before.given
  pub links : after.links ≡ before.links

pub record Forgets (before after : RelayState) : Type 0 where
  pub made : HasRoom before.kept after.kept
  pub given : after.given ≡ before.given
  pub links : after.links ≡ before.links

abbrev pub Step : Rules → Event → (before after : RelayState) → Type 0
Step rules (opens number port) before after = Opens rules number port before after
Step rules (closes number) before after = Closes number before after
Step rules (hears number packet answer) before after = Hears rules number packet answer before after
Step rules (refuses port packet answer) before after = Refuses rules port packet answer before after
Step rules forgets before after = Forgets before after

-- events that lead from a state to another one
abbrev pub Leads : Rules → List Event → (before after : RelayState) → Type 0
Leads rules [] before after = after ≡ before
Leads rules (event ∷ events) before after = (middle : RelayState) × Step rules event before middle
    × Leads rules events middle after
