-- The links that a frame goes to, by what is kept of them.
use Rattle.std.specs.Prelude.{ℕ, ◌≡◌, ◌<◌, ◌≤◌, ◌==◌, ◌&&◌, ◌||◌, not, false, Bool, List, length, slice_get, Some}
use Rattle.link_table.specs.OpenLinks.{has_link}
use Rattle.link_table.specs.Routing.{has_port}
use Rattle.relay_rules.specs.declared.links.OpenLink.{OpenLink}

-- it goes to another link whose bit is set, and to an open port alone if it has no signature block
abbrev pub is_chosen : OpenLink → (k behind own : ℕ) → Bool → List Bool → Bool
is_chosen link k behind own is_signed plain =
    not (k == own) && (has_link behind k && (is_signed || has_port plain link.port))

-- these are the links that it goes to, of so many of them
pub record ChoosesOf (count : ℕ) (links : List OpenLink) (behind own : ℕ) (is_signed : Bool) (plain : List Bool)
    (ways : ℕ) : Type 0 where
  pub each : (k : ℕ) (link : OpenLink) → k < count → slice_get links k ≡ Some link
      → has_link ways k ≡ is_chosen link k behind own is_signed plain
  pub few : (k : ℕ) → count ≤ k → has_link ways k ≡ false

abbrev pub Chooses : List OpenLink → (behind own : ℕ) → Bool → List Bool → ℕ → Type 0
Chooses links behind own is_signed plain ways = ChoosesOf (length links) links behind own is_signed plain ways
