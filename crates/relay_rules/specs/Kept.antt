-- What a relay keeps of its state.
use Rattle.std.specs.Prelude.{ℕ, ◌≡◌, ◌<◌, ◌≤◌, List, map, slice_get, Some}
use Rattle.mav_names.specs.declared.names.Name.{Name}
use Rattle.mav_sign.specs.Kept.{Kept}
use Rattle.link_table.specs.OpenLinks.{StandsFor, Words}
use Rattle.relay_rules.specs.declared.links.OpenLink.{OpenLink}
use Rattle.relay_rules.specs.States.{LinkState, RelayState}

-- numbers and ports of the open links, and the table of the nodes behind them
pub record LinksKept : Type 0 where
  pub given : ℕ
  pub links : List OpenLink
  pub words : Words
  pub kept : Kept

abbrev pub head_of : LinkState → OpenLink
head_of link = record { number = link.number; port = link.port }

abbrev pub names_of : LinkState → List Name
names_of link = link.names

pub record Represents (view : LinksKept) (state : RelayState) : Type 0 where
  pub given : view.given ≡ state.given
  pub links : view.links ≡ map head_of state.links
  pub words : StandsFor view.words (map names_of state.links)
  pub kept : view.kept ≡ state.kept

-- the numbers rise, and none is above how many were given; ports are numbered from 1, and there are at most 8
pub record AreNumbered (given : ℕ) (links : List OpenLink) : Type 0 where
  pub rise : (i j : ℕ) (a b : OpenLink) → i < j → slice_get links i ≡ Some a → slice_get links j ≡ Some b
      → a.number < b.number
  pub most : (i : ℕ) (a : OpenLink) → slice_get links i ≡ Some a → a.number ≤ given
  pub ports : (i : ℕ) (a : OpenLink) → slice_get links i ≡ Some a → (1 ≤ a.port) × (a.port ≤ 8)
