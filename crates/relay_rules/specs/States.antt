-- What the links of a relay are, and where a frame goes among them (MAVLink guide, Routing).
use Rattle.std.specs.Prelude.{ℕ, ◌==◌, ◌+◌, ◌&&◌, ◌||◌, not, Bool, if◌then◌else◌, List, [], ◌∷◌, ◌++◌, get_or}
use Rattle.std.specs.Prelude.{slice_set}
use Rattle.std.specs.List.{remove}
use Rattle.mav_names.specs.declared.names.Name.{Name}
use Rattle.mav_frame.specs.Packet.{Packet}
use Rattle.mav_sign.specs.Kept.{Kept}
use Rattle.link_table.specs.OpenLinks.{is_among}
use Rattle.link_table.specs.Routing.{has_port}
use Rattle.mav_router.specs.Journal.{Rules, is_unsigned, target_by}

-- a link that is open: its number, its port, and the nodes that were learned there
pub record LinkState : Type 0 where
  pub number : ℕ
  pub port : ℕ
  pub names : List Name

-- how many links were opened, those that are open in the order of their opening, and what the verifier of all links
-- keeps
pub record RelayState : Type 0 where
  pub given : ℕ
  pub links : List LinkState
  pub kept : Kept

abbrev pub no_link : LinkState
no_link = record { number = 0; port = 0; names = [] }

-- the open link with that index, from 0
abbrev pub link_at : List LinkState → ℕ → LinkState
link_at links k = get_or links k no_link

-- a frame that was admitted at a link goes to another one: somebody whom it is for is behind that link, and it has a
-- signature block or the link's port is open
abbrev pub goes_to : Rules → Packet → (own other : LinkState) → Bool
goes_to rules packet own other =
    not (other.number == own.number)
    && (is_among other.names (target_by rules packet) && (not (is_unsigned packet) || has_port rules.plain other.port))

-- a link opens at a port, and gets the next number
abbrev pub opened_link : ℕ → ℕ → LinkState
opened_link number port = record { number = number; port = port; names = [] }

abbrev pub opened : ℕ → RelayState → RelayState
opened port state = record {
  given = state.given + 1;
  links = state.links ++ opened_link (state.given + 1) port ∷ [];
  kept = state.kept;
}

-- the link with that index closes, and what was learned there goes with it
abbrev pub closed : ℕ → RelayState → RelayState
closed k state = record { given = state.given; links = remove state.links k; kept = state.kept }

-- the sender of an admitted frame is learned at its link
abbrev pub taught : Bool → Name → LinkState → LinkState
taught admitted from link =
    record { number = link.number; port = link.port; names = if admitted then link.names ++ from ∷ [] else link.names }

abbrev pub heard : ℕ → Bool → Name → Kept → RelayState → RelayState
heard k admitted from kept state = record {
  given = state.given;
  links = slice_set state.links k (taught admitted from (link_at state.links k));
  kept = kept;
}
