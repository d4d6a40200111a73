-- What is known of every hub, also of one that tells no bytes: at which ports links are open, and where a stranger is.
use Rattle.std.specs.Prelude.{ℕ, ◌≡◌, ◌<◌, ◌≤◌, ◌-◌, ◌==◌, ◌&&◌, nat_lt, Bool, true, false, List, [], ◌∷◌, ◌++◌}
use Rattle.std.specs.Prelude.{length, map, count_by, get_or, None, Some}
use Rattle.std.specs.List.{remove}
use Rattle.std.specs.Option.{option_map, unwrap_or}
use Rattle.std.specs.declared.option.Option.{Option}
use Rattle.relay_hub.specs.declared.news.HubNews.{HubNews}
use Rattle.relay_hub.specs.declared.news.HubNews.TheVariants.{Opened, Refused, Closed, Waits}
use Rattle.relay_hub.specs.declared.news.Stranger.{Stranger}
use Rattle.relay_hub.specs.Hubs.{Datagram, HubState, Tape, blank}

pub record Seats : Type 0 where
  -- the ports of the open links, in the order of their opening
  pub ports : List ℕ
  -- the port of the datagram that may be adopted
  pub stranger : Option ℕ

abbrev pub no_seats : Seats
no_seats = record { ports = []; stranger = None }

abbrev pub port_of : List Tape → ℕ → ℕ
port_of tapes number = (get_or tapes (number - 1) (blank 0)).port

abbrev pub ports_of : HubState → List ℕ
ports_of s = map (port_of s.tapes) s.links

-- the same of a hub that tells its bytes
abbrev pub seats_of : HubState → Seats
seats_of s = record {
  ports = ports_of s;
  stranger = option_map (λ (d : Datagram). d.port) s.stranger;
}

-- at most 32 links are open, and eight of one port
abbrev pub has_room : ℕ → List ℕ → Bool
has_room port ports = nat_lt (length ports) 32 && nat_lt (count_by (λ p. p == port) ports) 8

abbrev pub IsPort : ℕ → Type 0
IsPort port = (1 ≤ port) × (port ≤ 8)

-- a link opens where there is room, and is refused where there is none; one closes that is open
abbrev pub IsNews : HubNews → List ℕ → Type 0
IsNews (Opened port) ports = IsPort port × (has_room port ports ≡ true)
IsNews (Refused port) ports = IsPort port × (has_room port ports ≡ false)
IsNews (Closed index why) ports = index < length ports
IsNews (Waits port) ports = IsPort port

-- the ports of the open links after what happened, if something did
abbrev pub ports_told : Option HubNews → List ℕ → List ℕ
ports_told None ports = ports
ports_told (Some (Opened port)) ports = ports ++ port ∷ []
ports_told (Some (Refused port)) ports = ports
ports_told (Some (Closed index why)) ports = remove ports index
ports_told (Some (Waits port)) ports = ports

abbrev pub told_at : Option HubNews → Seats → Seats
told_at news seats = record seats { ports = ports_told news seats.ports }

-- after a stranger's datagram, if one came
abbrev pub asked_at : Option Stranger → Seats → Seats
asked_at came seats = record seats { stranger = option_map (λ (c : Stranger). c.port) came }

-- whether a stranger becomes a link: one is there, and there is room at its port
abbrev pub may_adopt : Seats → Bool
may_adopt seats = may_sit seats.stranger seats.ports
  where
    may_sit : Option ℕ → List ℕ → Bool
    may_sit None ports = false
    may_sit (Some port) ports = has_room port ports

-- after it became a link, or didn't
abbrev pub adopted_at : Bool → Seats → Seats
adopted_at true seats = record { ports = seats.ports ++ unwrap_or seats.stranger 0 ∷ []; stranger = None }
adopted_at false seats = record seats { stranger = None }
