-- Where a message goes (MAVLink guide, Routing).
use Rattle.std.specs.Prelude.{ℕ, ◌==◌, ◌&&◌, not, nat_le, Bool, true, false, if◌then◌else◌, List, [], ◌∷◌, get_or, ◌-◌}
use Rattle.std.specs.List.{list_any}
use Rattle.mav_names.specs.declared.names.Name.{Name}

-- a node is behind a port: a frame of it was admitted there; ports are numbered from 1
pub record Learned : Type 0 where
  pub port : ℕ
  pub from : Name

-- some node of the system was learned at the port
abbrev pub system_learned : List Learned → ℕ → ℕ → Bool
system_learned learned port sys = list_any (λ (l : Learned). (l.port == port) && (l.from.sys == sys)) learned

-- the node itself was
abbrev pub node_learned : List Learned → ℕ → ℕ → ℕ → Bool
node_learned learned port sys comp =
    list_any (λ (l : Learned). (l.port == port) && ((l.from.sys == sys) && (l.from.comp == comp))) learned

-- somebody whom a message for that target is for is behind the port: target system 0 is a broadcast, component 0 is
-- any component of the system
abbrev pub is_behind : List Learned → ℕ → Name → Bool
is_behind learned port target =
    if target.sys == 0 then true
    else (if target.comp == 0 then system_learned learned port target.sys
    else node_learned learned port target.sys target.comp)

-- a message goes out at a port: the port is one of the router's, it isn't the one that the message came in at, and
-- somebody whom it is for is behind it
abbrev pub goes_out : ℕ → Bool → ℕ → ℕ → Bool
goes_out ports behind own port = nat_le port ports && (not (port == own) && behind)

-- for each of the ports 1 to 8 whether a message that came in at `own` goes out there
abbrev pub ways_of : ℕ → List Learned → ℕ → Name → List Bool
ways_of ports learned own target =
    goes_out ports (is_behind learned 1 target) own 1 ∷ goes_out ports (is_behind learned 2 target) own 2
    ∷ goes_out ports (is_behind learned 3 target) own 3 ∷ goes_out ports (is_behind learned 4 target) own 4
    ∷ goes_out ports (is_behind learned 5 target) own 5 ∷ goes_out ports (is_behind learned 6 target) own 6
    ∷ goes_out ports (is_behind learned 7 target) own 7 ∷ goes_out ports (is_behind learned 8 target) own 8 ∷ []

-- no port
abbrev pub no_ways : List Bool
no_ways = false ∷ false ∷ false ∷ false ∷ false ∷ false ∷ false ∷ false ∷ []

-- the port is in the set
abbrev pub has_port : List Bool → ℕ → Bool
has_port ways port = get_or ways (port - 1) false

-- the ports in both sets
abbrev pub has_both : List Bool → List Bool → ℕ → Bool
has_both ways others port = has_port ways port && has_port others port

abbrev pub common_ways : List Bool → List Bool → List Bool
common_ways ways others =
    has_both ways others 1 ∷ has_both ways others 2 ∷ has_both ways others 3 ∷ has_both ways others 4
    ∷ has_both ways others 5 ∷ has_both ways others 6 ∷ has_both ways others 7 ∷ has_both ways others 8 ∷ []
