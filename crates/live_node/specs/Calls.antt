-- What a live node does at its calls. Each is one of a node of a scenario, with the clock's answer at that moment.
use Rattle.std.specs.Prelude.{ℕ, ◌≡◌, Bool, List, [], ◌∷◌, Option, IfSome}
use Rattle.mav_ports.specs.Counts.{next_count}
use Rattle.mav_frame.specs.Packet.{Packet}
use Rattle.mav_nodes.specs.declared.orders.Order.{Order}
use Rattle.mav_nodes.specs.Links.{Outcome, done, and_then}
use Rattle.mav_nodes.specs.Steps.{hears_all, hears_keeping}
use Rattle.mav_nodes.specs.Nodes.{drone_rules_keeping, station_rules, station_obeys}
use Rattle.node_reports.specs.Nodes.{Node, Drone, Station}
use Rattle.node_reports.specs.Calls.{as_drone, as_station, node_ticks, node_beats, node_flies}

pub data LiveCall : Type 0 where
  -- frames, one after another; `keeps` says for each whether a drone's store keeps what the frame changes
  Hears : (packets : List Packet) (keeps : List Bool) (clock : ℕ) → LiveCall
  Ticks : (clock : ℕ) → LiveCall
  -- HEARTBEAT is sent
  Beats : (clock : ℕ) → LiveCall
  -- a tick of a drone's simulator; a station does nothing
  Flies : (clock : ℕ) → LiveCall
  -- a station follows an order
  Obeys : (order : Order) (clock : ℕ) → LiveCall

-- the CRC_EXTRA bytes of the messages that a node knows
abbrev pub extras_at : Node → List (ℕ × ℕ)
extras_at (Drone n) = n.link.extras
extras_at (Station n) = n.link.extras

abbrev pub node_hears : ℕ → List Bool → List Packet → Node → Outcome Node
node_hears clock keeps packets (Drone n) = as_drone (hears_keeping drone_rules_keeping clock keeps packets n)
node_hears clock keeps packets (Station n) = as_station (hears_all station_rules clock packets n)

abbrev pub node_obeys : ℕ → Order → Node → Outcome Node
node_obeys clock order (Drone n) = done (Drone n) []
node_obeys clock order (Station n) = as_station (station_obeys clock order n)

abbrev pub call_does : LiveCall → Node → Outcome Node
call_does (Hears packets keeps clock) node = node_hears clock keeps packets node
call_does (Ticks clock) node = node_ticks clock node
call_does (Beats clock) node = node_beats clock node
call_does (Flies clock) node = node_flies clock node
call_does (Obeys order clock) node = node_obeys clock order node

-- calls, one after another
abbrev pub calls_do : List LiveCall → Node → Outcome Node
calls_do [] node = done node []
calls_do (call ∷ calls) node = and_then (call_does call node) (calls_do calls)

-- whether the store kept what the frames of a call changed
abbrev pub keeps_in : LiveCall → List Bool
keeps_in (Hears packets keeps clock) = keeps
keeps_in (Ticks clock) = []
keeps_in (Beats clock) = []
keeps_in (Flies clock) = []
keeps_in (Obeys order clock) = []

-- what the clock returned at a call
abbrev pub call_time : LiveCall → ℕ
call_time (Hears packets keeps clock) = clock
call_time (Ticks clock) = clock
call_time (Beats clock) = clock
call_time (Flies clock) = clock
call_time (Obeys order clock) = clock

-- a clock that always returns one time, if it is known to, returned it here
abbrev pub IsTime : Option ℕ → ℕ → Type 0
IsTime time at = IfSome time (λ known. at ≡ known)

-- and at each of these calls
abbrev pub AreTimed : Option ℕ → List LiveCall → Type 0
AreTimed time [] = Unit {0}
AreTimed time (call ∷ calls) = IsTime time (call_time call) × AreTimed time calls

-- how many ticks there were after a call, and after calls; the count stands still at 2^64 - 1
abbrev pub ticks_with : ℕ → LiveCall → ℕ
ticks_with before (Ticks clock) = next_count before
ticks_with before (Hears packets keeps clock) = before
ticks_with before (Beats clock) = before
ticks_with before (Flies clock) = before
ticks_with before (Obeys order clock) = before

abbrev pub ticks_over : ℕ → List LiveCall → ℕ
ticks_over before [] = before
ticks_over before (call ∷ calls) = ticks_over (ticks_with before call) calls
