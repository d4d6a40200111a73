-- A scenario that uploads one item, its report as a person would write it down, and what the theorem says of it.
use Rattle.std.specs.Prelude.{ℕ, true, List, [], ◌∷◌, codes, pos}
use Rattle.mav_names.specs.declared.names.Name.{Name}
use Rattle.plan_items.specs.declared.items.Item.{Item}
use Rattle.plan_upload.specs.Station.{Told_installed}
use Rattle.plan_safety.specs.World.{Nodes}
use Rattle.fleet_world.specs.Scenario.{played}
use Rattle.fleet_safety.specs.Actions.{actions_of}
use Rattle.fleet_safety.specs.Safe.{nodes_of, Safe}
use Rattle.fleet_safety.specs.Meaning.{OutcomeIsTrue, InstallIsTrue}

abbrev pub one_item : List ℕ
one_item = codes "drone 1\nstation 255 190\nitem 6 16 473977420 85455940\nbegin 255.190 1.1 mission\nflow 20\n"

-- the station's upload is installed and acknowledged
abbrev pub one_item_installed : List ℕ
one_item_installed = codes "1 255.190 PING 1 to 0.0\n2 1.1 PING 1 to 255.190\n3 255.190 ACK 15 mission to 1.1\n4 1.1 ACK 1 mission to 255.190\n5 255.190 COUNT mission 1 to 1.1\n6 1.1 REQUEST mission 0 to 255.190\n7 255.190 ITEM mission 0 to 1.1\ninstall 1.1 mission 1 from 255.190\n8 1.1 ACK 0 mission to 255.190\noutcome 255.190 installed\nplan 1.1 mission 1\n0 6 16 0 1 00000000 00000000 00000000 00000000 473977420 85455940 00000000\nplan 1.1 fence 0\nplan 1.1 rally 0\n"

-- the key if none is given
abbrev pub the_key : List ℕ
the_key = 0 ∷ 1 ∷ 2 ∷ 3 ∷ 4 ∷ 5 ∷ 6 ∷ 7 ∷ 8 ∷ 9 ∷ 10 ∷ 11 ∷ 12 ∷ 13 ∷ 14 ∷ 15 ∷ 16 ∷ 17 ∷ 18 ∷ 19 ∷ 20 ∷ 21 ∷ 22 ∷ 23
    ∷ 24 ∷ 25 ∷ 26 ∷ 27 ∷ 28 ∷ 29 ∷ 30 ∷ 31 ∷ []

abbrev pub the_drone : Name
the_drone = record { sys = 1; comp = 1 }

abbrev pub the_station : Name
the_station = record { sys = 255; comp = 190 }

-- a waypoint in the frame GLOBAL_RELATIVE_ALT_INT
abbrev pub the_plan : List Item
the_plan = record {
  frame = 6;
  command = 16;
  current = 0;
  autocontinue = 1;
  p = 0 ∷ 0 ∷ 0 ∷ 0 ∷ [];
  x = pos 473977420;
  y = pos 85455940;
  z = 0;
} ∷ []

-- the nodes that it names
abbrev pub one_fleet : Nodes
one_fleet = nodes_of (played the_key true one_item).state.nodes

-- that plan was installed, once, from a fully transmitted upload of that station; and the report's line that says so
-- is true
pub record IsInstalledOnce : Type 0 where
  pub safe : Safe the_key one_item (played the_key true one_item) (actions_of the_key true one_item)
  pub installed : InstallIsTrue one_fleet (actions_of the_key true one_item) 7 the_drone 0 the_plan the_station
  pub reported : OutcomeIsTrue one_fleet (actions_of the_key true one_item) 9 the_station Told_installed
