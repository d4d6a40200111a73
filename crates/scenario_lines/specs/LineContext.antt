-- What is known of the world that a line is read for.
use Rattle.std.specs.Prelude.{ℕ, ◌&&◌, Bool, true, false, List}
use Rattle.std.specs.List.{list_any}
use Rattle.mav_names.specs.declared.names.Name.{Name}
use Rattle.mav_names.specs.Addresses.{same_name}
use Rattle.scenario_lines.specs.declared.naming.Role.{Role}
use Rattle.scenario_lines.specs.declared.naming.Role.TheVariants.{Drone, Station}
use Rattle.scenario_lines.specs.declared.naming.Named.{Named}

pub record LineContext : Type 0 where
  pub nodes : List Named  -- in the order in which they were named
  pub drafted : ℕ  -- how many items the draft has
  pub clock : ℕ  -- in units of 10 microseconds

abbrev pub context_of : List Named → ℕ → ℕ → LineContext
context_of nodes drafted clock = record { nodes = nodes; drafted = drafted; clock = clock }

abbrev pub same_role : Role → Role → Bool
same_role Drone Drone = true
same_role Drone Station = false
same_role Station Drone = false
same_role Station Station = true

-- a node of this name, in any role and in this one
abbrev pub is_called : Name → Named → Bool
is_called name n = same_name n.name name

abbrev pub is_in_role : Role → Name → Named → Bool
is_in_role role name n = same_role n.role role && same_name n.name name

-- a node of this name was named before, a drone, a station
abbrev pub has_name : List Named → Name → Bool
has_name nodes name = list_any (is_called name) nodes

abbrev pub has_drone : List Named → Name → Bool
has_drone nodes name = list_any (is_in_role Drone name) nodes

abbrev pub has_station : List Named → Name → Bool
has_station nodes name = list_any (is_in_role Station name) nodes
