-- The lines that a world may be asked to do: names known in their role, numbers in their ranges, and
-- nothing known of the world against them.
use Rattle.std.specs.Prelude.{◌≡◌, ◌≤◌, IsTrue, None, length}
use Rattle.scenario_lines.specs.declared.lines.Line.{Line}
use Rattle.scenario_lines.specs.declared.lines.Line.TheVariants.{Blank, Drone, Station, Item as OneItem, Items, Empty}
use Rattle.scenario_lines.specs.declared.lines.Line.TheVariants.{Begin, Cancel, Clear, Get, Command, Params, Heartbeat}
use Rattle.scenario_lines.specs.declared.lines.Line.TheVariants.{Deliver, Flow, Noise, Tick, Clock, Restart, Sim}
use Rattle.scenario_lines.specs.declared.lines.Line.TheVariants.{WhereIs}
use Rattle.scenario_lines.specs.LineContext.{LineContext, has_name, has_drone, has_station}
use Rattle.scenario_lines.specs.Grammar.{most_sim_ticks}
use Rattle.scenario_lines.specs.Reasons.{state_reason}

-- the ranges of a line's numbers, and its names
abbrev pub IsInRange : LineContext → Line → Type 0
IsInRange s Blank = Unit {0}
IsInRange s (Drone sys x y) = 1 ≤ sys
IsInRange s (Station sys comp) = (1 ≤ sys) × (1 ≤ comp)
IsInRange s (OneItem item) = Unit {0}
IsInRange s (Items n first) = (1 ≤ n) × (n ≤ 2000)
IsInRange s Empty = Unit {0}
IsInRange s (Begin station drone kind) = IsTrue (has_station s.nodes station) × IsTrue (has_drone s.nodes drone)
IsInRange s (Cancel station) = IsTrue (has_station s.nodes station)
IsInRange s (Clear station drone kind) = IsTrue (has_station s.nodes station) × IsTrue (has_drone s.nodes drone)
IsInRange s (Get station drone kind) = IsTrue (has_station s.nodes station) × IsTrue (has_drone s.nodes drone)
IsInRange s (Command station drone number word) = IsTrue (has_station s.nodes station)
    × IsTrue (has_drone s.nodes drone)
IsInRange s (Params station drone) = IsTrue (has_station s.nodes station) × IsTrue (has_drone s.nodes drone)
IsInRange s (Heartbeat node) = IsTrue (has_name s.nodes node)
IsInRange s (Deliver i node) = (1 ≤ i) × IsTrue (has_name s.nodes node)
IsInRange s (Flow k) = Unit {0}
IsInRange s (Noise node bytes) = IsTrue (has_name s.nodes node) × (1 ≤ length bytes)
IsInRange s (Tick node) = IsTrue (has_name s.nodes node)
IsInRange s (Clock n) = Unit {0}
IsInRange s (Restart drone) = IsTrue (has_drone s.nodes drone)
IsInRange s (Sim drone n) = IsTrue (has_drone s.nodes drone) × (1 ≤ n) × (n ≤ most_sim_ticks)
IsInRange s (WhereIs drone) = IsTrue (has_drone s.nodes drone)

abbrev pub IsPermitted : LineContext → Line → Type 0
IsPermitted s line = IsInRange s line × (state_reason s line ≡ None)

-- the lines of a file of items
abbrev pub IsOfItems : Line → Type 0
IsOfItems Blank = Unit {0}
IsOfItems (OneItem item) = Unit {0}
IsOfItems (Items n first) = Unit {0}
IsOfItems (Drone sys x y) = ⊥
IsOfItems (Station sys comp) = ⊥
IsOfItems Empty = ⊥
IsOfItems (Begin station drone kind) = ⊥
IsOfItems (Cancel station) = ⊥
IsOfItems (Clear station drone kind) = ⊥
IsOfItems (Get station drone kind) = ⊥
IsOfItems (Command station drone number word) = ⊥
IsOfItems (Params station drone) = ⊥
IsOfItems (Heartbeat node) = ⊥
IsOfItems (Deliver i node) = ⊥
IsOfItems (Flow k) = ⊥
IsOfItems (Noise node bytes) = ⊥
IsOfItems (Tick node) = ⊥
IsOfItems (Clock n) = ⊥
IsOfItems (Restart drone) = ⊥
IsOfItems (Sim drone n) = ⊥
IsOfItems (WhereIs drone) = ⊥
