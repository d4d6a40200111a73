-- Small scenarios, which show that the law speaks of something, and how long a flow must be.
use Rattle.std.specs.Prelude.{ℕ, ◌||◌, Bool, true, false, List, [], ◌∷◌, ◌++◌, codes, pos}
use Rattle.plan_items.specs.declared.items.Item.{Item}
use Rattle.plan_items.specs.declared.kinds.PlanKind.TheVariants.{Mission}
use Rattle.plan_upload.specs.Station.{Told, Told_installed, Told_not_installed, Told_unknown, Told_cleared, Told_got}
use Rattle.plan_upload.specs.Station.{Told_ended}
use Rattle.fleet_report.specs.Events.{Event, Sent, Installed, Emptied, Dropped, Missing, Restarted, Refused, Ended}
use Rattle.fleet_report.specs.Events.{Command_ended, Params_ended, Param_given, Command_refused, Params_refused}
use Rattle.fleet_report.specs.Events.{Reached, Captured, Located}
use Rattle.fleet_liveness.specs.Uncontended.{Lines, NextLine, Whole, Upload}

-- a drone, a station, and one item or two
abbrev pub one_item : List ℕ
one_item = codes "item 6 16 473977420 85455940"

abbrev pub two_items : List ℕ
two_items = codes "items 2 6 16 473977420 85455940"

abbrev pub newline : List ℕ
newline = 10 ∷ []

-- the upload of these items, with these bytes after the begin line
abbrev pub scenario : List ℕ → List ℕ → List ℕ
scenario items flow =
    codes "drone 1" ++ newline ++ codes "station 255 190" ++ newline ++ items ++ newline
    ++ codes "begin 255.190 1.1 mission" ++ newline ++ flow

-- the upload of one item with nine frames' flow, to a drone that has started again, after this line
abbrev pub again : List ℕ → List ℕ
again heard =
    codes "drone 1\nstation 255 190\nheartbeat 1.1\nrestart 1.1\n" ++ heard ++ newline ++ one_item ++ newline
    ++ codes "begin 255.190 1.1 mission\nflow 9\n"

-- its lines, if the station hears the drone since
abbrev pub again_lines : Lines
again_lines = record {
  front = codes "drone 1" ∷ codes "station 255 190" ∷ codes "heartbeat 1.1" ∷ codes "restart 1.1" ∷ codes "flow 5"
      ∷ one_item ∷ [];
  begin = codes "begin 255.190 1.1 mission";
  flow = Whole (codes "flow 9") [];
}

-- the lines of the upload of one item to a drone that has not
abbrev pub upload_lines : NextLine → Lines
upload_lines flow = record {
  front = codes "drone 1" ∷ codes "station 255 190" ∷ one_item ∷ [];
  begin = codes "begin 255.190 1.1 mission";
  flow = flow;
}

-- a waypoint in the frame GLOBAL_RELATIVE_ALT_INT
abbrev pub waypoint : Item
waypoint = record {
  frame = 6;
  command = 16;
  current = 0;
  autocontinue = 1;
  p = 0 ∷ 0 ∷ 0 ∷ 0 ∷ [];
  x = pos 473977420;
  y = pos 85455940;
  z = 0;
}

abbrev pub upload : Upload
upload = record {
  station = record { sys = 255; comp = 190 };
  drone = record { sys = 1; comp = 1 };
  kind = Mission;
  plan = waypoint ∷ [];
}

-- a key
abbrev pub some_key : List ℕ
some_key = 1 ∷ 2 ∷ 3 ∷ 4 ∷ 5 ∷ 6 ∷ 7 ∷ 8 ∷ 9 ∷ 10 ∷ 11 ∷ 12 ∷ 13 ∷ 14 ∷ 15 ∷ 16 ∷ 17 ∷ 18 ∷ 19 ∷ 20 ∷ 21 ∷ 22 ∷ 23 ∷ 24
    ∷ 25 ∷ 26 ∷ 27 ∷ 28 ∷ 29 ∷ 30 ∷ 31 ∷ 32 ∷ []

-- an outcome Installed is among the events
abbrev pub is_installed : Told → Bool
is_installed Told_installed = true
is_installed (Told_not_installed code) = false
is_installed Told_unknown = false
is_installed Told_cleared = false
is_installed (Told_got items) = false
is_installed (Told_ended code) = false

abbrev pub acknowledges : List Event → Bool
acknowledges [] = false
acknowledges (Sent number packet message ∷ es) = acknowledges es
acknowledges (Installed drone kind items by ∷ es) = acknowledges es
acknowledges (Emptied drone kind ∷ es) = acknowledges es
acknowledges (Dropped node answer ∷ es) = acknowledges es
acknowledges (Missing number ∷ es) = acknowledges es
acknowledges (Restarted drone ∷ es) = acknowledges es
acknowledges (Refused station why ∷ es) = acknowledges es
acknowledges (Ended station told ∷ es) = is_installed told || acknowledges es
acknowledges (Command_ended station result ∷ es) = acknowledges es
acknowledges (Params_ended station values ∷ es) = acknowledges es
acknowledges (Param_given station param ∷ es) = acknowledges es
acknowledges (Command_refused station ∷ es) = acknowledges es
acknowledges (Params_refused station ∷ es) = acknowledges es
acknowledges (Reached drone number ∷ es) = acknowledges es
acknowledges (Captured drone total ∷ es) = acknowledges es
acknowledges (Located drone x y captures ∷ es) = acknowledges es
