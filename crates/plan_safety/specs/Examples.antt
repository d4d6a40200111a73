-- Executions of small fleets, which show that the laws speak of something.
use Rattle.std.specs.Prelude.{ℕ, ◌||◌, true, List, [], ◌∷◌, ◌++◌, pos}
use Rattle.mav_names.specs.declared.names.Stream.{Stream}
use Rattle.plan_items.specs.declared.items.Item.{Item}
use Rattle.plan_items.specs.declared.kinds.PlanKind.TheVariants.{Mission}
use Rattle.plan_upload.specs.Addresses.{same_stream}
use Rattle.plan_safety.specs.World.{Nodes, World, Event, Begins, Gets, Cancels, To_drone, To_station, Station_waits}
use Rattle.plan_safety.specs.World.{Restarts, first_world}

-- a drone and two stations
abbrev pub drone_7 : Stream
drone_7 = record { sys = 7; comp = 1; link = 0 }

abbrev pub station_a : Stream
station_a = record { sys = 255; comp = 190; link = 0 }

abbrev pub station_b : Stream
station_b = record { sys = 254; comp = 190; link = 0 }

abbrev pub small_fleet : Nodes
small_fleet = record {
  is_drone = λ n. same_stream n drone_7;
  is_station = λ n. same_stream n station_a
      || same_stream n station_b;
}

-- both stations start with the PING numbers up to 4 used
abbrev pub small_start : World
small_start = first_world (record { boot = λ s. 1; pings = λ s. 4 })

-- a waypoint at this altitude word, in the frame GLOBAL_INT
abbrev pub waypoint : ℕ → Item
waypoint z = record {
  frame = 5;
  command = 16;
  current = 0;
  autocontinue = 1;
  p = 0 ∷ 0 ∷ 0 ∷ 0 ∷ [];
  x = pos 0;
  y = pos 0;
  z = z;
}

abbrev pub two_waypoints : List Item
two_waypoints = waypoint 1 ∷ waypoint 2 ∷ []

abbrev pub one_waypoint : List Item
one_waypoint = waypoint 3 ∷ []

-- the newest frame comes to the drone, and then its answer to the station
abbrev pub exchange : Stream → List Event
exchange station = To_drone 0 drone_7 true ∷ To_station 0 station ∷ []

-- a resynchronisation: a PING and its reply, a cancel and its answer
abbrev pub resynchronisation : Stream → List Event
resynchronisation station = exchange station ++ exchange station

-- an upload whose last item has just been delivered: its acknowledgement is on its way
abbrev pub upload_of_two : Stream → List Event
upload_of_two station =
    Begins station drone_7 Mission two_waypoints ∷ resynchronisation station ++ exchange station ++ exchange station
    ++ To_drone 0 drone_7 true ∷ []

-- one whose last item is still on its way
abbrev pub upload_nearly : Stream → List Event
upload_nearly station =
    Begins station drone_7 Mission two_waypoints ∷ resynchronisation station ++ exchange station ++ exchange station

-- the acknowledgement comes to the station
abbrev pub upload_reported : Stream → List Event
upload_reported station = upload_of_two station ++ To_station 0 station ∷ []

-- the drone starts again with a low bound of 50, the station's clock passes that, and it resynchronises
abbrev pub restart_and_cancel : Stream → List Event
restart_and_cancel station = Restarts drone_7 50 ∷ Station_waits station 60 ∷ Cancels station
    ∷ resynchronisation station

-- a download of the two waypoints
abbrev pub download_of_two : Stream → List Event
download_of_two station =
    upload_reported station ++ Gets station drone_7 Mission ∷ exchange station ++ exchange station ++ exchange station

-- an upload of one waypoint, and its acknowledgement
abbrev pub upload_of_one : Stream → List Event
upload_of_one station =
    Begins station drone_7 Mission one_waypoint ∷ resynchronisation station ++ exchange station ++ exchange station

-- an upload of a station that is synchronised already
abbrev pub upload_again : Stream → List Event
upload_again station = Begins station drone_7 Mission two_waypoints ∷ exchange station ++ exchange station
    ++ exchange station

-- the first station uploads, the second replaces that plan, and the first uploads again
abbrev pub two_stations : List Event
two_stations = upload_reported station_a ++ upload_of_one station_b ++ upload_again station_a
