-- A drone and a station in the middle of an upload, by computation.
use Rattle.std.specs.Prelude.{true, false, [], ◌∷◌, pos, negsuc, Some, None}
use Rattle.mav_names.specs.declared.names.Stream.{Stream}
use Rattle.plan_items.specs.declared.items.Item.{Item}
use Rattle.plan_items.specs.declared.messages.PlanMsg.{PlanMsg}
use Rattle.plan_items.specs.declared.messages.PlanMsg.TheVariants.{Item as Give}
use Rattle.plan_upload.specs.Addresses.{node_of}
use Rattle.plan_upload.specs.Plans.{no_plans}
use Rattle.plan_upload.specs.Drone.{DroneState}
use Rattle.plan_upload.specs.Station.{StationState, Uploads, Sending}

abbrev pub drone_255 : Stream
drone_255 = record { sys = 255; comp = 1; link = 255 }

abbrev pub station_254 : Stream
station_254 = record { sys = 254; comp = 255; link = 0 }

-- an item with the greatest and the least numbers that a message carries
abbrev pub widest_item : Item
widest_item = record {
  frame = 255;
  command = 65535;
  current = 255;
  autocontinue = 255;
  p = 4294967295 ∷ 0 ∷ 4294967295 ∷ 0 ∷ [];
  x = pos 2147483647;
  y = negsuc 2147483647;
  z = 4294967295;
}

abbrev pub widest_message : PlanMsg
widest_message = Give (node_of drone_255) 65535 255 widest_item

-- a drone that waits for the second of two items
abbrev pub uploading_drone : DroneState
uploading_drone = record {
  sys = 255;
  plans = no_plans;
  upload = Some (record { stream = station_254; kind = 0; total = 2; items = widest_item ∷ []; idle = 0 });
  download = None;
  results = [];
  installs = 0;
}

-- a station that has one PING number left, and sends a plan of two items
abbrev pub uploading_station : StationState
uploading_station = record {
  me = node_of station_254;
  boot = 18446744073709551615;
  pings = 4294967294;
  synced = drone_255 ∷ [];
  operation = Some (record {
    work = Uploads;
    drone = drone_255;
    kind = 0;
    plan = widest_item ∷ widest_item ∷ [];
    phase = Sending;
    idle = 0;
    terminating = false;
    asked = true;
    final_sent = false;
    code = None;
    number = None;
    total = 0;
    got = [];
  });
  outcome = None;
}
