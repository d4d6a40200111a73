-- What contracts see of a drone.
use Rattle.plan_upload.specs.Drone.{DroneState}
use Rattle.plan_upload.specs.declared.drone.Drone.TheInside.{Inside}

abbrev pub drone_view : Inside → DroneState
drone_view d = record {
  sys = d.sys;
  plans = d.plans;
  upload = d.upload;
  download = d.download;
  results = d.results;
  installs = d.installs;
}
