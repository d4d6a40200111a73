-- What an execution of the world of messages reports, against the report of the scenario that it is an execution of: an upload
-- of one item, by both definitions.
use Rattle.std.proofs.Common.{◌≡◌, true, List, [], ◌∷◌, codes, refl}
use Rattle.hex.specs.Hex.{decode_pairs}
use Rattle.sha2.specs.Sha256.{first_words, schedule, rounds, compress, hash_after, digest_bytes, sha256}
use Rattle.x25_check.specs.Check as check
use Rattle.mav_names.specs.declared.names.Name.{Name}
use Rattle.plan_items.specs.Validation.{item_fault, whole_fault, plan_fault}
use Rattle.plan_items.specs.declared.messages.PlanMsg.TheVariants.{Count, Request, Item as Give, Ack, Ping}
use Rattle.plan_upload.specs.Addresses.{everyone}
use Rattle.plan_upload.specs.Station.{Told_installed}
use Rattle.plan_safety.specs.World.{first_world}
use Rattle.plan_safety.specs.Examples.{small_fleet, station_a, waypoint, one_waypoint, upload_of_one}
use Rattle.fleet_world.specs.Scenario.{played}
use Rattle.fleet_safety.specs.Reporting.{ProtocolEvent, Sent, Installed, Ended, seen, reported}
use Rattle.test_fleet.specs.Scenarios.{the_key, text}

abbrev drone : Name
drone = record { sys = 7; comp = 1 }

abbrev station : Name
station = record { sys = 255; comp = 190 }

-- the protocol's lines of the report, from the protocol's tables
abbrev protocol_lines : List ProtocolEvent
protocol_lines =
    Sent 1 station (Ping everyone 0 1)
    ∷ Sent 2 drone (Ping station 0 1)
    ∷ Sent 3 station (Ack drone 15 0)
    ∷ Sent 4 drone (Ack station 1 0)
    ∷ Sent 5 station (Count drone 1 0)
    ∷ Sent 6 drone (Request station 0 0)
    ∷ Sent 7 station (Give drone 0 0 (waypoint 3))
    ∷ Installed drone 0 one_waypoint station
    ∷ Sent 8 drone (Ack station 0 0)
    ∷ Ended station Told_installed
    ∷ []

-- the execution: the upload begins, and each newest frame comes to its addressee
pub an_execution_reports : reported small_fleet (first_world (record { boot = λ s. 0; pings = λ s. 0 })) (upload_of_one station_a) ≡ protocol_lines
unfolding item_fault whole_fault plan_fault
an_execution_reports = refl

-- the scenario
pub a_report_has :
    seen (played the_key true (text (codes "drone 7" ∷ codes "station 255 190" ∷ codes "item 5 16 0 0 00000003" ∷ codes "begin 255.190 7.1 mission" ∷ codes "flow 20" ∷ []))).events ≡ protocol_lines
unfolding item_fault whole_fault plan_fault decode_pairs first_words schedule rounds compress hash_after digest_bytes sha256 check.after_byte
a_report_has = refl
