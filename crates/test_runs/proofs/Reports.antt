-- Texts that are known from the report's description, computed from the definitions. The frame's checksum was computed
-- by another program.
use Rattle.std.proofs.Common.{◌≡◌, [], ◌∷◌, codes, None, true, false, pos, neg_ℤ, refl}
use Rattle.std.specs.Fmt.{digits}
use Rattle.hex.specs.Hex.{encode_with}
use Rattle.mav_names.specs.declared.names.Name.{Name}
use Rattle.plan_items.specs.declared.items.Item.{Item}
use Rattle.plan_items.specs.declared.messages.PlanMsg.TheVariants.{Count}
use Rattle.plan_upload.specs.declared.faults.OpFault.TheVariants.{Busy}
use Rattle.plan_upload.specs.Station.{Told_not_installed}
use Rattle.mav_frame.specs.Packet.{Packet}
use Rattle.mav_messages.specs.declared.messages.Message.{Message}
use Rattle.mav_messages.specs.declared.messages.Message.TheVariants.{Heartbeat, CommandAck}
use Rattle.mav_messages.specs.Plans.{message_of_plan}
use Rattle.mav_nodes.specs.Signed.{sealed_packet}
use Rattle.mav_sign.specs.declared.admission.Admit.TheVariants.{NotLater}
use Rattle.fleet_report.specs.Events.{Sent, Installed, Emptied, Dropped, Missing, Refused, Ended, events_text, plan_text}
use Rattle.x25_check.specs.Check as check

abbrev drone : Name
drone = record { sys = 1; comp = 1 }

abbrev station : Name
station = record { sys = 255; comp = 190 }

-- HEARTBEAT of a drone at rest, with sequence number 7, without a signature
abbrev frame : Packet
frame = sealed_packet ((0, 50) ∷ []) (record { old = false; compat = 0; seq = 7; from = drone; id = 0; payload = 0 ∷ 0 ∷ 0 ∷ 0 ∷ 2 ∷ 0 ∷ 0 ∷ 4 ∷ 3 ∷ []; check = 0; block = None })

abbrev heartbeat : Message
heartbeat = Heartbeat (record { ty = 2; autopilot = 0; base_mode = 0; custom_mode = 0; system_status = 4; mavlink_version = 3 })

abbrev acknowledgement : Message
acknowledgement = CommandAck (record { command = 400; result = 0; progress = 0; result_param2 = pos 0; target_system = 255; target_component = 190 })

pub frames_are_reported_whole :
    events_text true (Sent 1 frame heartbeat ∷ [])
    ≡ codes "1 1.1 HEARTBEAT\n fd090000070101000000000000000200000403c578\n"
unfolding digits encode_with check.after_byte
frames_are_reported_whole = refl

pub messages_are_reported_with_their_targets :
    events_text false (
    Sent 2 frame acknowledgement
    ∷ Sent 3 frame (message_of_plan (Count station 3 255))
    ∷ Dropped station (NotLater 9)
    ∷ Missing 12
    ∷ []
    )
    ≡ codes "2 1.1 COMMAND_ACK to 255.190\n3 1.1 COUNT all 3 to 255.190\ndrop 255.190 3\nno frame 12\n"
unfolding digits
messages_are_reported_with_their_targets = refl

abbrev vertex : Item
vertex = record { frame = 0; command = 5001; current = 0; autocontinue = 1; p = 0x40400000 ∷ 0 ∷ 0 ∷ 0x7fc000ab ∷ []; x = neg_ℤ (pos 100); y = pos 0; z = 0xbf800000 }

pub changes_and_ends_are_reported :
    events_text true (
    Installed drone 0 (vertex ∷ []) station
    ∷ Emptied drone 2
    ∷ Refused station (Busy 1)
    ∷ Ended station (Told_not_installed 14)
    ∷ []
    )
    ≡ codes "install 1.1 mission 1 from 255.190\nclear 1.1 rally\nrefused 255.190 busy 1\noutcome 255.190 not installed 14\n"
unfolding digits
changes_and_ends_are_reported = refl

-- words of items are eight digits
pub plans_are_reported : plan_text drone 1 (vertex ∷ []) ≡ codes "plan 1.1 fence 1\n0 0 5001 0 1 40400000 00000000 00000000 7fc000ab -100 0 bf800000\n"
unfolding digits encode_with
plans_are_reported = refl
