-- The messages of the profile, one by one.
use Rattle.std.proofs.Common.{arith}
use Rattle.std.specs.Prelude.{All}
use Rattle.field_layout.specs.Definition.{Definition}
use Rattle.mav_profile.specs.Profile.{profile_definitions, heartbeat_definition}
use Rattle.mav_messages.specs.declared.messages.Message.{Message}
use Rattle.mav_messages.specs.declared.messages.Message.TheVariants.{Heartbeat, Ping, ParamRequestRead, ParamRequestList, ParamValue, ParamSet, GlobalPositionInt, MissionCurrent, MissionRequestList, MissionCount, MissionClearAll, MissionItemReached, MissionAck, MissionRequestInt, MissionItemInt, CommandLong, CommandAck, FileTransferProtocol, Statustext}
use Rattle.mav_messages.specs.Messages.{definition_of}

-- what holds of each definition of the profile holds of each message's
pub profile_has : (P : Definition → Type 0) → All P profile_definitions → (message : Message) → P (definition_of message)
profile_has P all (Heartbeat m) = all 0 heartbeat_definition (omega arith)
profile_has P all (Ping m) = all 1 heartbeat_definition (omega arith)
profile_has P all (ParamRequestRead m) = all 2 heartbeat_definition (omega arith)
profile_has P all (ParamRequestList m) = all 3 heartbeat_definition (omega arith)
profile_has P all (ParamValue m) = all 4 heartbeat_definition (omega arith)
profile_has P all (ParamSet m) = all 5 heartbeat_definition (omega arith)
profile_has P all (GlobalPositionInt m) = all 6 heartbeat_definition (omega arith)
profile_has P all (MissionCurrent m) = all 7 heartbeat_definition (omega arith)
profile_has P all (MissionRequestList m) = all 8 heartbeat_definition (omega arith)
profile_has P all (MissionCount m) = all 9 heartbeat_definition (omega arith)
profile_has P all (MissionClearAll m) = all 10 heartbeat_definition (omega arith)
profile_has P all (MissionItemReached m) = all 11 heartbeat_definition (omega arith)
profile_has P all (MissionAck m) = all 12 heartbeat_definition (omega arith)
profile_has P all (MissionRequestInt m) = all 13 heartbeat_definition (omega arith)
profile_has P all (MissionItemInt m) = all 14 heartbeat_definition (omega arith)
profile_has P all (CommandLong m) = all 15 heartbeat_definition (omega arith)
profile_has P all (CommandAck m) = all 16 heartbeat_definition (omega arith)
profile_has P all (FileTransferProtocol m) = all 17 heartbeat_definition (omega arith)
profile_has P all (Statustext m) = all 18 heartbeat_definition (omega arith)
