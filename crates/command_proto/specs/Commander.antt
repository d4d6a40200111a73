-- The station's side of the command protocol: one command at a time, given again until it is acknowledged (MAVLink
-- guide, Command Protocol).
use Rattle.std.specs.Prelude.{ℕ, ◌+◌, ◌==◌, Bool, if◌then◌else◌, ◌&&◌, ◌||◌, nat_lt, min, slice_index, Option, Some}
use Rattle.std.specs.Prelude.{None}
use Rattle.mav_names.specs.declared.names.Name.{Name}
use Rattle.mav_names.specs.declared.names.Stream.{Stream}
use Rattle.mav_names.specs.Addresses.{same_stream, same_name, everyone}
use Rattle.mav_messages.specs.declared.commands.CommandAck.{CommandAck}
use Rattle.mav_messages.specs.declared.messages.Message.{Message}
use Rattle.mav_messages.specs.declared.messages.Message.TheVariants.{CommandLong as Commands}
use Rattle.mav_messages.specs.declared.messages.Message.TheVariants.{CommandAck as Acknowledges}
pub use Rattle.command_proto.specs.declared.commands.Issue.{Issue}
use Rattle.command_proto.specs.Executor.{Command}

pub record CommanderState : Type 0 where
  pub me : Name
  pub issue : Option Issue

abbrev pub new_commander : Name → CommanderState
new_commander me = record { me = me; issue = None }

-- the ticks in a row after which a command is given up
abbrev pub idle_limit : ℕ
idle_limit = 5

-- how a command ends: with a result, or without an acknowledgement
pub data CommandEnd : Type 0 where
  Result : (result : ℕ) → CommandEnd
  No_answer : CommandEnd

pub record CommanderStep : Type 0 where
  pub commander : CommanderState
  pub answer : Option Message
  pub end : Option CommandEnd

-- COMMAND_LONG of an issue
abbrev pub command_message : Issue → Message
command_message i = Commands (record {
  target_system = i.drone.sys;
  target_component = i.drone.comp;
  command = i.command.number;
  confirmation = i.confirmation;
  param1 = slice_index i.command.params 0;
  param2 = slice_index i.command.params 1;
  param3 = slice_index i.command.params 2;
  param4 = slice_index i.command.params 3;
  param5 = slice_index i.command.params 4;
  param6 = slice_index i.command.params 5;
  param7 = slice_index i.command.params 6;
})

abbrev pub first_issue : Stream → Command → Issue
first_issue drone command = record { drone = drone; command = command; confirmation = 0; idle = 0 }

-- a command is given; none is while one is open
abbrev pub commands : CommanderState → Stream → Command → CommanderStep
commands c drone command = record {
  commander = record c { issue = Some (first_issue drone command) };
  answer = Some (command_message (first_issue drone command));
  end = None;
}

-- the number of the command that is open
abbrev pub number_in : Option Issue → Option ℕ
number_in None = None
number_in (Some i) = Some i.command.number

abbrev pub open_command : CommanderState → Option ℕ
open_command c = number_in c.issue

abbrev pub waits_on : CommanderState → CommanderStep
waits_on c = record { commander = c; answer = None; end = None }

-- an acknowledgement counts from the drone's stream, for the command that is open, and for this station or for
-- everyone
abbrev pub counts : Name → Issue → Stream → CommandAck → Bool
counts me i from m =
    same_stream i.drone from && ((m.command == i.command.number)
    && (same_name (record { sys = m.target_system; comp = m.target_component }) me
    || same_name (record { sys = m.target_system; comp = m.target_component }) everyone))

-- MAV_RESULT_IN_PROGRESS: the drone is still at it
abbrev pub acknowledged : CommanderState → Issue → ℕ → CommanderStep
acknowledged c i result =
    if result == 5 then waits_on (record c { issue = Some (record i { idle = 0 }) })
    else record { commander = record c { issue = None }; answer = None; end = Some (Result result) }

abbrev pub ack_comes : CommanderState → Option Issue → Stream → CommandAck → CommanderStep
ack_comes c None from m = waits_on c
ack_comes c (Some i) from m = if counts c.me i from m then acknowledged c i m.result else waits_on c

abbrev pub commander_step : CommanderState → Stream → Message → CommanderStep
commander_step c from (Acknowledges m) = ack_comes c c.issue from m
commander_step c from _ = waits_on c

-- a tick: the command is given again with a confirmation one higher, which stays at 255; at the fifth in a row it ends
abbrev pub given_again : Issue → Issue
given_again i = record i { confirmation = min (i.confirmation + 1) 255; idle = i.idle + 1 }

abbrev pub issue_ticks : CommanderState → Option Issue → CommanderStep
issue_ticks c None = waits_on c
issue_ticks c (Some i) =
    if nat_lt (i.idle + 1) idle_limit
    then record {
      commander = record c { issue = Some (given_again i) };
      answer = Some (command_message (given_again i));
      end = None;
    }
    else record { commander = record c { issue = None }; answer = None; end = Some No_answer }

abbrev pub commander_tick : CommanderState → CommanderStep
commander_tick c = issue_ticks c c.issue
