-- The drone's side of the command protocol: what it does at a COMMAND_LONG of a stream (MAVLink guide, Command
-- Protocol). Which commands it knows, and what it denies, is this project's profile.
use Rattle.std.specs.Prelude.{ℕ, ◌==◌, Bool, false, if◌then◌else◌, ◌&&◌, not, nat_lt, List, [], ◌∷◌, length, pos}
use Rattle.std.specs.Prelude.{Option, Some, None}
use Rattle.std.specs.Str.{bytes_eq}
use Rattle.mav_names.specs.declared.names.Name.{Name}
use Rattle.mav_names.specs.declared.names.Stream.{Stream}
use Rattle.mav_names.specs.Addresses.{same_stream, is_for_node}
use Rattle.plan_items.specs.declared.actions.Action.{Action}
use Rattle.plan_items.specs.declared.actions.Action.TheVariants.{Arm, Disarm, Start, Return}
use Rattle.mav_messages.specs.declared.commands.CommandLong.{CommandLong}
use Rattle.mav_messages.specs.declared.messages.Message.{Message}
use Rattle.mav_messages.specs.declared.messages.Message.TheVariants.{CommandLong as Commands}
use Rattle.mav_messages.specs.declared.messages.Message.TheVariants.{CommandAck as Acknowledges}
pub use Rattle.command_proto.specs.declared.commands.Command.{Command}
pub use Rattle.command_proto.specs.declared.commands.LastCommand.{LastCommand}
pub use Rattle.command_proto.specs.declared.verdicts.Verdict.{Verdict}
use Rattle.command_proto.specs.declared.executor.Ready.{Ready}

pub record ExecutorState : Type 0 where
  pub me : Name
  pub last : List LastCommand

abbrev pub new_executor : Name → ExecutorState
new_executor me = record { me = me; last = [] }

-- what it does at a message: the drone's action, if the command has one; whether the command was done, or the result
-- of the same command given again; and the acknowledgement, if the message is a command for this node
pub record ExecutorStep : Type 0 where
  pub executor : ExecutorState
  pub answer : Option Message
  pub action : Option Action
  pub done : Option Command

-- the most streams of which a last command is kept
abbrev pub most_streams : ℕ
most_streams = 256

-- the command of a message
abbrev pub command_in : CommandLong → Command
command_in m = record {
  number = m.command;
  params = m.param1 ∷ m.param2 ∷ m.param3 ∷ m.param4 ∷ m.param5 ∷ m.param6 ∷ m.param7 ∷ [];
}

abbrev pub same_command : Command → Command → Bool
same_command a b = (a.number == b.number) && bytes_eq a.params b.params

-- the last command of a stream, if one is kept
abbrev pub last_in : List LastCommand → Stream → Option LastCommand
last_in [] s = None
last_in (l ∷ ls) s = if same_stream l.stream s then Some l else last_in ls s

-- those with the one of a stream replaced, or added after the others
abbrev pub with_last : List LastCommand → LastCommand → List LastCommand
with_last [] new = new ∷ []
with_last (l ∷ ls) new = if same_stream l.stream new.stream then new ∷ ls else l ∷ with_last ls new

abbrev pub accepts : Action → Verdict
accepts action = record { result = 0; action = Some action }

-- MAV_RESULT_TEMPORARILY_REJECTED, DENIED, UNSUPPORTED
abbrev pub refuses : ℕ → Verdict
refuses result = record { result = result; action = None }

-- MAV_CMD_COMPONENT_ARM_DISARM: its first parameter is the word of 1 or of 0
abbrev pub arms : ℕ → Verdict
arms word =
    if word == 0x3F800000 then accepts Arm
    else if word == 0 then accepts Disarm
    else refuses 2

-- MAV_CMD_COMPONENT_ARM_DISARM, MAV_CMD_MISSION_START and MAV_CMD_NAV_RETURN_TO_LAUNCH
abbrev pub verdict_on : CommandLong → Ready → Verdict
verdict_on m ready =
    if m.command == 400 then arms m.param1
    else if m.command == 300 then (if ready.armed && ready.planned then accepts Start else refuses 2)
    else if m.command == 20 then (if ready.armed then accepts Return else refuses 2)
    else refuses 3

-- the acknowledgement names the sender as its target
abbrev pub acknowledges : Stream → ℕ → ℕ → Message
acknowledges to number result = Acknowledges (record {
  command = number;
  result = result;
  progress = 0;
  result_param2 = pos 0;
  target_system = to.sys;
  target_component = to.comp;
})

-- nothing: the message is no command for this node
abbrev pub ignores : ExecutorState → ExecutorStep
ignores e = record { executor = e; answer = None; action = None; done = None }

-- no last command is kept for the stream, and no further one can be
abbrev pub has_no_room : Option LastCommand → List LastCommand → Bool
has_no_room None last = not (nat_lt (length last) most_streams)
has_no_room (Some l) last = false

-- the command is done, and its result is kept
abbrev pub does : ExecutorState → Stream → CommandLong → Verdict → ExecutorStep
does e from m v = record {
  executor = record e {
    last = with_last e.last
        (record { stream = from; command = command_in m; result = v.result });
  };
  answer = Some (acknowledges from m.command v.result);
  action = v.action;
  done = Some (command_in m);
}

-- it was done before: a repetition has a confirmation above 0, and is the same command
abbrev pub repeats : CommandLong → Option LastCommand → Bool
repeats m None = false
repeats m (Some l) = nat_lt 0 m.confirmation && same_command l.command (command_in m)

-- a repetition is acknowledged with the result that is kept, and nothing is done again
abbrev pub kept_result : Option LastCommand → ℕ
kept_result None = 0
kept_result (Some l) = l.result

abbrev pub command_comes : ExecutorState → Stream → CommandLong → Ready → ExecutorStep
command_comes e from m ready =
    if repeats m (last_in e.last from) then record {
      executor = e;
      answer = Some (acknowledges from m.command (kept_result (last_in e.last from)));
      action = None;
      done = None;
    }
    else if has_no_room (last_in e.last from) e.last then record {
      executor = e;
      answer = Some (acknowledges from m.command 1);
      action = None;
      done = None;
    }
    else does e from m (verdict_on m ready)

-- a message of a stream
abbrev pub executor_step : ExecutorState → Stream → Message → Ready → ExecutorStep
executor_step e from (Commands m) ready =
    if is_for_node e.me (record { sys = m.target_system; comp = m.target_component }) then command_comes e from m ready
    else ignores e
executor_step e from _ ready = ignores e
