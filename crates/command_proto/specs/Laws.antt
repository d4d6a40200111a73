-- What the laws of this crate speak of: the ranges of what both sides keep and send (MAVLink common messages,
-- COMMAND_LONG and COMMAND_ACK), and which commands were done in a whole run.
use Rattle.std.specs.Prelude.{◌≡◌, ◌<◌, ◌≤◌, ◌^◌, if◌then◌else◌, List, [], ◌∷◌, map, length, All, Option, Some, None}
use Rattle.std.specs.Prelude.{IfSome}
use Rattle.std.specs.List.{IsDistinct}
use Rattle.field_layout.specs.Payload.{FitsLayout}
use Rattle.mav_names.specs.declared.names.Name.{Name}
use Rattle.mav_names.specs.declared.names.Stream.{Stream}
use Rattle.mav_names.specs.Addresses.{same_stream}
use Rattle.mav_messages.specs.declared.commands.CommandLong.{CommandLong}
use Rattle.mav_messages.specs.declared.messages.Message.{Message}
use Rattle.mav_messages.specs.Messages.{definition_of, values_of}
use Rattle.mav_messages.specs.Plans.{plan_of}
use Rattle.command_proto.specs.declared.executor.Ready.{Ready}
use Rattle.command_proto.specs.Executor.{Command, LastCommand, ExecutorState, ExecutorStep, executor_step}
use Rattle.command_proto.specs.Executor.{most_streams}
use Rattle.command_proto.specs.Commander.{Issue, CommanderState, CommanderStep, idle_limit}

-- a message that fits its payload, and is none of the mission protocol
pub record IsSendable (m : Message) : Type 0 where
  pub fits : FitsLayout (definition_of m) (values_of m)
  pub no_plan : plan_of m ≡ None

-- an issue: its drone, its command with seven words of parameters, and its counts
pub record IssueInRange (i : Issue) : Type 0 where
  pub sys : i.drone.sys < 256
  pub comp : i.drone.comp < 256
  pub number : i.command.number < 65536
  pub seven : length i.command.params ≡ 7
  pub words : All (λ word. word < 2 ^ 32) i.command.params
  pub confirmation : i.confirmation < 256
  pub idle : i.idle < idle_limit

abbrev pub CommanderInRange : CommanderState → Type 0
CommanderInRange c = IfSome c.issue IssueInRange

pub record CommanderStepInRange (s : CommanderStep) : Type 0 where
  pub commander : CommanderInRange s.commander
  pub answer : IfSome s.answer IsSendable

-- the streams of the last commands
abbrev pub streams_in : List LastCommand → List Stream
streams_in last = map (λ (l : LastCommand). l.stream) last

-- at most one last command of each stream, with a result of a byte, and of no more streams than are kept
pub record ExecutorInRange (e : ExecutorState) : Type 0 where
  pub streams : length e.last ≤ most_streams
  pub apart : IsDistinct same_stream (streams_in e.last)
  pub results : All (λ (l : LastCommand). l.result < 256) e.last

pub record ExecutorStepInRange (s : ExecutorStep) : Type 0 where
  pub executor : ExecutorInRange s.executor
  pub answer : IfSome s.answer IsSendable

-- the node that a command is for
abbrev pub command_target : CommandLong → Name
command_target m = record { sys = m.target_system; comp = m.target_component }

-- a message of a stream, as it comes to an executor
pub record Received : Type 0 where
  pub from : Stream
  pub message : Message
  pub ready : Ready

abbrev pub step_at : ExecutorState → Received → ExecutorStep
step_at e r = executor_step e r.from r.message r.ready

-- an executor after some messages, one after another
abbrev pub executor_after : ExecutorState → List Received → ExecutorState
executor_after e [] = e
executor_after e (r ∷ rs) = executor_after (step_at e r).executor rs

-- a command that was done now, or else the one before it
abbrev pub or_before : Option Command → Option Command → Option Command
or_before None before = before
or_before (Some command) before = Some command

-- the latest command of a stream that was done over some messages, or else the one before them
abbrev pub latest_done : ExecutorState → List Received → Stream → Option Command → Option Command
latest_done e [] s before = before
latest_done e (r ∷ rs) s before =
    latest_done (step_at e r).executor rs s (if same_stream r.from s then or_before (step_at e r).done before
    else before)
