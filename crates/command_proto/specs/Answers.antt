-- What the calls of both sides return of a step.
use Rattle.std.specs.Prelude.{ℕ, Option, Some, None}
use Rattle.plan_items.specs.declared.actions.Action.{Action}
use Rattle.mav_messages.specs.declared.messages.Message.{Message}
use Rattle.command_proto.specs.Commander.{CommandEnd, No_answer}
use Rattle.command_proto.specs.declared.ticks.CommandTick.{CommandTick}
use Rattle.command_proto.specs.declared.ticks.CommandTick.TheVariants.{Quiet, Again, NoAnswer}

-- of an executor's answer: the message, and the drone's action
abbrev pub message_in : Option (Message × Option Action) → Option Message
message_in None = None
message_in (Some answer) = Some answer.0

abbrev pub action_in : Option (Message × Option Action) → Option Action
action_in None = None
action_in (Some answer) = answer.1

-- of a commander's tick: the command that is given again, the end of it, and after how many ticks it ended
abbrev pub given_in : CommandTick → Option Message
given_in Quiet = None
given_in (Again message) = Some message
given_in (NoAnswer ticks) = None

abbrev pub end_in : CommandTick → Option CommandEnd
end_in Quiet = None
end_in (Again message) = None
end_in (NoAnswer ticks) = Some No_answer

abbrev pub ticks_in : CommandTick → Option ℕ
ticks_in Quiet = None
ticks_in (Again message) = None
ticks_in (NoAnswer ticks) = Some ticks
