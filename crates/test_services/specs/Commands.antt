-- Commands that a drone executes, one after another, and those of more streams than it keeps.
use Rattle.std.specs.Prelude.{ℕ, zero, suc, ◌≡◌, ◌+◌, ◌/◌, ◌%◌, false, List, [], ◌∷◌, length, Option, Some, None}
use Rattle.mav_names.specs.declared.names.Stream.{Stream}
use Rattle.plan_items.specs.declared.actions.Action.{Action}
use Rattle.plan_items.specs.declared.actions.Action.TheVariants.{Arm}
use Rattle.mav_messages.specs.declared.messages.Message.{Message}
use Rattle.mav_messages.specs.declared.messages.Message.TheVariants.{CommandLong, CommandAck}
use Rattle.command_proto.specs.declared.executor.Ready.{Ready}
use Rattle.command_proto.specs.Executor.{ExecutorState, new_executor, executor_step}

-- a disarmed drone without a mission
abbrev pub unready : Ready
unready = record { armed = false; planned = false }

abbrev pub drone : ExecutorState
drone = new_executor (record { sys = 1; comp = 1 })

-- a command for it, with its first parameter and its confirmation
abbrev pub command : ℕ → ℕ → ℕ → Message
command number word confirmation = CommandLong (record {
  target_system = 1;
  target_component = 1;
  command = number;
  confirmation = confirmation;
  param1 = word;
  param2 = 0;
  param3 = 0;
  param4 = 0;
  param5 = 0;
  param6 = 0;
  param7 = 0;
})

abbrev pub result_in : Option Message → Option ℕ
result_in (Some (CommandAck m)) = Some m.result
result_in _ = None

-- what becomes of commands of one stream: the results, and what the drone does
abbrev pub station : Stream
station = record { sys = 255; comp = 190; link = 0 }

abbrev pub results : ExecutorState → List Message → List (Option ℕ)
results e [] = []
results e (m ∷ ms) = result_in (executor_step e station m unready).answer
    ∷ results (executor_step e station m unready).executor ms

abbrev pub actions : ExecutorState → List Message → List (Option Action)
actions e [] = []
actions e (m ∷ ms) = (executor_step e station m unready).action
    ∷ actions (executor_step e station m unready).executor ms

-- a mission is started unarmed; the drone is armed, which is repeated, and then asked anew; armed by no word of 0 or
-- 1; and asked for a command that it doesn't know
abbrev pub a_day : List Message
a_day =
    command 300 0 0
    ∷ command 400 0x3F800000 0
    ∷ command 400 0x3F800000 1
    ∷ command 400 0x3F800000 0
    ∷ command 400 0x40000000 0
    ∷ command 16 0 0
    ∷ []

-- commands of `n` streams
abbrev pub stream : ℕ → Stream
stream n = record { sys = 1 + n / 128; comp = 1 + n % 128; link = 0 }

abbrev pub after_streams : ℕ → ExecutorState → ExecutorState
after_streams zero e = e
after_streams (suc n) e = (executor_step (after_streams n e) (stream n) (command 400 0x3F800000 0) unready).executor

abbrev pub result_of_stream : ℕ → Option ℕ
result_of_stream n = result_in (executor_step (after_streams n drone) (stream n)
    (command 400 0x3F800000 0) unready).answer

pub record WorkedCommands : Type 0 where
  pub day : results drone a_day ≡ Some 2 ∷ Some 0 ∷ Some 0 ∷ Some 0 ∷ Some 2 ∷ Some 3 ∷ []
  pub armed : actions drone a_day ≡ None ∷ Some Arm ∷ None ∷ Some Arm ∷ None ∷ None ∷ []
  -- the 256th stream has room, and the 257th is temporarily rejected
  pub last_stream : result_of_stream 255 ≡ Some 0
  pub one_more : result_of_stream 256 ≡ Some 1
  pub kept : length (after_streams 257 drone).last ≡ 256
