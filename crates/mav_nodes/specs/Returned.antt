-- What the calls of a station's services return of messages and ends.
use Rattle.std.specs.Prelude.{ℕ, List, [], ◌∷◌, Option, Some, None}
use Rattle.mav_messages.specs.declared.messages.Message.{Message}
use Rattle.command_proto.specs.declared.ticks.CommandTick.{CommandTick}
use Rattle.command_proto.specs.declared.ticks.CommandTick.TheVariants.{Quiet as NoCommand, Again as CommandAgain}
use Rattle.command_proto.specs.declared.ticks.CommandTick.TheVariants.{NoAnswer as NoCommandAnswer}
use Rattle.param_proto.specs.declared.ends.ParamEnd.{ParamEnd}
use Rattle.param_proto.specs.declared.ends.ParamEnd.TheVariants.{One, All}
use Rattle.param_proto.specs.declared.ends.ParamTick.{ParamTick}
use Rattle.param_proto.specs.declared.ends.ParamTick.TheVariants.{Quiet, Again, NoAnswer}
use Rattle.mav_nodes.specs.News.{Shown, Shows_command, Shows_param, Shows_params}

-- of a command: its result, and what a tick brings
abbrev pub shown_of_result : Option ℕ → List Shown
shown_of_result None = []
shown_of_result (Some result) = Shows_command (Some result) ∷ []

abbrev pub command_again : CommandTick → List Message
command_again NoCommand = []
command_again (CommandAgain message) = message ∷ []
command_again (NoCommandAnswer ticks) = []

abbrev pub shown_of_command : CommandTick → List Shown
shown_of_command NoCommand = []
shown_of_command (CommandAgain message) = []
shown_of_command (NoCommandAnswer ticks) = Shows_command None ∷ []

-- of parameters: an end, and what a tick brings
abbrev pub shown_of_end : Option ParamEnd → List Shown
shown_of_end None = []
shown_of_end (Some (One param)) = Shows_param param ∷ []
shown_of_end (Some (All count)) = Shows_params (Some count) ∷ []

abbrev pub params_again : ParamTick → List Message
params_again Quiet = []
params_again (Again message) = message ∷ []
params_again (NoAnswer ticks) = []

abbrev pub shown_of_params : ParamTick → List Shown
shown_of_params Quiet = []
shown_of_params (Again message) = []
shown_of_params (NoAnswer ticks) = Shows_params None ∷ []
