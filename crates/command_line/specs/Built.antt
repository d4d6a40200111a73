-- What is built of the commands and their options: all of them. A command or an option that is to come is left out
-- here.
use Rattle.std.specs.Prelude.{Bool, true}
use Rattle.command_line.specs.declared.commands.Command.{Command}
use Rattle.command_line.specs.declared.commands.OptionName.{OptionName}
use Rattle.command_line.specs.Commands.{has_option}
use Rattle.command_line.specs.Forms.{Built}

abbrev pub is_built : Command → Bool
is_built _ = true

abbrev pub is_option_built : Command → OptionName → Bool
is_option_built command name = has_option command name

abbrev pub built : Built
built = record { commands = is_built; options = is_option_built }
