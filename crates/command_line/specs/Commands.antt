-- The commands of the program and their options, in tables.
use Rattle.std.specs.Prelude.{ℕ, Bool, true, false, if◌then◌else◌, List, [], ◌∷◌, codes}
use Rattle.command_line.specs.declared.commands.Command.{Command}
use Rattle.command_line.specs.declared.commands.Command.TheVariants.{Fleet, Dialect, Decode, Route, Drone, Station}
use Rattle.command_line.specs.declared.commands.Command.TheVariants.{Make, LogShow, LogFilter, LogMake, Fence}
use Rattle.command_line.specs.declared.commands.OptionName.{OptionName}
use Rattle.command_line.specs.declared.commands.OptionName.TheVariants.{Frames, Key, Defs, One, Turns, Ticks, File}
use Rattle.command_line.specs.declared.commands.OptionName.TheVariants.{Store}

-- the word of a command, the second one of those on logs
abbrev pub command_word : Command → List ℕ
command_word Fleet = codes "fleet"
command_word Dialect = codes "dialect"
command_word Decode = codes "decode"
command_word Route = codes "route"
command_word Drone = codes "drone"
command_word Station = codes "station"
command_word Make = codes "make"
command_word LogShow = codes "show"
command_word LogFilter = codes "filter"
command_word LogMake = codes "make"
command_word Fence = codes "fence"

-- the commands whose first word is `log`
abbrev pub is_on_logs : Command → Bool
is_on_logs LogShow = true
is_on_logs LogFilter = true
is_on_logs LogMake = true
is_on_logs _ = false

-- the words with which its lines begin
abbrev pub command_words : Command → List (List ℕ)
command_words command = if is_on_logs command then codes "log" ∷ command_word command ∷ []
    else command_word command ∷ []

-- the word of an option
abbrev pub option_word : OptionName → List ℕ
option_word Frames = codes "--frames"
option_word Key = codes "--key"
option_word Defs = codes "--defs"
option_word One = codes "--one"
option_word Turns = codes "--turns"
option_word Ticks = codes "--ticks"
option_word File = codes "--file"
option_word Store = codes "--store"

-- `--frames` and `--one` have no value
abbrev pub has_value : OptionName → Bool
has_value Frames = false
has_value Key = true
has_value Defs = true
has_value One = false
has_value Turns = true
has_value Ticks = true
has_value File = true
has_value Store = true

-- the options of each command
abbrev pub has_option : Command → OptionName → Bool
has_option Fleet Frames = true
has_option Fleet Key = true
has_option Dialect Defs = true
has_option Decode Defs = true
has_option Decode Key = true
has_option Route Key = true
has_option Route Defs = true
has_option Route One = true
has_option Route Turns = true
has_option Drone Key = true
has_option Drone Store = true
has_option Drone Turns = true
has_option Station Key = true
has_option Station Ticks = true
has_option Station File = true
has_option LogShow Defs = true
has_option LogFilter Defs = true
has_option LogMake Defs = true
has_option _ _ = false

-- the commands that need a key
abbrev pub needs_key : Command → Bool
needs_key Route = true
needs_key Drone = true
needs_key Station = true
needs_key _ = false
