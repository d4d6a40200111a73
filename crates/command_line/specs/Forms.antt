-- What the options and plain words of each command are, as a user may write them.
use Rattle.std.specs.Prelude.{◌≡◌, ◌≢◌, ◌≤◌, ◌+◌, ◌&&◌, ℕ, Bool, true, false, not, if◌then◌else◌, List, [], ◌∷◌}
use Rattle.std.specs.Prelude.{length, drop, IsTrue, codes, count_by, All}
use Rattle.std.specs.List.{list_any}
use Rattle.std.specs.Str.{bytes_eq}
use Rattle.command_line.specs.declared.commands.Command.{Command}
use Rattle.command_line.specs.declared.commands.Command.TheVariants.{Fleet, Dialect, Decode, Route, Drone, Station}
use Rattle.command_line.specs.declared.commands.Command.TheVariants.{Make, LogShow, LogFilter, LogMake, Fence}
use Rattle.command_line.specs.declared.commands.OptionName.{OptionName}
use Rattle.command_line.specs.declared.commands.OptionName.TheVariants.{Frames, Key, Defs, One, Turns, Ticks, File}
use Rattle.command_line.specs.declared.commands.OptionName.TheVariants.{Store}
use Rattle.command_line.specs.Commands.{option_word, has_option, needs_key}
use Rattle.command_line.specs.Numbers.{IsNumber}
use Rattle.command_line.specs.Ports.{IsRouterPort}
use Rattle.command_line.specs.Operations.{DroneWords, StationWords, OneNumber, NumberAndFile}

-- an option of a line, and its value
pub record Given : Type 0 where
  pub name : OptionName
  pub value : List ℕ

-- which commands and options are built
pub record Built : Type 0 where
  pub commands : Command → Bool
  pub options : Command → OptionName → Bool

-- the most turns, ticks and steps that can be asked for
abbrev pub most_turns : ℕ
most_turns = 1000000000

-- the last moment at which a log may be made to begin, in microseconds since 1970
abbrev pub latest_start : ℕ
latest_start = 4000000000000000

-- the value of an option; the name of a file is any text, `-` is standard input
abbrev pub IsValue : OptionName → List ℕ → Type 0
IsValue Frames value = value ≡ []
IsValue Key value = value ≢ []
IsValue Defs value = value ≢ []
IsValue One value = value ≡ []
IsValue Turns value = IsNumber 1 most_turns value
IsValue Ticks value = IsNumber 1 most_turns value
IsValue File value = value ≢ []
IsValue Store value = value ≢ []

-- an option that the command takes, with its value
abbrev pub IsTaken : Built → Command → Given → Type 0
IsTaken built command g = IsTrue (has_option command g.name && built.options command g.name) × IsValue g.name g.value

abbrev pub AreTaken : Built → Command → List Given → Type 0
AreTaken built command [] = Unit {0}
AreTaken built command (g ∷ gs) = IsTaken built command g × AreTaken built command gs

abbrev pub is_named : OptionName → Given → Bool
is_named name g = bytes_eq (option_word g.name) (option_word name)

-- each option is given at most once
abbrev pub all_differ : List Given → Bool
all_differ [] = true
all_differ (g ∷ gs) = not (list_any (is_named g.name) gs) && all_differ gs

abbrev pub has_given : OptionName → List Given → Bool
has_given name settings = list_any (is_named name) settings

-- `-` alone, which means standard input
abbrev pub is_stdin : List ℕ → Bool
is_stdin word = bytes_eq word (codes "-")

-- the options whose value names a file
abbrev pub names_file : OptionName → Bool
names_file Key = true
names_file Defs = true
names_file File = true
names_file Store = true
names_file _ = false

abbrev pub is_stdin_given : Given → Bool
is_stdin_given g = names_file g.name && is_stdin g.value

-- the commands with a plain word that names a file
abbrev pub reads_file : Command → Bool
reads_file Fleet = true
reads_file Decode = true
reads_file LogShow = true
reads_file LogFilter = true
reads_file LogMake = true
reads_file Fence = true
reads_file _ = false

-- and those with a number before it
abbrev pub has_number_first : Command → Bool
has_number_first LogFilter = true
has_number_first LogMake = true
has_number_first _ = false

-- the plain words that name files
abbrev pub file_words : Command → List (List ℕ) → List (List ℕ)
file_words command plain = if reads_file command then (if has_number_first command then drop 1 plain else plain)
    else []

-- how many files of the line are standard input
abbrev pub stdin_files : Command → List Given → List (List ℕ) → ℕ
stdin_files command settings plain = count_by is_stdin_given settings + count_by is_stdin (file_words command plain)

-- a plain word that names a file
abbrev pub IsFile : List (List ℕ) → Type 0
IsFile plain = (file : List ℕ) × (plain ≡ file ∷ []) × (file ≢ [])

-- the plain words of a command
abbrev pub ArePlain : Built → Command → List Given → List (List ℕ) → Type 0
ArePlain built Fleet settings plain = IsFile plain  -- FILE
ArePlain built Dialect settings plain = plain ≡ []
ArePlain built Decode settings plain = IsFile plain  -- FILE
ArePlain built Route settings plain = (1 ≤ length plain) × (length plain ≤ 8) × All IsRouterPort plain  -- PORT..
ArePlain built Drone settings plain = DroneWords plain  -- SYS PORT
ArePlain built Station settings plain = StationWords (has_given File settings) plain  -- SYS COMP DRONE PORT OP..
ArePlain built Make settings plain = OneNumber 0 1000000 plain  -- N
ArePlain built LogShow settings plain = IsFile plain  -- FILE
ArePlain built LogFilter settings plain = NumberAndFile 0 255 plain  -- SYS FILE
ArePlain built LogMake settings plain = NumberAndFile 0 latest_start plain  -- START FILE
ArePlain built Fence settings plain = IsFile plain  -- FILE

-- the options and the plain words are of the forms that the command has
pub record Fits (built : Built) (command : Command) (settings : List Given) (plain : List (List ℕ)) : Type 0 where
  -- the command is built
  pub command_built : IsTrue (built.commands command)
  -- so is each option, it is one of the command's, and its value is of its form
  pub options_taken : AreTaken built command settings
  -- none is given twice
  pub once : all_differ settings ≡ true
  -- the commands that need a key have one
  pub key_given : IsTrue (needs_key command) → IsTrue (has_given Key settings)
  -- the plain words are of the command's form
  pub plain_words : ArePlain built command settings plain
  -- standard input is one file at most
  pub one_stdin : stdin_files command settings plain ≤ 1
