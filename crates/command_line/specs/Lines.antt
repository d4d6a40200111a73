-- A command line as the program holds it.
use Rattle.std.specs.Prelude.{◌≡◌, ◌≤◌, ◌&&◌, ◌||◌, not, nat_le, ℕ, Bool, true, false, List, [], ◌∷◌, length, map}
use Rattle.std.specs.Prelude.{Option, Some, None, is_some, String, string_bytes}
use Rattle.std.specs.Fmt.{decimal}
use Rattle.std.specs.List.{list_all}
use Rattle.std.specs.declared.alloc.Global.{Global}
use Rattle.command_line.specs.declared.commands.Command.{Command}
use Rattle.command_line.specs.declared.commands.Command.TheVariants.{Fleet, Dialect, Decode, Route, Drone, Station}
use Rattle.command_line.specs.declared.commands.Command.TheVariants.{Make, LogShow, LogFilter, LogMake, Fence}
use Rattle.command_line.specs.declared.commands.OptionName.{OptionName}
use Rattle.command_line.specs.declared.commands.OptionName.TheVariants.{Frames, Key, Defs, One, Turns, Ticks, File}
use Rattle.command_line.specs.declared.commands.OptionName.TheVariants.{Store}
use Rattle.command_line.specs.declared.pieces.Place.{Place}
use Rattle.command_line.specs.declared.lines.Setting.{Setting}
use Rattle.command_line.specs.declared.lines.Line.{Line}
use Rattle.command_line.specs.declared.plain.Values.{Values}
use Rattle.command_line.specs.declared.operations.Task.{Task}
use Rattle.command_line.specs.declared.ports.Port.{Port}
use Rattle.command_line.specs.Commands.{has_option, needs_key}
use Rattle.command_line.specs.Numbers.{number_in}
use Rattle.command_line.specs.PortTexts.{is_some_text, is_port, is_router_port, port_text}
use Rattle.command_line.specs.Built.{is_built, is_option_built}
use Rattle.command_line.specs.Forms.{Given, latest_start, most_turns, all_differ, has_given, stdin_files}
use Rattle.command_line.specs.Names.{port_words}
use Rattle.command_line.specs.Nodes.{is_node, is_drone, is_station, OnePort, NodeSays}
use Rattle.command_line.specs.Pieces.{Parts, joined, parts_at}
use Rattle.command_line.specs.Grammar.{Asked}

abbrev pub given_of : Setting → Given
given_of s = record { name = s.name; value = string_bytes s.value }

abbrev pub asked_by : Line → Asked
asked_by line = record {
  command = line.command;
  settings = map given_of line.settings.items;
  plain = map string_bytes line.words.items;
}

abbrev pub parts_of : List Setting → List (String Global) → Parts
parts_of settings words = record { settings = map given_of settings; plain = map string_bytes words }

-- what a reader holds, and the words that are still to come
abbrev pub with_rest : Place → List Setting → List (String Global) → List (List ℕ) → Option Parts
with_rest place settings words rest = joined (map given_of settings) (map string_bytes words) (parts_at place rest)

-- the tests of a line, for what is built
abbrev pub is_value_now : OptionName → List ℕ → Bool
is_value_now Frames value = not (is_some_text value)
is_value_now Key value = is_some_text value
is_value_now Defs value = is_some_text value
is_value_now One value = not (is_some_text value)
is_value_now Turns value = is_some (number_in 1 most_turns value)
is_value_now Ticks value = is_some (number_in 1 most_turns value)
is_value_now File value = is_some_text value
is_value_now Store value = is_some_text value

abbrev pub taken_now : Command → Given → Bool
taken_now command g = (has_option command g.name && is_option_built command g.name) && is_value_now g.name g.value

-- the key is given, if the command needs one
abbrev pub has_needed : Command → List Given → Bool
has_needed command settings = not (needs_key command) || has_given Key settings

abbrev pub is_one_file : List (List ℕ) → Bool
is_one_file [] = false
is_one_file (file ∷ []) = is_some_text file
is_one_file (file ∷ other ∷ more) = false

abbrev pub is_no_word : List (List ℕ) → Bool
is_no_word [] = true
is_no_word (word ∷ words) = false

abbrev pub are_ports : List (List ℕ) → Bool
are_ports plain = (nat_le 1 (length plain) && nat_le (length plain) 8) && list_all is_router_port plain

abbrev pub is_one_number : List (List ℕ) → Bool
is_one_number [] = false
is_one_number (word ∷ []) = is_some (number_in 0 1000000 word)
is_one_number (word ∷ other ∷ more) = false

abbrev pub is_number_and_file : ℕ → List (List ℕ) → Bool
is_number_and_file most [] = false
is_number_and_file most (word ∷ []) = false
is_number_and_file most (word ∷ file ∷ []) = is_some_text file && is_some (number_in 0 most word)
is_number_and_file most (word ∷ file ∷ other ∷ more) = false

-- whether plain words are of the command's form, by whether the file of an operation is given
abbrev pub plain_now : Command → Bool → List (List ℕ) → Bool
plain_now Fleet file_given plain = is_one_file plain
plain_now Dialect file_given plain = is_no_word plain
plain_now Decode file_given plain = is_one_file plain
plain_now Route file_given plain = are_ports plain
plain_now Drone file_given plain = is_drone plain
plain_now Station file_given plain = is_station file_given plain
plain_now Make file_given plain = is_one_number plain
plain_now LogShow file_given plain = is_one_file plain
plain_now LogFilter file_given plain = is_number_and_file 255 plain
plain_now LogMake file_given plain = is_number_and_file latest_start plain
plain_now Fence file_given plain = is_one_file plain

abbrev pub fits_now : Command → List Given → List (List ℕ) → Bool
fits_now command settings plain =
    is_built command && (list_all (taken_now command) settings && (all_differ settings
    && (has_needed command settings && (plain_now command (has_given File settings) plain
    && nat_le (stdin_files command settings plain) 1))))

-- a number of this range, and a file
pub record NumberFirst (most : ℕ) (plain : List (List ℕ)) (number : ℕ) : Type 0 where
  pub file : List ℕ
  pub plain_is : plain ≡ decimal number ∷ file ∷ []
  pub at_most : number ≤ most

-- what was read of a number and a file; nothing exactly if the words aren't such
abbrev pub NumberRead : ℕ → List (List ℕ) → Option ℕ → Type 0
NumberRead most plain None = is_number_and_file most plain ≡ false
NumberRead most plain (Some number) = (is_number_and_file most plain ≡ true) × NumberFirst most plain number

-- the number of a command that has one
abbrev pub NumberSays : Command → List (List ℕ) → ℕ → Type 0
NumberSays Make plain number = (plain ≡ decimal number ∷ []) × (number ≤ 1000000)
NumberSays LogFilter plain number = NumberFirst 255 plain number
NumberSays LogMake plain number = NumberFirst latest_start plain number
NumberSays _ plain number = Unit {0}

-- what the plain words of a command say: its ports, and its number
pub record Says (command : Command) (plain : List (List ℕ)) (ports : List Port) (number : ℕ) : Type 0 where
  pub ports_are : map port_text ports ≡ port_words command plain
  pub number_is : NumberSays command plain number

-- what was read of plain words; nothing exactly if they aren't of the command's form
abbrev pub PlainRead : Command → Bool → List (List ℕ) → Option Values → Type 0
PlainRead command file_given plain None = plain_now command file_given plain ≡ false
PlainRead command file_given plain (Some values) =
    (plain_now command file_given plain ≡ true) × Says command plain values.ports.items values.number
    × NodeSays command plain values.ports.items values.system values.task

-- what was read of a system and a port, beside a task; nothing exactly if one of the words isn't such
abbrev pub NodeRead : (sys port : List ℕ) → Option Task → Option Values → Type 0
NodeRead sys port task None = (is_node sys && is_port port) ≡ false
NodeRead sys port task (Some values) =
    (Some values.system ≡ number_in 1 255 sys) × (is_port port ≡ true) × OnePort port values.ports.items
    × (values.number ≡ 0) × (values.task ≡ task)

-- what a line's plain words say
abbrev pub LineSays : Line → Type 0
LineSays line = Says line.command (map string_bytes line.words.items) line.ports.items line.number

-- what those of `drone` and `station` say
abbrev pub LineNodeSays : Line → Type 0
LineNodeSays line = NodeSays line.command (map string_bytes line.words.items) line.ports.items line.system line.task
