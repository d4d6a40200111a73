-- The files, ports and numbers that a line names.
use Rattle.std.specs.Prelude.{ℕ, List, [], ◌∷◌, Option, None, Some, if◌then◌else◌, option_map}
use Rattle.std.specs.List.{find}
use Rattle.command_line.specs.declared.commands.Command.{Command}
use Rattle.command_line.specs.declared.commands.Command.TheVariants.{Route, Drone, Station}
use Rattle.command_line.specs.declared.commands.OptionName.{OptionName}
use Rattle.command_line.specs.declared.commands.OptionName.TheVariants.{File, Turns, Ticks}
use Rattle.command_line.specs.Numbers.{number_in}
use Rattle.command_line.specs.Forms.{Given, most_turns, is_named, reads_file, file_words}
use Rattle.command_line.specs.Grammar.{Asked}

-- the value of an option, if it is given
abbrev pub value_given : OptionName → List Given → Option (List ℕ)
value_given name settings = option_map (λ (g : Given). g.value) (find (is_named name) settings)

abbrev pub first_word : List (List ℕ) → Option (List ℕ)
first_word [] = None
first_word (word ∷ words) = Some word

-- the file that is read after the others: the plain word FILE, or the file of an operation
abbrev pub main_file : Asked → Option (List ℕ)
main_file asked = if reads_file asked.command then first_word (file_words asked.command asked.plain)
    else value_given File asked.settings

-- the words PORT
abbrev pub port_words : Command → List (List ℕ) → List (List ℕ)
port_words Route plain = plain
port_words Drone (sys ∷ port ∷ more) = port ∷ []
port_words Station (sys ∷ comp ∷ drone ∷ port ∷ more) = port ∷ []
port_words _ plain = []

abbrev pub number_of : Option (List ℕ) → Option ℕ
number_of None = None
number_of (Some value) = number_in 1 most_turns value

-- the number of an option, if it is given
abbrev pub number_given : OptionName → List Given → Option ℕ
number_given name settings = number_of (value_given name settings)

abbrev pub number_or : ℕ → Option ℕ → ℕ
number_or default None = default
number_or default (Some n) = n

-- how many turns a port is given
abbrev pub turns_asked : List Given → ℕ
turns_asked settings = number_or 1000000 (number_given Turns settings)

-- how many ticks a station waits for the end of its operation
abbrev pub ticks_asked : List Given → ℕ
ticks_asked settings = number_or 50 (number_given Ticks settings)
