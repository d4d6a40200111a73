-- How words are read from left to right: what a word is by itself, and what it is after those before it.
use Rattle.std.specs.Prelude.{◌==◌, nat_lt, ℕ, Bool, if◌then◌else◌, List, [], ◌∷◌, ◌++◌, length, Option, Some, None}
use Rattle.std.specs.Prelude.{codes}
use Rattle.std.specs.List.{find, before_first, after_first, position_or_len}
use Rattle.std.specs.Str.{bytes_eq}
use Rattle.command_line.specs.declared.commands.Command.{Command}
use Rattle.command_line.specs.declared.commands.Command.TheVariants.{Fleet, Dialect, Decode, Route, Drone, Station}
use Rattle.command_line.specs.declared.commands.Command.TheVariants.{Make, LogShow, LogFilter, LogMake, Fence}
use Rattle.command_line.specs.declared.commands.OptionName.{OptionName}
use Rattle.command_line.specs.declared.commands.OptionName.TheVariants.{Frames, Key, Defs, One, Turns, Ticks, File}
use Rattle.command_line.specs.declared.commands.OptionName.TheVariants.{Store}
use Rattle.command_line.specs.declared.pieces.Sort.{Sort}
use Rattle.command_line.specs.declared.pieces.Sort.TheVariants.{Plain, Dashes, Alone, Joined, Apart, Unknown}
use Rattle.command_line.specs.declared.pieces.Place.{Place}
use Rattle.command_line.specs.declared.pieces.Place.TheVariants.{Anything, Value, Behind}
use Rattle.command_line.specs.Commands.{command_word, option_word, has_value}
use Rattle.command_line.specs.Forms.{Given}
use Rattle.command_line.specs.Grammar.{is_dashed}

-- the commands of one word, and those of `log`
abbrev pub single_commands : List Command
single_commands = Fleet ∷ Dialect ∷ Decode ∷ Route ∷ Drone ∷ Station ∷ Make ∷ Fence ∷ []

abbrev pub log_commands : List Command
log_commands = LogShow ∷ LogFilter ∷ LogMake ∷ []

abbrev pub all_options : List OptionName
all_options = Frames ∷ Key ∷ Defs ∷ One ∷ Turns ∷ Ticks ∷ File ∷ Store ∷ []

abbrev pub named_in : List Command → List ℕ → Option Command
named_in commands word = find (λ c. bytes_eq word (command_word c)) commands

-- the command with which words begin, and the words after it
pub record Begun : Type 0 where
  pub command : Command
  pub rest : List (List ℕ)

abbrev pub begun_by : List (List ℕ) → Option Command → Option Begun
begun_by rest None = None
begun_by rest (Some command) = Some (record { command = command; rest = rest })

abbrev pub begun_log : List (List ℕ) → Option Begun
begun_log [] = None
begun_log (w ∷ ws) = begun_by ws (named_in log_commands w)

abbrev pub begun : List (List ℕ) → Option Begun
begun [] = None
begun (w ∷ ws) = if bytes_eq w (codes "log") then begun_log ws else begun_by ws (named_in single_commands w)

abbrev pub option_named : List ℕ → Option OptionName
option_named word = find (λ o. bytes_eq word (option_word o)) all_options

abbrev pub is_equals : ℕ → Bool
is_equals b = b == 61

abbrev pub has_equals : List ℕ → Bool
has_equals word = nat_lt (position_or_len is_equals word) (length word)

-- what a word is by itself
abbrev pub alone_sort : Option OptionName → Sort
alone_sort None = Unknown
alone_sort (Some name) = if has_value name then Apart name else Alone name

abbrev pub joined_sort : Option OptionName → Sort
joined_sort None = Unknown
joined_sort (Some name) = if has_value name then Joined name else Unknown

abbrev pub option_sort : List ℕ → Sort
option_sort word = if has_equals word then joined_sort (option_named (before_first is_equals word))
    else alone_sort (option_named word)

abbrev pub sort_of : List ℕ → Sort
sort_of word = if is_dashed word then (if bytes_eq word (codes "--") then Dashes else option_sort word) else Plain

-- the value that is joined to an option
abbrev pub joined_value : List ℕ → List ℕ
joined_value word = after_first is_equals word

-- what words give
pub record Parts : Type 0 where
  pub settings : List Given
  pub plain : List (List ℕ)

abbrev pub given : OptionName → List ℕ → Option Parts → Option Parts
given name value None = None
given name value (Some p) = Some (record {
  settings = (record { name = name; value = value }) ∷ p.settings;
  plain = p.plain;
})

abbrev pub plainly : List ℕ → Option Parts → Option Parts
plainly word None = None
plainly word (Some p) = Some (record { settings = p.settings; plain = word ∷ p.plain })

-- what a word gives that comes where options may, and the words after it
abbrev pub sorted : Sort → List ℕ → (Place → Option Parts) → Option Parts
sorted Plain word next = plainly word (next Anything)
sorted Dashes word next = next Behind
sorted (Alone name) word next = given name [] (next Anything)
sorted (Joined name) word next = given name (joined_value word) (next Anything)
sorted (Apart name) word next = next (Value name)
sorted Unknown word next = None

-- what the words give that follow at this place; None if they can't come there
abbrev pub parts_at : Place → List (List ℕ) → Option Parts
parts_at Anything [] = Some (record { settings = []; plain = [] })
parts_at (Value name) [] = None
parts_at Behind [] = Some (record { settings = []; plain = [] })
parts_at Anything (w ∷ ws) = sorted (sort_of w) w (λ place. parts_at place ws)
parts_at (Value name) (w ∷ ws) = if is_dashed w then None else given name w (parts_at Anything ws)
parts_at Behind (w ∷ ws) = plainly w (parts_at Behind ws)

-- these parts, and after them those
abbrev pub joined : List Given → List (List ℕ) → Option Parts → Option Parts
joined settings plain None = None
joined settings plain (Some p) = Some (record { settings = settings ++ p.settings; plain = plain ++ p.plain })
