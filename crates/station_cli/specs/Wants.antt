-- What the words ask to be made.
use Rattle.std.specs.Prelude.{◌≡◌, ℕ, if◌then◌else◌, List, length, map, option_map, string_bytes}
use Rattle.command_line.specs.declared.commands.OptionName.TheVariants.{Defs, Key, Store}
use Rattle.command_line.specs.Built.{built}
use Rattle.command_line.specs.Forms.{has_given}
use Rattle.command_line.specs.Grammar.{Asked, Asks}
use Rattle.command_line.specs.PortTexts.{port_text}
use Rattle.command_line.specs.Names.{value_given, main_file, port_words}
use Rattle.station_cli.specs.declared.wants.Wanted.{Wanted}

-- as many links as the words name ports
abbrev pub AreAsked : ℕ → Asked → Type 0
AreAsked links asked = links ≡ length (port_words asked.command asked.plain)

-- how many stores the words name
abbrev pub keepers_asked : Asked → ℕ
keepers_asked asked = if has_given Store asked.settings then 1 else 0

-- exactly the files, ports and stores that these words name
pub record Wants (words : List (List ℕ)) (w : Wanted) : Type 0 where
  pub asked : Asked
  pub asks : Asks built words asked
  pub main : option_map string_bytes w.main ≡ main_file asked
  pub defs : option_map string_bytes w.defs ≡ value_given Defs asked.settings
  pub key : option_map string_bytes w.key ≡ value_given Key asked.settings
  pub ports : map port_text w.ports.items ≡ port_words asked.command asked.plain
  pub store : option_map string_bytes w.store ≡ value_given Store asked.settings
  pub keepers : w.keepers ≡ keepers_asked asked

-- there are as many links as the words name ports, and as many stores as they name
abbrev pub AreThere : List (List ℕ) → (links keepers : ℕ) → Type 0
AreThere words links keepers = (asked : Asked) → Asks built words asked → AreAsked links asked
    × (keepers ≡ keepers_asked asked)
