-- The history of a switch, as all threads together make it.
use Rattle.std.specs.Prelude.{ℕ, List, ◌∷◌, map, Option, Some, None}
use Rattle.std.specs.List.{filter_map}
use Rattle.mav_router.specs.declared.entries.Entry.{Entry}
use Rattle.mav_router.specs.declared.history.SwitchEvent.{SwitchEvent}
use Rattle.mav_router.specs.declared.history.SwitchEvent.TheVariants.{Opened, Admitted}
use Rattle.mav_router.specs.Journal.{Rules}

-- it was made with these rules, and then kept these entries
abbrev pub history_of : Rules → List Entry → List SwitchEvent
history_of rules journal = Opened rules ∷ map Admitted journal

abbrev pub entry_in : SwitchEvent → Option Entry
entry_in (Opened rules) = None
entry_in (Admitted entry) = Some entry

-- the entries that were kept
abbrev pub entries_in : List SwitchEvent → List Entry
entries_in history = filter_map entry_in history

-- the port of an entry, and 0 of the opening
abbrev pub label_of : SwitchEvent → ℕ
label_of (Opened rules) = 0
label_of (Admitted entry) = entry.port
