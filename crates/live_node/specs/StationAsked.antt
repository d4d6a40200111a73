-- The station that a line of `station` asks for, what is read of its file, and what its run does at its port.
use Rattle.std.specs.Prelude.{◌≡◌, ◌≤◌, ◌⊎◌, ℕ, Bool, true, false, List, [], ◌∷◌, get_or, codes, Option, IfSome}
use Rattle.std.specs.Fmt.{decimal}
use Rattle.std.specs.Str.{bytes_eq}
use Rattle.mav_names.specs.Addresses.{drone_stream}
use Rattle.command_inputs.specs.ItemFiles.{plan_spec, HoldsItems}
use Rattle.command_inputs.specs.KeyInputs.{TookAtMost}
use Rattle.command_inputs.specs.PutFiles.{put_spec, HoldsFile}
use Rattle.mav_nodes.specs.declared.orders.Order.{Order}
use Rattle.run_status.specs.declared.run_ends.RunEnd.{RunEnd}
use Rattle.run_status.specs.Runs.{CommandSpec}
use Rattle.command_line.specs.declared.commands.OptionName.TheVariants.{File}
use Rattle.command_line.specs.declared.operations.Task.{Task}
use Rattle.command_line.specs.Forms.{has_given}
use Rattle.command_line.specs.Grammar.{Asked}
use Rattle.command_line.specs.Names.{ticks_asked}
use Rattle.command_line.specs.OperationTexts.{OperationSays}
use Rattle.live_node.specs.declared.stations.StationPlan.{StationPlan}
use Rattle.live_node.specs.Ports.{FaultsBy}
use Rattle.live_node.specs.Runs.{outside}
use Rattle.live_node.specs.Stations.{IsStationEnd, StationRuns}
use Rattle.live_node.specs.DroneAsked.{Alone, Devices}
use Rattle.live_node.specs.OrderWords.{Contents, OrdersFor}
use Rattle.command_inputs.specs.NamedKeys.{WithGivenKey}
use Rattle.run_status.specs.Seen.{Input, Output}

-- SYS COMP DRONE PORT OP.., how long the station waits, and how often the port may be read
pub record StationOf (asked : Asked) (plan : StationPlan) (task : Task) : Type 0 where
  pub port : List ℕ
  pub words : List (List ℕ)
  pub plain : asked.plain ≡ decimal plan.sys ∷ decimal plan.comp ∷ decimal task.drone ∷ port ∷ words
  pub sys_least : 1 ≤ plan.sys
  pub comp_least : 1 ≤ plan.comp
  pub drone_least : 1 ≤ task.drone
  pub operation : OperationSays task.operation words
  pub ticks : plan.ticks ≡ ticks_asked asked.settings
  pub turns : plan.turns ≡ 1000000

-- it ran under a key with the contents of its file, at the only port, and ended so
pub record Stationed {A B : Type 0} (d : Devices A B) (asked : Asked) (out : Output) (end : Option RunEnd)
    (key : List ℕ) (contents : Contents) : Type 0 where
  pub plan : StationPlan
  pub task : Task
  pub is : StationOf asked plan task
  pub order : Order
  pub orders : OrdersFor task.operation (drone_stream task.drone) contents order
  pub first : A
  pub last : A
  pub alone : Alone d.ports_before d.ports_after first last
  pub run : StationRuns key plan order end (outside (d.state first) out.sent_before d.time_before)
      (outside (d.state last) out.sent_after d.time_after)
  pub why : IfSome end IsStationEnd
  pub faults : FaultsBy end (d.state first).faults (d.state last).faults out.refusals_before out.refusals_after

-- no file, one of items, or one of bytes
pub data FileSort : Type 0 where
  No_file : FileSort
  Of_items : FileSort
  Of_bytes : FileSort

-- `--file` names one of bytes for an operation on files, and else one of items
abbrev pub sort_of : (named on_files : Bool) → FileSort
sort_of false on_files = No_file
sort_of true false = Of_items
sort_of true true = Of_bytes

-- OP is one on files
abbrev pub asks_files : List (List ℕ) → Bool
asks_files plain = bytes_eq (get_or plain 4 []) (codes "file")

abbrev pub file_asked : Asked → FileSort
file_asked asked = sort_of (has_given File asked.settings) (asks_files asked.plain)

-- the run halts at the file; of bytes no more are taken than make it too long
abbrev pub HaltsAt : FileSort → (CommandSpec → Input → Type 0) → Input → Type 0
HaltsAt No_file runs file = ⊥
HaltsAt Of_items runs file = runs plan_spec file
HaltsAt Of_bytes runs file = runs put_spec file × TookAtMost 1048577 file.left_before file.left_after

-- what the file holds; one that isn't named isn't read
abbrev pub ContentsAre : FileSort → Input → Contents → Type 0
ContentsAre No_file file contents = (contents ≡ record { items = []; bytes = [] }) × file.unread
ContentsAre Of_items file contents = (contents.bytes ≡ [])
    × HoldsItems file.spent file.left_before file.left_after contents.items
ContentsAre Of_bytes file contents = (contents.items ≡ [])
    × HoldsFile file.spent file.left_before file.left_after contents.bytes

-- the file is read if it is named: the run halts at it and leaves the ports as they were, or it goes on with its
-- contents
abbrev pub WithFile : FileSort → (CommandSpec → Input → Type 0) → (halted unmoved : Type 0) → Input
    → (Contents → Type 0) → Type 0
WithFile sort runs halted unmoved file next =
    (HaltsAt sort runs file × halted × unmoved)
    ⊎ ((contents : Contents) × ContentsAre sort file contents × next contents)

-- the key is read first, and then the file
abbrev pub Stationing : (CommandSpec → Input → Type 0) → (halted unmoved : Type 0) → FileSort → (key file : Input)
    → (List ℕ → Contents → Type 0) → Type 0
Stationing runs halted unmoved sort key file next =
    WithGivenKey runs halted (file.unread × unmoved) key
    (λ bytes. WithFile sort runs halted unmoved file (λ contents. next bytes contents))
