-- What the lines of a file say of a fence, a mission and a flight.
use Rattle.std.specs.Prelude.{ℕ, ◌==◌, Bool, true, false, not, if◌then◌else◌, List, [], ◌++◌, length, codes, pos}
use Rattle.std.specs.Prelude.{Option, Some, None, Ok, Err}
use Rattle.std.specs.declared.result.Result.{Result}
use Rattle.std.specs.Str.{bytes_eq}
use Rattle.plan_items.specs.declared.items.Item.{Item}
use Rattle.drone_sim.specs.declared.points.Point.{Point}
use Rattle.scenario_lines.specs.declared.faults.Reason.{Reason}
use Rattle.scenario_lines.specs.declared.faults.Reason.TheVariants.{Long, Word, Later, Count, Number, Node, Kind, Hex}
use Rattle.scenario_lines.specs.declared.faults.Reason.TheVariants.{Twice, Range, Draft, Clock}
use Rattle.scenario_lines.specs.Words.{words_of, word_at}
use Rattle.scenario_lines.specs.Grammar.{line_of}
use Rattle.scenario_lines.specs.Readings.{and_then, whole, signed}
use Rattle.scenario_lines.specs.Reasons.{item_reason_against}
use Rattle.command_inputs.specs.Takers.{Says}
use Rattle.command_inputs.specs.ItemFiles.{items_in}

-- where the flight starts, the most units of a tick, how many ticks it has, both lists of items, and whether item
-- lines join the fence
pub record FileState : Type 0 where
  pub home : Point
  pub step : ℕ
  pub ticks : ℕ
  pub fence : List Item
  pub mission : List Item
  pub to_fence : Bool

abbrev pub empty_file : FileState
empty_file = record {
  home = record { x = pos 0; y = pos 0 };
  step = 1000;
  ticks = 0;
  fence = [];
  mission = [];
  to_fence = false;
}

-- the list that item lines join
abbrev pub list_of : FileState → List Item
list_of f = if f.to_fence then f.fence else f.mission

abbrev pub joined : FileState → List Item → FileState
joined f items =
    if f.to_fence then record f { fence = f.fence ++ items } else record f { mission = f.mission ++ items }

-- ---- the lines, by their words

-- `home X Y`
abbrev pub home_says : FileState → List (List ℕ) → Result FileState Reason
home_says f words =
    if not (length words == 3) then Err Count
    else and_then (signed words 1) (λ x. and_then (signed words 2)
    (λ y. Ok (record f { home = record { x = x; y = y } })))

-- `step N`
abbrev pub step_says : FileState → List (List ℕ) → Result FileState Reason
step_says f words =
    if not (length words == 2) then Err Count
    else and_then (whole words 1 1 1000000000) (λ n. Ok (record f { step = n }))

-- `ticks N`
abbrev pub ticks_says : FileState → List (List ℕ) → Result FileState Reason
ticks_says f words =
    if not (length words == 2) then Err Count
    else and_then (whole words 1 0 10000) (λ n. Ok (record f { ticks = n }))

-- `fence` and `mission`
abbrev pub list_says : FileState → Bool → List (List ℕ) → Result FileState Reason
list_says f to_fence words = if not (length words == 1) then Err Count else Ok (record f { to_fence = to_fence })

-- the reason for a misspelt word of eight digits is `number`
abbrev pub file_reason : Reason → Reason
file_reason Long = Long
file_reason Word = Word
file_reason Later = Later
file_reason Count = Count
file_reason Number = Number
file_reason Node = Node
file_reason Kind = Kind
file_reason Hex = Number
file_reason Twice = Twice
file_reason Range = Range
file_reason Draft = Draft
file_reason Clock = Clock

-- `item` and `items`, as a file of items has them; a blank line and a comment have none
abbrev pub items_said : FileState → List ℕ → Option Reason → Result FileState Reason
items_said f text None = Ok (joined f (items_in (line_of text)))
items_said f text (Some reason) = Err (file_reason reason)

abbrev pub items_say : FileState → List ℕ → Result FileState Reason
items_say f text = items_said f text (item_reason_against (length (list_of f)) text)

-- what a line makes of the file, or the first reason against it
abbrev pub words_say : FileState → List ℕ → List (List ℕ) → Result FileState Reason
words_say f text words =
    if bytes_eq (word_at words 0) (codes "home") then home_says f words
    else if bytes_eq (word_at words 0) (codes "step") then step_says f words
    else if bytes_eq (word_at words 0) (codes "ticks") then ticks_says f words
    else if bytes_eq (word_at words 0) (codes "fence") then list_says f true words
    else if bytes_eq (word_at words 0) (codes "mission") then list_says f false words
    else items_say f text

abbrev pub line_says : Says FileState
line_says f text = words_say f text (words_of text)
