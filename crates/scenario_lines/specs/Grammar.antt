-- The grammar of scenario lines: the form of each line, the first reason against a line, and what a line
-- says if there is none.
use Rattle.std.specs.Prelude.{ℕ, ℤ, pos, ◌+◌, ◌-◌, ◌^◌, ◌==◌, ◌||◌, nat_lt, Bool, true, false, if◌then◌else◌, is_some}
use Rattle.std.specs.Prelude.{List, [], ◌∷◌, ◌++◌, length, codes, Option, Some, None, unwrap_or}
use Rattle.std.specs.Str.{bytes_eq}
use Rattle.mav_names.specs.declared.names.Name.{Name}
use Rattle.plan_items.specs.declared.items.Item.{Item}
use Rattle.plan_items.specs.declared.kinds.PlanKind.{PlanKind}
use Rattle.plan_items.specs.declared.kinds.PlanKind.TheVariants.{Mission, Fence, Rally}
use Rattle.scenario_lines.specs.declared.faults.Reason.{Reason}
use Rattle.scenario_lines.specs.declared.faults.Reason.TheVariants.{Number, Node as NodeReason, Kind as KindReason}
use Rattle.scenario_lines.specs.declared.faults.Reason.TheVariants.{Hex}
use Rattle.scenario_lines.specs.declared.lines.Line.{Line}
use Rattle.scenario_lines.specs.declared.lines.Line.TheVariants.{Blank, Drone, Station, Item as OneItem, Items, Empty}
use Rattle.scenario_lines.specs.declared.lines.Line.TheVariants.{Begin, Cancel, Clear, Get, Command, Params, Heartbeat}
use Rattle.scenario_lines.specs.declared.lines.Line.TheVariants.{Deliver, Flow, Noise, Tick, Clock, Restart, Sim}
use Rattle.scenario_lines.specs.declared.lines.Line.TheVariants.{WhereIs}
use Rattle.scenario_lines.specs.declared.naming.Named.{Named}
use Rattle.scenario_lines.specs.Words.{words_of, word_at, number_in, integer_of, wire_word, bytes_word, name_of_word}
use Rattle.scenario_lines.specs.LineContext.{has_name, has_drone, has_station}

-- what a word of a line may be
pub data Argument : Type 0 where
  Whole : (low high : ℕ) → Argument  -- a whole number in this range
  Signed : Argument  -- one of 32 bits, with its sign
  Wire : Argument  -- eight hexadecimal digits
  A_station : Argument  -- the name of a station that was named before
  A_drone : Argument
  A_node : Argument
  A_kind : Argument  -- mission, fence or rally
  A_kind_or_all : Argument
  Digits : Argument  -- hexadecimal digits, two for each of one or more bytes

-- the form of a line: the arguments after its first word, and the groups of words that may follow, one by one
pub record Form : Type 0 where
  pub needed : List Argument
  pub further : List (List Argument)

abbrev pub form : List Argument → Option Form
form needed = Some (record { needed = needed; further = [] })

abbrev pub most_whole : ℕ
most_whole = 2 ^ 64 - 1

-- the most simulator ticks of one line
abbrev pub most_sim_ticks : ℕ
most_sim_ticks = 10000

-- Z, P1, P2, P3 and P4 of an item
abbrev pub item_words : List (List Argument)
item_words = (Wire ∷ []) ∷ (Wire ∷ []) ∷ (Wire ∷ []) ∷ (Wire ∷ []) ∷ (Wire ∷ []) ∷ []

-- the form of the line with this first word
abbrev pub form_of : List ℕ → Option Form
form_of word =
    -- drone SYS [X Y]
    if bytes_eq word (codes "drone") then Some
    (record { needed = Whole 1 255 ∷ []; further = (Signed ∷ Signed ∷ []) ∷ [] })
    -- station SYS COMP
    else if bytes_eq word (codes "station") then form (Whole 1 255 ∷ Whole 1 255 ∷ [])
    -- item F C X Y [Z [P1 [P2 [P3 [P4]]]]]
    else if bytes_eq word (codes "item")
    then Some (record { needed = Whole 0 255 ∷ Whole 0 65535 ∷ Signed ∷ Signed ∷ []; further = item_words })
    -- items N F C X Y [Z [P1 [P2 [P3 [P4]]]]]
    else if bytes_eq word (codes "items")
    then Some (record {
      needed = Whole 1 2000 ∷ Whole 0 255 ∷ Whole 0 65535 ∷ Signed ∷ Signed ∷ [];
      further = item_words;
    })
    -- empty
    else if bytes_eq word (codes "empty") then form []
    -- begin STATION DRONE KIND
    else if bytes_eq word (codes "begin") then form (A_station ∷ A_drone ∷ A_kind ∷ [])
    -- cancel STATION
    else if bytes_eq word (codes "cancel") then form (A_station ∷ [])
    -- clear STATION DRONE KIND
    else if bytes_eq word (codes "clear") then form (A_station ∷ A_drone ∷ A_kind_or_all ∷ [])
    -- get STATION DRONE KIND
    else if bytes_eq word (codes "get") then form (A_station ∷ A_drone ∷ A_kind ∷ [])
    -- command STATION DRONE NUMBER W
    else if bytes_eq word (codes "command") then form (A_station ∷ A_drone ∷ Whole 0 65535 ∷ Wire ∷ [])
    -- params STATION DRONE
    else if bytes_eq word (codes "params") then form (A_station ∷ A_drone ∷ [])
    -- heartbeat NODE
    else if bytes_eq word (codes "heartbeat") then form (A_node ∷ [])
    -- deliver I NODE
    else if bytes_eq word (codes "deliver") then form (Whole 1 most_whole ∷ A_node ∷ [])
    -- flow K
    else if bytes_eq word (codes "flow") then form (Whole 0 most_whole ∷ [])
    -- noise NODE HEX
    else if bytes_eq word (codes "noise") then form (A_node ∷ Digits ∷ [])
    -- tick NODE
    else if bytes_eq word (codes "tick") then form (A_node ∷ [])
    -- clock N
    else if bytes_eq word (codes "clock") then form (Whole 0 most_whole ∷ [])
    -- restart DRONE
    else if bytes_eq word (codes "restart") then form (A_drone ∷ [])
    -- sim DRONE N
    else if bytes_eq word (codes "sim") then form (A_drone ∷ Whole 1 most_sim_ticks ∷ [])
    -- where DRONE
    else if bytes_eq word (codes "where") then form (A_drone ∷ [])
    else None

abbrev pub kind_word : List ℕ → Option PlanKind
kind_word word =
    if bytes_eq word (codes "mission") then Some Mission
    else if bytes_eq word (codes "fence") then Some Fence
    else if bytes_eq word (codes "rally") then Some Rally
    else None

abbrev pub some_kind : Option PlanKind → Option (Option PlanKind)
some_kind None = None
some_kind (Some kind) = Some (Some kind)

-- a kind, or all kinds
abbrev pub kind_or_all : List ℕ → Option (Option PlanKind)
kind_or_all word = if bytes_eq word (codes "all") then Some None else some_kind (kind_word word)

-- a name that was given in a role
abbrev pub known : (Name → Bool) → Option Name → Bool
known has None = false
known has (Some name) = has name

-- a word is such an argument
abbrev pub fits : List Named → Argument → List ℕ → Bool
fits nodes (Whole low high) word = is_some (number_in low high word)
fits nodes Signed word = is_some (integer_of word)
fits nodes Wire word = is_some (wire_word word)
fits nodes A_station word = known (has_station nodes) (name_of_word word)
fits nodes A_drone word = known (has_drone nodes) (name_of_word word)
fits nodes A_node word = known (has_name nodes) (name_of_word word)
fits nodes A_kind word = is_some (kind_word word)
fits nodes A_kind_or_all word = is_some (kind_or_all word)
fits nodes Digits word = is_some (bytes_word word)

-- the reason against a word that isn't
abbrev pub reason_for : Argument → Reason
reason_for (Whole low high) = Number
reason_for Signed = Number
reason_for Wire = Hex
reason_for A_station = NodeReason
reason_for A_drone = NodeReason
reason_for A_node = NodeReason
reason_for A_kind = KindReason
reason_for A_kind_or_all = KindReason
reason_for Digits = Hex

-- the first of the arguments, from left to right, that its word doesn't fit; the first one is word `k`
abbrev pub misfit : List Named → List Argument → List (List ℕ) → ℕ → Option Reason
misfit nodes [] words k = None
misfit nodes (a ∷ more) words k = if fits nodes a (word_at words k) then misfit nodes more words (k + 1)
    else Some (reason_for a)

-- the number of words is one that the form allows, after `n` words that are there already
abbrev pub may_count : ℕ → List (List Argument) → ℕ → Bool
may_count n [] count = count == n
may_count n (group ∷ groups) count = (count == n) || may_count (n + length group) groups count

abbrev pub counts : Form → ℕ → Bool
counts f count = may_count (length f.needed + 1) f.further count

-- the arguments of a form at a number of words
abbrev pub further_arguments : ℕ → List (List Argument) → ℕ → List Argument
further_arguments n [] count = []
further_arguments n (group ∷ groups) count = if nat_lt n count
    then group ++ further_arguments (n + length group) groups count else []

abbrev pub arguments_at : Form → ℕ → List Argument
arguments_at f count = f.needed ++ further_arguments (length f.needed + 1) f.further count

abbrev pub first_reason : Option Reason → Option Reason → Option Reason
first_reason None next = next
first_reason (Some reason) next = Some reason

abbrev pub against : Bool → Reason → Option Reason
against bad reason = if bad then Some reason else None

-- an item by the words after F, which is word `k`; those that are left out are 0
abbrev pub wire_at : List (List ℕ) → ℕ → ℕ
wire_at words k = unwrap_or (wire_word (word_at words k)) 0

abbrev pub whole_at : List (List ℕ) → ℕ → ℕ
whole_at words k = unwrap_or (number_in 0 most_whole (word_at words k)) 0

abbrev pub signed_at : List (List ℕ) → ℕ → ℤ
signed_at words k = unwrap_or (integer_of (word_at words k)) (pos 0)

abbrev pub item_at : List (List ℕ) → ℕ → Item
item_at words k = record {
  frame = whole_at words k;
  command = whole_at words (k + 1);
  current = 0;
  autocontinue = 1;
  p = wire_at words (k + 5) ∷ wire_at words (k + 6) ∷ wire_at words (k + 7) ∷ wire_at words (k + 8) ∷ [];
  x = signed_at words (k + 2);
  y = signed_at words (k + 3);
  z = wire_at words (k + 4);
}

abbrev pub no_name : Name
no_name = record { sys = 0; comp = 0 }

abbrev pub name_at : List (List ℕ) → ℕ → Name
name_at words k = unwrap_or (name_of_word (word_at words k)) no_name

abbrev pub kind_at : List (List ℕ) → ℕ → PlanKind
kind_at words k = unwrap_or (kind_word (word_at words k)) Mission

abbrev pub kind_or_all_at : List (List ℕ) → ℕ → Option PlanKind
kind_or_all_at words k = unwrap_or (kind_or_all (word_at words k)) None

abbrev pub bytes_at : List (List ℕ) → ℕ → List ℕ
bytes_at words k = unwrap_or (bytes_word (word_at words k)) []

-- what a line says
abbrev pub line_from : List (List ℕ) → Line
line_from words =
    let first = word_at words 0 in
    if bytes_eq first (codes "drone") then Drone (whole_at words 1) (signed_at words 2) (signed_at words 3)
    else if bytes_eq first (codes "station") then Station (whole_at words 1) (whole_at words 2)
    else if bytes_eq first (codes "item") then OneItem (item_at words 1)
    else if bytes_eq first (codes "items") then Items (whole_at words 1) (item_at words 2)
    else if bytes_eq first (codes "empty") then Empty
    else if bytes_eq first (codes "begin") then Begin (name_at words 1) (name_at words 2) (kind_at words 3)
    else if bytes_eq first (codes "cancel") then Cancel (name_at words 1)
    else if bytes_eq first (codes "clear") then Clear (name_at words 1) (name_at words 2) (kind_or_all_at words 3)
    else if bytes_eq first (codes "get") then Get (name_at words 1) (name_at words 2) (kind_at words 3)
    else if bytes_eq first (codes "command")
    then Command (name_at words 1) (name_at words 2) (whole_at words 3) (wire_at words 4)
    else if bytes_eq first (codes "params") then Params (name_at words 1) (name_at words 2)
    else if bytes_eq first (codes "heartbeat") then Heartbeat (name_at words 1)
    else if bytes_eq first (codes "deliver") then Deliver (whole_at words 1) (name_at words 2)
    else if bytes_eq first (codes "flow") then Flow (whole_at words 1)
    else if bytes_eq first (codes "noise") then Noise (name_at words 1) (bytes_at words 2)
    else if bytes_eq first (codes "tick") then Tick (name_at words 1)
    else if bytes_eq first (codes "clock") then Clock (whole_at words 1)
    else if bytes_eq first (codes "restart") then Restart (name_at words 1)
    else if bytes_eq first (codes "sim") then Sim (name_at words 1) (whole_at words 2)
    else if bytes_eq first (codes "where") then WhereIs (name_at words 1)
    else Blank

-- an empty line, or a comment
abbrev pub is_blank : List ℕ → Bool
is_blank [] = true
is_blank (b ∷ bs) = b == 35

abbrev pub line_of : List ℕ → Line
line_of text = if is_blank text then Blank else line_from (words_of text)

abbrev pub most_line_bytes : ℕ
most_line_bytes = 4096

abbrev pub most_draft : ℕ
most_draft = 2000

-- in units of 10 microseconds, some 44 years
abbrev pub most_clock : ℕ
most_clock = 2 ^ 47
