-- The first reason against a line, by what is known of the world.
use Rattle.std.specs.Prelude.{ℕ, ℤ, pos, negsuc, ◌+◌, ◌-◌, ◌^◌, ◌||◌, ◌+ℤ◌, not, nat_lt, nat_le, Bool, false}
use Rattle.std.specs.Prelude.{if◌then◌else◌, List, [], length, codes, Option, Some, None}
use Rattle.std.specs.Str.{bytes_eq}
use Rattle.plan_items.specs.declared.items.Item.{Item}
use Rattle.scenario_lines.specs.declared.faults.Reason.{Reason}
use Rattle.scenario_lines.specs.declared.faults.Reason.TheVariants.{Long, Word, Count, Twice, Range, Draft}
use Rattle.scenario_lines.specs.declared.faults.Reason.TheVariants.{Clock as ClockReason}
use Rattle.scenario_lines.specs.declared.lines.Line.{Line}
use Rattle.scenario_lines.specs.declared.lines.Line.TheVariants.{Blank, Drone, Station, Item as OneItem, Items, Empty}
use Rattle.scenario_lines.specs.declared.lines.Line.TheVariants.{Begin, Cancel, Clear, Get, Command, Params, Heartbeat}
use Rattle.scenario_lines.specs.declared.lines.Line.TheVariants.{Deliver, Flow, Noise, Tick, Clock, Restart, Sim}
use Rattle.scenario_lines.specs.declared.lines.Line.TheVariants.{WhereIs}
use Rattle.scenario_lines.specs.Words.{words_of, word_at}
use Rattle.mav_names.specs.Addresses.{drone_name}
use Rattle.scenario_lines.specs.LineContext.{LineContext, context_of, has_name}
use Rattle.scenario_lines.specs.Grammar.{Form, form_of, counts, arguments_at, misfit, first_reason, against, line_from}
use Rattle.scenario_lines.specs.Grammar.{is_blank, most_line_bytes, most_draft, most_clock}

-- the last of n items, x apart by one, leaves 32 bits
abbrev pub is_too_great : ℤ → Bool
is_too_great (pos n) = nat_le (2 ^ 31) n
is_too_great (negsuc n) = false

abbrev pub leaves_range : ℕ → Item → Bool
leaves_range n item = is_too_great (item.x +ℤ pos (n - 1))

-- a reason that what is known of the world has against what a line says
abbrev pub state_reason : LineContext → Line → Option Reason
state_reason s Blank = None
state_reason s (Drone sys x y) = against (has_name s.nodes (drone_name sys)) Twice
state_reason s (Station sys comp) = against (has_name s.nodes (record { sys = sys; comp = comp })) Twice
state_reason s (OneItem item) = against (nat_lt most_draft (s.drafted + 1)) Draft
state_reason s (Items n first) =
    first_reason (against (leaves_range n first) Range) (against (nat_lt most_draft (s.drafted + n)) Draft)
state_reason s Empty = None
state_reason s (Begin station drone kind) = None
state_reason s (Cancel station) = None
state_reason s (Clear station drone kind) = None
state_reason s (Get station drone kind) = None
state_reason s (Command station drone number word) = None
state_reason s (Params station drone) = None
state_reason s (Heartbeat node) = None
state_reason s (Deliver i node) = None
state_reason s (Flow k) = None
state_reason s (Noise node bytes) = None
state_reason s (Tick node) = None
state_reason s (Clock n) = against (nat_lt most_clock (s.clock + n)) ClockReason
state_reason s (Restart drone) = None
state_reason s (Sim drone n) = None
state_reason s (WhereIs drone) = None

abbrev pub words_reason : LineContext → List (List ℕ) → Option Form → Option Reason
words_reason s words None = Some Word
words_reason s words (Some f) =
    if not (counts f (length words)) then Some Count
    else first_reason (misfit s.nodes (arguments_at f (length words)) words 1) (state_reason s (line_from words))

-- the first reason against a line
abbrev pub reason_against : LineContext → List ℕ → Option Reason
reason_against s text =
    if nat_lt most_line_bytes (length text) then Some Long
    else if is_blank text then None
    else words_reason s (words_of text) (form_of (word_at (words_of text) 0))

-- the first reason against a line if lines of items alone are read, after so many items
abbrev pub is_item_word : List ℕ → Bool
is_item_word word = bytes_eq word (codes "item") || bytes_eq word (codes "items")

abbrev pub item_words_reason : ℕ → List (List ℕ) → Option Reason
item_words_reason drafted words =
    if is_item_word (word_at words 0) then words_reason (context_of [] drafted 0) words (form_of (word_at words 0))
    else Some Word

abbrev pub item_reason_against : ℕ → List ℕ → Option Reason
item_reason_against drafted text =
    if nat_lt most_line_bytes (length text) then Some Long
    else if is_blank text then None
    else item_words_reason drafted (words_of text)
