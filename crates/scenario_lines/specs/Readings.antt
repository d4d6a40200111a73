-- What the reader of each form returns, word by word from left to right.
use Rattle.std.specs.Prelude.{◌≡◌, ℕ, ℤ, pos, ◌+◌, ◌==◌, ◌||◌, not, nat_lt, Bool, if◌then◌else◌, List, [], ◌∷◌, length}
use Rattle.std.specs.Prelude.{Option, Some, None, Ok, Err}
use Rattle.std.specs.declared.result.Result.{Result}
use Rattle.std.specs.Option.{ok_or}
use Rattle.mav_names.specs.declared.names.Name.{Name}
use Rattle.plan_items.specs.declared.items.Item.{Item}
use Rattle.plan_items.specs.declared.kinds.PlanKind.{PlanKind}
use Rattle.scenario_lines.specs.declared.faults.Reason.{Reason}
use Rattle.scenario_lines.specs.declared.faults.Reason.TheVariants.{Count, Number, Node as NodeReason}
use Rattle.scenario_lines.specs.declared.faults.Reason.TheVariants.{Kind as KindReason, Hex, Twice, Range, Draft}
use Rattle.scenario_lines.specs.declared.faults.Reason.TheVariants.{Clock as ClockReason}
use Rattle.scenario_lines.specs.declared.faults.LineFault.{LineFault}
use Rattle.scenario_lines.specs.declared.faults.LineFault.TheVariants.{Bad, NoMemory}
use Rattle.scenario_lines.specs.declared.lines.Line.{Line}
use Rattle.scenario_lines.specs.declared.lines.Line.TheVariants.{Drone, Station, Item as OneItem, Items, Empty, Begin}
use Rattle.scenario_lines.specs.declared.lines.Line.TheVariants.{Cancel, Clear, Get, Command, Params, Heartbeat}
use Rattle.scenario_lines.specs.declared.lines.Line.TheVariants.{Deliver, Flow, Noise, Tick, Clock, Restart, Sim}
use Rattle.scenario_lines.specs.declared.lines.Line.TheVariants.{WhereIs}
use Rattle.scenario_lines.specs.declared.naming.Named.{Named}
use Rattle.scenario_lines.specs.Words.{word_at, number_in, integer_of, wire_word, bytes_word, name_of_word}
use Rattle.mav_names.specs.Addresses.{drone_name}
use Rattle.scenario_lines.specs.LineContext.{LineContext, has_name, has_drone, has_station}
use Rattle.scenario_lines.specs.Grammar.{form_of, kind_word, kind_or_all, line_from, most_whole, most_sim_ticks}
use Rattle.scenario_lines.specs.Grammar.{most_draft, most_clock}
use Rattle.scenario_lines.specs.Reasons.{leaves_range, words_reason, item_words_reason}

-- a value, unless there is a reason against it
abbrev pub answered : {A : Type 0} → Option Reason → A → Result A Reason
answered None value = Ok value
answered (Some reason) value = Err reason

-- what is read of the words of a line that isn't blank
abbrev pub reading : LineContext → List (List ℕ) → Result Line Reason
reading s words = answered (words_reason s words (form_of (word_at words 0))) (line_from words)

-- a result is what was read, unless memory ran out
abbrev pub Says : {A : Type 0} → Result A Reason → Result A LineFault → Type 0
Says said (Ok value) = said ≡ Ok value
Says said (Err (Bad reason)) = said ≡ Err reason
Says said (Err NoMemory) = Unit {0}

-- one word and then others
abbrev pub and_then : {A B : Type 0} → Result A Reason → (A → Result B Reason) → Result B Reason
and_then (Ok value) next = next value
and_then (Err reason) next = Err reason

abbrev pub whole : List (List ℕ) → ℕ → ℕ → ℕ → Result ℕ Reason
whole words k low high = ok_or (number_in low high (word_at words k)) Number

abbrev pub signed : List (List ℕ) → ℕ → Result ℤ Reason
signed words k = ok_or (integer_of (word_at words k)) Number

-- words that may be left out at the end are zeros
abbrev pub signed_or_zero : List (List ℕ) → ℕ → Result ℤ Reason
signed_or_zero words k = if nat_lt k (length words) then signed words k else Ok (pos 0)

abbrev pub wire : List (List ℕ) → ℕ → Result ℕ Reason
wire words k = ok_or (wire_word (word_at words k)) Hex

abbrev pub wire_or_zero : List (List ℕ) → ℕ → Result ℕ Reason
wire_or_zero words k = if nat_lt k (length words) then wire words k else Ok 0

-- the name of a node in a role
abbrev pub named_in : (Name → Bool) → Option Name → Result Name Reason
named_in has None = Err NodeReason
named_in has (Some name) = if has name then Ok name else Err NodeReason

abbrev pub named : (Name → Bool) → List (List ℕ) → ℕ → Result Name Reason
named has words k = named_in has (name_of_word (word_at words k))

abbrev pub plan_kind : List (List ℕ) → ℕ → Result PlanKind Reason
plan_kind words k = ok_or (kind_word (word_at words k)) KindReason

abbrev pub plan_kind_or_all : List (List ℕ) → ℕ → Result (Option PlanKind) Reason
plan_kind_or_all words k = ok_or (kind_or_all (word_at words k)) KindReason

abbrev pub some_bytes : List (List ℕ) → ℕ → Result (List ℕ) Reason
some_bytes words k = ok_or (bytes_word (word_at words k)) Hex

-- an item whose F is word `k`
abbrev pub read_item : List (List ℕ) → ℕ → Result Item Reason
read_item words k =
    and_then (whole words k 0 255) (λ frame.
    and_then (whole words (k + 1) 0 65535) (λ command.
    and_then (signed words (k + 2)) (λ x.
    and_then (signed words (k + 3)) (λ y.
    and_then (wire_or_zero words (k + 4)) (λ z.
    and_then (wire_or_zero words (k + 5)) (λ p1.
    and_then (wire_or_zero words (k + 6)) (λ p2.
    and_then (wire_or_zero words (k + 7)) (λ p3.
    and_then (wire_or_zero words (k + 8)) (λ p4.
    Ok (record {
      frame = frame;
      command = command;
      current = 0;
      autocontinue = 1;
      p = p1 ∷ p2 ∷ p3 ∷ p4 ∷ [];
      x = x;
      y = y;
      z = z;
    }))))))))))

-- what is read after the test of the number of words
abbrev pub of_words : {A : Type 0} → ℕ → List (List ℕ) → Result A Reason → Result A Reason
of_words count words said = if not (length words == count) then Err Count else said

abbrev pub read_drone : List Named → List (List ℕ) → Result Line Reason
read_drone nodes words =
    if not ((length words == 2) || (length words == 4)) then Err Count
    else and_then (whole words 1 1 255) (λ sys.
    and_then (signed_or_zero words 2) (λ x.
    and_then (signed_or_zero words 3) (λ y.
    if has_name nodes (drone_name sys) then Err Twice else Ok (Drone sys x y))))

abbrev pub read_station : List Named → List (List ℕ) → Result Line Reason
read_station nodes words =
    of_words 3 words
    (and_then (whole words 1 1 255) (λ sys.
    and_then (whole words 2 1 255) (λ comp.
    if has_name nodes (record { sys = sys; comp = comp }) then Err Twice else Ok (Station sys comp))))

abbrev pub read_one_item : ℕ → List (List ℕ) → Result Line Reason
read_one_item drafted words =
    if nat_lt (length words) 5 then Err Count
    else if nat_lt 10 (length words) then Err Count
    else and_then (read_item words 1) (λ item.
    if nat_lt most_draft (drafted + 1) then Err Draft else Ok (OneItem item))

abbrev pub read_items : ℕ → List (List ℕ) → Result Line Reason
read_items drafted words =
    if nat_lt (length words) 6 then Err Count
    else if nat_lt 11 (length words) then Err Count
    else and_then (whole words 1 1 2000) (λ n.
    and_then (read_item words 2) (λ first.
    if leaves_range n first then Err Range
    else if nat_lt most_draft (drafted + n) then Err Draft
    else Ok (Items n first)))

abbrev pub read_empty : List (List ℕ) → Result Line Reason
read_empty words = of_words 1 words (Ok Empty)

abbrev pub read_begin : List Named → List (List ℕ) → Result Line Reason
read_begin nodes words =
    of_words 4 words
    (and_then (named (has_station nodes) words 1) (λ station.
    and_then (named (has_drone nodes) words 2) (λ drone.
    and_then (plan_kind words 3) (λ kind.
    Ok (Begin station drone kind)))))

abbrev pub read_cancel : List Named → List (List ℕ) → Result Line Reason
read_cancel nodes words = of_words 2 words
    (and_then (named (has_station nodes) words 1) (λ station. Ok (Cancel station)))

abbrev pub read_clear : List Named → List (List ℕ) → Result Line Reason
read_clear nodes words =
    of_words 4 words
    (and_then (named (has_station nodes) words 1) (λ station.
    and_then (named (has_drone nodes) words 2) (λ drone.
    and_then (plan_kind_or_all words 3) (λ kind.
    Ok (Clear station drone kind)))))

abbrev pub read_get : List Named → List (List ℕ) → Result Line Reason
read_get nodes words =
    of_words 4 words
    (and_then (named (has_station nodes) words 1) (λ station.
    and_then (named (has_drone nodes) words 2) (λ drone.
    and_then (plan_kind words 3) (λ kind.
    Ok (Get station drone kind)))))

abbrev pub read_command : List Named → List (List ℕ) → Result Line Reason
read_command nodes words =
    of_words 5 words
    (and_then (named (has_station nodes) words 1) (λ station.
    and_then (named (has_drone nodes) words 2) (λ drone.
    and_then (whole words 3 0 65535) (λ number.
    and_then (wire words 4) (λ word.
    Ok (Command station drone number word))))))

abbrev pub read_params : List Named → List (List ℕ) → Result Line Reason
read_params nodes words =
    of_words 3 words
    (and_then (named (has_station nodes) words 1) (λ station.
    and_then (named (has_drone nodes) words 2) (λ drone.
    Ok (Params station drone))))

abbrev pub read_heartbeat : List Named → List (List ℕ) → Result Line Reason
read_heartbeat nodes words = of_words 2 words (and_then (named (has_name nodes) words 1) (λ node. Ok (Heartbeat node)))

abbrev pub read_deliver : List Named → List (List ℕ) → Result Line Reason
read_deliver nodes words =
    of_words 3 words
    (and_then (whole words 1 1 most_whole) (λ i.
    and_then (named (has_name nodes) words 2) (λ node.
    Ok (Deliver i node))))

abbrev pub read_flow : List (List ℕ) → Result Line Reason
read_flow words = of_words 2 words (and_then (whole words 1 0 most_whole) (λ k. Ok (Flow k)))

abbrev pub read_noise : List Named → List (List ℕ) → Result Line Reason
read_noise nodes words =
    of_words 3 words
    (and_then (named (has_name nodes) words 1) (λ node.
    and_then (some_bytes words 2) (λ bytes.
    Ok (Noise node bytes))))

abbrev pub read_tick : List Named → List (List ℕ) → Result Line Reason
read_tick nodes words = of_words 2 words (and_then (named (has_name nodes) words 1) (λ node. Ok (Tick node)))

abbrev pub read_clock : ℕ → List (List ℕ) → Result Line Reason
read_clock clock words =
    of_words 2 words
    (and_then (whole words 1 0 most_whole) (λ n.
    if nat_lt most_clock (clock + n) then Err ClockReason else Ok (Clock n)))

abbrev pub read_restart : List Named → List (List ℕ) → Result Line Reason
read_restart nodes words = of_words 2 words (and_then (named (has_drone nodes) words 1) (λ drone. Ok (Restart drone)))

abbrev pub read_sim : List Named → List (List ℕ) → Result Line Reason
read_sim nodes words =
    of_words 3 words
    (and_then (named (has_drone nodes) words 1) (λ drone.
    and_then (whole words 2 1 most_sim_ticks) (λ n.
    Ok (Sim drone n))))

abbrev pub read_where : List Named → List (List ℕ) → Result Line Reason
read_where nodes words = of_words 2 words (and_then (named (has_drone nodes) words 1) (λ drone. Ok (WhereIs drone)))

-- what is read of the words of a line of items
abbrev pub reading_items : ℕ → List (List ℕ) → Result Line Reason
reading_items drafted words = answered (item_words_reason drafted words) (line_from words)
