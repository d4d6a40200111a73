-- Each form read word by word, against the grammar.
use Rattle.std.proofs.Common.{◌≡◌, ℕ, ℤ, pos, ◌+◌, ◌≤◌, ◌==◌, not, Bool, true, false, List, [], ◌∷◌, length, codes, refl, arith, sym, ◌∙◌, ap, subst, lit≤, Option, Some, None, Ok, Err, Result, inl, inr, if◌then◌else◌, nat_lt}
use Rattle.std.proofs.lemmas.Bool.{cases_lt, lt-ltb, le-ltb, cases_eq, ne_eqb}
use Rattle.std.proofs.lemmas.List.{get_or_past}
use Rattle.mav_names.specs.declared.names.Name.{Name}
use Rattle.plan_items.specs.declared.kinds.PlanKind.{PlanKind}
use Rattle.scenario_lines.specs.declared.faults.Reason.{Reason}
use Rattle.scenario_lines.specs.declared.faults.Reason.TheVariants.{Count, Number, Kind as KindReason, Hex, Twice, Range, Draft, Clock as ClockReason}
use Rattle.scenario_lines.specs.declared.lines.Line.{Line}
use Rattle.scenario_lines.specs.declared.lines.Line.TheVariants.{Drone, Station, Item as OneItem, Items, Begin, Cancel, Clear, Get, Command, Params, Heartbeat, Deliver, Flow, Noise, Tick, Clock, Restart, Sim, WhereIs}
use Rattle.scenario_lines.specs.Words.{word_at, number_in, integer_of, wire_word, bytes_word, name_of_word}
use Rattle.mav_names.specs.Addresses.{drone_name}
use Rattle.scenario_lines.specs.LineContext.{LineContext, has_name, has_drone, has_station}
use Rattle.scenario_lines.specs.Grammar.{first_reason, against, whole_at, signed_at, wire_at, name_at, kind_at, kind_or_all_at, bytes_at, kind_word, kind_or_all, most_whole, most_sim_ticks, most_draft, most_clock}
use Rattle.scenario_lines.specs.Reasons.{state_reason, leaves_range}
use Rattle.scenario_lines.specs.Readings.{answered, reading, of_words, read_drone, read_station, read_one_item, read_items, read_empty, read_begin, read_cancel, read_clear, read_get, read_command, read_params, read_heartbeat, read_deliver, read_flow, read_noise, read_tick, read_clock, read_restart, read_sim, read_where}
use Rattle.scenario_lines.proofs.ReadWords.{first, step, named_step, the_value, number_wider, too_few, too_many, enough}
use Rattle.scenario_lines.proofs.ReadItems.{item-reads, item_said}

-- a last reason of what is known of the world
pub at_last : {A : Type 0} (bad : Bool) (r : Reason) (v : A) → (if bad then Err r else Ok v) ≡ answered (against bad r) v
at_last true r v = refl
at_last false r v = refl

two_last : {A : Type 0} (bad worse : Bool) (r q : Reason) (v : A)
    → (if bad then Err r else if worse then Err q else Ok v) ≡ answered (first_reason (against bad r) (against worse q)) v
two_last true worse r q v = refl
two_last false worse r q v = at_last worse q v

-- the test of the number of words comes first
counted_first : (n : ℕ) (words : List (List ℕ)) (m : Option Reason) (v : Line) (said : Result Line Reason) → said ≡ answered m v
    → answered (if not (length words == n) then Some Count else m) v ≡ of_words n words said
counted_first n words m v said h =
    first (not (length words == n)) Count m v ∙ ap (λ r. if not (length words == n) then Err Count else r) (sym h)

-- drone SYS [X Y]
drone_said : (s : LineContext) (words : List (List ℕ)) (sys : ℕ) (x y : ℤ) → whole_at words 1 ≡ sys → signed_at words 2 ≡ x → signed_at words 3 ≡ y
    → (if has_name s.nodes (drone_name sys) then Err Twice else Ok (Drone sys x y))
    ≡ answered (state_reason s (Drone (whole_at words 1) (signed_at words 2) (signed_at words 3))) (Drone (whole_at words 1) (signed_at words 2) (signed_at words 3))
drone_said s words sys x y e0 e1 e2 = rw (← e0, ← e1, ← e2) (at_last _ Twice _)

drone_two : (s : LineContext) (ws : List (List ℕ)) → length (codes "drone" ∷ ws) ≡ 2 → reading s (codes "drone" ∷ ws) ≡ read_drone s.nodes (codes "drone" ∷ ws)
drone_two s ws two =
    let no_x : signed_at (codes "drone" ∷ ws) 2 ≡ pos 0 = rw (get_or_past (codes "drone" ∷ ws) 2 [] (omega arith)) refl in
    let no_y : signed_at (codes "drone" ∷ ws) 3 ≡ pos 0 = rw (get_or_past (codes "drone" ∷ ws) 3 [] (omega arith)) refl in
    rw two
    (sym (step (number_in 1 255 (word_at (codes "drone" ∷ ws) 1)) None _ Number _ _ (λ sys is_sys.
    drone_said s (codes "drone" ∷ ws) sys (pos 0) (pos 0) (number_wider 1 255 sys (word_at (codes "drone" ∷ ws) 1) (lit≤ tt) is_sys) no_x no_y)))

drone_four : (s : LineContext) (ws : List (List ℕ)) → length (codes "drone" ∷ ws) ≡ 4 → reading s (codes "drone" ∷ ws) ≡ read_drone s.nodes (codes "drone" ∷ ws)
drone_four s ws four =
    rw four
    (sym (step (number_in 1 255 (word_at (codes "drone" ∷ ws) 1)) _ _ Number _ _ (λ sys is_sys.
    step (integer_of (word_at (codes "drone" ∷ ws) 2)) _ _ Number _ _ (λ x is_x.
    step (integer_of (word_at (codes "drone" ∷ ws) 3)) None _ Number _ _ (λ y is_y.
    drone_said s (codes "drone" ∷ ws) sys x y (number_wider 1 255 sys (word_at (codes "drone" ∷ ws) 1) (lit≤ tt) is_sys) (the_value _ _ x is_x) (the_value _ _ y is_y))))))

drone_count : (s : LineContext) (ws : List (List ℕ)) → (length (codes "drone" ∷ ws) ≡ 2 → ⊥) → (length (codes "drone" ∷ ws) ≡ 4 → ⊥)
    → reading s (codes "drone" ∷ ws) ≡ read_drone s.nodes (codes "drone" ∷ ws)
drone_count s ws two four =
    rw (ne_eqb (length (codes "drone" ∷ ws)) 2 two, ne_eqb (length (codes "drone" ∷ ws)) 4 four) refl

drone_at : (s : LineContext) (ws : List (List ℕ)) → reading s (codes "drone" ∷ ws) ≡ read_drone s.nodes (codes "drone" ∷ ws)
drone_at s ws =
    elim (cases_eq (length (codes "drone" ∷ ws)) 2) [
      | inl two ↦ drone_two s ws two
      | inr more ↦
          elim (cases_eq (length (codes "drone" ∷ ws)) 4) [
            | inl four ↦ drone_four s ws four
            | inr other ↦ drone_count s ws more other
          ]
    ]

-- station SYS COMP
station_said : (s : LineContext) (words : List (List ℕ)) (sys comp : ℕ) → whole_at words 1 ≡ sys → whole_at words 2 ≡ comp
    → (if has_name s.nodes (record { sys = sys; comp = comp }) then Err Twice else Ok (Station sys comp))
    ≡ answered (state_reason s (Station (whole_at words 1) (whole_at words 2))) (Station (whole_at words 1) (whole_at words 2))
station_said s words sys comp e0 e1 = rw (← e0, ← e1) (at_last _ Twice _)

station_at : (s : LineContext) (ws : List (List ℕ)) → reading s (codes "station" ∷ ws) ≡ read_station s.nodes (codes "station" ∷ ws)
station_at s ws =
    counted_first 3 (codes "station" ∷ ws) _ _ _
    (step (number_in 1 255 (word_at (codes "station" ∷ ws) 1)) _ _ Number _ _ (λ sys is_sys.
    step (number_in 1 255 (word_at (codes "station" ∷ ws) 2)) None _ Number _ _ (λ comp is_comp.
    station_said s (codes "station" ∷ ws) sys comp (number_wider 1 255 sys (word_at (codes "station" ∷ ws) 1) (lit≤ tt) is_sys)
    (number_wider 1 255 comp (word_at (codes "station" ∷ ws) 2) (lit≤ tt) is_comp))))

-- item F C X Y [Z [P1 [P2 [P3 [P4]]]]]
item_words_read : (s : LineContext) (ws : List (List ℕ)) → 5 ≤ length (codes "item" ∷ ws) → length (codes "item" ∷ ws) ≤ 10
    → reading s (codes "item" ∷ ws) ≡ read_one_item s.drafted (codes "item" ∷ ws)
item_words_read s ws low high =
    rw (enough 5 (length (codes "item" ∷ ws)) low high, le-ltb (length (codes "item" ∷ ws)) 5 low, le-ltb 10 (length (codes "item" ∷ ws)) high)
    (sym (item-reads s.nodes (codes "item" ∷ ws) 1 (state_reason s (OneItem (item_said (codes "item" ∷ ws) 1))) (OneItem (item_said (codes "item" ∷ ws) 1))
    (λ item. if nat_lt most_draft (s.drafted + 1) then Err Draft else Ok (OneItem item)) (at_last _ Draft _)))

item_at : (s : LineContext) (ws : List (List ℕ)) → reading s (codes "item" ∷ ws) ≡ read_one_item s.drafted (codes "item" ∷ ws)
item_at s ws =
    elim (cases_lt (length (codes "item" ∷ ws)) 5) [
      | inl few ↦ rw (too_few 5 (length (codes "item" ∷ ws)) few, lt-ltb (length (codes "item" ∷ ws)) 5 few) refl
      | inr low ↦
          elim (cases_lt 10 (length (codes "item" ∷ ws))) [
            | inl many ↦ rw (too_many 5 (length (codes "item" ∷ ws)) many, le-ltb (length (codes "item" ∷ ws)) 5 low, lt-ltb 10 (length (codes "item" ∷ ws)) many) refl
            | inr high ↦ item_words_read s ws low high
          ]
    ]

-- items N F C X Y [Z [P1 [P2 [P3 [P4]]]]]
items_said : (s : LineContext) (words : List (List ℕ)) (n : ℕ) → whole_at words 1 ≡ n
    → (if leaves_range n (item_said words 2) then Err Range else if nat_lt most_draft (s.drafted + n) then Err Draft else Ok (Items n (item_said words 2)))
    ≡ answered (state_reason s (Items (whole_at words 1) (item_said words 2))) (Items (whole_at words 1) (item_said words 2))
items_said s words n e = rw (← e) (two_last _ _ Range Draft _)

items_words_read : (s : LineContext) (ws : List (List ℕ)) → 6 ≤ length (codes "items" ∷ ws) → length (codes "items" ∷ ws) ≤ 11
    → reading s (codes "items" ∷ ws) ≡ read_items s.drafted (codes "items" ∷ ws)
items_words_read s ws low high =
    rw (enough 6 (length (codes "items" ∷ ws)) low high, le-ltb (length (codes "items" ∷ ws)) 6 low, le-ltb 11 (length (codes "items" ∷ ws)) high)
    (sym (step (number_in 1 2000 (word_at (codes "items" ∷ ws) 1)) _ _ Number _ _ (λ n is_n.
    item-reads s.nodes (codes "items" ∷ ws) 2 (state_reason s (Items (whole_at (codes "items" ∷ ws) 1) (item_said (codes "items" ∷ ws) 2))) (Items (whole_at (codes "items" ∷ ws) 1) (item_said (codes "items" ∷ ws) 2))
    (λ item. if leaves_range n item then Err Range else if nat_lt most_draft (s.drafted + n) then Err Draft else Ok (Items n item))
    (items_said s (codes "items" ∷ ws) n (number_wider 1 2000 n (word_at (codes "items" ∷ ws) 1) (lit≤ tt) is_n)))))

items_at : (s : LineContext) (ws : List (List ℕ)) → reading s (codes "items" ∷ ws) ≡ read_items s.drafted (codes "items" ∷ ws)
items_at s ws =
    elim (cases_lt (length (codes "items" ∷ ws)) 6) [
      | inl few ↦ rw (too_few 6 (length (codes "items" ∷ ws)) few, lt-ltb (length (codes "items" ∷ ws)) 6 few) refl
      | inr low ↦
          elim (cases_lt 11 (length (codes "items" ∷ ws))) [
            | inl many ↦ rw (too_many 6 (length (codes "items" ∷ ws)) many, le-ltb (length (codes "items" ∷ ws)) 6 low, lt-ltb 11 (length (codes "items" ∷ ws)) many) refl
            | inr high ↦ items_words_read s ws low high
          ]
    ]

-- empty
empty_at : (s : LineContext) (ws : List (List ℕ)) → reading s (codes "empty" ∷ ws) ≡ read_empty (codes "empty" ∷ ws)
empty_at s ws = counted_first 1 (codes "empty" ∷ ws) _ _ _ refl

-- begin STATION DRONE KIND
begin_said : (words : List (List ℕ)) (station drone : Name) (kind : PlanKind) → name_at words 1 ≡ station → name_at words 2 ≡ drone → kind_at words 3 ≡ kind
    → answered None (Begin station drone kind) ≡ answered None (Begin (name_at words 1) (name_at words 2) (kind_at words 3))
begin_said words station drone kind e0 e1 e2 = rw (← e0, ← e1, ← e2) refl

begin_at : (s : LineContext) (ws : List (List ℕ)) → reading s (codes "begin" ∷ ws) ≡ read_begin s.nodes (codes "begin" ∷ ws)
begin_at s ws =
    counted_first 4 (codes "begin" ∷ ws) _ _ _
    (named_step (has_station s.nodes) (name_of_word (word_at (codes "begin" ∷ ws) 1)) _ None _ _ (λ station is_station.
    named_step (has_drone s.nodes) (name_of_word (word_at (codes "begin" ∷ ws) 2)) _ None _ _ (λ drone is_drone.
    step (kind_word (word_at (codes "begin" ∷ ws) 3)) None None KindReason _ _ (λ kind is_kind.
    begin_said (codes "begin" ∷ ws) station drone kind (the_value _ _ station is_station) (the_value _ _ drone is_drone) (the_value _ _ kind is_kind)))))

-- cancel STATION
cancel_at : (s : LineContext) (ws : List (List ℕ)) → reading s (codes "cancel" ∷ ws) ≡ read_cancel s.nodes (codes "cancel" ∷ ws)
cancel_at s ws =
    counted_first 2 (codes "cancel" ∷ ws) _ _ _
    (named_step (has_station s.nodes) (name_of_word (word_at (codes "cancel" ∷ ws) 1)) None None _ _ (λ station is_station.
    ap (λ name. Ok (Cancel name)) (sym (the_value _ _ station is_station))))

-- clear STATION DRONE KIND
clear_said : (words : List (List ℕ)) (station drone : Name) (kind : Option PlanKind) → name_at words 1 ≡ station → name_at words 2 ≡ drone → kind_or_all_at words 3 ≡ kind
    → answered None (Clear station drone kind) ≡ answered None (Clear (name_at words 1) (name_at words 2) (kind_or_all_at words 3))
clear_said words station drone kind e0 e1 e2 = rw (← e0, ← e1, ← e2) refl

clear_at : (s : LineContext) (ws : List (List ℕ)) → reading s (codes "clear" ∷ ws) ≡ read_clear s.nodes (codes "clear" ∷ ws)
clear_at s ws =
    counted_first 4 (codes "clear" ∷ ws) _ _ _
    (named_step (has_station s.nodes) (name_of_word (word_at (codes "clear" ∷ ws) 1)) _ None _ _ (λ station is_station.
    named_step (has_drone s.nodes) (name_of_word (word_at (codes "clear" ∷ ws) 2)) _ None _ _ (λ drone is_drone.
    step (kind_or_all (word_at (codes "clear" ∷ ws) 3)) None None KindReason _ _ (λ kind is_kind.
    clear_said (codes "clear" ∷ ws) station drone kind (the_value _ _ station is_station) (the_value _ _ drone is_drone) (the_value _ _ kind is_kind)))))

-- get STATION DRONE KIND
get_said : (words : List (List ℕ)) (station drone : Name) (kind : PlanKind) → name_at words 1 ≡ station → name_at words 2 ≡ drone → kind_at words 3 ≡ kind
    → answered None (Get station drone kind) ≡ answered None (Get (name_at words 1) (name_at words 2) (kind_at words 3))
get_said words station drone kind e0 e1 e2 = rw (← e0, ← e1, ← e2) refl

get_at : (s : LineContext) (ws : List (List ℕ)) → reading s (codes "get" ∷ ws) ≡ read_get s.nodes (codes "get" ∷ ws)
get_at s ws =
    counted_first 4 (codes "get" ∷ ws) _ _ _
    (named_step (has_station s.nodes) (name_of_word (word_at (codes "get" ∷ ws) 1)) _ None _ _ (λ station is_station.
    named_step (has_drone s.nodes) (name_of_word (word_at (codes "get" ∷ ws) 2)) _ None _ _ (λ drone is_drone.
    step (kind_word (word_at (codes "get" ∷ ws) 3)) None None KindReason _ _ (λ kind is_kind.
    get_said (codes "get" ∷ ws) station drone kind (the_value _ _ station is_station) (the_value _ _ drone is_drone) (the_value _ _ kind is_kind)))))

-- command STATION DRONE NUMBER W
command_said : (words : List (List ℕ)) (station drone : Name) (number word : ℕ)
    → name_at words 1 ≡ station → name_at words 2 ≡ drone → whole_at words 3 ≡ number → wire_at words 4 ≡ word
    → answered None (Command station drone number word) ≡ answered None (Command (name_at words 1) (name_at words 2) (whole_at words 3) (wire_at words 4))
command_said words station drone number word e0 e1 e2 e3 = rw (← e0, ← e1, ← e2, ← e3) refl

command_at : (s : LineContext) (ws : List (List ℕ)) → reading s (codes "command" ∷ ws) ≡ read_command s.nodes (codes "command" ∷ ws)
command_at s ws =
    counted_first 5 (codes "command" ∷ ws) _ _ _
    (named_step (has_station s.nodes) (name_of_word (word_at (codes "command" ∷ ws) 1)) _ None _ _ (λ station is_station.
    named_step (has_drone s.nodes) (name_of_word (word_at (codes "command" ∷ ws) 2)) _ None _ _ (λ drone is_drone.
    step (number_in 0 65535 (word_at (codes "command" ∷ ws) 3)) _ None Number _ _ (λ number is_number.
    step (wire_word (word_at (codes "command" ∷ ws) 4)) None None Hex _ _ (λ word is_word.
    command_said (codes "command" ∷ ws) station drone number word (the_value _ _ station is_station) (the_value _ _ drone is_drone)
    (number_wider 0 65535 number (word_at (codes "command" ∷ ws) 3) (lit≤ tt) is_number) (the_value _ _ word is_word))))))

-- params STATION DRONE
params_said : (words : List (List ℕ)) (station drone : Name) → name_at words 1 ≡ station → name_at words 2 ≡ drone
    → answered None (Params station drone) ≡ answered None (Params (name_at words 1) (name_at words 2))
params_said words station drone e0 e1 = rw (← e0, ← e1) refl

params_at : (s : LineContext) (ws : List (List ℕ)) → reading s (codes "params" ∷ ws) ≡ read_params s.nodes (codes "params" ∷ ws)
params_at s ws =
    counted_first 3 (codes "params" ∷ ws) _ _ _
    (named_step (has_station s.nodes) (name_of_word (word_at (codes "params" ∷ ws) 1)) _ None _ _ (λ station is_station.
    named_step (has_drone s.nodes) (name_of_word (word_at (codes "params" ∷ ws) 2)) None None _ _ (λ drone is_drone.
    params_said (codes "params" ∷ ws) station drone (the_value _ _ station is_station) (the_value _ _ drone is_drone))))

-- heartbeat NODE
heartbeat_at : (s : LineContext) (ws : List (List ℕ)) → reading s (codes "heartbeat" ∷ ws) ≡ read_heartbeat s.nodes (codes "heartbeat" ∷ ws)
heartbeat_at s ws =
    counted_first 2 (codes "heartbeat" ∷ ws) _ _ _
    (named_step (has_name s.nodes) (name_of_word (word_at (codes "heartbeat" ∷ ws) 1)) None None _ _ (λ node is_node.
    ap (λ name. Ok (Heartbeat name)) (sym (the_value _ _ node is_node))))

-- deliver I NODE
deliver_said : (words : List (List ℕ)) (i : ℕ) (node : Name) → whole_at words 1 ≡ i → name_at words 2 ≡ node
    → answered None (Deliver i node) ≡ answered None (Deliver (whole_at words 1) (name_at words 2))
deliver_said words i node e0 e1 = rw (← e0, ← e1) refl

deliver_at : (s : LineContext) (ws : List (List ℕ)) → reading s (codes "deliver" ∷ ws) ≡ read_deliver s.nodes (codes "deliver" ∷ ws)
deliver_at s ws =
    counted_first 3 (codes "deliver" ∷ ws) _ _ _
    (step (number_in 1 most_whole (word_at (codes "deliver" ∷ ws) 1)) _ None Number _ _ (λ i is_i.
    named_step (has_name s.nodes) (name_of_word (word_at (codes "deliver" ∷ ws) 2)) None None _ _ (λ node is_node.
    deliver_said (codes "deliver" ∷ ws) i node (number_wider 1 most_whole i (word_at (codes "deliver" ∷ ws) 1) (lit≤ tt) is_i) (the_value _ _ node is_node))))

-- flow K
flow_at : (s : LineContext) (ws : List (List ℕ)) → reading s (codes "flow" ∷ ws) ≡ read_flow (codes "flow" ∷ ws)
flow_at s ws =
    counted_first 2 (codes "flow" ∷ ws) _ _ _
    (step (number_in 0 most_whole (word_at (codes "flow" ∷ ws) 1)) None None Number _ _ (λ k is_k.
    ap (λ n. Ok (Flow n)) (sym (the_value _ 0 k is_k))))

-- noise NODE HEX
noise_said : (words : List (List ℕ)) (node : Name) (bytes : List ℕ) → name_at words 1 ≡ node → bytes_at words 2 ≡ bytes
    → answered None (Noise node bytes) ≡ answered None (Noise (name_at words 1) (bytes_at words 2))
noise_said words node bytes e0 e1 = rw (← e0, ← e1) refl

noise_at : (s : LineContext) (ws : List (List ℕ)) → reading s (codes "noise" ∷ ws) ≡ read_noise s.nodes (codes "noise" ∷ ws)
noise_at s ws =
    counted_first 3 (codes "noise" ∷ ws) _ _ _
    (named_step (has_name s.nodes) (name_of_word (word_at (codes "noise" ∷ ws) 1)) _ None _ _ (λ node is_node.
    step (bytes_word (word_at (codes "noise" ∷ ws) 2)) None None Hex _ _ (λ bytes is_bytes.
    noise_said (codes "noise" ∷ ws) node bytes (the_value _ _ node is_node) (the_value _ _ bytes is_bytes))))

-- tick NODE
tick_at : (s : LineContext) (ws : List (List ℕ)) → reading s (codes "tick" ∷ ws) ≡ read_tick s.nodes (codes "tick" ∷ ws)
tick_at s ws =
    counted_first 2 (codes "tick" ∷ ws) _ _ _
    (named_step (has_name s.nodes) (name_of_word (word_at (codes "tick" ∷ ws) 1)) None None _ _ (λ node is_node.
    ap (λ name. Ok (Tick name)) (sym (the_value _ _ node is_node))))

-- clock N
clock_said : (s : LineContext) (words : List (List ℕ)) (n : ℕ) → whole_at words 1 ≡ n
    → (if nat_lt most_clock (s.clock + n) then Err ClockReason else Ok (Clock n)) ≡ answered (state_reason s (Clock (whole_at words 1))) (Clock (whole_at words 1))
clock_said s words n e = rw (← e) (at_last _ ClockReason _)

clock_at : (s : LineContext) (ws : List (List ℕ)) → reading s (codes "clock" ∷ ws) ≡ read_clock s.clock (codes "clock" ∷ ws)
clock_at s ws =
    counted_first 2 (codes "clock" ∷ ws) _ _ _
    (step (number_in 0 most_whole (word_at (codes "clock" ∷ ws) 1)) None _ Number _ _ (λ n is_n.
    clock_said s (codes "clock" ∷ ws) n (the_value _ 0 n is_n)))

-- restart DRONE
restart_at : (s : LineContext) (ws : List (List ℕ)) → reading s (codes "restart" ∷ ws) ≡ read_restart s.nodes (codes "restart" ∷ ws)
restart_at s ws =
    counted_first 2 (codes "restart" ∷ ws) _ _ _
    (named_step (has_drone s.nodes) (name_of_word (word_at (codes "restart" ∷ ws) 1)) None None _ _ (λ drone is_drone.
    ap (λ name. Ok (Restart name)) (sym (the_value _ _ drone is_drone))))

-- sim DRONE N
sim_said : (words : List (List ℕ)) (drone : Name) (n : ℕ) → name_at words 1 ≡ drone → whole_at words 2 ≡ n
    → answered None (Sim drone n) ≡ answered None (Sim (name_at words 1) (whole_at words 2))
sim_said words drone n e0 e1 = rw (← e0, ← e1) refl

sim_at : (s : LineContext) (ws : List (List ℕ)) → reading s (codes "sim" ∷ ws) ≡ read_sim s.nodes (codes "sim" ∷ ws)
sim_at s ws =
    counted_first 3 (codes "sim" ∷ ws) _ _ _
    (named_step (has_drone s.nodes) (name_of_word (word_at (codes "sim" ∷ ws) 1)) _ None _ _ (λ drone is_drone.
    step (number_in 1 most_sim_ticks (word_at (codes "sim" ∷ ws) 2)) None None Number _ _ (λ n is_n.
    sim_said (codes "sim" ∷ ws) drone n (the_value _ _ drone is_drone) (number_wider 1 most_sim_ticks n (word_at (codes "sim" ∷ ws) 2) (lit≤ tt) is_n))))

-- where DRONE
where_at : (s : LineContext) (ws : List (List ℕ)) → reading s (codes "where" ∷ ws) ≡ read_where s.nodes (codes "where" ∷ ws)
where_at s ws =
    counted_first 2 (codes "where" ∷ ws) _ _ _
    (named_step (has_drone s.nodes) (name_of_word (word_at (codes "where" ∷ ws) 1)) None None _ _ (λ drone is_drone.
    ap (λ name. Ok (WhereIs name)) (sym (the_value _ _ drone is_drone))))

-- words of which the first is given
pub starts : (P : List (List ℕ) → Type 0) (b : ℕ) (bs : List ℕ) → ((ws : List (List ℕ)) → P ((b ∷ bs) ∷ ws)) → (words : List (List ℕ)) → word_at words 0 ≡ b ∷ bs → P words
starts P b bs h [] e = cc
starts P b bs h (w ∷ ws) e = let Q : List ℕ → Type 0 = λ v. P (v ∷ ws) in subst Q (sym e) (h ws)

pub drone_reads : (s : LineContext) (words : List (List ℕ)) → word_at words 0 ≡ codes "drone" → reading s words ≡ read_drone s.nodes words
drone_reads s words e = starts (λ ws. reading s ws ≡ read_drone s.nodes ws) _ _ (drone_at s) words e

pub station_reads : (s : LineContext) (words : List (List ℕ)) → word_at words 0 ≡ codes "station" → reading s words ≡ read_station s.nodes words
station_reads s words e = starts (λ ws. reading s ws ≡ read_station s.nodes ws) _ _ (station_at s) words e

pub item_reads : (s : LineContext) (words : List (List ℕ)) → word_at words 0 ≡ codes "item" → reading s words ≡ read_one_item s.drafted words
item_reads s words e = starts (λ ws. reading s ws ≡ read_one_item s.drafted ws) _ _ (item_at s) words e

pub items_reads : (s : LineContext) (words : List (List ℕ)) → word_at words 0 ≡ codes "items" → reading s words ≡ read_items s.drafted words
items_reads s words e = starts (λ ws. reading s ws ≡ read_items s.drafted ws) _ _ (items_at s) words e

pub empty_reads : (s : LineContext) (words : List (List ℕ)) → word_at words 0 ≡ codes "empty" → reading s words ≡ read_empty words
empty_reads s words e = starts (λ ws. reading s ws ≡ read_empty ws) _ _ (empty_at s) words e

pub begin_reads : (s : LineContext) (words : List (List ℕ)) → word_at words 0 ≡ codes "begin" → reading s words ≡ read_begin s.nodes words
begin_reads s words e = starts (λ ws. reading s ws ≡ read_begin s.nodes ws) _ _ (begin_at s) words e

pub cancel_reads : (s : LineContext) (words : List (List ℕ)) → word_at words 0 ≡ codes "cancel" → reading s words ≡ read_cancel s.nodes words
cancel_reads s words e = starts (λ ws. reading s ws ≡ read_cancel s.nodes ws) _ _ (cancel_at s) words e

pub clear_reads : (s : LineContext) (words : List (List ℕ)) → word_at words 0 ≡ codes "clear" → reading s words ≡ read_clear s.nodes words
clear_reads s words e = starts (λ ws. reading s ws ≡ read_clear s.nodes ws) _ _ (clear_at s) words e

pub get_reads : (s : LineContext) (words : List (List ℕ)) → word_at words 0 ≡ codes "get" → reading s words ≡ read_get s.nodes words
get_reads s words e = starts (λ ws. reading s ws ≡ read_get s.nodes ws) _ _ (get_at s) words e

pub command_reads : (s : LineContext) (words : List (List ℕ)) → word_at words 0 ≡ codes "command" → reading s words ≡ read_command s.nodes words
command_reads s words e = starts (λ ws. reading s ws ≡ read_command s.nodes ws) _ _ (command_at s) words e

pub params_reads : (s : LineContext) (words : List (List ℕ)) → word_at words 0 ≡ codes "params" → reading s words ≡ read_params s.nodes words
params_reads s words e = starts (λ ws. reading s ws ≡ read_params s.nodes ws) _ _ (params_at s) words e

pub heartbeat_reads : (s : LineContext) (words : List (List ℕ)) → word_at words 0 ≡ codes "heartbeat" → reading s words ≡ read_heartbeat s.nodes words
heartbeat_reads s words e = starts (λ ws. reading s ws ≡ read_heartbeat s.nodes ws) _ _ (heartbeat_at s) words e

pub deliver_reads : (s : LineContext) (words : List (List ℕ)) → word_at words 0 ≡ codes "deliver" → reading s words ≡ read_deliver s.nodes words
deliver_reads s words e = starts (λ ws. reading s ws ≡ read_deliver s.nodes ws) _ _ (deliver_at s) words e

pub flow_reads : (s : LineContext) (words : List (List ℕ)) → word_at words 0 ≡ codes "flow" → reading s words ≡ read_flow words
flow_reads s words e = starts (λ ws. reading s ws ≡ read_flow ws) _ _ (flow_at s) words e

pub noise_reads : (s : LineContext) (words : List (List ℕ)) → word_at words 0 ≡ codes "noise" → reading s words ≡ read_noise s.nodes words
noise_reads s words e = starts (λ ws. reading s ws ≡ read_noise s.nodes ws) _ _ (noise_at s) words e

pub tick_reads : (s : LineContext) (words : List (List ℕ)) → word_at words 0 ≡ codes "tick" → reading s words ≡ read_tick s.nodes words
tick_reads s words e = starts (λ ws. reading s ws ≡ read_tick s.nodes ws) _ _ (tick_at s) words e

pub clock_reads : (s : LineContext) (words : List (List ℕ)) → word_at words 0 ≡ codes "clock" → reading s words ≡ read_clock s.clock words
clock_reads s words e = starts (λ ws. reading s ws ≡ read_clock s.clock ws) _ _ (clock_at s) words e

pub restart_reads : (s : LineContext) (words : List (List ℕ)) → word_at words 0 ≡ codes "restart" → reading s words ≡ read_restart s.nodes words
restart_reads s words e = starts (λ ws. reading s ws ≡ read_restart s.nodes ws) _ _ (restart_at s) words e

pub sim_reads : (s : LineContext) (words : List (List ℕ)) → word_at words 0 ≡ codes "sim" → reading s words ≡ read_sim s.nodes words
sim_reads s words e = starts (λ ws. reading s ws ≡ read_sim s.nodes ws) _ _ (sim_at s) words e

pub where_reads : (s : LineContext) (words : List (List ℕ)) → word_at words 0 ≡ codes "where" → reading s words ≡ read_where s.nodes words
where_reads s words e = starts (λ ws. reading s ws ≡ read_where s.nodes ws) _ _ (where_at s) words e
