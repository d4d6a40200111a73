-- What the words of `drone` and `station` that the program holds say.
use Rattle.std.proofs.Common.{◌≡◌, ◌∙◌, ◌≤◌, ◌<◌, ◌-◌, ◌&&◌, ℕ, Bool, true, false, List, [], ◌∷◌, refl, sym, ap, subst, arith, lit≤, length, take, drop, get_or, map, Option, Some, None, is_some, Result, Ok, Err, IfOk, String, string_bytes}
use Rattle.std.proofs.lemmas.Bool.{and_from, and_left, and_right}
use Rattle.std.proofs.lemmas.Grind.{common_steps}
use Rattle.std.specs.Fmt.{decimal}
use Rattle.std.specs.declared.alloc.AllocError.{AllocError}
use Rattle.std.specs.declared.alloc.Global.{Global}
use Rattle.command_line.specs.declared.commands.Command.TheVariants.{Drone, Station}
use Rattle.command_line.specs.declared.operations.Operation.{Operation}
use Rattle.command_line.specs.declared.operations.Task.{Task}
use Rattle.command_line.specs.declared.plain.Values.{Values}
use Rattle.command_line.specs.declared.ports.Port.{Port}
use Rattle.command_line.specs.Lines.{Says, is_number_and_file, NumberRead, NodeRead, PlainRead}
use Rattle.command_line.specs.Names.{port_words}
use Rattle.command_line.specs.Nodes.{is_node, task_in, is_drone, is_station, OnePort, DroneSays, StationSays, NodeSays}
use Rattle.command_line.specs.Numbers.{number_in}
use Rattle.command_line.specs.OperationTexts.{operation_in}
use Rattle.command_line.specs.PortTexts.{is_some_text, is_port, port_text}
use Rattle.command_line.proofs.Numerals.{number_is}
use Rattle.command_line.proofs.NodeWords.{task_found}
use Rattle.command_line.proofs.OperationWords.{operation_says}

-- words that are held, by how many there are
pub two_held : (xs : List (String Global)) (a b : String Global) (v w : List ℕ) → 2 ≤ length xs → length xs < 3 → a ≡ get_or xs 0 a → b ≡ get_or xs 1 b → v ≡ string_bytes a → w ≡ string_bytes b
    → map string_bytes xs ≡ v ∷ w ∷ []
two_held [] a b v w some few first second e f = absurd (omega (arith, some))
two_held (x ∷ []) a b v w some few first second e f = absurd (omega (arith, some))
two_held (x ∷ y ∷ []) a b v w some few first second e f = rw (e, f, first, second) refl
two_held (x ∷ y ∷ z ∷ zs) a b v w some few first second e f = absurd (omega (arith, few))

pub not_two : (xs : List (String Global)) → (2 ≤ length xs → length xs < 3 → ⊥) → is_drone (map string_bytes xs) ≡ false
not_two [] never = refl
not_two (x ∷ []) never = refl
not_two (x ∷ y ∷ []) never = absurd (never (lit≤ tt) (lit≤ tt))
not_two (x ∷ y ∷ z ∷ zs) never = refl

pub no_number : (most : ℕ) (xs : List (String Global)) → (2 ≤ length xs → length xs < 3 → ⊥) → is_number_and_file most (map string_bytes xs) ≡ false
no_number most [] never = refl
no_number most (x ∷ []) never = refl
no_number most (x ∷ y ∷ []) never = absurd (never (lit≤ tt) (lit≤ tt))
no_number most (x ∷ y ∷ z ∷ zs) never = refl

-- words that are too few or too many for an operation, or between
pub no_operation : (xs : List (String Global)) → (2 ≤ length xs → length xs < 3 → ⊥) → (3 ≤ length xs → length xs < 4 → ⊥) → (5 ≤ length xs → length xs < 6 → ⊥) → ◌≡◌ {A = Option Operation} None (operation_in (map string_bytes xs))
no_operation [] two three five = refl
no_operation (a ∷ []) two three five = refl
no_operation (a ∷ b ∷ []) two three five = absurd (two (lit≤ tt) (lit≤ tt))
no_operation (a ∷ b ∷ c ∷ []) two three five = absurd (three (lit≤ tt) (lit≤ tt))
no_operation (a ∷ b ∷ c ∷ d ∷ []) two three five = refl
no_operation (a ∷ b ∷ c ∷ d ∷ e ∷ []) two three five = absurd (five (lit≤ tt) (lit≤ tt))
no_operation (a ∷ b ∷ c ∷ d ∷ e ∷ f ∷ xs) two three five = refl

-- a number and a file, by how the number is read
pub no_file : (most : ℕ) (words : List (List ℕ)) (v w : List ℕ) → words ≡ v ∷ w ∷ [] → is_some_text w ≡ false → is_number_and_file most words ≡ false
no_file most words v w held none = ap (is_number_and_file most) held ∙ and_left (is_some_text w) (is_some (number_in 0 most v)) none

pub number_read : (most : ℕ) (words : List (List ℕ)) (v w : List ℕ) (r : Option ℕ) → words ≡ v ∷ w ∷ [] → is_some_text w ≡ true → r ≡ number_in 0 most v → NumberRead most words r
number_read most words v w None held some is = ap (is_number_and_file most) held ∙ and_right (is_some_text w) (is_some (number_in 0 most v)) (ap is_some (sym is))
number_read most words v w (Some n) held some is =
    let (written, least, high) = number_is 0 most n v (sym is) in (
      ap (is_number_and_file most) held ∙ and_from (is_some_text w) (is_some (number_in 0 most v)) some (ap is_some (sym is)),
      record { file = w; plain_is = held ∙ ap (λ x. x ∷ w ∷ []) written; at_most = high },
    )

take_rest : (xs : List (String Global)) (a b c d : String Global) → take (length (a ∷ b ∷ c ∷ d ∷ xs) - 4) (drop 4 (a ∷ b ∷ c ∷ d ∷ xs)) ≡ xs
take_rest xs a b c d = grind (arith, common_steps)

pub four_held : (xs : List (String Global)) (a b c d : String Global) (s t u v : List ℕ) → 4 ≤ length xs → a ≡ get_or xs 0 a → b ≡ get_or xs 1 b → c ≡ get_or xs 2 c → d ≡ get_or xs 3 d
    → s ≡ string_bytes a → t ≡ string_bytes b → u ≡ string_bytes c → v ≡ string_bytes d
    → map string_bytes xs ≡ s ∷ t ∷ u ∷ v ∷ map string_bytes (take (length xs - 4) (drop 4 xs))
four_held [] a b c d s t u v some is1 is2 is3 is4 e f g h = absurd (omega (arith, some))
four_held (w ∷ []) a b c d s t u v some is1 is2 is3 is4 e f g h = absurd (omega (arith, some))
four_held (w ∷ x ∷ []) a b c d s t u v some is1 is2 is3 is4 e f g h = absurd (omega (arith, some))
four_held (w ∷ x ∷ y ∷ []) a b c d s t u v some is1 is2 is3 is4 e f g h = absurd (omega (arith, some))
four_held (w ∷ x ∷ y ∷ z ∷ zs) a b c d s t u v some is1 is2 is3 is4 e f g h = rw (take_rest zs w x y z, e, f, g, h, is1, is2, is3, is4) refl

pub not_four : (file_given : Bool) (xs : List (String Global)) → length xs < 4 → is_station file_given (map string_bytes xs) ≡ false
not_four file_given [] few = refl
not_four file_given (x ∷ []) few = refl
not_four file_given (x ∷ y ∷ []) few = refl
not_four file_given (x ∷ y ∷ z ∷ []) few = refl
not_four file_given (x ∷ y ∷ z ∷ w ∷ ws) few = absurd (omega (arith, few))

-- a station's words of which no task is read
pub no_task : (file_given : Bool) (ws : List (List ℕ)) (sys comp drone port : List ℕ) (op : List (List ℕ)) → ws ≡ sys ∷ comp ∷ drone ∷ port ∷ op → None ≡ task_in file_given comp drone op → is_station file_given ws ≡ false
no_task file_given ws sys comp drone port op are none = ap (is_station file_given) are ∙ and_right (is_node sys) _ (and_left (is_some (task_in file_given comp drone op)) (is_port port) (ap is_some (sym none)))

-- one of two isn't so, whatever stands between them
none_between : (a b c : Bool) → (a && c) ≡ false → (a && (b && c)) ≡ false
none_between false b c h = refl
none_between true false c h = refl
none_between true true c h = h

-- one port
port_is : (port : List ℕ) (ports : List Port) → OnePort port ports → map port_text ports ≡ port ∷ []
port_is port ports one = ap (map port_text) one.ports_are ∙ ap (λ (w : List ℕ). w ∷ []) one.word_is

-- what was read is what the words say
drone_read : (ws : List (List ℕ)) (sys port : List ℕ) (system : ℕ) (ports : List Port) → ws ≡ sys ∷ port ∷ [] → Some system ≡ number_in 1 255 sys → is_port port ≡ true → OnePort port ports
    → (is_drone ws ≡ true) × Says Drone ws ports 0 × DroneSays ws ports system
drone_read ws sys port system ports are node is one =
    let (written, least, most) = number_is 1 255 system sys (sym node) in (
      ap is_drone are ∙ and_from (is_node sys) (is_port port) (ap is_some (sym node)) is,
      record { ports_are = port_is port ports one ∙ ap (port_words Drone) (sym are); number_is = tt },
      record { port = port; plain_is = are ∙ ap (λ w. w ∷ port ∷ []) written; least = least; one_port = one },
    )

station_read : (file_given : Bool) (ws : List (List ℕ)) (sys comp drone port : List ℕ) (op : List (List ℕ)) (system : ℕ) (task : Task) (ports : List Port) → ws ≡ sys ∷ comp ∷ drone ∷ port ∷ op
    → Some system ≡ number_in 1 255 sys → Some task ≡ task_in file_given comp drone op → is_port port ≡ true → OnePort port ports
    → (is_station file_given ws ≡ true) × Says Station ws ports 0 × StationSays ws ports system task
station_read file_given ws sys comp drone port op system task ports are node found is one =
    let (written, least, most) = number_is 1 255 system sys (sym node) in
    let parts = task_found file_given comp drone op task (sym found) in
    let (comp_written, comp_least, comp_most) = number_is 1 255 task.component comp parts.comp_is in
    let (drone_written, drone_least, drone_most) = number_is 1 255 task.drone drone parts.drone_is in (
      ap (is_station file_given) are ∙ and_from (is_node sys) _ (ap is_some (sym node)) (and_from (is_some (task_in file_given comp drone op)) (is_port port) (ap is_some (sym found)) is),
      record { ports_are = port_is port ports one ∙ ap (port_words Station) (sym are); number_is = tt },
      record {
        port = port;
        words = op;
        plain_is = are ∙ ap (λ w. w ∷ comp ∷ drone ∷ port ∷ op) written ∙ ap (λ w. decimal system ∷ w ∷ drone ∷ port ∷ op) comp_written ∙ ap (λ w. decimal system ∷ decimal task.component ∷ w ∷ port ∷ op) drone_written;
        system_least = least;
        component_least = comp_least;
        drone_least = drone_least;
        one_port = one;
        operation_is = operation_says op task.operation parts.operation_is;
      },
    )

-- what was read of a system and a port is what was read of the line's words
pub drone_held : (ws : List (List ℕ)) (sys port : List ℕ) (r : Result (Option Values) AllocError) → ws ≡ sys ∷ port ∷ [] → IfOk r (NodeRead sys port None) → IfOk r (PlainRead Drone false ws)
drone_held ws sys port (Err e) are h = tt
drone_held ws sys port (Ok None) are h = ap is_drone are ∙ h
drone_held ws sys port (Ok (Some values)) are (node, is, one, number, task) =
    let read = drone_read ws sys port values.system values.ports.items are node is one in
    (read.0, subst (λ n. Says Drone ws values.ports.items n) (sym number) read.1, read.2)

pub station_held : (file_given : Bool) (ws : List (List ℕ)) (sys comp drone port : List ℕ) (op : List (List ℕ)) (task : Task) (r : Result (Option Values) AllocError) → ws ≡ sys ∷ comp ∷ drone ∷ port ∷ op → Some task ≡ task_in file_given comp drone op
    → IfOk r (NodeRead sys port (Some task)) → IfOk r (PlainRead Station file_given ws)
station_held file_given ws sys comp drone port op task (Err e) are found h = tt
station_held file_given ws sys comp drone port op task (Ok None) are found h = ap (is_station file_given) are ∙ none_between (is_node sys) (is_some (task_in file_given comp drone op)) (is_port port) h
station_held file_given ws sys comp drone port op task (Ok (Some values)) are found (node, is, one, number, same) =
    let read = station_read file_given ws sys comp drone port op values.system task values.ports.items are node found is one in
    (read.0, subst (λ n. Says Station ws values.ports.items n) (sym number) read.1, subst (λ t. NodeSays Station ws values.ports.items values.system t) (sym same) read.2)
