-- The plain words of `drone` and `station` are read exactly if they are of the grammar.
use Rattle.std.proofs.Common.{◌≡◌, ◌∙◌, ℕ, Bool, true, false, List, [], ◌∷◌, refl, sym, ap, arith, Option, Some, None, is_some, if◌then◌else◌}
use Rattle.std.proofs.lemmas.Bool.{and_parts, and_from}
use Rattle.command_line.specs.declared.operations.Operation.{Operation}
use Rattle.command_line.specs.declared.operations.Task.{Task}
use Rattle.command_line.specs.Numbers.{number_in}
use Rattle.command_line.specs.Operations.{DroneWords, StationWords, operation_words}
use Rattle.command_line.specs.OperationTexts.{operation_in, needs_file}
use Rattle.command_line.specs.Nodes.{is_node, agree, task_of, task_in, is_drone, is_station}
use Rattle.command_line.specs.PortTexts.{is_port}
use Rattle.command_line.proofs.Numerals.{some_found, number_is, number_form, form_number, number_found}
use Rattle.command_line.proofs.OperationWords.{if_some, operation_says, form_of, read_as}
use Rattle.command_line.proofs.PortWords.{port_form, form_port}

pub drone_form : (plain : List (List ℕ)) → is_drone plain ≡ true → DroneWords plain
drone_form [] never = absurd (cc never)
drone_form (sys ∷ []) never = absurd (cc never)
drone_form (sys ∷ port ∷ []) e =
    let (node, is) = and_parts (is_node sys) (is_port port) e in
    record { sys = sys; port = port; is_sys = number_form 1 255 sys node; is_port = port_form port is; plain_is = refl }
drone_form (sys ∷ port ∷ other ∷ more) never = absurd (cc never)

pub form_drone : (plain : List (List ℕ)) → DroneWords plain → is_drone plain ≡ true
form_drone plain w = ap is_drone w.plain_is ∙ and_from (is_node w.sys) (is_port w.port) (form_number 1 255 w.sys (omega arith) w.is_sys) (form_port w.port w.is_port)

-- a task by its parts
agree_same : (a b : Bool) → agree a b ≡ true → a ≡ b
agree_same true b e = sym e
agree_same false true never = absurd (cc never)
agree_same false false e = refl

same_agree : (b : Bool) → agree b b ≡ true
same_agree true = refl
same_agree false = refl

pub record TaskParts (file_given : Bool) (comp drone : Option ℕ) (operation : Option Operation) (task : Task) : Type 0 where
  pub comp_is : comp ≡ Some task.component
  pub drone_is : drone ≡ Some task.drone
  pub operation_is : operation ≡ Some task.operation
  pub file : file_given ≡ needs_file task.operation

task_parts : (file_given : Bool) (comp drone : Option ℕ) (operation : Option Operation) (task : Task) → task_of file_given comp drone operation ≡ Some task → TaskParts file_given comp drone operation task
task_parts file_given None drone operation task never = absurd (cc never)
task_parts file_given (Some c) None operation task never = absurd (cc never)
task_parts file_given (Some c) (Some d) None task never = absurd (cc never)
task_parts file_given (Some c) (Some d) (Some o) task e =
    let (agrees, same) = if_some (agree file_given (needs_file o)) (record { component = c; drone = d; operation = o }) task e in
    record {
      comp_is = ap (λ (t : Task). Some t.component) same;
      drone_is = ap (λ (t : Task). Some t.drone) same;
      operation_is = ap (λ (t : Task). Some t.operation) same;
      file = agree_same file_given (needs_file o) agrees ∙ ap (λ (t : Task). needs_file t.operation) same;
    }

pub task_found : (file_given : Bool) (comp drone : List ℕ) (op : List (List ℕ)) (task : Task) → task_in file_given comp drone op ≡ Some task → TaskParts file_given (number_in 1 255 comp) (number_in 1 255 drone) (operation_in op) task
task_found file_given comp drone op task e = task_parts file_given (number_in 1 255 comp) (number_in 1 255 drone) (operation_in op) task e

task_there : (file_given : Bool) (c d : ℕ) (o : Operation) → file_given ≡ needs_file o → is_some (task_of file_given (Some c) (Some d) (Some o)) ≡ true
task_there file_given c d o same =
    ap (λ (b : Bool). is_some (if b then Some (let t : Task = record { component = c; drone = d; operation = o } in t) else None)) (ap (agree file_given) (sym same) ∙ same_agree file_given)

pub station_form : (file_given : Bool) (plain : List (List ℕ)) → is_station file_given plain ≡ true → StationWords file_given plain
station_form file_given [] never = absurd (cc never)
station_form file_given (sys ∷ []) never = absurd (cc never)
station_form file_given (sys ∷ comp ∷ []) never = absurd (cc never)
station_form file_given (sys ∷ comp ∷ drone ∷ []) never = absurd (cc never)
station_form file_given (sys ∷ comp ∷ drone ∷ port ∷ op) e =
    let (node, more) = and_parts (is_node sys) _ e in
    let (some, is) = and_parts (is_some (task_in file_given comp drone op)) (is_port port) more in
    let (task, found) = some_found (task_in file_given comp drone op) some in
    let parts = task_found file_given comp drone op task found in
    let form = form_of task.operation op (operation_says op task.operation parts.operation_is) in
    record {
      sys = sys;
      comp = comp;
      drone = drone;
      port = port;
      operation = form.form;
      is_sys = number_form 1 255 sys node;
      is_comp = let (is, least, most) = number_is 1 255 task.component comp parts.comp_is in (task.component, is, least, most);
      is_drone = let (is, least, most) = number_is 1 255 task.drone drone parts.drone_is in (task.drone, is, least, most);
      is_port = port_form port is;
      is_operation = form.is_form;
      file = parts.file ∙ sym form.file;
      plain_is = ap (λ (words : List (List ℕ)). sys ∷ comp ∷ drone ∷ port ∷ words) form.words_are;
    }

pub form_station : (file_given : Bool) (plain : List (List ℕ)) → StationWords file_given plain → is_station file_given plain ≡ true
form_station file_given plain w =
    let (c, comp) = number_found 1 255 w.comp (omega arith) w.is_comp in
    let (d, drone) = number_found 1 255 w.drone (omega arith) w.is_drone in
    let read = read_as w.operation w.is_operation in
    let op = operation_words w.operation in
    ap (is_station file_given) w.plain_is
    ∙ and_from (is_node w.sys) _ (form_number 1 255 w.sys (omega arith) w.is_sys)
    (and_from (is_some (task_in file_given w.comp w.drone op)) (is_port w.port)
    (ap (λ o. is_some (task_of file_given o (number_in 1 255 w.drone) (operation_in op))) comp
    ∙ ap (λ o. is_some (task_of file_given (Some c) o (operation_in op))) drone
    ∙ ap (λ o. is_some (task_of file_given (Some c) (Some d) o)) read.found
    ∙ task_there file_given c d read.operation (w.file ∙ read.file))
    (form_port w.port w.is_port))
