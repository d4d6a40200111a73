-- The words of `drone` and `station` as the program holds them.
use Rattle.std.specs.Prelude.{◌≡◌, ◌≤◌, ◌&&◌, not, if◌then◌else◌, ℕ, Bool, true, false, List, [], ◌∷◌, Option, Some}
use Rattle.std.specs.Prelude.{None, is_some}
use Rattle.std.specs.Fmt.{decimal}
use Rattle.command_line.specs.declared.commands.Command.{Command}
use Rattle.command_line.specs.declared.commands.Command.TheVariants.{Drone, Station}
use Rattle.command_line.specs.declared.operations.Operation.{Operation}
use Rattle.command_line.specs.declared.operations.Task.{Task}
use Rattle.command_line.specs.declared.ports.Port.{Port}
use Rattle.command_line.specs.Numbers.{number_in}
use Rattle.command_line.specs.PortTexts.{is_port, port_text}
use Rattle.command_line.specs.OperationTexts.{operation_in, needs_file, OperationSays}

abbrev pub is_node : List ℕ → Bool
is_node word = is_some (number_in 1 255 word)

-- the file is given exactly if the operation takes one
abbrev pub agree : Bool → Bool → Bool
agree true b = b
agree false b = not b

-- COMP DRONE OP.., by what they are read as
abbrev pub task_of : Bool → Option ℕ → Option ℕ → Option Operation → Option Task
task_of file_given None drone operation = None
task_of file_given (Some component) None operation = None
task_of file_given (Some component) (Some drone) None = None
task_of file_given (Some component) (Some drone) (Some operation) =
    if agree file_given (needs_file operation)
    then Some (record { component = component; drone = drone; operation = operation }) else None

abbrev pub task_in : Bool → (comp drone : List ℕ) → List (List ℕ) → Option Task
task_in file_given comp drone words = task_of file_given (number_in 1 255 comp) (number_in 1 255 drone)
    (operation_in words)

-- SYS PORT
abbrev pub is_drone : List (List ℕ) → Bool
is_drone [] = false
is_drone (sys ∷ []) = false
is_drone (sys ∷ port ∷ []) = is_node sys && is_port port
is_drone (sys ∷ port ∷ other ∷ more) = false

-- SYS COMP DRONE PORT OP..
abbrev pub is_station : Bool → List (List ℕ) → Bool
is_station file_given [] = false
is_station file_given (sys ∷ []) = false
is_station file_given (sys ∷ comp ∷ []) = false
is_station file_given (sys ∷ comp ∷ drone ∷ []) = false
is_station file_given (sys ∷ comp ∷ drone ∷ port ∷ op) =
    is_node sys && (is_some (task_in file_given comp drone op) && is_port port)

-- one port, which isn't open
pub record OnePort (word : List ℕ) (ports : List Port) : Type 0 where
  pub port : Port
  pub ports_are : ports ≡ port ∷ []
  pub word_is : port_text port ≡ word
  pub closed : port.is_open ≡ false

-- these plain words are a drone's
pub record DroneSays (plain : List (List ℕ)) (ports : List Port) (system : ℕ) : Type 0 where
  pub port : List ℕ
  pub plain_is : plain ≡ decimal system ∷ port ∷ []
  pub least : 1 ≤ system
  pub one_port : OnePort port ports

-- and these a station's
pub record StationSays (plain : List (List ℕ)) (ports : List Port) (system : ℕ) (task : Task) : Type 0 where
  pub port : List ℕ
  pub words : List (List ℕ)
  pub plain_is : plain ≡ decimal system ∷ decimal task.component ∷ decimal task.drone ∷ port ∷ words
  pub system_least : 1 ≤ system
  pub component_least : 1 ≤ task.component
  pub drone_least : 1 ≤ task.drone
  pub one_port : OnePort port ports
  pub operation_is : OperationSays task.operation words

abbrev pub TaskSays : List (List ℕ) → List Port → ℕ → Option Task → Type 0
TaskSays plain ports system None = ⊥
TaskSays plain ports system (Some task) = StationSays plain ports system task

-- what the words of the two say
abbrev pub NodeSays : Command → List (List ℕ) → List Port → ℕ → Option Task → Type 0
NodeSays Drone plain ports system task = DroneSays plain ports system
NodeSays Station plain ports system task = TaskSays plain ports system task
NodeSays _ plain ports system task = Unit {0}
