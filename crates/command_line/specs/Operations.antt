-- The plain words of `drone` and `station`, and of the commands with a number.
use Rattle.std.specs.Prelude.{◌≡◌, ◌≢◌, ◌||◌, ℕ, Bool, true, false, List, [], ◌∷◌, IsTrue, codes}
use Rattle.std.specs.Str.{bytes_eq}
use Rattle.command_line.specs.Numbers.{IsNumber, IsWire, IsParameter}
use Rattle.command_line.specs.Ports.{IsPort}

abbrev pub is_kind : List ℕ → Bool
is_kind word = bytes_eq word (codes "mission") || (bytes_eq word (codes "fence") || bytes_eq word (codes "rally"))

-- OP: what a station does, in words
pub data OperationWords : Type 0 where
  Upload : (kind : List ℕ) → OperationWords
  Download : (kind : List ℕ) → OperationWords
  Clear : (kind : List ℕ) → OperationWords
  Order : (number word : List ℕ) → OperationWords
  List_parameters : OperationWords
  Read_parameter : (id : List ℕ) → OperationWords
  Set_parameter : (id type word : List ℕ) → OperationWords
  List_files : OperationWords
  Get_file : (name : List ℕ) → OperationWords
  Put_file : (name : List ℕ) → OperationWords
  Remove_file : (name : List ℕ) → OperationWords

abbrev pub operation_words : OperationWords → List (List ℕ)
operation_words (Upload kind) = codes "upload" ∷ kind ∷ []
operation_words (Download kind) = codes "get" ∷ kind ∷ []
operation_words (Clear kind) = codes "clear" ∷ kind ∷ []
operation_words (Order number word) = codes "command" ∷ number ∷ word ∷ []
operation_words List_parameters = codes "param" ∷ codes "list" ∷ []
operation_words (Read_parameter id) = codes "param" ∷ codes "read" ∷ id ∷ []
operation_words (Set_parameter id type word) = codes "param" ∷ codes "set" ∷ id ∷ type ∷ word ∷ []
operation_words List_files = codes "file" ∷ codes "list" ∷ []
operation_words (Get_file name) = codes "file" ∷ codes "get" ∷ name ∷ []
operation_words (Put_file name) = codes "file" ∷ codes "put" ∷ name ∷ []
operation_words (Remove_file name) = codes "file" ∷ codes "remove" ∷ name ∷ []

-- its words are of their forms; a file's name on the drone is any word
abbrev pub IsOperation : OperationWords → Type 0
IsOperation (Upload kind) = IsTrue (is_kind kind)
IsOperation (Download kind) = IsTrue (is_kind kind)
IsOperation (Clear kind) = IsTrue (is_kind kind || bytes_eq kind (codes "all"))
IsOperation (Order number word) = IsNumber 0 65535 number × IsWire word
IsOperation List_parameters = Unit {0}
IsOperation (Read_parameter id) = IsParameter id
IsOperation (Set_parameter id type word) = IsParameter id × IsNumber 0 255 type × IsWire word
IsOperation List_files = Unit {0}
IsOperation (Get_file name) = Unit {0}
IsOperation (Put_file name) = Unit {0}
IsOperation (Remove_file name) = Unit {0}

-- the operations that take a file of this machine
abbrev pub takes_file : OperationWords → Bool
takes_file (Upload kind) = true
takes_file (Put_file name) = true
takes_file _ = false

-- SYS PORT
pub record DroneWords (plain : List (List ℕ)) : Type 0 where
  pub sys : List ℕ
  pub port : List ℕ
  pub is_sys : IsNumber 1 255 sys
  pub is_port : IsPort port
  pub plain_is : plain ≡ sys ∷ port ∷ []

-- SYS COMP DRONE PORT OP..; the file is given exactly if the operation takes one
pub record StationWords (file_given : Bool) (plain : List (List ℕ)) : Type 0 where
  pub sys : List ℕ
  pub comp : List ℕ
  pub drone : List ℕ
  pub port : List ℕ
  pub operation : OperationWords
  pub is_sys : IsNumber 1 255 sys
  pub is_comp : IsNumber 1 255 comp
  pub is_drone : IsNumber 1 255 drone
  pub is_port : IsPort port
  pub is_operation : IsOperation operation
  pub file : file_given ≡ takes_file operation
  pub plain_is : plain ≡ sys ∷ comp ∷ drone ∷ port ∷ operation_words operation

-- N
abbrev pub OneNumber : ℕ → ℕ → List (List ℕ) → Type 0
OneNumber low high plain = (word : List ℕ) × (plain ≡ word ∷ []) × IsNumber low high word

-- N FILE
pub record NumberAndFile (low high : ℕ) (plain : List (List ℕ)) : Type 0 where
  pub number : List ℕ
  pub file : List ℕ
  pub plain_is : plain ≡ number ∷ file ∷ []
  pub is_number : IsNumber low high number
  pub is_file : file ≢ []
