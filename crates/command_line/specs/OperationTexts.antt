-- How the words of an operation are read, and what an operation that was read says.
use Rattle.std.specs.Prelude.{◌≡◌, ◌≤◌, ◌-◌, ◌&&◌, ◌==◌, nat_le, if◌then◌else◌, ℕ, Bool, true, false, List, [], ◌∷◌}
use Rattle.std.specs.Prelude.{◌++◌, length, replicate, Option, Some, None, codes}
use Rattle.std.specs.Option.{option_map}
use Rattle.std.specs.List.{find, list_all}
use Rattle.std.specs.Int.{to_be_bytes, w32}
use Rattle.std.specs.Fmt.{decimal}
use Rattle.std.specs.Str.{bytes_eq}
use Rattle.std.specs.Str.Parse.{digits_value}
use Rattle.command_line.specs.declared.operations.PlanWord.{PlanWord}
use Rattle.command_line.specs.declared.operations.PlanWord.TheVariants.{Mission, Fence, Rally}
use Rattle.command_line.specs.declared.operations.Operation.{Operation}
use Rattle.command_line.specs.declared.operations.Operation.TheVariants.{Upload, Get, Clear, Command, ParamList}
use Rattle.command_line.specs.declared.operations.Operation.TheVariants.{ParamRead, ParamSet, FileList, FileGet}
use Rattle.command_line.specs.declared.operations.Operation.TheVariants.{FilePut, FileRemove}
use Rattle.command_line.specs.Numbers.{number_in, is_digit, is_visible, IsWire, IsParameter}

-- the word of a kind of plan
abbrev pub plan_word : PlanWord → List ℕ
plan_word Mission = codes "mission"
plan_word Fence = codes "fence"
plan_word Rally = codes "rally"

abbrev pub all_plans : List PlanWord
all_plans = Mission ∷ Fence ∷ Rally ∷ []

abbrev pub plan_named : List ℕ → Option PlanWord
plan_named word = find (λ k. bytes_eq word (plan_word k)) all_plans

-- what a clear empties, all kinds if none is named
abbrev pub cleared_word : Option PlanWord → List ℕ
cleared_word None = codes "all"
cleared_word (Some kind) = plan_word kind

abbrev pub cleared_named : List ℕ → Option (Option PlanWord)
cleared_named word = if bytes_eq word (codes "all") then Some None else option_map Some (plan_named word)

-- eight hexadecimal digits, the highest first
abbrev pub is_wire : List ℕ → Bool
is_wire word = (length word == 8) && list_all is_digit word

abbrev pub wire_in : List ℕ → Option ℕ
wire_in word = if is_wire word then Some (digits_value 16 word) else None

-- the name of a parameter, with zeros after it
abbrev pub padded : List ℕ → List ℕ
padded id = id ++ replicate (16 - length id) 0

abbrev pub is_parameter : List ℕ → Bool
is_parameter id = (nat_le 1 (length id) && nat_le (length id) 16) && list_all is_visible id

abbrev pub parameter_in : List ℕ → Option (List ℕ)
parameter_in id = if is_parameter id then Some (padded id) else None

-- an operation by what its words after the first ones are read as
abbrev pub order_of : Option ℕ → Option ℕ → Option Operation
order_of None word = None
order_of (Some number) None = None
order_of (Some number) (Some word) = Some (Command number word)

abbrev pub setting_of : Option (List ℕ) → Option ℕ → Option ℕ → Option Operation
setting_of None kind word = None
setting_of (Some id) None word = None
setting_of (Some id) (Some kind) None = None
setting_of (Some id) (Some kind) (Some word) = Some (ParamSet id kind (to_be_bytes w32 word))

-- what is done with the file of this name on the drone
abbrev pub file_named : (way name : List ℕ) → Option Operation
file_named way name =
    if bytes_eq way (codes "get") then Some (FileGet name)
    else if bytes_eq way (codes "put") then Some (FilePut name)
    else if bytes_eq way (codes "remove") then Some (FileRemove name)
    else None

-- an operation in two words, in three and in five
abbrev pub two_words : (name word : List ℕ) → Option Operation
two_words name word =
    if bytes_eq name (codes "upload") then option_map Upload (plan_named word)
    else if bytes_eq name (codes "get") then option_map Get (plan_named word)
    else if bytes_eq name (codes "clear") then option_map Clear (cleared_named word)
    else if bytes_eq name (codes "param") && bytes_eq word (codes "list") then Some ParamList
    else if bytes_eq name (codes "file") && bytes_eq word (codes "list") then Some FileList
    else None

abbrev pub three_words : (name first second : List ℕ) → Option Operation
three_words name first second =
    if bytes_eq name (codes "command") then order_of (number_in 0 65535 first) (wire_in second)
    else if bytes_eq name (codes "param") && bytes_eq first (codes "read")
    then option_map ParamRead (parameter_in second)
    else if bytes_eq name (codes "file") then file_named first second
    else None

abbrev pub five_words : (name way id kind word : List ℕ) → Option Operation
five_words name way id kind word =
    if bytes_eq name (codes "param") && bytes_eq way (codes "set")
    then setting_of (parameter_in id) (number_in 0 255 kind) (wire_in word)
    else None

-- the operation that words are, if they are one
abbrev pub operation_in : List (List ℕ) → Option Operation
operation_in [] = None
operation_in (a ∷ []) = None
operation_in (a ∷ b ∷ []) = two_words a b
operation_in (a ∷ b ∷ c ∷ []) = three_words a b c
operation_in (a ∷ b ∷ c ∷ d ∷ []) = None
operation_in (a ∷ b ∷ c ∷ d ∷ e ∷ []) = five_words a b c d e
operation_in (a ∷ b ∷ c ∷ d ∷ e ∷ f ∷ more) = None

-- an upload and a file to put take a file of this machine
abbrev pub needs_file : Operation → Bool
needs_file (Upload kind) = true
needs_file (FilePut name) = true
needs_file _ = false

-- the operations on the files of a drone
abbrev pub is_on_files : Operation → Bool
is_on_files FileList = true
is_on_files (FileGet name) = true
is_on_files (FilePut name) = true
is_on_files (FileRemove name) = true
is_on_files _ = false

-- these words are the command of this number, with this word
pub record CommandSays (number word : ℕ) (words : List (List ℕ)) : Type 0 where
  pub digits : List ℕ
  pub words_are : words ≡ codes "command" ∷ decimal number ∷ digits ∷ []
  pub most : number ≤ 65535
  pub is_wire : IsWire digits
  pub word_is : word ≡ digits_value 16 digits

-- these read the parameter of this id
pub record ReadSays (id : List ℕ) (words : List (List ℕ)) : Type 0 where
  pub name : List ℕ
  pub words_are : words ≡ codes "param" ∷ codes "read" ∷ name ∷ []
  pub is_name : IsParameter name
  pub id_is : id ≡ padded name

-- these set it to a value of this type, whose four bytes are in wire order
pub record SetSays (id : List ℕ) (kind : ℕ) (word : List ℕ) (words : List (List ℕ)) : Type 0 where
  pub name : List ℕ
  pub digits : List ℕ
  pub words_are : words ≡ codes "param" ∷ codes "set" ∷ name ∷ decimal kind ∷ digits ∷ []
  pub is_name : IsParameter name
  pub id_is : id ≡ padded name
  pub most : kind ≤ 255
  pub is_wire : IsWire digits
  pub word_is : word ≡ to_be_bytes w32 (digits_value 16 digits)

-- these words are the operation
abbrev pub OperationSays : Operation → List (List ℕ) → Type 0
OperationSays (Upload kind) words = words ≡ codes "upload" ∷ plan_word kind ∷ []
OperationSays (Get kind) words = words ≡ codes "get" ∷ plan_word kind ∷ []
OperationSays (Clear kind) words = words ≡ codes "clear" ∷ cleared_word kind ∷ []
OperationSays (Command number word) words = CommandSays number word words
OperationSays ParamList words = words ≡ codes "param" ∷ codes "list" ∷ []
OperationSays (ParamRead id) words = ReadSays id words
OperationSays (ParamSet id kind word) words = SetSays id kind word words
OperationSays FileList words = words ≡ codes "file" ∷ codes "list" ∷ []
OperationSays (FileGet name) words = words ≡ codes "file" ∷ codes "get" ∷ name ∷ []
OperationSays (FilePut name) words = words ≡ codes "file" ∷ codes "put" ∷ name ∷ []
OperationSays (FileRemove name) words = words ≡ codes "file" ∷ codes "remove" ∷ name ∷ []
