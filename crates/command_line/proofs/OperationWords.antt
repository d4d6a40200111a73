-- Words are read as an operation exactly if they are one.
use Rattle.std.proofs.Common.{◌≡◌, ◌∙◌, ◌&&◌, ◌||◌, ◌==◌, nat_le, ℕ, Bool, true, false, List, [], ◌∷◌, refl, sym, ap, subst, arith, length, codes, Option, Some, None, if◌then◌else◌, inl, inr}
use Rattle.std.specs.Option.{option_map}
use Rattle.std.proofs.lemmas.Bool.{cases_Bool, cond-true, cond-false, cond_both, and_parts, and_from, leb-true, le-leb, eqb-true}
use Rattle.std.proofs.lemmas.Slice.Eq.{bytes_eq-Decides}
use Rattle.std.specs.List.{list_all}
use Rattle.std.specs.Str.{bytes_eq}
use Rattle.std.specs.Str.Parse.{digits_value}
use Rattle.std.specs.Int.{to_be_bytes, w32}
use Rattle.std.specs.Fmt.{decimal}
use Rattle.command_line.specs.declared.operations.PlanWord.{PlanWord}
use Rattle.command_line.specs.declared.operations.PlanWord.TheVariants.{Mission, Fence, Rally}
use Rattle.command_line.specs.declared.operations.Operation.{Operation}
use Rattle.command_line.specs.declared.operations.Operation.TheVariants.{Upload, Get, Clear, Command, ParamList, ParamRead, ParamSet, FileList, FileGet, FilePut, FileRemove}
use Rattle.command_line.specs.Numbers.{number_in, is_digit, is_visible, IsWire, IsParameter}
use Rattle.command_line.specs.Operations.{is_kind, OperationWords, Upload as Upload_words, Download, Clear as Clear_words, Order, List_parameters, Read_parameter, Set_parameter, List_files, Get_file, Put_file, Remove_file, operation_words, IsOperation, takes_file}
use Rattle.command_line.specs.OperationTexts.{plan_word, all_plans, plan_named, cleared_word, cleared_named, is_wire, wire_in, padded, is_parameter, parameter_in, order_of, setting_of, file_named, two_words, three_words, five_words, operation_in, needs_file, OperationSays}
use Rattle.command_line.proofs.Numerals.{number_is, number_found}
use Rattle.command_line.proofs.Sorts.{found_passes}

-- options
mapped : {A B : Type 0} (f : A → B) (o : Option A) (b : B) → option_map f o ≡ Some b → (a : A) × (o ≡ Some a) × (f a ≡ b)
mapped f None b never = absurd (cc never)
mapped f (Some a) b e = (a, refl, let same : f a ≡ b = cc e in same)

pub if_some : {A : Type 0} (test : Bool) (x y : A) → (if test then Some x else None) ≡ Some y → (test ≡ true) × (x ≡ y)
if_some true x y e = (refl, let same : x ≡ y = cc e in same)
if_some false x y never = absurd (cc never)

-- the kinds of plans
plan_word_of : (word : List ℕ) (kind : PlanWord) → plan_named word ≡ Some kind → word ≡ plan_word kind
plan_word_of word kind e = (bytes_eq-Decides word (plan_word kind)).0 (found_passes (λ k. bytes_eq word (plan_word k)) all_plans kind e)

cleared_word_of : (word : List ℕ) (kind : Option PlanWord) → cleared_named word ≡ Some kind → word ≡ cleared_word kind
cleared_word_of word kind =
    cond_both (bytes_eq word (codes "all")) (Some None) (option_map Some (plan_named word)) (λ (o : Option (Option PlanWord)). o ≡ Some kind → word ≡ cleared_word kind)
    (λ all e. (bytes_eq-Decides word (codes "all")).0 all ∙ ap cleared_word (let same : None ≡ kind = cc e in same))
    (λ other e. let (k, found, same) = mapped Some (plan_named word) kind e in plan_word_of word k found ∙ ap cleared_word same)

named_kind : (a b c : Bool) → (a || (b || c)) ≡ true → (kind : PlanWord) × ((if a then Some Mission else if b then Some Fence else if c then Some Rally else None) ≡ Some kind)
named_kind true b c e = (Mission, refl)
named_kind false true c e = (Fence, refl)
named_kind false false true e = (Rally, refl)
named_kind false false false never = absurd (cc never)

plan_found : (word : List ℕ) → is_kind word ≡ true → (kind : PlanWord) × (plan_named word ≡ Some kind)
plan_found word is = named_kind (bytes_eq word (codes "mission")) (bytes_eq word (codes "fence")) (bytes_eq word (codes "rally")) is

first_or_second : (a b : Bool) → (a || b) ≡ true → b ≡ false → a ≡ true
first_or_second true b e other = refl
first_or_second false b e other = absurd (cc (e, other))

cleared_found : (word : List ℕ) → (is_kind word || bytes_eq word (codes "all")) ≡ true → (kind : Option PlanWord) × (cleared_named word ≡ Some kind)
cleared_found word is = elim (cases_Bool (bytes_eq word (codes "all"))) [
  | inl all ↦ (None, cond-true (bytes_eq word (codes "all")) _ _ all)
  | inr other ↦
      let (kind, found) = plan_found word (first_or_second (is_kind word) (bytes_eq word (codes "all")) is other) in
      (Some kind, cond-false (bytes_eq word (codes "all")) _ _ other ∙ ap (option_map Some) found)
]

-- eight digits, and the id of a parameter
wire_of : (word : List ℕ) (n : ℕ) → wire_in word ≡ Some n → IsWire word × (n ≡ digits_value 16 word)
wire_of word n e =
    let (is, value) = if_some (is_wire word) (digits_value 16 word) n e in
    let (eight, each) = and_parts (length word == 8) (list_all is_digit word) is in
    ((eqb-true (length word) 8 eight, each), sym value)

wire_found : (word : List ℕ) → IsWire word → wire_in word ≡ Some (digits_value 16 word)
wire_found word (eight, each) = cond-true (is_wire word) _ _ (and_from (length word == 8) (list_all is_digit word) (ap (λ (n : ℕ). n == 8) eight) each)

parameter_of : (word id : List ℕ) → parameter_in word ≡ Some id → IsParameter word × (id ≡ padded word)
parameter_of word id e =
    let (is, value) = if_some (is_parameter word) (padded word) id e in
    let (few, each) = and_parts (nat_le 1 (length word) && nat_le (length word) 16) (list_all is_visible word) is in
    let (least, most) = and_parts (nat_le 1 (length word)) (nat_le (length word) 16) few in
    ((leb-true 1 (length word) least, leb-true (length word) 16 most, each), sym value)

parameter_found : (word : List ℕ) → IsParameter word → parameter_in word ≡ Some (padded word)
parameter_found word (least, most, each) =
    cond-true (is_parameter word) _ _ (and_from (nat_le 1 (length word) && nat_le (length word) 16) (list_all is_visible word)
    (and_from (nat_le 1 (length word)) (nat_le (length word) 16) (le-leb 1 (length word) least) (le-leb (length word) 16 most)) each)

-- what is read of words is what they say
abbrev pub Said : List (List ℕ) → Option Operation → Type 0
Said words None = Unit {0}
Said words (Some operation) = OperationSays operation words

text_of : (a b : List ℕ) → bytes_eq a b ≡ true → a ≡ b
text_of a b = (bytes_eq-Decides a b).0

upload_said : (a b : List ℕ) (o : Option PlanWord) → a ≡ codes "upload" → plan_named b ≡ o → Said (a ∷ b ∷ []) (option_map Upload o)
upload_said a b None is e = tt
upload_said a b (Some kind) is e = ap (λ w. w ∷ b ∷ []) is ∙ ap (λ w. codes "upload" ∷ w ∷ []) (plan_word_of b kind e)

get_said : (a b : List ℕ) (o : Option PlanWord) → a ≡ codes "get" → plan_named b ≡ o → Said (a ∷ b ∷ []) (option_map Get o)
get_said a b None is e = tt
get_said a b (Some kind) is e = ap (λ w. w ∷ b ∷ []) is ∙ ap (λ w. codes "get" ∷ w ∷ []) (plan_word_of b kind e)

clear_said : (a b : List ℕ) (o : Option (Option PlanWord)) → a ≡ codes "clear" → cleared_named b ≡ o → Said (a ∷ b ∷ []) (option_map Clear o)
clear_said a b None is e = tt
clear_said a b (Some kind) is e = ap (λ w. w ∷ b ∷ []) is ∙ ap (λ w. codes "clear" ∷ w ∷ []) (cleared_word_of b kind e)

two_said : (a b : List ℕ) → Said (a ∷ b ∷ []) (two_words a b)
two_said a b =
    cond_both (bytes_eq a (codes "upload")) _ _ (Said (a ∷ b ∷ [])) (λ is. upload_said a b (plan_named b) (text_of a (codes "upload") is) refl) (λ no_upload.
    cond_both (bytes_eq a (codes "get")) _ _ (Said (a ∷ b ∷ [])) (λ is. get_said a b (plan_named b) (text_of a (codes "get") is) refl) (λ no_get.
    cond_both (bytes_eq a (codes "clear")) _ _ (Said (a ∷ b ∷ [])) (λ is. clear_said a b (cleared_named b) (text_of a (codes "clear") is) refl) (λ no_clear.
    cond_both (bytes_eq a (codes "param") && bytes_eq b (codes "list")) _ _ (Said (a ∷ b ∷ []))
    (λ both. let (one, other) = and_parts (bytes_eq a (codes "param")) (bytes_eq b (codes "list")) both in
    ap (λ w. w ∷ b ∷ []) (text_of a (codes "param") one) ∙ ap (λ w. codes "param" ∷ w ∷ []) (text_of b (codes "list") other)) (λ no_parameters.
    cond_both (bytes_eq a (codes "file") && bytes_eq b (codes "list")) _ _ (Said (a ∷ b ∷ []))
    (λ both. let (one, other) = and_parts (bytes_eq a (codes "file")) (bytes_eq b (codes "list")) both in
    ap (λ w. w ∷ b ∷ []) (text_of a (codes "file") one) ∙ ap (λ w. codes "file" ∷ w ∷ []) (text_of b (codes "list") other))
    (λ none. tt)))))

order_said : (a b c : List ℕ) (number word : Option ℕ) → a ≡ codes "command" → number_in 0 65535 b ≡ number → wire_in c ≡ word → Said (a ∷ b ∷ c ∷ []) (order_of number word)
order_said a b c None word is e f = tt
order_said a b c (Some n) None is e f = tt
order_said a b c (Some n) (Some w) is e f =
    let (written, least, most) = number_is 0 65535 n b e in
    let (wire, value) = wire_of c w f in
    record {
      digits = c;
      words_are = ap (λ x. x ∷ b ∷ c ∷ []) is ∙ ap (λ x. codes "command" ∷ x ∷ c ∷ []) written;
      most = most;
      is_wire = wire;
      word_is = value;
    }

read_said : (a b c : List ℕ) (o : Option (List ℕ)) → a ≡ codes "param" → b ≡ codes "read" → parameter_in c ≡ o → Said (a ∷ b ∷ c ∷ []) (option_map ParamRead o)
read_said a b c None is way e = tt
read_said a b c (Some id) is way e =
    let (name, value) = parameter_of c id e in
    record { name = c; words_are = ap (λ x. x ∷ b ∷ c ∷ []) is ∙ ap (λ x. codes "param" ∷ x ∷ c ∷ []) way; is_name = name; id_is = value }

-- three words of which the first two are these
two_known : (a b c : List ℕ) (way : List ℕ) → a ≡ codes "file" → bytes_eq b way ≡ true → ◌≡◌ {A = List (List ℕ)} (a ∷ b ∷ c ∷ []) (codes "file" ∷ way ∷ c ∷ [])
two_known a b c way is e = ap (λ w. w ∷ b ∷ c ∷ []) is ∙ ap (λ w. codes "file" ∷ w ∷ c ∷ []) (text_of b way e)

file_said : (a b c : List ℕ) → a ≡ codes "file" → Said (a ∷ b ∷ c ∷ []) (file_named b c)
file_said a b c is =
    cond_both (bytes_eq b (codes "get")) _ _ (Said (a ∷ b ∷ c ∷ [])) (λ e. two_known a b c (codes "get") is e) (λ no_get.
    cond_both (bytes_eq b (codes "put")) _ _ (Said (a ∷ b ∷ c ∷ [])) (λ e. two_known a b c (codes "put") is e) (λ no_put.
    cond_both (bytes_eq b (codes "remove")) _ _ (Said (a ∷ b ∷ c ∷ [])) (λ e. two_known a b c (codes "remove") is e) (λ none. tt)))

three_said : (a b c : List ℕ) → Said (a ∷ b ∷ c ∷ []) (three_words a b c)
three_said a b c =
    cond_both (bytes_eq a (codes "command")) _ _ (Said (a ∷ b ∷ c ∷ []))
    (λ is. order_said a b c (number_in 0 65535 b) (wire_in c) (text_of a (codes "command") is) refl refl) (λ no_command.
    cond_both (bytes_eq a (codes "param") && bytes_eq b (codes "read")) _ _ (Said (a ∷ b ∷ c ∷ []))
    (λ both. let (one, other) = and_parts (bytes_eq a (codes "param")) (bytes_eq b (codes "read")) both in
    read_said a b c (parameter_in c) (text_of a (codes "param") one) (text_of b (codes "read") other) refl) (λ no_read.
    cond_both (bytes_eq a (codes "file")) _ _ (Said (a ∷ b ∷ c ∷ [])) (λ is. file_said a b c (text_of a (codes "file") is))
    (λ none. tt)))

set_said : (a b c d e : List ℕ) (id : Option (List ℕ)) (kind word : Option ℕ) → a ≡ codes "param" → b ≡ codes "set" → parameter_in c ≡ id → number_in 0 255 d ≡ kind → wire_in e ≡ word
    → Said (a ∷ b ∷ c ∷ d ∷ e ∷ []) (setting_of id kind word)
set_said a b c d e None kind word is way f g h = tt
set_said a b c d e (Some id) None word is way f g h = tt
set_said a b c d e (Some id) (Some kind) None is way f g h = tt
set_said a b c d e (Some id) (Some kind) (Some word) is way f g h =
    let (name, padding) = parameter_of c id f in
    let (written, least, most) = number_is 0 255 kind d g in
    let (wire, value) = wire_of e word h in
    record {
      name = c;
      digits = e;
      words_are = ap (λ x. x ∷ b ∷ c ∷ d ∷ e ∷ []) is ∙ ap (λ x. codes "param" ∷ x ∷ c ∷ d ∷ e ∷ []) way ∙ ap (λ x. codes "param" ∷ codes "set" ∷ c ∷ x ∷ e ∷ []) written;
      is_name = name;
      id_is = padding;
      most = most;
      is_wire = wire;
      word_is = ap (to_be_bytes w32) value;
    }

five_said : (a b c d e : List ℕ) → Said (a ∷ b ∷ c ∷ d ∷ e ∷ []) (five_words a b c d e)
five_said a b c d e =
    cond_both (bytes_eq a (codes "param") && bytes_eq b (codes "set")) _ _ (Said (a ∷ b ∷ c ∷ d ∷ e ∷ []))
    (λ both. let (one, other) = and_parts (bytes_eq a (codes "param")) (bytes_eq b (codes "set")) both in
    set_said a b c d e (parameter_in c) (number_in 0 255 d) (wire_in e) (text_of a (codes "param") one) (text_of b (codes "set") other) refl refl refl)
    (λ none. tt)

said : (words : List (List ℕ)) → Said words (operation_in words)
said [] = tt
said (a ∷ []) = tt
said (a ∷ b ∷ []) = two_said a b
said (a ∷ b ∷ c ∷ []) = three_said a b c
said (a ∷ b ∷ c ∷ d ∷ []) = tt
said (a ∷ b ∷ c ∷ d ∷ e ∷ []) = five_said a b c d e
said (a ∷ b ∷ c ∷ d ∷ e ∷ f ∷ more) = tt

pub operation_says : (words : List (List ℕ)) (operation : Operation) → operation_in words ≡ Some operation → OperationSays operation words
operation_says words operation e = subst (Said words) e (said words)

-- what an operation says is of the grammar
pub record FormOf (operation : Operation) (words : List (List ℕ)) : Type 0 where
  pub form : OperationWords
  pub words_are : words ≡ operation_words form
  pub is_form : IsOperation form
  pub file : takes_file form ≡ needs_file operation

kind_is : (kind : PlanWord) → is_kind (plan_word kind) ≡ true
kind_is Mission = refl
kind_is Fence = refl
kind_is Rally = refl

cleared_is : (kind : Option PlanWord) → (is_kind (cleared_word kind) || bytes_eq (cleared_word kind) (codes "all")) ≡ true
cleared_is None = refl
cleared_is (Some Mission) = refl
cleared_is (Some Fence) = refl
cleared_is (Some Rally) = refl

pub form_of : (operation : Operation) (words : List (List ℕ)) → OperationSays operation words → FormOf operation words
form_of (Upload kind) words e = record { form = Upload_words (plan_word kind); words_are = e; is_form = kind_is kind; file = refl }
form_of (Get kind) words e = record { form = Download (plan_word kind); words_are = e; is_form = kind_is kind; file = refl }
form_of (Clear kind) words e = record { form = Clear_words (cleared_word kind); words_are = e; is_form = cleared_is kind; file = refl }
form_of (Command number word) words s = record { form = Order (decimal number) s.digits; words_are = s.words_are; is_form = ((number, refl, omega arith, s.most), s.is_wire); file = refl }
form_of ParamList words e = record { form = List_parameters; words_are = e; is_form = tt; file = refl }
form_of (ParamRead id) words s = record { form = Read_parameter s.name; words_are = s.words_are; is_form = s.is_name; file = refl }
form_of (ParamSet id kind word) words s = record { form = Set_parameter s.name (decimal kind) s.digits; words_are = s.words_are; is_form = (s.is_name, (kind, refl, omega arith, s.most), s.is_wire); file = refl }
form_of FileList words e = record { form = List_files; words_are = e; is_form = tt; file = refl }
form_of (FileGet name) words e = record { form = Get_file name; words_are = e; is_form = tt; file = refl }
form_of (FilePut name) words e = record { form = Put_file name; words_are = e; is_form = tt; file = refl }
form_of (FileRemove name) words e = record { form = Remove_file name; words_are = e; is_form = tt; file = refl }

-- and an operation of the grammar is read
pub record ReadAs (form : OperationWords) : Type 0 where
  pub operation : Operation
  pub found : operation_in (operation_words form) ≡ Some operation
  pub file : takes_file form ≡ needs_file operation

pub read_as : (form : OperationWords) → IsOperation form → ReadAs form
read_as (Upload_words kind) is = let (k, found) = plan_found kind is in record { operation = Upload k; found = ap (option_map Upload) found; file = refl }
read_as (Download kind) is = let (k, found) = plan_found kind is in record { operation = Get k; found = ap (option_map Get) found; file = refl }
read_as (Clear_words kind) is = let (k, found) = cleared_found kind is in record { operation = Clear k; found = ap (option_map Clear) found; file = refl }
read_as (Order number word) (is_number, is_wire) =
    let (n, found) = number_found 0 65535 number (omega arith) is_number in
    record { operation = Command n (digits_value 16 word); found = ap (λ o. order_of o (wire_in word)) found ∙ ap (order_of (Some n)) (wire_found word is_wire); file = refl }
read_as List_parameters is = record { operation = ParamList; found = refl; file = refl }
read_as (Read_parameter id) is = record { operation = ParamRead (padded id); found = ap (option_map ParamRead) (parameter_found id is); file = refl }
read_as (Set_parameter id kind word) (is_id, is_kind, is_wire) =
    let (n, found) = number_found 0 255 kind (omega arith) is_kind in
    record {
      operation = ParamSet (padded id) n (to_be_bytes w32 (digits_value 16 word));
      found = ap (λ o. setting_of o (number_in 0 255 kind) (wire_in word)) (parameter_found id is_id) ∙ ap (λ o. setting_of (Some (padded id)) o (wire_in word)) found ∙ ap (setting_of (Some (padded id)) (Some n)) (wire_found word is_wire);
      file = refl;
    }
read_as List_files is = record { operation = FileList; found = refl; file = refl }
read_as (Get_file name) is = record { operation = FileGet name; found = refl; file = refl }
read_as (Put_file name) is = record { operation = FilePut name; found = refl; file = refl }
read_as (Remove_file name) is = record { operation = FileRemove name; found = refl; file = refl }
