-- The tests of a line agree with the forms of what is built.
use Rattle.std.proofs.Common.{◌≡◌, ◌∙◌, ◌≤◌, ◌<◌, ◌-◌, ◌^◌, ◌&&◌, ◌||◌, not, nat_le, ℕ, Bool, true, false, List, [], ◌∷◌, refl, sym, ap, arith, map, length, take, drop, get_or, Some, is_some, option_map, string_bytes, ◌⊎◌, inl, inr}
use Rattle.std.proofs.lemmas.Bool.{cases_Bool, cond-true, cond-false, and_parts, and_from, and_left, and_right, leb-true, le-leb}
use Rattle.std.proofs.lemmas.Grind.{common_steps}
use Rattle.std.proofs.lemmas.List.Sums.{AllPass-from_list_all, list_all-from_AllPass}
use Rattle.std.specs.List.{find, list_all, list_any, All}
use Rattle.command_line.specs.declared.lines.Setting.{Setting}
use Rattle.command_line.specs.declared.commands.Command.{Command}
use Rattle.command_line.specs.declared.commands.Command.TheVariants.{Fleet, Dialect, Decode, Route, Drone, Station, Make, LogShow, LogFilter, LogMake, Fence}
use Rattle.command_line.specs.declared.commands.OptionName.{OptionName}
use Rattle.command_line.specs.declared.commands.OptionName.TheVariants.{Frames, Key, Defs, One, Turns, Ticks, File, Store}
use Rattle.command_line.specs.Commands.{has_option, needs_key}
use Rattle.command_line.specs.Built.{is_built, is_option_built, built}
use Rattle.command_line.specs.Forms.{Given, latest_start, most_turns, is_named, IsValue, AreTaken, all_differ, has_given, stdin_files, IsFile, ArePlain, Fits}
use Rattle.command_line.specs.Names.{value_given}
use Rattle.command_line.specs.Operations.{OneNumber, NumberAndFile}
use Rattle.command_line.specs.Ports.{IsRouterPort}
use Rattle.command_line.specs.Numbers.{number_in}
use Rattle.command_line.specs.PortTexts.{is_some_text, is_router_port}
use Rattle.command_line.specs.Lines.{given_of, is_value_now, taken_now, has_needed, is_one_file, is_no_word, are_ports, is_one_number, is_number_and_file, plain_now, fits_now}
use Rattle.command_line.proofs.NodeWords.{drone_form, form_drone, station_form, form_station}
use Rattle.command_line.proofs.Numerals.{number_form, form_number}
use Rattle.command_line.proofs.PortWords.{some_text, text_some, no_text, router_form, form_router}

-- the value of a setting
abbrev pub held_value : Setting → List ℕ
held_value s = string_bytes s.value

-- the value of an option
value_of : (o : OptionName) (v : List ℕ) → is_value_now o v ≡ true → IsValue o v
value_of Frames v e = no_text v e
value_of Key v e = some_text v e
value_of Defs v e = some_text v e
value_of One v e = no_text v e
value_of Turns v e = number_form 1 most_turns v e
value_of Ticks v e = number_form 1 most_turns v e
value_of File v e = some_text v e
value_of Store v e = some_text v e

is_value : (o : OptionName) (v : List ℕ) → IsValue o v → is_value_now o v ≡ true
is_value Frames v e = ap (λ w. not (is_some_text w)) e
is_value Key v some = text_some v some
is_value Defs v some = text_some v some
is_value One v e = ap (λ w. not (is_some_text w)) e
is_value Turns v is = form_number 1 most_turns v (omega arith) is
is_value Ticks v is = form_number 1 most_turns v (omega arith) is
is_value File v some = text_some v some
is_value Store v some = text_some v some

taken : (c : Command) (gs : List Given) → list_all (taken_now c) gs ≡ true → AreTaken built c gs
taken c [] e = tt
taken c (g ∷ gs) e =
    let (one, rest) = and_parts (taken_now c g) (list_all (taken_now c) gs) e in
    let (offered, valued) = and_parts (has_option c g.name && is_option_built c g.name) (is_value_now g.name g.value) one in
    ((offered, value_of g.name g.value valued), taken c gs rest)

takes : (c : Command) (gs : List Given) → AreTaken built c gs → list_all (taken_now c) gs ≡ true
takes c [] are = refl
takes c (g ∷ gs) are =
    and_from (taken_now c g) (list_all (taken_now c) gs)
    (and_from (has_option c g.name && is_option_built c g.name) (is_value_now g.name g.value) are.0.0 (is_value g.name g.value are.0.1))
    (takes c gs are.1)

one_file : (plain : List (List ℕ)) → is_one_file plain ≡ true → IsFile plain
one_file [] never = absurd (cc never)
one_file (file ∷ []) e = (file, refl, some_text file e)
one_file (file ∷ other ∷ more) never = absurd (cc never)

file_one : (plain : List (List ℕ)) → IsFile plain → is_one_file plain ≡ true
file_one plain (file, same, some) = ap is_one_file same ∙ text_some file some

no_word : (plain : List (List ℕ)) → is_no_word plain ≡ true → plain ≡ []
no_word [] e = refl
no_word (w ∷ ws) never = absurd (cc never)

-- ports, and the number of `make`
ports_form : (plain : List (List ℕ)) → are_ports plain ≡ true → (1 ≤ length plain) × (length plain ≤ 8) × All IsRouterPort plain
ports_form plain e =
    let (few, each) = and_parts (nat_le 1 (length plain) && nat_le (length plain) 8) (list_all is_router_port plain) e in
    let (least, most) = and_parts (nat_le 1 (length plain)) (nat_le (length plain) 8) few in (
      leb-true 1 (length plain) least,
      leb-true (length plain) 8 most,
      λ k d within. router_form (get_or plain k d) (AllPass-from_list_all is_router_port plain each k d within),
    )

form_ports : (plain : List (List ℕ)) → (1 ≤ length plain) × (length plain ≤ 8) × All IsRouterPort plain → are_ports plain ≡ true
form_ports plain (least, most, each) =
    and_from (nat_le 1 (length plain) && nat_le (length plain) 8) (list_all is_router_port plain)
    (and_from (nat_le 1 (length plain)) (nat_le (length plain) 8) (le-leb 1 (length plain) least) (le-leb (length plain) 8 most))
    (list_all-from_AllPass is_router_port plain (λ k d within. form_router (get_or plain k d) (each k d within)))

one_number : (plain : List (List ℕ)) → is_one_number plain ≡ true → OneNumber 0 1000000 plain
one_number [] never = absurd (cc never)
one_number (word ∷ []) e = (word, refl, number_form 0 1000000 word e)
one_number (word ∷ other ∷ more) never = absurd (cc never)

number_one : (plain : List (List ℕ)) → OneNumber 0 1000000 plain → is_one_number plain ≡ true
number_one plain (word, same, is) = ap is_one_number same ∙ form_number 0 1000000 word (omega arith) is

number_and_file : (most : ℕ) (plain : List (List ℕ)) → is_number_and_file most plain ≡ true → NumberAndFile 0 most plain
number_and_file most [] never = absurd (cc never)
number_and_file most (word ∷ []) never = absurd (cc never)
number_and_file most (word ∷ file ∷ []) e =
    let (some, is) = and_parts (is_some_text file) (is_some (number_in 0 most word)) e in
    record { number = word; file = file; plain_is = refl; is_number = number_form 0 most word is; is_file = some_text file some }
number_and_file most (word ∷ file ∷ other ∷ more) never = absurd (cc never)

file_and_number : (most : ℕ) (plain : List (List ℕ)) → most < 2 ^ 64 → NumberAndFile 0 most plain → is_number_and_file most plain ≡ true
file_and_number most plain few n =
    ap (is_number_and_file most) n.plain_is
    ∙ and_from (is_some_text n.file) (is_some (number_in 0 most n.number)) (text_some n.file n.is_file) (form_number 0 most n.number few n.is_number)

plain_is : (c : Command) (gs : List Given) (plain : List (List ℕ)) → plain_now c (has_given File gs) plain ≡ true → ArePlain built c gs plain
plain_is Fleet gs plain e = one_file plain e
plain_is Dialect gs plain e = no_word plain e
plain_is Decode gs plain e = one_file plain e
plain_is Route gs plain e = ports_form plain e
plain_is Drone gs plain e = drone_form plain e
plain_is Station gs plain e = station_form (has_given File gs) plain e
plain_is Make gs plain e = one_number plain e
plain_is LogShow gs plain e = one_file plain e
plain_is LogFilter gs plain e = number_and_file 255 plain e
plain_is LogMake gs plain e = number_and_file latest_start plain e
plain_is Fence gs plain e = one_file plain e

is_plain : (c : Command) (gs : List Given) (plain : List (List ℕ)) → ArePlain built c gs plain → plain_now c (has_given File gs) plain ≡ true
is_plain Fleet gs plain are = file_one plain are
is_plain Dialect gs plain are = ap is_no_word are
is_plain Decode gs plain are = file_one plain are
is_plain Route gs plain are = form_ports plain are
is_plain Drone gs plain are = form_drone plain are
is_plain Station gs plain are = form_station (has_given File gs) plain are
is_plain Make gs plain are = number_one plain are
is_plain LogShow gs plain are = file_one plain are
is_plain LogFilter gs plain are = file_and_number 255 plain (omega arith) are
is_plain LogMake gs plain are = file_and_number latest_start plain (omega arith) are
is_plain Fence gs plain are = file_one plain are

-- the key, if it is needed
implied : (a b : Bool) → (not a || b) ≡ true → a ≡ true → b ≡ true
implied true b e needed = e
implied false b e never = absurd (cc never)

implies : (a b : Bool) → (a ≡ true → b ≡ true) → (not a || b) ≡ true
implies true b f = f refl
implies false b f = refl

pub fits_when : (c : Command) (gs : List Given) (plain : List (List ℕ)) → fits_now c gs plain ≡ true → Fits built c gs plain
fits_when c gs plain e =
    let (b, e1) = and_parts (is_built c) _ e in
    let (t, e2) = and_parts (list_all (taken_now c) gs) _ e1 in
    let (d, e3) = and_parts (all_differ gs) _ e2 in
    let (n, e4) = and_parts (has_needed c gs) _ e3 in
    let (p, s) = and_parts (plain_now c (has_given File gs) plain) _ e4 in
    record {
      command_built = b;
      options_taken = taken c gs t;
      once = d;
      key_given = implied (needs_key c) (has_given Key gs) n;
      plain_words = plain_is c gs plain p;
      one_stdin = leb-true (stdin_files c gs plain) 1 s;
    }

pub when_fits : (c : Command) (gs : List Given) (plain : List (List ℕ)) → Fits built c gs plain → fits_now c gs plain ≡ true
when_fits c gs plain f =
    and_from (is_built c) _ f.command_built (and_from (list_all (taken_now c) gs) _ (takes c gs f.options_taken)
    (and_from (all_differ gs) _ f.once (and_from (has_needed c gs) _ (implies (needs_key c) (has_given Key gs) f.key_given)
    (and_from (plain_now c (has_given File gs) plain) _ (is_plain c gs plain f.plain_words)
    (le-leb (stdin_files c gs plain) 1 f.one_stdin)))))

-- the tests over what the program holds
pub list_any_map : (p : Given → Bool) (xs : List Setting) → list_any p (map given_of xs) ≡ list_any (λ s. p (given_of s)) xs
list_any_map p [] = refl
list_any_map p (x ∷ xs) = rw (list_any_map p xs)

list_all_map : (p : Given → Bool) (xs : List Setting) → list_all p (map given_of xs) ≡ list_all (λ s. p (given_of s)) xs
list_all_map p [] = refl
list_all_map p (x ∷ xs) = rw (list_all_map p xs)

take_rest : (xs : List Setting) (x : Setting) → take (length (x ∷ xs) - 1) (drop 1 (x ∷ xs)) ≡ xs
take_rest xs x = grind (arith, common_steps)

pub differ_first : (xs : List Setting) (x : Setting) → 1 ≤ length xs → x ≡ get_or xs 0 x → all_differ (map given_of xs) ≡ (not (list_any (λ s. is_named x.name (given_of s)) (take (length xs - 1) (drop 1 xs))) && all_differ (map given_of (take (length xs - 1) (drop 1 xs))))
differ_first [] x some e = absurd (omega (arith, some))
differ_first (y ∷ ys) x some e =
    rw (take_rest ys y, e) (ap (λ b. not b && all_differ (map given_of ys)) (list_any_map (is_named y.name) ys))

and_holds : (x y : Bool) → x ≡ true → (x && y) ≡ y
and_holds x y e = ap (λ b. b && y) e

pub not_taken : (c : Command) (ss : List Setting) (plain : List (List ℕ)) → list_all (λ s. taken_now c (given_of s)) ss ≡ false → false ≡ fits_now c (map given_of ss) plain
not_taken c ss plain e = sym (and_right (is_built c) _ (and_left (list_all (taken_now c) (map given_of ss)) _ (list_all_map (taken_now c) ss ∙ e)))

pub not_needed : (c : Command) (gs : List Given) (plain : List (List ℕ)) → has_needed c gs ≡ false → false ≡ fits_now c gs plain
not_needed c gs plain e =
    sym (and_right (is_built c) _ (and_right (list_all (taken_now c) gs) _ (and_right (all_differ gs) _ (and_left (has_needed c gs) _ e))))

pub all_hold : (c : Command) (ss : List Setting) (plain : List (List ℕ)) → is_built c ≡ true → list_all (λ s. taken_now c (given_of s)) ss ≡ true → all_differ (map given_of ss) ≡ true → has_needed c (map given_of ss) ≡ true → plain_now c (has_given File (map given_of ss)) plain ≡ true → nat_le (stdin_files c (map given_of ss) plain) 1 ≡ fits_now c (map given_of ss) plain
all_hold c ss plain b t d n p =
    sym (and_holds (is_built c) _ b ∙ and_holds (list_all (taken_now c) (map given_of ss)) _ (list_all_map (taken_now c) ss ∙ t)
    ∙ and_holds (all_differ (map given_of ss)) _ d ∙ and_holds (has_needed c (map given_of ss)) _ n
    ∙ and_holds (plain_now c (has_given File (map given_of ss)) plain) _ p)

-- plain words that aren't of the command's form
pub plain_unfit : (c : Command) (gs : List Given) (plain : List (List ℕ)) → plain_now c (has_given File gs) plain ≡ false → fits_now c gs plain ≡ false
plain_unfit c gs plain e =
    and_right (is_built c) _ (and_right (list_all (taken_now c) gs) _ (and_right (all_differ gs) _ (and_right (has_needed c gs) _ (and_left (plain_now c (has_given File gs) plain) _ e))))

-- the option that is found
found_map : (name : OptionName) (s : Setting) (ss : List Setting) → value_given name (map given_of ss) ≡ option_map held_value (find (λ t. is_named name (given_of t)) ss) → (is_named name (given_of s) ≡ true) ⊎ (is_named name (given_of s) ≡ false) → value_given name (map given_of (s ∷ ss)) ≡ option_map held_value (find (λ t. is_named name (given_of t)) (s ∷ ss))
found_map name s ss rest (inl is) = rw (cond-true (is_named name (given_of s)) (Some (given_of s)) (find (is_named name) (map given_of ss)) is, cond-true (is_named name (given_of s)) (Some s) (find (λ t. is_named name (given_of t)) ss) is)
found_map name s ss rest (inr isnt) = rw (cond-false (is_named name (given_of s)) (Some (given_of s)) (find (is_named name) (map given_of ss)) isnt, cond-false (is_named name (given_of s)) (Some s) (find (λ t. is_named name (given_of t)) ss) isnt) rest

pub value_map : (name : OptionName) (ss : List Setting) → value_given name (map given_of ss) ≡ option_map held_value (find (λ t. is_named name (given_of t)) ss)
value_map name [] = refl
value_map name (s ∷ ss) = found_map name s ss (value_map name ss) (cases_Bool (is_named name (given_of s)))
