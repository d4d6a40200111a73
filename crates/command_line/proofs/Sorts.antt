-- What the sort of a word says of its bytes, and the sorts of the words of pieces.
use Rattle.std.proofs.Common.{◌≡◌, ◌∙◌, ℕ, Bool, true, false, List, [], ◌∷◌, ◌++◌, refl, sym, ap, length, get_or, codes, Option, Some, None, inl, inr, not, if◌then◌else◌, arith}
use Rattle.std.proofs.lemmas.Bool.{cases_Bool, cond-true, cond-false, cond_both, and_parts, ltb-true, lt-ltb, eqb-true}
use Rattle.std.proofs.lemmas.List.Sums.{split_at_first, passes_at_first}
use Rattle.std.proofs.lemmas.Slice.Eq.{bytes_eq-Decides}
use Rattle.std.specs.List.{find, list_all, before_first, position_or_len}
use Rattle.std.specs.Str.{bytes_eq}
use Rattle.command_line.specs.declared.commands.Command.{Command}
use Rattle.command_line.specs.declared.commands.Command.TheVariants.{Fleet, Dialect, Decode, Route, Drone, Station, Make, LogShow, LogFilter, LogMake, Fence}
use Rattle.command_line.specs.declared.commands.OptionName.{OptionName}
use Rattle.command_line.specs.declared.commands.OptionName.TheVariants.{Frames, Key, Defs, One, Turns, Ticks, File, Store}
use Rattle.command_line.specs.declared.pieces.Sort.{Sort}
use Rattle.command_line.specs.declared.pieces.Sort.TheVariants.{Plain, Dashes, Alone, Joined, Apart, Unknown}
use Rattle.command_line.specs.Commands.{command_word, is_on_logs, command_words, option_word, has_value}
use Rattle.command_line.specs.Grammar.{is_dashed}
use Rattle.command_line.specs.Pieces.{Begun, single_commands, log_commands, all_options, named_in, begun, begun_by, begun_log, option_named, is_equals, has_equals, alone_sort, joined_sort, option_sort, sort_of, joined_value}

not_true : (b : Bool) → not b ≡ true → b ≡ false
not_true true never = absurd (cc never)
not_true false e = refl

-- what a search finds passes its test
pub found_passes : {X : Type 0} (test : X → Bool) (xs : List X) (x : X) → find test xs ≡ Some x → test x ≡ true
found_passes test [] x never = absurd (cc never)
found_passes test (y ∷ ys) x e =
    elim (cases_Bool (test y)) [
      | inl passes ↦ let same : y ≡ x = cc (e, cond-true (test y) (Some y) (find test ys) passes) in ap test (sym same) ∙ passes
      | inr fails ↦ found_passes test ys x (sym (cond-false (test y) (Some y) (find test ys) fails) ∙ e)
    ]

command_word_of : (commands : List Command) (word : List ℕ) (c : Command) → named_in commands word ≡ Some c → word ≡ command_word c
command_word_of commands word c e = (bytes_eq-Decides word (command_word c)).0 (found_passes (λ d. bytes_eq word (command_word d)) commands c e)

-- what is found among commands of which a test holds passes it
found_among : (test : Command → Bool) (commands : List Command) (word : List ℕ) (c : Command) → list_all test commands ≡ true → named_in commands word ≡ Some c → test c ≡ true
found_among test [] word c all never = absurd (cc never)
found_among test (d ∷ ds) word c all e =
    let (one, rest) = and_parts (test d) (list_all test ds) all in
    elim (cases_Bool (bytes_eq word (command_word d))) [
      | inl passes ↦ let same : d ≡ c = cc (e, cond-true (bytes_eq word (command_word d)) (Some d) (named_in ds word) passes) in ap test (sym same) ∙ one
      | inr fails ↦ found_among test ds word c rest (sym (cond-false (bytes_eq word (command_word d)) (Some d) (named_in ds word) fails) ∙ e)
    ]

-- the words that a command was found at the start of are the command's and those after it
by_words : (o : Option Command) (b : Begun) (rest : List (List ℕ)) → begun_by rest o ≡ Some b → (o ≡ Some b.command) × (rest ≡ b.rest)
by_words None b rest never = absurd (cc never)
by_words (Some c) b rest e = let same : (record { command = c; rest = rest }) ≡ b = cc e in (ap (λ (x : Begun). Some x.command) same, ap (λ (x : Begun). x.rest) same)

single_words : (w : List ℕ) (ws : List (List ℕ)) (b : Begun) → begun_by ws (named_in single_commands w) ≡ Some b → w ∷ ws ≡ command_words b.command ++ b.rest
single_words w ws b e =
    let (named, rest) = by_words (named_in single_commands w) b ws e in
    ap (λ v. v ∷ ws) (command_word_of single_commands w b.command named) ∙ ap (λ more. command_word b.command ∷ more) rest
    ∙ ap (λ front. front ++ b.rest) (sym (cond-false (is_on_logs b.command) _ _ (not_true (is_on_logs b.command) (found_among (λ c. not (is_on_logs c)) single_commands w b.command refl named))))

log_words : (ws : List (List ℕ)) (b : Begun) → begun_log ws ≡ Some b → codes "log" ∷ ws ≡ command_words b.command ++ b.rest
log_words [] b never = absurd (cc never)
log_words (w ∷ ws) b e =
    let (named, rest) = by_words (named_in log_commands w) b ws e in
    ap (λ v. codes "log" ∷ v ∷ ws) (command_word_of log_commands w b.command named) ∙ ap (λ more. codes "log" ∷ command_word b.command ∷ more) rest
    ∙ ap (λ front. front ++ b.rest) (sym (cond-true (is_on_logs b.command) _ _ (found_among is_on_logs log_commands w b.command refl named)))

pub begun_words : (words : List (List ℕ)) (b : Begun) → begun words ≡ Some b → words ≡ command_words b.command ++ b.rest
begun_words [] b never = absurd (cc never)
begun_words (w ∷ ws) b e = elim (cases_Bool (bytes_eq w (codes "log"))) [
  | inl is ↦ ap (λ v. v ∷ ws) ((bytes_eq-Decides w (codes "log")).0 is) ∙ log_words ws b (sym (cond-true (bytes_eq w (codes "log")) (begun_log ws) (begun_by ws (named_in single_commands w)) is) ∙ e)
  | inr isnt ↦ single_words w ws b (sym (cond-false (bytes_eq w (codes "log")) (begun_log ws) (begun_by ws (named_in single_commands w)) isnt) ∙ e)
]

-- and a command is found at the start of its words
pub words_begun : (c : Command) (rest : List (List ℕ)) → begun (command_words c ++ rest) ≡ Some (record { command = c; rest = rest })
words_begun Fleet rest = refl
words_begun Dialect rest = refl
words_begun Decode rest = refl
words_begun Route rest = refl
words_begun Drone rest = refl
words_begun Station rest = refl
words_begun Make rest = refl
words_begun LogShow rest = refl
words_begun LogFilter rest = refl
words_begun LogMake rest = refl
words_begun Fence rest = refl

-- the same from a first word that is held
pub log_begun : (words : List (List ℕ)) (w : List ℕ) (ws : List (List ℕ)) → words ≡ w ∷ ws → bytes_eq w (codes "log") ≡ true → begun words ≡ begun_log ws
log_begun words w ws split is = ap begun split ∙ cond-true (bytes_eq w (codes "log")) (begun_log ws) (begun_by ws (named_in single_commands w)) is

pub single_begun : (words : List (List ℕ)) (w : List ℕ) (ws : List (List ℕ)) (o : Option Command) → words ≡ w ∷ ws → bytes_eq w (codes "log") ≡ false → o ≡ named_in single_commands w → begun words ≡ begun_by ws o
single_begun words w ws o split isnt found =
    ap begun split ∙ cond-false (bytes_eq w (codes "log")) (begun_log ws) (begun_by ws (named_in single_commands w)) isnt ∙ ap (begun_by ws) (sym found)

pub second_begun : (words : List (List ℕ)) (w : List ℕ) (ws : List (List ℕ)) (o : Option Command) → words ≡ w ∷ ws → o ≡ named_in log_commands w → begun_log words ≡ begun_by ws o
second_begun words w ws o split found = ap begun_log split ∙ ap (begun_by ws) (sym found)

option_word_of : (word : List ℕ) (o : OptionName) → option_named word ≡ Some o → word ≡ option_word o
option_word_of word o e = (bytes_eq-Decides word (option_word o)).0 (found_passes (λ p. bytes_eq word (option_word p)) all_options o e)

-- a word of this sort
abbrev pub IsSort : Sort → List ℕ → Type 0
IsSort Plain word = is_dashed word ≡ false
IsSort Dashes word = word ≡ codes "--"
IsSort (Alone name) word = (word ≡ option_word name) × (has_value name ≡ false)
IsSort (Joined name) word = (word ≡ option_word name ++ 61 ∷ joined_value word) × (has_value name ≡ true)
IsSort (Apart name) word = (word ≡ option_word name) × (has_value name ≡ true)
IsSort Unknown word = Unit {0}

alone_is : (word : List ℕ) (found : Option OptionName) → option_named word ≡ found → IsSort (alone_sort found) word
alone_is word None e = tt
alone_is word (Some name) e = cond_both (has_value name) (Apart name) (Alone name) (λ s. IsSort s word) (λ has. (option_word_of word name e, has)) (λ none. (option_word_of word name e, none))

-- a word with `=` is what comes before the first one, that byte, and what comes after it
cut : (word : List ℕ) → has_equals word ≡ true → word ≡ before_first is_equals word ++ 61 ∷ joined_value word
cut word has =
    let within = ltb-true (position_or_len is_equals word) (length word) has in
    let byte = eqb-true (get_or word (position_or_len is_equals word) 0) 61 (passes_at_first is_equals word 0 within) in
    split_at_first is_equals word 0 within ∙ ap (λ b. before_first is_equals word ++ (b ∷ joined_value word)) byte

joined_is : (word : List ℕ) (found : Option OptionName) → has_equals word ≡ true → option_named (before_first is_equals word) ≡ found → IsSort (joined_sort found) word
joined_is word None has e = tt
joined_is word (Some name) has e =
    cond_both (has_value name) (Joined name) Unknown (λ s. IsSort s word)
    (λ valued. (cut word has ∙ ap (λ front. front ++ 61 ∷ joined_value word) (option_word_of (before_first is_equals word) name e), valued))
    (λ none. tt)

pub sort_is : (word : List ℕ) → IsSort (sort_of word) word
sort_is word =
    let option = cond_both (has_equals word) (joined_sort (option_named (before_first is_equals word))) (alone_sort (option_named word)) (λ s. IsSort s word)
    (λ has. joined_is word (option_named (before_first is_equals word)) has refl)
    (λ lacks. alone_is word (option_named word) refl) in
    cond_both (is_dashed word) (if bytes_eq word (codes "--") then Dashes else option_sort word) Plain (λ s. IsSort s word)
    (λ dashed. cond_both (bytes_eq word (codes "--")) Dashes (option_sort word) (λ s. IsSort s word) (λ same. (bytes_eq-Decides word (codes "--")).0 same) (λ other. option))
    (λ plain. plain)

-- the sorts of the words of a piece
pub sort_alone : (o : OptionName) → has_value o ≡ false → sort_of (option_word o) ≡ Alone o
sort_alone Frames e = refl
sort_alone Key e = absurd (cc e)
sort_alone Defs e = absurd (cc e)
sort_alone One e = refl
sort_alone Turns e = absurd (cc e)
sort_alone Ticks e = absurd (cc e)
sort_alone File e = absurd (cc e)
sort_alone Store e = absurd (cc e)

pub sort_apart : (o : OptionName) → has_value o ≡ true → sort_of (option_word o) ≡ Apart o
sort_apart Frames e = absurd (cc e)
sort_apart Key e = refl
sort_apart Defs e = refl
sort_apart One e = absurd (cc e)
sort_apart Turns e = refl
sort_apart Ticks e = refl
sort_apart File e = refl
sort_apart Store e = refl

-- an option with `=`, and its value
joined_at : (o : OptionName) (word : List ℕ) (sort : Sort) → has_equals word ≡ true → sort ≡ option_sort word → joined_sort (option_named (before_first is_equals word)) ≡ Joined o → sort ≡ Joined o
joined_at o word sort has is named = is ∙ cond-true (has_equals word) _ _ has ∙ named

pub sort_joined : (o : OptionName) (value : List ℕ) → has_value o ≡ true → (sort_of (option_word o ++ 61 ∷ value) ≡ Joined o) × (joined_value (option_word o ++ 61 ∷ value) ≡ value)
sort_joined Frames value e = absurd (cc e)
sort_joined Key value e = (joined_at Key (option_word Key ++ 61 ∷ value) _ (lt-ltb 5 (length (option_word Key ++ 61 ∷ value)) (omega arith)) refl refl, refl)
sort_joined Defs value e = (joined_at Defs (option_word Defs ++ 61 ∷ value) _ (lt-ltb 6 (length (option_word Defs ++ 61 ∷ value)) (omega arith)) refl refl, refl)
sort_joined One value e = absurd (cc e)
sort_joined Turns value e = (joined_at Turns (option_word Turns ++ 61 ∷ value) _ (lt-ltb 7 (length (option_word Turns ++ 61 ∷ value)) (omega arith)) refl refl, refl)
sort_joined Ticks value e = (joined_at Ticks (option_word Ticks ++ 61 ∷ value) _ (lt-ltb 7 (length (option_word Ticks ++ 61 ∷ value)) (omega arith)) refl refl, refl)
sort_joined File value e = (joined_at File (option_word File ++ 61 ∷ value) _ (lt-ltb 6 (length (option_word File ++ 61 ∷ value)) (omega arith)) refl refl, refl)
sort_joined Store value e = (joined_at Store (option_word Store ++ 61 ∷ value) _ (lt-ltb 7 (length (option_word Store ++ 61 ∷ value)) (omega arith)) refl refl, refl)

pub sort_plain : (word : List ℕ) → is_dashed word ≡ false → sort_of word ≡ Plain
sort_plain word plain = cond-false (is_dashed word) _ _ plain
