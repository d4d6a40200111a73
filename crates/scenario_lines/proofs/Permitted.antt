-- A line that has no reason against it is one that the world may be asked to do.
use Rattle.std.proofs.Common.{◌≡◌, ℕ, ◌≤◌, ◌<◌, ◌&&◌, not, Bool, true, false, IsTrue, cond, if◌then◌else◌, List, [], ◌∷◌, ◌++◌, length, codes, refl, arith, lit≤, leb, nat_lt, Option, Some, None, Result, Ok, Err, is_some, unwrap_or}
use Rattle.std.specs.Str.{bytes_eq}
use Rattle.std.specs.Result.{result_ok}
use Rattle.std.proofs.lemmas.Bool.{and_parts, leb-true, ltb-true}
use Rattle.hex.specs.declared.error.FromHexError.{FromHexError}
use Rattle.hex.specs.Hex.{decode_of}
use Rattle.hex.proofs.HexLemmas.{decode_of-ok}
use Rattle.mav_names.specs.declared.names.Name.{Name}
use Rattle.scenario_lines.specs.declared.faults.Reason.{Reason}
use Rattle.scenario_lines.specs.declared.lines.Line.{Line}
use Rattle.scenario_lines.specs.declared.lines.Line.TheVariants.{Blank}
use Rattle.scenario_lines.specs.Words.{words_of, word_at, is_numeral, digits_value, number_in, name_of_word}
use Rattle.scenario_lines.specs.LineContext.{LineContext, has_name, has_drone, has_station}
use Rattle.scenario_lines.specs.Grammar.{Form, form, Argument, Whole, Signed, Wire, A_station, A_drone, A_node, A_kind, A_kind_or_all, Digits, form_of, counts, arguments_at, misfit, known, item_words, first_reason, line_from, line_of, is_blank, most_whole, most_sim_ticks, most_line_bytes, whole_at, name_at, bytes_at, no_name}
use Rattle.scenario_lines.specs.Reasons.{state_reason, words_reason, reason_against}
use Rattle.scenario_lines.specs.Permits.{IsInRange, IsPermitted}
use Rattle.scenario_lines.proofs.ReadWords.{number_wider}

-- ---- no reason of several

no_first : (bad : Bool) (r : Reason) (m : Option Reason) → (if bad then Some r else m) ≡ None → (bad ≡ false) × (m ≡ None)
no_first true r m h = cc
no_first false r m h = (refl, h)

neither : (m n : Option Reason) → first_reason m n ≡ None → (m ≡ None) × (n ≡ None)
neither None n h = (refl, h)
neither (Some r) n h = cc

-- the arguments fit, and nothing known of the world is a reason against the line
fitted : (s : LineContext) (words : List (List ℕ)) (f : Form) → words_reason s words (Some f) ≡ None
    → (misfit s.nodes (arguments_at f (length words)) words 1 ≡ None) × (state_reason s (line_from words) ≡ None)
fitted s words f h =
    let counted = no_first (not (counts f (length words))) _ _ h in
    neither _ _ counted.1

no_state_reason : (s : LineContext) (words : List (List ℕ)) (form : Option Form) → words_reason s words form ≡ None → state_reason s (line_from words) ≡ None
no_state_reason s words None h = cc
no_state_reason s words (Some f) h = (fitted s words f h).1

-- the first argument fits, and so do the others
fits_first : (b : Bool) (r : Reason) (m : Option Reason) → (if b then m else Some r) ≡ None → (b ≡ true) × (m ≡ None)
fits_first true r m h = (refl, h)
fits_first false r m h = cc

-- ---- what fits is in its range

known_named : (has : Name → Bool) (o : Option Name) (d : Name) → known has o ≡ true → has (unwrap_or o d) ≡ true
known_named has None d h = cc
known_named has (Some name) d h = h

some_value : {A : Type 0} (o : Option A) → is_some o ≡ true → (x : A) × (o ≡ Some x)
some_value None h = cc
some_value (Some x) h = (x, refl)

chosen : (b : Bool) (v n : ℕ) → cond b (Some v) None ≡ Some n → (b ≡ true) × (v ≡ n)
chosen true v n h = (refl, cc)
chosen false v n h = cc

number_bounds : (low high n : ℕ) (word : List ℕ) → number_in low high word ≡ Some n → (low ≤ n) × (n ≤ high)
number_bounds low high n word is =
    let found = chosen _ _ _ is in
    let parts = and_parts (is_numeral word) (leb low (digits_value word) && leb (digits_value word) high) found.0 in
    let bounds = and_parts (leb low (digits_value word)) (leb (digits_value word) high) parts.1 in
    let least = leb-true low (digits_value word) bounds.0 in
    let most = leb-true (digits_value word) high bounds.1 in
    (omega (arith, least, found.1), omega (arith, most, found.1))

whole_bounds : (low high : ℕ) (words : List (List ℕ)) (k : ℕ) → high ≤ most_whole → is_some (number_in low high (word_at words k)) ≡ true
    → (low ≤ whole_at words k) × (whole_at words k ≤ high)
whole_bounds low high words k wide h =
    let found = some_value (number_in low high (word_at words k)) h in
    let bounds = number_bounds low high found.0 (word_at words k) found.1 in
    rw (number_wider low high found.0 (word_at words k) wide found.1) bounds

decoded_some : (word : List ℕ) (r : Result (List ℕ) FromHexError) → decode_of word ≡ r → 0 < length word → is_some (result_ok r) ≡ true
    → 1 ≤ length (unwrap_or (result_ok r) [])
decoded_some word (Err e) is full h = cc
decoded_some word (Ok bytes) is full h = let twice = (decode_of-ok word bytes is).2 in omega (arith, twice, full)

bytes_some : (word : List ℕ) (full : Bool) → nat_lt 0 (length word) ≡ full → is_some (if full then result_ok (decode_of word) else None) ≡ true
    → 1 ≤ length (unwrap_or (if full then result_ok (decode_of word) else None) [])
bytes_some word true is h = decoded_some word (decode_of word) refl (ltb-true _ _ is) h
bytes_some word false is h = cc

-- ---- by the first word

-- a form and a line that one test chooses
choose : {A B : Type 0} (P : A → B → Type 0) (b : Bool) (x y : A) (u v : B) → P x u → P y v → P (if b then x else y) (if b then u else v)
choose P true x y u v f g = f
choose P false x y u v f g = g

abbrev Ranged : LineContext → List (List ℕ) → Option Form → Line → Type 0
Ranged s words form line = words_reason s words form ≡ None → IsInRange s line

-- the arguments of a form that has no further groups
needs_fit : (s : LineContext) (words : List (List ℕ)) (args : List Argument) → words_reason s words (form args) ≡ None → misfit s.nodes (args ++ []) words 1 ≡ None
needs_fit s words args h = (fitted s words (record { needed = args; further = [] }) h).0

station_named : (s : LineContext) (words : List (List ℕ)) (more : List Argument) → words_reason s words (form (A_station ∷ more)) ≡ None
    → IsTrue (has_station s.nodes (name_at words 1)) × (misfit s.nodes (more ++ []) words 2 ≡ None)
station_named s words more h =
    let fit = fits_first _ _ _ (needs_fit s words (A_station ∷ more) h) in
    (known_named (has_station s.nodes) (name_of_word (word_at words 1)) no_name fit.0, fit.1)

node_named : (s : LineContext) (words : List (List ℕ)) (more : List Argument) → words_reason s words (form (A_node ∷ more)) ≡ None
    → IsTrue (has_name s.nodes (name_at words 1)) × (misfit s.nodes (more ++ []) words 2 ≡ None)
node_named s words more h =
    let fit = fits_first _ _ _ (needs_fit s words (A_node ∷ more) h) in
    (known_named (has_name s.nodes) (name_of_word (word_at words 1)) no_name fit.0, fit.1)

drone_named : (s : LineContext) (words : List (List ℕ)) (more : List Argument) → words_reason s words (form (A_drone ∷ more)) ≡ None
    → IsTrue (has_drone s.nodes (name_at words 1)) × (misfit s.nodes (more ++ []) words 2 ≡ None)
drone_named s words more h =
    let fit = fits_first _ _ _ (needs_fit s words (A_drone ∷ more) h) in
    (known_named (has_drone s.nodes) (name_of_word (word_at words 1)) no_name fit.0, fit.1)

both_named : (s : LineContext) (words : List (List ℕ)) (more : List Argument) → words_reason s words (form (A_station ∷ A_drone ∷ more)) ≡ None
    → IsTrue (has_station s.nodes (name_at words 1)) × IsTrue (has_drone s.nodes (name_at words 2))
both_named s words more h =
    let station = station_named s words (A_drone ∷ more) h in
    let drone = fits_first _ _ _ station.1 in
    (station.0, known_named (has_drone s.nodes) (name_of_word (word_at words 2)) no_name drone.0)

drone_ranged : (s : LineContext) (words : List (List ℕ)) (further : List (List Argument))
    → words_reason s words (Some (record { needed = Whole 1 255 ∷ []; further = further })) ≡ None → 1 ≤ whole_at words 1
drone_ranged s words further h =
    let fit = fits_first _ _ _ (fitted s words (record { needed = Whole 1 255 ∷ []; further = further }) h).0 in
    (whole_bounds 1 255 words 1 (lit≤ tt) fit.0).0

station_ranged : (s : LineContext) (words : List (List ℕ)) → words_reason s words (form (Whole 1 255 ∷ Whole 1 255 ∷ [])) ≡ None
    → (1 ≤ whole_at words 1) × (1 ≤ whole_at words 2)
station_ranged s words h =
    let sys = fits_first _ _ _ (needs_fit s words (Whole 1 255 ∷ Whole 1 255 ∷ []) h) in
    let comp = fits_first _ _ _ sys.1 in
    ((whole_bounds 1 255 words 1 (lit≤ tt) sys.0).0, (whole_bounds 1 255 words 2 (lit≤ tt) comp.0).0)

items_ranged : (s : LineContext) (words : List (List ℕ)) (more : List Argument) (further : List (List Argument))
    → words_reason s words (Some (record { needed = Whole 1 2000 ∷ more; further = further })) ≡ None
    → (1 ≤ whole_at words 1) × (whole_at words 1 ≤ 2000)
items_ranged s words more further h =
    let fit = fits_first _ _ _ (fitted s words (record { needed = Whole 1 2000 ∷ more; further = further }) h).0 in
    whole_bounds 1 2000 words 1 (lit≤ tt) fit.0

deliver_ranged : (s : LineContext) (words : List (List ℕ)) → words_reason s words (form (Whole 1 most_whole ∷ A_node ∷ [])) ≡ None
    → (1 ≤ whole_at words 1) × IsTrue (has_name s.nodes (name_at words 2))
deliver_ranged s words h =
    let i = fits_first _ _ _ (needs_fit s words (Whole 1 most_whole ∷ A_node ∷ []) h) in
    let node = fits_first _ _ _ i.1 in
    ((whole_bounds 1 most_whole words 1 (lit≤ tt) i.0).0, known_named (has_name s.nodes) (name_of_word (word_at words 2)) no_name node.0)

noise_ranged : (s : LineContext) (words : List (List ℕ)) → words_reason s words (form (A_node ∷ Digits ∷ [])) ≡ None
    → IsTrue (has_name s.nodes (name_at words 1)) × (1 ≤ length (bytes_at words 2))
noise_ranged s words h =
    let node = node_named s words (Digits ∷ []) h in
    let bytes = fits_first _ _ _ node.1 in
    (node.0, bytes_some (word_at words 2) (nat_lt 0 (length (word_at words 2))) refl bytes.0)

sim_ranged : (s : LineContext) (words : List (List ℕ)) → words_reason s words (form (A_drone ∷ Whole 1 most_sim_ticks ∷ [])) ≡ None
    → IsTrue (has_drone s.nodes (name_at words 1)) × (1 ≤ whole_at words 2) × (whole_at words 2 ≤ most_sim_ticks)
sim_ranged s words h =
    let drone = drone_named s words (Whole 1 most_sim_ticks ∷ []) h in
    let ticks = whole_bounds 1 most_sim_ticks words 2 (lit≤ tt) (fits_first _ _ _ drone.1).0 in
    (drone.0, ticks.0, ticks.1)

in_range : (s : LineContext) (words : List (List ℕ)) → words_reason s words (form_of (word_at words 0)) ≡ None → IsInRange s (line_from words)
in_range s words =
    let w = word_at words 0 in
    choose (Ranged s words) (bytes_eq w (codes "drone")) _ _ _ _ (drone_ranged s words ((Signed ∷ Signed ∷ []) ∷ []))
    (choose (Ranged s words) (bytes_eq w (codes "station")) _ _ _ _ (station_ranged s words)
    (choose (Ranged s words) (bytes_eq w (codes "item")) _ _ _ _ (λ h. tt)
    (choose (Ranged s words) (bytes_eq w (codes "items")) _ _ _ _ (items_ranged s words (Whole 0 255 ∷ Whole 0 65535 ∷ Signed ∷ Signed ∷ []) item_words)
    (choose (Ranged s words) (bytes_eq w (codes "empty")) _ _ _ _ (λ h. tt)
    (choose (Ranged s words) (bytes_eq w (codes "begin")) _ _ _ _ (both_named s words (A_kind ∷ []))
    (choose (Ranged s words) (bytes_eq w (codes "cancel")) _ _ _ _ (λ h. (station_named s words [] h).0)
    (choose (Ranged s words) (bytes_eq w (codes "clear")) _ _ _ _ (both_named s words (A_kind_or_all ∷ []))
    (choose (Ranged s words) (bytes_eq w (codes "get")) _ _ _ _ (both_named s words (A_kind ∷ []))
    (choose (Ranged s words) (bytes_eq w (codes "command")) _ _ _ _ (both_named s words (Whole 0 65535 ∷ Wire ∷ []))
    (choose (Ranged s words) (bytes_eq w (codes "params")) _ _ _ _ (both_named s words [])
    (choose (Ranged s words) (bytes_eq w (codes "heartbeat")) _ _ _ _ (λ h. (node_named s words [] h).0)
    (choose (Ranged s words) (bytes_eq w (codes "deliver")) _ _ _ _ (deliver_ranged s words)
    (choose (Ranged s words) (bytes_eq w (codes "flow")) _ _ _ _ (λ h. tt)
    (choose (Ranged s words) (bytes_eq w (codes "noise")) _ _ _ _ (noise_ranged s words)
    (choose (Ranged s words) (bytes_eq w (codes "tick")) _ _ _ _ (λ h. (node_named s words [] h).0)
    (choose (Ranged s words) (bytes_eq w (codes "clock")) _ _ _ _ (λ h. tt)
    (choose (Ranged s words) (bytes_eq w (codes "restart")) _ _ _ _ (λ h. (drone_named s words [] h).0)
    (choose (Ranged s words) (bytes_eq w (codes "sim")) _ _ _ _ (sim_ranged s words)
    (choose (Ranged s words) (bytes_eq w (codes "where")) _ _ _ _ (λ h. (drone_named s words [] h).0)
    (λ h. tt))))))))))))))))))))

words_permitted : (s : LineContext) (words : List (List ℕ)) → words_reason s words (form_of (word_at words 0)) ≡ None → IsPermitted s (line_from words)
words_permitted s words h = (in_range s words h, no_state_reason s words _ h)

text_permitted : (s : LineContext) (text : List ℕ) (blank : Bool) → is_blank text ≡ blank
    → (if blank then None else words_reason s (words_of text) (form_of (word_at (words_of text) 0))) ≡ None
    → IsPermitted s (if blank then Blank else line_from (words_of text))
text_permitted s text true is h = (tt, refl)
text_permitted s text false is h = words_permitted s (words_of text) h

-- a line that has no reason against it is permitted
pub read_is_permitted : (s : LineContext) (text : List ℕ) → reason_against s text ≡ None → IsPermitted s (line_of text)
read_is_permitted s text h =
    let short = no_first (nat_lt most_line_bytes (length text)) _ _ h in
    text_permitted s text (is_blank text) refl short.1
