-- Words that are read one by one, against the arguments of a form.
use Rattle.std.proofs.Common.{◌≡◌, ℕ, zero, suc, ◌+◌, ◌<◌, ◌≤◌, ◌&&◌, Bool, true, false, cond, List, [], ◌∷◌, length, refl, arith, ap, leb, Option, Some, None, Ok, Err, Result, inl, inr, if◌then◌else◌, unwrap_or, is_some}
use Rattle.std.specs.Option.{ok_or}
use Rattle.std.proofs.lemmas.Bool.{cases_lt, lt-ltb, le-ltb, le-leb, leb-true, and_parts, cases_eq, eq-eqb, ne_eqb}
use Rattle.std.proofs.lemmas.List.{get_or_past}
use Rattle.hex.specs.Hex.{decode_pairs}
use Rattle.mav_names.specs.declared.names.Name.{Name}
use Rattle.scenario_lines.specs.declared.faults.Reason.{Reason}
use Rattle.scenario_lines.specs.declared.faults.Reason.TheVariants.{Node as NodeReason, Hex}
use Rattle.scenario_lines.specs.declared.naming.Named.{Named}
use Rattle.scenario_lines.specs.Words.{word_at, is_numeral, digits_value, number_in, wire_word}
use Rattle.scenario_lines.specs.Grammar.{Argument, Wire, misfit, known, first_reason, may_count, further_arguments, most_whole, wire_at, item_words}
use Rattle.scenario_lines.specs.Readings.{answered, and_then, wire_or_zero, named_in}

-- a reason that comes first
pub first : {A : Type 0} (bad : Bool) (r : Reason) (m : Option Reason) (v : A)
    → answered (if bad then Some r else m) v ≡ (if bad then Err r else answered m v)
first true r m v = refl
first false r m v = refl

-- a result for some words, of which the first is read
pub ok_then : {A B : Type 0} (o : Result A Reason) (x : A) (rest : A → Result B Reason) (said : Result B Reason)
    → Ok x ≡ o → said ≡ rest x → said ≡ and_then o rest
ok_then o x rest said is h = rw (← is) h

-- or isn't
pub err_then : {A B : Type 0} (o : Result A Reason) (r : Reason) (rest : A → Result B Reason) → Err r ≡ o → Err r ≡ and_then o rest
err_then o r rest is = rw (← is) refl

-- one word that is read, and the others after it
pub step : {A B : Type 0} (o : Option A) (m n : Option Reason) (r : Reason) (v : B) (rest : A → Result B Reason)
    → ((x : A) → o ≡ Some x → rest x ≡ answered (first_reason m n) v)
    → and_then (ok_or o r) rest ≡ answered (first_reason (if is_some o then m else Some r) n) v
step None m n r v rest h = refl
step (Some x) m n r v rest h = h x refl

-- the same before a last step
pub inner_step : {A B C : Type 0} (o : Option A) (m n : Option Reason) (r : Reason) (v : C) (rest : A → Result B Reason)
    (last : B → Result C Reason) → ((x : A) → o ≡ Some x → and_then (rest x) last ≡ answered (first_reason m n) v)
    → and_then (and_then (ok_or o r) rest) last ≡ answered (first_reason (if is_some o then m else Some r) n) v
inner_step None m n r v rest last h = refl
inner_step (Some x) m n r v rest last h = h x refl

in_role : {B : Type 0} (b : Bool) (name : Name) (m n : Option Reason) (v : B) (rest : Name → Result B Reason)
    → (b ≡ true → rest name ≡ answered (first_reason m n) v)
    → and_then (if b then Ok name else Err NodeReason) rest ≡ answered (first_reason (if b then m else Some NodeReason) n) v
in_role true name m n v rest h = h refl
in_role false name m n v rest h = refl

-- the name of a node that is read, and the words after it
pub named_step : {B : Type 0} (has : Name → Bool) (o : Option Name) (m n : Option Reason) (v : B) (rest : Name → Result B Reason)
    → ((name : Name) → o ≡ Some name → rest name ≡ answered (first_reason m n) v)
    → and_then (named_in has o) rest ≡ answered (first_reason (if known has o then m else Some NodeReason) n) v
named_step has None m n v rest h = refl
named_step has (Some name) m n v rest h = in_role (has name) name m n v rest (λ _. h name refl)

-- a value that was read is the one that the line says
pub the_value : {A : Type 0} (o : Option A) (d x : A) → o ≡ Some x → unwrap_or o d ≡ x
the_value o d x is = ap (λ p. unwrap_or p d) is

chosen : (b : Bool) (v n : ℕ) → cond b (Some v) None ≡ Some n → (b ≡ true) × (v ≡ n)
chosen true v n h = (refl, cc)
chosen false v n h = cc

-- a number within a range is within any wider one
pub number_wider : (low high n : ℕ) (word : List ℕ) → high ≤ most_whole → number_in low high word ≡ Some n
    → unwrap_or (number_in 0 most_whole word) 0 ≡ n
number_wider low high n word wide is =
    let found = chosen _ _ _ is in
    let parts = and_parts (is_numeral word) (leb low (digits_value word) && leb (digits_value word) high) found.0 in
    let bounds = and_parts (leb low (digits_value word)) (leb (digits_value word) high) parts.1 in
    let top = leb-true (digits_value word) high bounds.1 in
    let least : leb 0 (digits_value word) ≡ true = le-leb 0 (digits_value word) (omega arith) in
    let most : leb (digits_value word) most_whole ≡ true = le-leb (digits_value word) most_whole (omega (arith, top, wide)) in
    rw (parts.0, least, most) found.1

-- no group is left where the words end
none_further : (n count : ℕ) (groups : List (List Argument)) → count ≤ n → further_arguments n groups count ≡ []
none_further n count [] h = refl
none_further n count (g ∷ gs) h = rw (le-ltb n count h) refl

no_wire : (words : List (List ℕ)) (k : ℕ) → length words ≤ k → wire_at words k ≡ 0
unfolding decode_pairs
no_wire words k h = rw (get_or_past words k [] h) refl

wire_there : {B C : Type 0} (nodes : List Named) (words : List (List ℕ)) (k : ℕ) (gs : List (List Argument)) (n : Option Reason) (v : C)
    (rest : ℕ → Result B Reason) (last : B → Result C Reason) → k < length words
    → ((w : ℕ) → wire_at words k ≡ w → and_then (rest w) last ≡ answered (first_reason (misfit nodes (further_arguments (k + 1) gs (length words)) words (k + 1)) n) v)
    → and_then (and_then (wire_or_zero words k) rest) last ≡ answered (first_reason (misfit nodes (further_arguments k ((Wire ∷ []) ∷ gs) (length words)) words k) n) v
wire_there nodes words k gs n v rest last there h =
    rw (lt-ltb k (length words) there)
    (inner_step (wire_word (word_at words k)) (misfit nodes (further_arguments (k + 1) gs (length words)) words (k + 1)) n Hex v rest last
    (λ x is. h x (the_value (wire_word (word_at words k)) 0 x is)))

wire_left_out : {B C : Type 0} (nodes : List Named) (words : List (List ℕ)) (k : ℕ) (gs : List (List Argument)) (n : Option Reason) (v : C)
    (rest : ℕ → Result B Reason) (last : B → Result C Reason) → length words ≤ k
    → ((w : ℕ) → wire_at words k ≡ w → and_then (rest w) last ≡ answered (first_reason (misfit nodes (further_arguments (k + 1) gs (length words)) words (k + 1)) n) v)
    → and_then (and_then (wire_or_zero words k) rest) last ≡ answered (first_reason (misfit nodes (further_arguments k ((Wire ∷ []) ∷ gs) (length words)) words k) n) v
wire_left_out nodes words k gs n v rest last out h =
    let next : length words ≤ k + 1 = omega arith in
    let zeros = rw (none_further (k + 1) (length words) gs next) at (h 0 (no_wire words k out)) in
    rw (le-ltb k (length words) out) zeros

-- a wire word that may be left out, and the words after it
pub wire_step : {B C : Type 0} (nodes : List Named) (words : List (List ℕ)) (k : ℕ) (gs : List (List Argument)) (n : Option Reason) (v : C)
    (rest : ℕ → Result B Reason) (last : B → Result C Reason)
    → ((w : ℕ) → wire_at words k ≡ w → and_then (rest w) last ≡ answered (first_reason (misfit nodes (further_arguments (k + 1) gs (length words)) words (k + 1)) n) v)
    → and_then (and_then (wire_or_zero words k) rest) last ≡ answered (first_reason (misfit nodes (further_arguments k ((Wire ∷ []) ∷ gs) (length words)) words k) n) v
wire_step nodes words k gs n v rest last h =
    elim (cases_lt k (length words)) [
      | inl there ↦ wire_there nodes words k gs n v rest last there h
      | inr out ↦ wire_left_out nodes words k gs n v rest last out h
    ]

-- the words of a form whose last five may be left out, one by one
short : (n count : ℕ) (groups : List (List Argument)) → count < n → may_count n groups count ≡ false
short n count [] h = ne_eqb count n (λ e. omega arith)
short n count (g ∷ gs) h =
    let next : count < n + length g = omega arith in
    rw (ne_eqb count n (λ e. omega arith), short (n + length g) count gs next) refl

abbrev singles : ℕ → List (List Argument)
singles zero = []
singles (suc m) = (Wire ∷ []) ∷ singles m

long : (m n count : ℕ) → n + m < count → may_count n (singles m) count ≡ false
long zero n count h = ne_eqb count n (λ e. omega arith)
long (suc m) n count h =
    let next : n + 1 + m < count = omega arith in
    rw (ne_eqb count n (λ e. omega arith), long m (n + 1) count next) refl

counted : (m n count : ℕ) → n ≤ count → count ≤ n + m → may_count n (singles m) count ≡ true
counted zero n count low high = eq-eqb count n (omega arith)
counted (suc m) n count low high =
    elim (cases_eq count n) [
      | inl same ↦ rw (eq-eqb count n same) refl
      | inr more ↦
          let above : n + 1 ≤ count = omega arith in
          let below : count ≤ n + 1 + m = omega arith in
          rw (ne_eqb count n more) (counted m (n + 1) count above below)
    ]

pub too_few : (n count : ℕ) → count < n → may_count n item_words count ≡ false
too_few n count h = short n count item_words h

pub too_many : (n count : ℕ) → n + 5 < count → may_count n item_words count ≡ false
too_many n count h = long 5 n count h

pub enough : (n count : ℕ) → n ≤ count → count ≤ n + 5 → may_count n item_words count ≡ true
enough n count low high = counted 5 n count low high
