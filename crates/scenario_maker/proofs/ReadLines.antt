-- What each line of a generated scenario says, and that there is no reason against it.
use Rattle.std.proofs.Common.{◌≡◌, ◌∙◌, ℕ, ℤ, zero, suc, ◌+◌, ◌-◌, ◌^◌, ◌<◌, ◌≤◌, true, false, if◌then◌else◌, nat_lt, List, [], ◌∷◌, ◌++◌, length, length-append, append_assoc, codes, Option, Some, None, is_some, unwrap_or, pos, refl, ap, subst, arith, lit≤}
use Rattle.std.specs.Prelude.{nat_le}
use Rattle.std.specs.Fmt.{digits, decimal}
use Rattle.std.specs.List.{list_all}
use Rattle.std.proofs.lemmas.Fmt.{length-decimal-le}
use Rattle.std.proofs.lemmas.Bool.{cond-false, le-ltb}
use Rattle.hex.specs.Hex.{decode_pairs}
use Rattle.mav_names.specs.declared.names.Name.{Name}
use Rattle.plan_items.specs.declared.items.Item.{Item}
use Rattle.plan_items.specs.declared.kinds.PlanKind.TheVariants.{Mission}
use Rattle.scenario_lines.specs.declared.faults.Reason.{Reason}
use Rattle.scenario_lines.specs.declared.faults.Reason.TheVariants.{Number, Node as NodeReason, Range, Draft}
use Rattle.scenario_lines.specs.declared.lines.Line.{Line}
use Rattle.scenario_lines.specs.declared.lines.Line.TheVariants.{Items, Empty, Begin, Cancel, Deliver, Flow, Tick}
use Rattle.scenario_lines.specs.LineContext.{LineContext, context_of, has_name}
use Rattle.scenario_lines.specs.Words.{words_of, word_at, number_in, integer_of, name_of_word}
use Rattle.scenario_lines.specs.Grammar.{most_line_bytes, most_whole, form_of, line_from, line_of, is_blank, first_reason, against, known, no_name}
use Rattle.scenario_lines.specs.Reasons.{words_reason, reason_against, state_reason}
use Rattle.scenario_maker.specs.Generator.{flow_line}
use Rattle.scenario_maker.proofs.NumberWords.{is_printable, digits_of, digits_printed, all_append, number_is, integer_is, word_then, word_last}
use Rattle.scenario_maker.proofs.Goings.{the_names}

-- a line can be printed, isn't too long, has no reason against it with these nodes, and says this
pub record Says (drafted : ℕ) (clock : ℕ) (raw : List ℕ) (line : Line) : Type 0 where
  pub printable : list_all is_printable raw ≡ true
  pub short : length raw ≤ 4096
  pub reason : reason_against (context_of the_names drafted clock) raw ≡ None
  pub says : line_of raw ≡ line

-- by its words
by_words : (s : LineContext) (raw : List ℕ) (words : List (List ℕ)) → length raw ≤ 4096 → is_blank raw ≡ false → words_of raw ≡ words
    → words_reason s words (form_of (word_at words 0)) ≡ None → reason_against s raw ≡ None
by_words s raw words short blank is none =
    cond-false (nat_lt most_line_bytes (length raw)) _ _ (le-ltb most_line_bytes (length raw) short)
    ∙ cond-false (is_blank raw) _ _ blank
    ∙ ap (λ ws. words_reason s ws (form_of (word_at ws 0))) is ∙ none

says_words : (raw : List ℕ) (words : List (List ℕ)) → is_blank raw ≡ false → words_of raw ≡ words → line_of raw ≡ line_from words
says_words raw words blank is = cond-false (is_blank raw) _ _ blank ∙ ap line_from is

-- texts joined from the left
joined_four : (a b c d : List ℕ) → a ++ (b ++ (c ++ d)) ≡ a ++ b ++ c ++ d
joined_four a b c d = simp append_assoc

joined_six : (a b c d e f : List ℕ) → a ++ (b ++ (c ++ (d ++ (e ++ f)))) ≡ a ++ b ++ c ++ d ++ e ++ f
joined_six a b c d e f = simp append_assoc

-- what holds of 0 to 3
four : (P : ℕ → Type 0) → P 0 → P 1 → P 2 → P 3 → (n : ℕ) → n < 4 → P n
four P a b c d zero h = a
four P a b c d (suc zero) h = b
four P a b c d (suc (suc zero)) h = c
four P a b c d (suc (suc (suc zero))) h = d
four P a b c d (suc (suc (suc (suc n)))) h = absurd (omega (arith, h))

abbrev pub station_name : ℕ → Name
station_name a = record { sys = 251 + a; comp = 190 }

abbrev pub drone_at : ℕ → Name
drone_at d = record { sys = 1 + d; comp = 1 }

-- an item of a generated scenario
abbrev pub item_of : ℕ → ℕ → Item
item_of x y = record { frame = 6; command = 16; current = 0; autocontinue = 1; p = 0 ∷ 0 ∷ 0 ∷ 0 ∷ []; x = pos x; y = pos y; z = 0 }

module _ (drafted clock : ℕ) where
  abbrev Reads : List ℕ → Line → Type 0
  Reads raw line = Says drafted clock raw line

  read : (raw : List ℕ) (line : Line) → list_all is_printable raw ≡ true → length raw ≤ 4096 → reason_against (context_of the_names drafted clock) raw ≡ None → line_of raw ≡ line → Reads raw line
  read raw line p s r l = record { printable = p; short = s; reason = r; says = l }

  pub empty_says : Reads (codes "empty") Empty
  empty_says = read (codes "empty") Empty refl (lit≤ tt) refl refl

  -- ---- lines of nodes

  abbrev station_text : ℕ → List ℕ
  station_text a = decimal (251 + a) ++ codes ".190"

  abbrev drone_text : ℕ → List ℕ
  drone_text d = decimal (1 + d) ++ codes ".1"

  abbrev Begins : ℕ → ℕ → Type 0
  Begins a d = Reads (codes "begin " ++ station_text a ++ codes " " ++ drone_text d ++ codes " mission") (Begin (station_name a) (drone_at d) Mission)

  pub begin_says : (a : ℕ) → a < 4 → (d : ℕ) → d < 4 → Begins a d
  unfolding digits
  begin_says a ha d hd =
      four (λ a. (d : ℕ) → d < 4 → Begins a d)
      (four (Begins 0) (read _ _ refl (lit≤ tt) refl refl) (read _ _ refl (lit≤ tt) refl refl) (read _ _ refl (lit≤ tt) refl refl) (read _ _ refl (lit≤ tt) refl refl))
      (four (Begins 1) (read _ _ refl (lit≤ tt) refl refl) (read _ _ refl (lit≤ tt) refl refl) (read _ _ refl (lit≤ tt) refl refl) (read _ _ refl (lit≤ tt) refl refl))
      (four (Begins 2) (read _ _ refl (lit≤ tt) refl refl) (read _ _ refl (lit≤ tt) refl refl) (read _ _ refl (lit≤ tt) refl refl) (read _ _ refl (lit≤ tt) refl refl))
      (four (Begins 3) (read _ _ refl (lit≤ tt) refl refl) (read _ _ refl (lit≤ tt) refl refl) (read _ _ refl (lit≤ tt) refl refl) (read _ _ refl (lit≤ tt) refl refl))
      a ha d hd

  abbrev Cancels : ℕ → Type 0
  Cancels a = Reads (codes "cancel " ++ station_text a) (Cancel (station_name a))

  pub cancel_says : (a : ℕ) → a < 4 → Cancels a
  unfolding digits
  cancel_says a h =
      four Cancels (read _ _ refl (lit≤ tt) refl refl) (read _ _ refl (lit≤ tt) refl refl) (read _ _ refl (lit≤ tt) refl refl) (read _ _ refl (lit≤ tt) refl refl) a h

  abbrev Ticks : ℕ → Type 0
  Ticks a = Reads (codes "tick " ++ station_text a) (Tick (station_name a))

  pub tick_says : (a : ℕ) → a < 4 → Ticks a
  unfolding digits
  tick_says a h =
      four Ticks (read _ _ refl (lit≤ tt) refl refl) (read _ _ refl (lit≤ tt) refl refl) (read _ _ refl (lit≤ tt) refl refl) (read _ _ refl (lit≤ tt) refl refl) a h

  -- ---- lines with a number

  small : (n : ℕ) → n < 10 ^ 6 → n < 2 ^ 64
  small n h = omega (arith, h)

  few : (n : ℕ) → n < 10 ^ 6 → length (decimal n) ≤ 6
  few n h = length-decimal-le 6 n (omega arith) h (small n h)

  printed : (n : ℕ) → n < 10 ^ 6 → list_all is_printable (decimal n) ≡ true
  printed n h = digits_printed (decimal n) (digits_of n (small n h))

  pub flow_says : (k : ℕ) → k < 10 ^ 6 → Reads (flow_line k) (Flow k)
  flow_says k h =
      let words = codes "flow" ∷ decimal k ∷ [] in
      let is : words_of (flow_line k) ≡ words = ap (λ ws. codes "flow" ∷ ws) (word_last (decimal k) (digits_of k (small k h))) in
      let number = number_is 0 most_whole k (omega arith) (omega (arith, h)) (small k h) in
      let len = few k h in
      let short : length (flow_line k) ≤ 4096 = omega (arith, len) in
      read (flow_line k) (Flow k) (printed k h) short
      (by_words (context_of the_names drafted clock) (flow_line k) words short refl is
      (ap (λ o. first_reason (if is_some o then None else Some Number) None) number))
      (says_words (flow_line k) words refl is ∙ ap (λ o. Flow (unwrap_or o 0)) number)

  abbrev Delivers : ℕ → ℕ → Type 0
  Delivers i d = Reads (codes "deliver " ++ decimal i ++ codes " " ++ drone_text d) (Deliver i (drone_at d))

  -- a word that is the name of a node
  pub record NodeWord (word : List ℕ) (name : Name) : Type 0 where
    pub prints : list_all is_printable word ≡ true
    pub len : length word ≤ 8
    pub one : words_of word ≡ word ∷ []
    pub is : name_of_word word ≡ Some name
    pub known : has_name the_names name ≡ true

  delivers : (i : ℕ) → 1 ≤ i → i < 10 ^ 6 → (word : List ℕ) (name : Name) → NodeWord word name → Reads (codes "deliver " ++ decimal i ++ codes " " ++ word) (Deliver i name)
  delivers i some h word name w =
      let raw = codes "deliver " ++ (decimal i ++ (codes " " ++ word)) in
      let words = codes "deliver" ∷ decimal i ∷ word ∷ [] in
      let is : words_of raw ≡ words = ap (λ ws. codes "deliver" ∷ ws) (word_then (decimal i) word (digits_of i (small i h)) ∙ ap (λ ws. decimal i ∷ ws) w.one) in
      let within = number_is 1 most_whole i some (omega (arith, h)) (small i h) in
      let number = number_is 0 most_whole i (omega arith) (omega (arith, h)) (small i h) in
      let len = few i h in
      let sum = length-append (decimal i) (codes " " ++ word) in
      let most = w.len in
      let short : length raw ≤ 4096 = omega (arith, len, sum, most) in
      subst (λ text. Reads text (Deliver i name)) (joined_four (codes "deliver ") (decimal i) (codes " ") word) (read raw (Deliver i name)
      (all_append is_printable (decimal i) (codes " " ++ word) (printed i h) w.prints) short
      (by_words (context_of the_names drafted clock) raw words short refl is
      (ap (λ o. first_reason (if is_some o then (if known (has_name the_names) (name_of_word word) then None else Some NodeReason) else Some Number) None) within
      ∙ ap (λ o. first_reason (if known (has_name the_names) o then None else Some NodeReason) None) w.is
      ∙ ap (λ b. first_reason (if b then None else Some NodeReason) None) w.known))
      (says_words raw words refl is ∙ ap (λ o. Deliver (unwrap_or o 0) (unwrap_or (name_of_word word) no_name)) number ∙ ap (λ o. Deliver i (unwrap_or o no_name)) w.is))

  pub deliver_says : (i : ℕ) → 1 ≤ i → i < 10 ^ 6 → (d : ℕ) → d < 4 → Delivers i d
  unfolding digits
  deliver_says i some h d hd =
      four (Delivers i)
      (delivers i some h (codes "1.1") (drone_at 0) (record { prints = refl; len = lit≤ tt; one = refl; is = refl; known = refl }))
      (delivers i some h (codes "2.1") (drone_at 1) (record { prints = refl; len = lit≤ tt; one = refl; is = refl; known = refl }))
      (delivers i some h (codes "3.1") (drone_at 2) (record { prints = refl; len = lit≤ tt; one = refl; is = refl; known = refl }))
      (delivers i some h (codes "4.1") (drone_at 3) (record { prints = refl; len = lit≤ tt; one = refl; is = refl; known = refl }))
      d hd

  -- ---- items

  -- what is read of three numbers
  abbrev items_from : Option ℕ → Option ℤ → Option ℤ → Line
  items_from n x y =
      Items (unwrap_or n 0) (record { frame = 6; command = 16; current = 0; autocontinue = 1; p = 0 ∷ 0 ∷ 0 ∷ 0 ∷ []; x = unwrap_or x (pos 0); y = unwrap_or y (pos 0); z = 0 })

  abbrev items_reason : Option ℕ → Option ℤ → Option ℤ → Option ℕ → Option Reason
  items_reason n x y whole =
      first_reason (if is_some n then (if is_some x then (if is_some y then None else Some Number) else Some Number) else Some Number)
      (state_reason (context_of the_names drafted clock) (items_from whole x y))

  no_items_reason : (n x y : ℕ) → 1 ≤ n → x + n ≤ 2 ^ 31 → drafted + n ≤ 2000 → items_reason (Some n) (Some (pos x)) (Some (pos y)) (Some n) ≡ None
  no_items_reason n x y some inside room =
      ap (λ b. first_reason (against b Range) (against (nat_lt 2000 (drafted + n)) Draft)) (not_great (x + (n - 1)) (omega (arith, some, inside)))
      ∙ ap (λ b. against b Draft) (le-ltb 2000 (drafted + n) room)
    where
      not_great : (n : ℕ) → n < 2 ^ 31 → nat_le (2 ^ 31) n ≡ false
      not_great n h = grind arith

  pub items_say : (n x y : ℕ) → 1 ≤ n → n ≤ 2000 → x < 10 ^ 6 → y < 10 ^ 6 → drafted + n ≤ 2000
      → Reads (codes "items " ++ decimal n ++ codes " 6 16 " ++ decimal x ++ codes " " ++ decimal y) (Items n (item_of x y))
  unfolding decode_pairs
  items_say n x y some most hx hy room =
      let raw = codes "items " ++ (decimal n ++ (codes " 6 16 " ++ (decimal x ++ (codes " " ++ decimal y)))) in
      let words = codes "items" ∷ decimal n ∷ codes "6" ∷ codes "16" ∷ decimal x ∷ decimal y ∷ [] in
      let hn : n < 10 ^ 6 = omega (arith, most) in
      let is : words_of raw ≡ words =
      ap (λ ws. codes "items" ∷ ws) (word_then (decimal n) (codes "6 16 " ++ (decimal x ++ (codes " " ++ decimal y))) (digits_of n (small n hn)))
      ∙ ap (λ ws. codes "items" ∷ decimal n ∷ codes "6" ∷ codes "16" ∷ ws) (word_then (decimal x) (decimal y) (digits_of x (small x hx)))
      ∙ ap (λ ws. codes "items" ∷ decimal n ∷ codes "6" ∷ codes "16" ∷ decimal x ∷ ws) (word_last (decimal y) (digits_of y (small y hy))) in
      let within = number_is 1 2000 n some most (small n hn) in
      let whole = number_is 0 most_whole n (omega arith) (omega (arith, most)) (small n hn) in
      let xs = integer_is x (omega (arith, hx)) in
      let ys = integer_is y (omega (arith, hy)) in
      let a = few n hn in
      let b = few x hx in
      let c = few y hy in
      let first = length-append (decimal n) (codes " 6 16 " ++ (decimal x ++ (codes " " ++ decimal y))) in
      let second = length-append (decimal x) (codes " " ++ decimal y) in
      let short : length raw ≤ 4096 = omega (arith, a, b, c, first, second) in
      subst (λ text. Reads text (Items n (item_of x y))) (joined_six (codes "items ") (decimal n) (codes " 6 16 ") (decimal x) (codes " ") (decimal y)) (read raw (Items n (item_of x y))
      (all_append is_printable (decimal n) (codes " 6 16 " ++ (decimal x ++ (codes " " ++ decimal y))) (printed n hn)
      (all_append is_printable (decimal x) (codes " " ++ decimal y) (printed x hx) (printed y hy)))
      short
      (by_words (context_of the_names drafted clock) raw words short refl is
      (ap (λ o. items_reason o (integer_of (decimal x)) (integer_of (decimal y)) (number_in 0 most_whole (decimal n))) within
      ∙ ap (λ o. items_reason (Some n) o (integer_of (decimal y)) (number_in 0 most_whole (decimal n))) xs
      ∙ ap (λ o. items_reason (Some n) (Some (pos x)) o (number_in 0 most_whole (decimal n))) ys
      ∙ ap (items_reason (Some n) (Some (pos x)) (Some (pos y))) whole
      ∙ no_items_reason n x y some (omega (arith, most, hx)) room))
      (says_words raw words refl is
      ∙ ap (λ o. items_from o (integer_of (decimal x)) (integer_of (decimal y))) whole
      ∙ ap (λ o. items_from (Some n) o (integer_of (decimal y))) xs
      ∙ ap (items_from (Some n) (Some (pos x))) ys))
