-- Lines that are read one by one are those that are read byte by byte.
use Rattle.std.proofs.Common.{◌≡◌, ◌∙◌, ◌⊎◌, inl, inr, ℕ, ◌+◌, ◌<◌, ◌≤◌, Bool, true, false, List, [], ◌∷◌, ◌++◌, refl, sym, ap, arith, length, length-append, append_assoc, append-nil, Some, None, Option, cond, ltb, eqb, All}
use Rattle.std.proofs.lemmas.Bool.{cases_Bool, cond-true, cond-false, ltb-true, ltb-false, lt-ltb, eqb-true}
use Rattle.std.proofs.lemmas.List.Elements.{All-nil, All-push}
use Rattle.std.proofs.lemmas.List.Splits.{slice_split_none, slice_split_at}
use Rattle.std.specs.List.{slice_split, onto_first}
use Rattle.scenario_lines.specs.Grammar.{most_line_bytes}
use Rattle.scenario_lines.specs.FileLines.{is_newline, but_last, last_part, whole_lines, unfinished, most_lines}
use Rattle.command_inputs.specs.LineRules.{LineRules, unless_stopped, lines_read, line_read, last_read, part_read, rest_read, bytes_read}
use Rattle.command_inputs.specs.ByteByByte.{reads}

-- too many lines and too long ones stop
pub record Stopping {R E : Type 0} (rules : LineRules R E) : Type 0 where
  pub many : (r : R) → (e : E) × (rules.stop (rules.many r) ≡ Some e)
  pub long : (r : R) (number : ℕ) → (e : E) × (rules.stop (rules.long r number) ≡ Some e)

-- a byte that ends no line
abbrev pub NoEnd : ℕ → Type 0
NoEnd b = is_newline b ≡ false

-- lines go on, or stopped
pub stop_cases : {E : Type 0} (stop : Option E) → (stop ≡ None) ⊎ ((s : E) × (stop ≡ Some s))
stop_cases None = inl refl
stop_cases (Some s) = inr (s, refl)

split_some_at : (b : ℕ) (bs : List ℕ) → (first : List ℕ) × (more : List (List ℕ)) × (slice_split is_newline bs ≡ first ∷ more) → (is_newline b ≡ true) ⊎ (is_newline b ≡ false) → (first : List ℕ) × (more : List (List ℕ)) × (slice_split is_newline (b ∷ bs) ≡ first ∷ more)
split_some_at b bs (first, more, e) (inl is) = ([], slice_split is_newline bs, cond-true (is_newline b) _ _ is)
split_some_at b bs (first, more, e) (inr isnt) = (b ∷ first, more, cond-false (is_newline b) _ _ isnt ∙ ap (onto_first b) e)

-- what is split has a first part
split_some : (bytes : List ℕ) → (first : List ℕ) × (more : List (List ℕ)) × (slice_split is_newline bytes ≡ first ∷ more)
split_some [] = ([], [], refl)
split_some (b ∷ bs) = split_some_at b bs (split_some bs) (cases_Bool (is_newline b))

-- the first line of what begins with it
whole_at : (part bytes : List ℕ) → All NoEnd part → whole_lines (part ++ 10 ∷ bytes) ≡ part ∷ whole_lines bytes
whole_at part bytes plain =
    let (first, more, e) = split_some bytes in
    ap but_last (slice_split_at is_newline part 10 bytes plain refl ∙ ap (λ parts. part ∷ parts) e) ∙ ap (λ parts. part ∷ but_last parts) (sym e)

rest_at : (part bytes : List ℕ) → All NoEnd part → unfinished (part ++ 10 ∷ bytes) ≡ unfinished bytes
rest_at part bytes plain =
    let (first, more, e) = split_some bytes in
    ap last_part (slice_split_at is_newline part 10 bytes plain refl ∙ ap (λ parts. part ∷ parts) e) ∙ ap last_part (sym e)

-- bytes with no end of a line are all unfinished
whole_none : (part : List ℕ) → All NoEnd part → whole_lines part ≡ []
whole_none part plain = ap but_last (slice_split_none is_newline part plain)

rest_none : (part : List ℕ) → All NoEnd part → unfinished part ≡ part
rest_none part plain = ap last_part (slice_split_none is_newline part plain)

module _ {R E : Type 0} (rules : LineRules R E) (stopping : Stopping rules) where
  -- once they stopped, further lines change nothing
  lines_after_stop : (r : R) (stop : E) (number : ℕ) (lines : List (List ℕ)) → rules.stop r ≡ Some stop → lines_read rules r number lines ≡ r
  lines_after_stop r stop number [] e = refl
  lines_after_stop r stop number (raw ∷ more) e = ap (λ s. unless_stopped s r (lines_read rules (line_read rules r number raw) (number + 1) more)) e

  -- lines from `number` on, and then a rest
  abbrev over : Bool → R → ℕ → List (List ℕ) → List ℕ → R
  over ended r number lines rest =
      let end = lines_read rules r number lines in
      unless_stopped (rules.stop end) end (rest_read rules ended end (length lines + number) rest)

  over_nil : (ended : Bool) (r : R) (number : ℕ) (rest : List ℕ) → rules.stop r ≡ None → over ended r number [] rest ≡ rest_read rules ended r number rest
  over_nil ended r number rest going =
      ap (λ s. unless_stopped s r (rest_read rules ended r (0 + number) rest)) going
      ∙ ap (λ n. rest_read rules ended r n rest) (omega arith)

  over_cons : (ended : Bool) (r : R) (number : ℕ) (raw : List ℕ) (lines : List (List ℕ)) (rest : List ℕ) → rules.stop r ≡ None → over ended r number (raw ∷ lines) rest ≡ over ended (line_read rules r number raw) (number + 1) lines rest
  over_cons ended r number raw lines rest going =
      let next = lines_read rules (line_read rules r number raw) (number + 1) lines in
      let first : lines_read rules r number (raw ∷ lines) ≡ next = ap (λ s. unless_stopped s r next) going in
      ap (λ end. unless_stopped (rules.stop end) end (rest_read rules ended end (length (raw ∷ lines) + number) rest)) first
      ∙ ap (λ n. unless_stopped (rules.stop next) next (rest_read rules ended next n rest)) (omega arith)

  over_stopped : (ended : Bool) (r : R) (stop : E) (number : ℕ) (lines : List (List ℕ)) (rest : List ℕ) → rules.stop r ≡ Some stop → over ended r number lines rest ≡ r
  over_stopped ended r stop number lines rest e =
      ap (λ end. unless_stopped (rules.stop end) end (rest_read rules ended end (length lines + number) rest)) (lines_after_stop r stop number lines e)
      ∙ ap (λ s. unless_stopped s r (rest_read rules ended r (length lines + number) rest)) e

  abbrev from_line : Bool → R → ℕ → List ℕ → R
  from_line ended r number bytes = over ended r number (whole_lines bytes) (unfinished bytes)

  -- the first line ends: the rest is read after it
  from_end : (ended : Bool) (r : R) (number : ℕ) (part bytes : List ℕ) → rules.stop r ≡ None → All NoEnd part → from_line ended r number (part ++ 10 ∷ bytes) ≡ from_line ended (line_read rules r number part) (number + 1) bytes
  from_end ended r number part bytes going plain =
      ap (λ lines. over ended r number lines (unfinished (part ++ 10 ∷ bytes))) (whole_at part bytes plain)
      ∙ ap (over ended r number (part ∷ whole_lines bytes)) (rest_at part bytes plain)
      ∙ over_cons ended r number part (whole_lines bytes) (unfinished bytes) going

  from_rest : (ended : Bool) (r : R) (number : ℕ) (part : List ℕ) → rules.stop r ≡ None → All NoEnd part → from_line ended r number part ≡ rest_read rules ended r number part
  from_rest ended r number part going plain =
      ap (λ lines. over ended r number lines (unfinished part)) (whole_none part plain)
      ∙ ap (over ended r number []) (rest_none part plain)
      ∙ over_nil ended r number part going

  -- what a line that is too long leads to
  abbrev pub too_long : R → ℕ → R
  too_long r number = cond (ltb most_lines number) (rules.many r) (rules.long r number)

  too_long_stops_at : (r : R) (number : ℕ) → (ltb most_lines number ≡ true) ⊎ (ltb most_lines number ≡ false) → (s : E) × (rules.stop (too_long r number) ≡ Some s)
  too_long_stops_at r number (inl is) =
      let (s, e) = stopping.many r in
      (s, ap rules.stop (cond-true (ltb most_lines number) (rules.many r) (rules.long r number) is) ∙ e)
  too_long_stops_at r number (inr isnt) =
      let (s, e) = stopping.long r number in
      (s, ap rules.stop (cond-false (ltb most_lines number) (rules.many r) (rules.long r number) isnt) ∙ e)

  too_long_stops : (r : R) (number : ℕ) → (s : E) × (rules.stop (too_long r number) ≡ Some s)
  too_long_stops r number = too_long_stops_at r number (cases_Bool (ltb most_lines number))

  pub part_long : (r : R) (number : ℕ) (part : List ℕ) → 4096 < length part → part_read rules r number part ≡ too_long r number
  part_long r number part long = cond-true (ltb most_line_bytes (length part)) _ _ (lt-ltb 4096 (length part) long)

  pub part_short : (r : R) (number : ℕ) (part : List ℕ) → length part ≤ 4096 → part_read rules r number part ≡ r
  part_short r number part short = cond-false (ltb most_line_bytes (length part)) _ _ (grind arith)

  line_long : (r : R) (number : ℕ) (part : List ℕ) → 4096 < length part → line_read rules r number part ≡ too_long r number
  line_long r number part long = rw (lt-ltb 4096 (length part) long) refl

  last_long : (r : R) (number : ℕ) (part : List ℕ) → 4096 < length part → last_read rules r number part ≡ too_long r number
  last_long r number [] long = absurd (omega arith)
  last_long r number (b ∷ bs) long = rw (lt-ltb 4096 (length (b ∷ bs)) long) refl

  rest_long : (ended : Bool) (r : R) (number : ℕ) (part : List ℕ) → 4096 < length part → rest_read rules ended r number part ≡ too_long r number
  rest_long true r number part long = last_long r number part long
  rest_long false r number part long = part_long r number part long

  -- a line that is too long is that, however it goes on
  from_long : (ended : Bool) (r : R) (number : ℕ) (part bytes : List ℕ) → rules.stop r ≡ None → All NoEnd part → 4096 < length part → from_line ended r number (part ++ bytes) ≡ too_long r number
  from_long ended r number part [] going plain long =
      ap (from_line ended r number) (append-nil part) ∙ from_rest ended r number part going plain ∙ rest_long ended r number part long
  from_long ended r number part (b ∷ bs) going plain long =
      elim (cases_Bool (is_newline b)) [
        | inl is ↦
            let (s, stops) = too_long_stops r number in
            let q = line_read rules r number part in
            let here : q ≡ too_long r number = line_long r number part long in
            ap (λ c. from_line ended r number (part ++ c ∷ bs)) (eqb-true b 10 is)
            ∙ from_end ended r number part bs going plain
            ∙ over_stopped ended q s (number + 1) (whole_lines bs) (unfinished bs) (ap rules.stop here ∙ stops)
            ∙ here
        | inr isnt ↦
            ap (from_line ended r number) (sym (append_assoc part (b ∷ []) bs))
            ∙ from_long ended r number (part ++ b ∷ []) bs going (All-push NoEnd part b plain isnt) (omega (arith, length-append part (b ∷ [])))
      ]

  -- what is read by whole lines is what is read byte by byte
  from_line_reads : (ended : Bool) (r : R) (number : ℕ) (part bytes : List ℕ) → rules.stop r ≡ None → All NoEnd part → length part ≤ 4096 → from_line ended r number (part ++ bytes) ≡ reads rules ended r number part bytes
  from_line_reads ended r number part [] going plain short = ap (from_line ended r number) (append-nil part) ∙ from_rest ended r number part going plain
  from_line_reads ended r number part (b ∷ bs) going plain short =
      let q = line_read rules r number part in
      let held = part ++ b ∷ [] in
      let at_end = unless_stopped (rules.stop q) q (reads rules ended q (number + 1) [] bs) in
      let longer = cond (ltb most_line_bytes (length part + 1)) (part_read rules r number held) (reads rules ended r number held bs) in
      elim (cases_Bool (is_newline b)) [
        | inl is ↦
            ap (λ c. from_line ended r number (part ++ c ∷ bs)) (eqb-true b 10 is)
            ∙ from_end ended r number part bs going plain
            ∙ elim (stop_cases (rules.stop q)) [
              | inl goes ↦ from_line_reads ended q (number + 1) [] bs goes (All-nil NoEnd) (omega arith) ∙ ap (λ s. unless_stopped s q (reads rules ended q (number + 1) [] bs)) (sym goes)
              | inr (s, stops) ↦ over_stopped ended q s (number + 1) (whole_lines bs) (unfinished bs) stops ∙ ap (λ t. unless_stopped t q (reads rules ended q (number + 1) [] bs)) (sym stops)
            ]
            ∙ sym (cond-true (eqb b 10) at_end longer is)
        | inr isnt ↦
            ap (from_line ended r number) (sym (append_assoc part (b ∷ []) bs))
            ∙ elim (cases_Bool (ltb most_line_bytes (length part + 1))) [
              | inl long ↦
                  let past : 4096 < length held = omega (arith, ltb-true 4096 (length part + 1) long, length-append part (b ∷ [])) in
                  from_long ended r number held bs going (All-push NoEnd part b plain isnt) past
                  ∙ sym (part_long r number held past)
                  ∙ sym (cond-true (ltb most_line_bytes (length part + 1)) (part_read rules r number held) (reads rules ended r number held bs) long)
              | inr fits ↦
                  from_line_reads ended r number held bs going (All-push NoEnd part b plain isnt) (omega (arith, ltb-false 4096 (length part + 1) fits, length-append part (b ∷ [])))
                  ∙ sym (cond-false (ltb most_line_bytes (length part + 1)) (part_read rules r number held) (reads rules ended r number held bs) fits)
            ]
            ∙ sym (cond-false (eqb b 10) at_end longer isnt)
      ]

  pub bytes_read_reads : (start : R) (ended : Bool) (bytes : List ℕ) → rules.stop start ≡ None → bytes_read rules start ended bytes ≡ reads rules ended start 1 [] bytes
  bytes_read_reads start ended bytes going = from_line_reads ended start 1 [] bytes going (All-nil NoEnd) (omega arith)
