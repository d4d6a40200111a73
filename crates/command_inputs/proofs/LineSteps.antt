-- One byte, one line and one piece further.
use Rattle.std.proofs.Common.{◌≡◌, ◌∙◌, inl, inr, ℕ, ◌+◌, ◌<◌, ◌≤◌, Bool, List, [], ◌∷◌, ◌++◌, refl, sym, ap, subst, arith, length, length-append, append_assoc, Some, ltb, get_or, take, drop, suc, drop-cons, take-append-drop}
use Rattle.std.proofs.lemmas.Bool.{cases_Bool, lt-ltb, le-ltb, ne_eqb}
use Rattle.std.proofs.lemmas.List.{take_more, take_all}
use Rattle.scenario_lines.specs.declared.faults.Reason.TheVariants.{Long}
use Rattle.run_status.specs.declared.input_errors.Bound.TheVariants.{Lines}
use Rattle.run_status.specs.declared.input_errors.InputError.{InputError}
use Rattle.run_status.specs.declared.input_errors.InputError.TheVariants.{AtLimit}
use Rattle.run_status.specs.declared.run_ends.RunEnd.{RunEnd}
use Rattle.run_status.specs.declared.run_ends.RunEnd.TheVariants.{Usage, Stopped, ReadFault, WriteFault, NoMemory, TurnsSpent, Live}
use Rattle.scenario_lines.specs.FileLines.{most_lines, without_cr}
use Rattle.command_inputs.specs.LineRules.{LineRules, unless_stopped, line_read, last_read}
use Rattle.command_inputs.specs.Takers.{Says, Read, going, judged, rules_of, bad_line}
use Rattle.command_inputs.specs.ByteByByte.{reads, HaltedAt, onwards, Fed, long_line}
use Rattle.command_inputs.specs.declared.held.HeldLine.{HeldLine}
use Rattle.command_inputs.proofs.Lines.{Stopping, too_long, part_long}

-- ---- lines by any rules

module _ {R E : Type 0} (rules : LineRules R E) where
  -- a whole line that isn't too long is read by what it says
  pub line_fits : (r : R) (number : ℕ) (raw : List ℕ) → number ≤ 100000 → length raw ≤ 4096 → line_read rules r number raw ≡ rules.text r number (without_cr raw)
  line_fits r number raw few short = rw (le-ltb 100000 number few, le-ltb 4096 (length raw) short) refl

  pub line_many : (r : R) (number : ℕ) (raw : List ℕ) → 100000 < number → line_read rules r number raw ≡ rules.many r
  line_many r number raw many = rw (lt-ltb 100000 number many) refl

  -- the last line keeps its CR
  pub last_fits : (r : R) (number : ℕ) (part : List ℕ) → 0 < length part → number ≤ 100000 → length part ≤ 4096 → last_read rules r number part ≡ rules.text r number part
  last_fits r number [] some few short = absurd (omega arith)
  last_fits r number (b ∷ bs) some few short = rw (le-ltb 100000 number few, le-ltb 4096 (length (b ∷ bs)) short) refl

  pub last_many : (r : R) (number : ℕ) (part : List ℕ) → 0 < length part → 100000 < number → last_read rules r number part ≡ rules.many r
  last_many r number [] some many = absurd (omega arith)
  last_many r number (b ∷ bs) some many = rw (lt-ltb 100000 number many) refl

  pub last_none : (r : R) (number : ℕ) (part : List ℕ) → length part ≡ 0 → last_read rules r number part ≡ r
  last_none r number [] none = refl
  last_none r number (b ∷ bs) none = absurd (omega arith)

  pub reads_held : (ended : Bool) (r : R) (number b : ℕ) (part rest : List ℕ) → (b ≡ 10 → ⊥) → length part + 1 ≤ 4096 → reads rules ended r number part (b ∷ rest) ≡ reads rules ended r number (part ++ b ∷ []) rest
  reads_held ended r number b part rest other fits = rw (ne_eqb b 10 other, le-ltb 4096 (length part + 1) fits) refl

  module _ (stopping : Stopping rules) where
    pub reads_long : (ended : Bool) (r : R) (number b : ℕ) (part rest : List ℕ) → (b ≡ 10 → ⊥) → 4096 < length part + 1 → reads rules ended r number part (b ∷ rest) ≡ too_long rules stopping r number
    reads_long ended r number b part rest other long =
        rw (ne_eqb b 10 other, lt-ltb 4096 (length part + 1) long) (part_long rules stopping r number (part ++ b ∷ []) (omega (arith, length-append part (b ∷ []))))

-- ---- a piece of bytes

-- a piece from the byte at an index on
pub piece_after : (taken piece : List ℕ) (i : ℕ) → i < length piece → (taken ++ take i piece) ++ get_or piece i 0 ∷ drop (suc i) piece ≡ taken ++ piece
piece_after taken piece i below =
    ap (λ rest. (taken ++ take i piece) ++ rest) (sym (drop-cons piece i 0 below))
    ∙ append_assoc taken (take i piece) (drop i piece)
    ∙ ap (λ bytes. taken ++ bytes) (take-append-drop i piece)

piece_is : (piece rest : List ℕ) (i : ℕ) → i < length piece → (take i piece ++ get_or piece i 0 ∷ []) ++ (drop (suc i) piece ++ rest) ≡ piece ++ rest
piece_is piece rest i below =
    append_assoc (take i piece) (get_or piece i 0 ∷ []) (drop (suc i) piece ++ rest)
    ∙ sym (append_assoc (take i piece) (get_or piece i 0 ∷ drop (suc i) piece) rest)
    ∙ ap (λ bytes. bytes ++ rest) (piece_after [] piece i below)

-- ---- the lines of a taker

pub stopping : {S : Type 0} (says : Says S) → Stopping (rules_of says)
stopping says = record { many = λ r. (AtLimit Lines, refl); long = λ r number. (bad_line number Long, refl) }

module _ {S : Type 0} (says : Says S) where
  stopped_stays : (stop : InputError) (r next : Read S) → r.stop ≡ Some stop → (unless_stopped r.stop r next).stop ≡ Some stop
  stopped_stays stop r next is = ap (λ s. (unless_stopped s r next).stop) is ∙ is

  -- why a line ends the run is why the whole does
  halted_on : (run_end : RunEnd) (r next : Read S) → HaltedAt run_end r → HaltedAt run_end (unless_stopped r.stop r next)
  halted_on Usage r next never = absurd never
  halted_on (Stopped stop) r next is = stopped_stays stop r next is
  halted_on ReadFault r next never = absurd never
  halted_on WriteFault r next never = absurd never
  halted_on NoMemory r next none = tt
  halted_on TurnsSpent r next never = absurd never
  halted_on (Live end) r next never = absurd never

  pub line_many_halts : (state : S) (held : HeldLine) → 100000 < held.number → (ended : Bool) (rest : List ℕ) → (onwards says ended state held (10 ∷ rest)).stop ≡ Some (AtLimit Lines)
  line_many_halts state held many ended rest =
      let q = line_read (rules_of says) (going state) held.number held.bytes.items in
      stopped_stays (AtLimit Lines) q (reads (rules_of says) ended q (held.number + 1) [] rest) (ap (λ (r : Read S). r.stop) (line_many (rules_of says) (going state) held.number held.bytes.items many))

  module _ (state : S) (held : HeldLine) (text : List ℕ) (is : text ≡ without_cr held.bytes.items) (few : held.number ≤ 100000) (short : length held.bytes.items ≤ 4096) where
    the_line : line_read (rules_of says) (going state) held.number held.bytes.items ≡ judged (going state) held.number (says state text)
    the_line = line_fits (rules_of says) (going state) held.number held.bytes.items few short ∙ ap (λ line. judged (going state) held.number (says state line)) (sym is)

    -- the line ends and the run at it
    pub line_halts : (run_end : RunEnd) → HaltedAt run_end (judged (going state) held.number (says state text)) → (ended : Bool) (rest : List ℕ) → HaltedAt run_end (onwards says ended state held (10 ∷ rest))
    line_halts run_end halted ended rest =
        let q = line_read (rules_of says) (going state) held.number held.bytes.items in
        halted_on run_end q (reads (rules_of says) ended q (held.number + 1) [] rest) (subst (HaltedAt run_end) (sym the_line) halted)

    -- the line ends and was taken, and the next one begins
    pub line_fed : (next : S) (hold : HeldLine) → judged (going state) held.number (says state text) ≡ going next → hold.number ≡ held.number + 1 → hold.bytes.items ≡ [] → Fed says (10 ∷ []) state held next hold
    line_fed next hold led one none =
        let rules = rules_of says in
        record {
          goes_on = λ ended rest.
              ap (λ (q : Read S). unless_stopped q.stop q (reads rules ended q (held.number + 1) [] rest)) (the_line ∙ led)
              ∙ sym (ap (λ n. reads rules ended (going next) n hold.bytes.items rest) one ∙ ap (λ part. reads rules ended (going next) (held.number + 1) part rest) none);
          spends = rw (one, none) (omega (arith, short, few));
        }

  -- a byte of a line is held
  pub byte_fed : (state : S) (held hold : HeldLine) (b : ℕ) → (b ≡ 10 → ⊥) → length held.bytes.items + 1 ≤ 4096 → held.number ≤ 100001 → hold.number ≡ held.number → hold.bytes.items ≡ held.bytes.items ++ b ∷ [] → Fed says (b ∷ []) state held state hold
  byte_fed state held hold b other fits few same longer =
      let rules = rules_of says in
      record {
        goes_on = λ ended rest.
            reads_held rules ended (going state) held.number b held.bytes.items rest other fits
            ∙ sym (ap (λ n. reads rules ended (going state) n hold.bytes.items rest) same ∙ ap (λ part. reads rules ended (going state) held.number part rest) longer);
        spends = rw (same, longer) (omega (arith, fits, few, length-append held.bytes.items (b ∷ [])));
      }

  too_long_is : (r : Read S) (number : ℕ) → (too_long (rules_of says) (stopping says) r number).stop ≡ Some (long_line number)
  too_long_is r number =
      elim (cases_Bool (ltb most_lines number)) [
        | inl many ↦ rw many refl
        | inr few ↦ rw few refl
      ]

  -- a line that is held is too long
  pub long_halts : (state : S) (held : HeldLine) (b : ℕ) → (b ≡ 10 → ⊥) → 4096 < length held.bytes.items + 1 → (ended : Bool) (rest : List ℕ) → (onwards says ended state held (b ∷ rest)).stop ≡ Some (long_line held.number)
  long_halts state held b other long ended rest =
      ap (λ (r : Read S). r.stop) (reads_long (rules_of says) (stopping says) ended (going state) held.number b held.bytes.items rest other long) ∙ too_long_is (going state) held.number

  -- ---- pieces

  pub fed_none : (state : S) (held : HeldLine) → Fed says [] state held state held
  fed_none state held = record { goes_on = λ ended rest. refl; spends = omega arith }

  -- bytes after bytes
  pub fed_more : (first second : List ℕ) (state middle next : S) (held mid hold : HeldLine) → Fed says first state held middle mid → Fed says second middle mid next hold → Fed says (first ++ second) state held next hold
  fed_more first second state middle next held mid hold before after = record {
    goes_on = λ ended rest.
        ap (onwards says ended state held) (append_assoc first second rest) ∙ before.goes_on ended (second ++ rest) ∙ after.goes_on ended rest;
    spends = omega (arith, before.spends, after.spends, length-append first second);
  }

  pub fed_halts : (first second : List ℕ) (state middle : S) (held mid : HeldLine) (run_end : RunEnd) → Fed says first state held middle mid → ((ended : Bool) (rest : List ℕ) → HaltedAt run_end (onwards says ended middle mid (second ++ rest))) → (ended : Bool) (rest : List ℕ) → HaltedAt run_end (onwards says ended state held ((first ++ second) ++ rest))
  fed_halts first second state middle held mid run_end before halts ended rest =
      subst (HaltedAt run_end) (sym (ap (onwards says ended state held) (append_assoc first second rest) ∙ before.goes_on ended (second ++ rest))) (halts ended rest)

  -- the byte of a piece at an index
  pub fed_next : (piece : List ℕ) (i : ℕ) (state middle next : S) (held mid hold : HeldLine) → i < length piece → Fed says (take i piece) state held middle mid → Fed says (get_or piece i 0 ∷ []) middle mid next hold → Fed says (take (i + 1) piece) state held next hold
  fed_next piece i state middle next held mid hold below before after =
      subst (λ bytes. Fed says bytes state held next hold) (sym (take_more piece i 0 below)) (fed_more (take i piece) (get_or piece i 0 ∷ []) state middle next held mid hold before after)

  pub fed_all : (piece : List ℕ) (i : ℕ) (state next : S) (held hold : HeldLine) → length piece ≤ i → Fed says (take i piece) state held next hold → Fed says piece state held next hold
  fed_all piece i state next held hold all fed = subst (λ bytes. Fed says bytes state held next hold) (take_all i piece all) fed

  pub piece_halts : (piece : List ℕ) (i : ℕ) (state middle : S) (held mid : HeldLine) (run_end : RunEnd) → i < length piece → Fed says (take i piece) state held middle mid → ((ended : Bool) (rest : List ℕ) → HaltedAt run_end (onwards says ended middle mid (get_or piece i 0 ∷ rest))) → (ended : Bool) (rest : List ℕ) → HaltedAt run_end (onwards says ended state held (piece ++ rest))
  piece_halts piece i state middle held mid run_end below before halts ended rest =
      subst (λ bytes. HaltedAt run_end (onwards says ended state held bytes)) (piece_is piece rest i below)
      (fed_halts (take i piece) (get_or piece i 0 ∷ []) state middle held mid run_end before halts ended (drop (suc i) piece ++ rest))
