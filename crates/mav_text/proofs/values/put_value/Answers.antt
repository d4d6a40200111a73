use Rattle.std.proofs.Common.{◌≡◌, ℕ, ◌<◌, false, ◌==◌, if◌then◌else◌, List, [], ◌∷◌, ◌++◌, take, refl, sym, ap, ◌∙◌, arith, append-nil, Bool, ◌+◌, ◌*◌}
use Rattle.std.proofs.lemmas.Bool.Decides.{nat_tests}
use Rattle.field_layout.specs.declared.ty.Ty.{Ty}
use Rattle.field_layout.specs.declared.ty.Ty.TheVariants.{I8, U8, Char, I16, U16, I32, U32, I64, U64, F32, F64, Version}
use Rattle.field_layout.specs.Types.{element_size}
use Rattle.field_layout.specs.Reading.{word_from, words_from}
use Rattle.mav_text.specs.FrameText.{is_char, chars_text, values_text, shown_text, number_text}
use Rattle.mav_text.proofs.values.put_value.Goals.{in-Char, in_default}
use Rattle.mav_text.proofs.values.put_value.Goals as goal

count_some : (len : ℕ) → 0 < len → (if len == 0 then 1 else len) ≡ len
count_some len some = grind (arith, nat_tests)

not_zero : (len : ℕ) → 0 < len → (len == 0) ≡ false
not_zero len some = grind (arith, nat_tests)

not_char : (ty : Ty) → (ty ≡ Char → ⊥) → is_char ty ≡ false
not_char Char other = absurd (other refl)
not_char I8 other = refl
not_char U8 other = refl
not_char I16 other = refl
not_char U16 other = refl
not_char I32 other = refl
not_char U32 other = refl
not_char I64 other = refl
not_char U64 other = refl
not_char F32 other = refl
not_char F64 other = refl
not_char Version other = refl

shown_many : (ty : Ty) (len : ℕ) (words : List ℕ) → is_char ty ≡ false → 0 < len → shown_text ty len words ≡ 91 ∷ values_text ty words ++ 93 ∷ []
shown_many ty len words plain some =
    let none = not_zero len some in
    λ i. if plain i then 34 ∷ chars_text words ++ 34 ∷ [] else if none i then values_text ty words else 91 ∷ values_text ty words ++ 93 ∷ []

single : (ty : Ty) (payload : List ℕ) (offset : ℕ) → is_char ty ≡ false → number_text ty (word_from payload offset (element_size ty)) ≡ shown_text ty 0 (words_from payload offset (element_size ty) 1)
single ty payload offset plain =
    let words = words_from payload offset (element_size ty) 1 in
    let at : offset ≡ offset + element_size ty * 0 = omega arith in
    sym (append-nil (number_text ty (word_from payload offset (element_size ty))))
    ∙ (ap (λ (n : ℕ). number_text ty (word_from payload n (element_size ty)) ++ []) at
    ∙ ap (λ (b : Bool). if b then 34 ∷ chars_text words ++ 34 ∷ [] else values_text ty words) (sym plain))

pub put_quoted-requires-clause-within : goal.put_quoted-requires-clause-within
put_quoted-requires-clause-within c =
    let is : c.args.ty ≡ Char = elim c.match-matches.branch [ in-Char w ↦ w.in-Char.is | in_default w ↦ cc (c.if-matches.true, w.matches-is) ] in
    let within = rw is at c.requires.within in
    omega (arith, within, c.count_of.ensures)

pub put_quoted-requires-clause-room : goal.put_quoted-requires-clause-room
put_quoted-requires-clause-room c =
    let is : c.args.ty ≡ Char = elim c.match-matches.branch [ in-Char w ↦ w.in-Char.is | in_default w ↦ cc (c.if-matches.true, w.matches-is) ] in
    let within = rw is at c.requires.within in
    omega (arith, within, c.count_of.ensures)

pub returns-then-matches-clause-index : goal.returns-then-matches-clause-index
returns-then-matches-clause-index c =
    let is : c.args.ty ≡ Char = elim c.match-matches.branch [ in-Char w ↦ w.in-Char.is | in_default w ↦ cc (c.if-matches.true, w.matches-is) ] in
    let within = rw is at c.requires.within in
    (c.put_quoted.ensures.index.0, omega (arith, within, c.count_of.ensures, c.put_quoted.ensures.index.1))

pub put_one-requires-clause-within : goal.put_one-requires-clause-within
put_one-requires-clause-within c =
    let within = rw c.if-len-eq0.true at c.requires.within in
    omega (arith, within)

pub returns-then-len-eq0-clause-index : goal.returns-then-len-eq0-clause-index
returns-then-len-eq0-clause-index c =
    let within = rw c.if-len-eq0.true at c.requires.within in
    (c.put_one.ensures.index.0, omega (arith, within, c.put_one.ensures.index.1))

pub put_array-requires-clause-within : goal.put_array-requires-clause-within
put_array-requires-clause-within c =
    rw c.from.ensures (rw (count_some c.args.len (omega arith)) at c.requires.within)

pub put_array-requires-clause-room : goal.put_array-requires-clause-room
put_array-requires-clause-room c =
    let within = rw (count_some c.args.len (omega arith)) at c.requires.within in
    rw c.from.ensures (omega (arith, within))

pub returns-then-matches-clause-text : goal.returns-then-matches-clause-text
returns-then-matches-clause-text c =
    let is : c.args.ty ≡ Char = elim c.match-matches.branch [ in-Char w ↦ w.in-Char.is | in_default w ↦ cc (c.if-matches.true, w.matches-is) ] in
    let before = take c.args.at c.args.chunk.now in let count = if c.args.len == 0 then 1 else c.args.len in
    c.put_quoted.ensures.text
    ∙ (ap (λ (n : ℕ). before ++ (34 ∷ chars_text (words_from c.args.payload.now c.args.offset 1 n) ++ 34 ∷ [])) c.count_of.ensures
    ∙ ap (λ (ty : Ty). before ++ shown_text ty c.args.len (words_from c.args.payload.now c.args.offset (element_size ty) count)) (sym is))

pub returns-clause-text : goal.returns-clause-text
returns-clause-text c =
    let ty = c.args.ty in let before = take c.args.at c.args.chunk.now in
    let plain : is_char ty ≡ false = elim c.match-matches.branch [ in-Char w ↦ cc (c.if-matches.false, w.matches-is) | in_default w ↦ not_char ty w.in_default.not-Char ] in
    let count : c.from.result ≡ (if c.args.len == 0 then 1 else c.args.len) = c.from.ensures ∙ sym (count_some c.args.len (omega arith)) in
    c.put_array.ensures.text
    ∙ ap (λ (t : List ℕ). before ++ t) (ap (λ (n : ℕ). 91 ∷ values_text ty (words_from c.args.payload.now c.args.offset (element_size ty) n) ++ 93 ∷ []) count ∙ sym (shown_many ty c.args.len _ plain (omega arith)))

pub returns-then-len-eq0-clause-text : goal.returns-then-len-eq0-clause-text
returns-then-len-eq0-clause-text c =
    let ty = c.args.ty in let before = take c.args.at c.args.chunk.now in let payload = c.args.payload.now in let offset = c.args.offset in
    let plain : is_char ty ≡ false = elim c.match-matches.branch [ in-Char w ↦ cc (c.if-matches.false, w.matches-is) | in_default w ↦ not_char ty w.in_default.not-Char ] in
    c.put_one.ensures.text
    ∙ ap (λ (t : List ℕ). before ++ t) (single ty payload offset plain ∙ ap (λ (n : ℕ). shown_text ty n (words_from payload offset (element_size ty) (if n == 0 then 1 else n))) (sym c.if-len-eq0.true))
