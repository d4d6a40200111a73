use Rattle.std.proofs.Common.{◌≡◌, ◌+◌, ◌*◌, ◌≤◌, ◌++◌, ℕ, take, sym, ap, ◌∙◌, subst, ⊎_elim, arith}
use Rattle.field_layout.specs.declared.ty.Ty.{Ty}
use Rattle.field_layout.specs.declared.ty.Ty.TheVariants.{U8, I8, I16, I32, I64, U16, U32, U64, F32, F64}
use Rattle.field_layout.specs.Types.{element_size}
use Rattle.field_layout.specs.Reading.{word_from}
use Rattle.mav_text.specs.FrameText.{number_text}
use Rattle.mav_text.proofs.ValueSteps.{number_end}
use Rattle.mav_text.proofs.values.put_one.Goals as goal

pub returns-in-U8-clause-text : goal.returns-in-U8-clause-text
returns-in-U8-clause-text c =
    let put = c.put_small in let P : Ty → Type 0 = λ (ty : Ty). take put.result put.new.chunk ≡ take c.args.at c.args.chunk.now ++ number_text ty (word_from c.args.payload.now c.args.offset (element_size ty)) in
    let text = put.ensures.text ∙ ap (λ (word : ℕ). take c.args.at c.args.chunk.now ++ number_text U8 word) (c.read_byte.ensures) in
    ⊎_elim (λ is. subst P (sym is) text) (λ others. ⊎_elim (λ is. subst P (sym is) text) (λ is. subst P (sym is) text) others) c.in-U8.is

pub returns-in-U8-clause-index : goal.returns-in-U8-clause-index
returns-in-U8-clause-index c =
    let put = c.put_small in let P : Ty → Type 0 = λ ty. put.result ≤ c.args.at + 4 * element_size ty in
    let few : put.result ≤ c.args.at + 4 = omega (arith, put.ensures.index.1) in
    (put.ensures.index.0, ⊎_elim (λ is. subst P (sym is) few) (λ others. ⊎_elim (λ is. subst P (sym is) few) (λ is. subst P (sym is) few) others) c.in-U8.is)

pub returns-in-I8-clause-text : goal.returns-in-I8-clause-text
returns-in-I8-clause-text c =
    let put = c.put_signed in let P : Ty → Type 0 = λ (ty : Ty). take put.result put.new.chunk ≡ take c.args.at c.args.chunk.now ++ number_text ty (word_from c.args.payload.now c.args.offset (element_size ty)) in
    subst P (sym c.in-I8.is) (put.ensures.text ∙ ap (λ (word : ℕ). take c.args.at c.args.chunk.now ++ number_text I8 word) (c.from.ensures ∙ c.read_byte-in-I8.ensures))

pub returns-in-I8-clause-index : goal.returns-in-I8-clause-index
returns-in-I8-clause-index c =
    let put = c.put_signed in let P : Ty → Type 0 = λ ty. put.result ≤ c.args.at + 4 * element_size ty in
    let text = put.ensures.text ∙ ap (λ (word : ℕ). take c.args.at c.args.chunk.now ++ number_text I8 word) (c.from.ensures ∙ c.read_byte-in-I8.ensures) in
    (put.ensures.index.0, subst P (sym c.in-I8.is) (number_end I8 c.args.payload.now c.args.chunk.now put.new.chunk c.args.offset c.args.at put.result (λ i. (c.type_inv.payload i).fits) (omega arith) (omega arith) text))

pub returns-in-U16-clause-text : goal.returns-in-U16-clause-text
returns-in-U16-clause-text c =
    let put = c.put_number in let P : Ty → Type 0 = λ (ty : Ty). take put.result put.new.chunk ≡ take c.args.at c.args.chunk.now ++ number_text ty (word_from c.args.payload.now c.args.offset (element_size ty)) in
    subst P (sym c.in-U16.is) (put.ensures.text ∙ ap (λ (word : ℕ). take c.args.at c.args.chunk.now ++ number_text U16 word) (c.read_two.ensures.word))

pub returns-in-U16-clause-index : goal.returns-in-U16-clause-index
returns-in-U16-clause-index c =
    let put = c.put_number in let P : Ty → Type 0 = λ ty. put.result ≤ c.args.at + 4 * element_size ty in
    let text = put.ensures.text ∙ ap (λ (word : ℕ). take c.args.at c.args.chunk.now ++ number_text U16 word) (c.read_two.ensures.word) in
    (put.ensures.index.0, subst P (sym c.in-U16.is) (number_end U16 c.args.payload.now c.args.chunk.now put.new.chunk c.args.offset c.args.at put.result (λ i. (c.type_inv.payload i).fits) (omega arith) (omega arith) text))

pub returns-in-I16-clause-text : goal.returns-in-I16-clause-text
returns-in-I16-clause-text c =
    let put = c.put_signed-in-I16 in let P : Ty → Type 0 = λ (ty : Ty). take put.result put.new.chunk ≡ take c.args.at c.args.chunk.now ++ number_text ty (word_from c.args.payload.now c.args.offset (element_size ty)) in
    subst P (sym c.in-I16.is) (put.ensures.text ∙ ap (λ (word : ℕ). take c.args.at c.args.chunk.now ++ number_text I16 word) (c.read_two-in-I16.ensures.word))

pub returns-in-I16-clause-index : goal.returns-in-I16-clause-index
returns-in-I16-clause-index c =
    let put = c.put_signed-in-I16 in let P : Ty → Type 0 = λ ty. put.result ≤ c.args.at + 4 * element_size ty in
    let text = put.ensures.text ∙ ap (λ (word : ℕ). take c.args.at c.args.chunk.now ++ number_text I16 word) (c.read_two-in-I16.ensures.word) in
    (put.ensures.index.0, subst P (sym c.in-I16.is) (number_end I16 c.args.payload.now c.args.chunk.now put.new.chunk c.args.offset c.args.at put.result (λ i. (c.type_inv.payload i).fits) (omega arith) (omega arith) text))

pub returns-in-U32-clause-text : goal.returns-in-U32-clause-text
returns-in-U32-clause-text c =
    let put = c.put_number-in-U32 in let P : Ty → Type 0 = λ (ty : Ty). take put.result put.new.chunk ≡ take c.args.at c.args.chunk.now ++ number_text ty (word_from c.args.payload.now c.args.offset (element_size ty)) in
    subst P (sym c.in-U32.is) (put.ensures.text ∙ ap (λ (word : ℕ). take c.args.at c.args.chunk.now ++ number_text U32 word) (c.read_four.ensures.word))

pub returns-in-U32-clause-index : goal.returns-in-U32-clause-index
returns-in-U32-clause-index c =
    let put = c.put_number-in-U32 in let P : Ty → Type 0 = λ ty. put.result ≤ c.args.at + 4 * element_size ty in
    let text = put.ensures.text ∙ ap (λ (word : ℕ). take c.args.at c.args.chunk.now ++ number_text U32 word) (c.read_four.ensures.word) in
    (put.ensures.index.0, subst P (sym c.in-U32.is) (number_end U32 c.args.payload.now c.args.chunk.now put.new.chunk c.args.offset c.args.at put.result (λ i. (c.type_inv.payload i).fits) (omega arith) (omega arith) text))

pub returns-in-I32-clause-text : goal.returns-in-I32-clause-text
returns-in-I32-clause-text c =
    let put = c.put_signed-in-I32 in let P : Ty → Type 0 = λ (ty : Ty). take put.result put.new.chunk ≡ take c.args.at c.args.chunk.now ++ number_text ty (word_from c.args.payload.now c.args.offset (element_size ty)) in
    subst P (sym c.in-I32.is) (put.ensures.text ∙ ap (λ (word : ℕ). take c.args.at c.args.chunk.now ++ number_text I32 word) (c.read_four-in-I32.ensures.word))

pub returns-in-I32-clause-index : goal.returns-in-I32-clause-index
returns-in-I32-clause-index c =
    let put = c.put_signed-in-I32 in let P : Ty → Type 0 = λ ty. put.result ≤ c.args.at + 4 * element_size ty in
    let text = put.ensures.text ∙ ap (λ (word : ℕ). take c.args.at c.args.chunk.now ++ number_text I32 word) (c.read_four-in-I32.ensures.word) in
    (put.ensures.index.0, subst P (sym c.in-I32.is) (number_end I32 c.args.payload.now c.args.chunk.now put.new.chunk c.args.offset c.args.at put.result (λ i. (c.type_inv.payload i).fits) (omega arith) (omega arith) text))

pub returns-in-F32-clause-text : goal.returns-in-F32-clause-text
returns-in-F32-clause-text c =
    let put = c.put_word in let P : Ty → Type 0 = λ (ty : Ty). take put.result put.new.chunk ≡ take c.args.at c.args.chunk.now ++ number_text ty (word_from c.args.payload.now c.args.offset (element_size ty)) in
    subst P (sym c.in-F32.is) (put.ensures.text ∙ ap (λ (word : ℕ). take c.args.at c.args.chunk.now ++ number_text F32 word) (c.read_four-in-F32.ensures.word))

pub returns-in-F32-clause-index : goal.returns-in-F32-clause-index
returns-in-F32-clause-index c =
    let put = c.put_word in let P : Ty → Type 0 = λ ty. put.result ≤ c.args.at + 4 * element_size ty in
    (omega (arith, put.ensures.index), subst P (sym c.in-F32.is) (omega (arith, put.ensures.index)))

pub returns-in-U64-clause-text : goal.returns-in-U64-clause-text
returns-in-U64-clause-text c =
    let put = c.put_number-in-U64 in let P : Ty → Type 0 = λ (ty : Ty). take put.result put.new.chunk ≡ take c.args.at c.args.chunk.now ++ number_text ty (word_from c.args.payload.now c.args.offset (element_size ty)) in
    subst P (sym c.in-U64.is) (put.ensures.text ∙ ap (λ (word : ℕ). take c.args.at c.args.chunk.now ++ number_text U64 word) (c.read_eight.ensures.word))

pub returns-in-U64-clause-index : goal.returns-in-U64-clause-index
returns-in-U64-clause-index c =
    let put = c.put_number-in-U64 in let P : Ty → Type 0 = λ ty. put.result ≤ c.args.at + 4 * element_size ty in
    (put.ensures.index.0, subst P (sym c.in-U64.is) (omega (arith, put.ensures.index.1)))

pub returns-in-I64-clause-text : goal.returns-in-I64-clause-text
returns-in-I64-clause-text c =
    let put = c.put_signed-in-I64 in let P : Ty → Type 0 = λ (ty : Ty). take put.result put.new.chunk ≡ take c.args.at c.args.chunk.now ++ number_text ty (word_from c.args.payload.now c.args.offset (element_size ty)) in
    subst P (sym c.in-I64.is) (put.ensures.text ∙ ap (λ (word : ℕ). take c.args.at c.args.chunk.now ++ number_text I64 word) (c.read_eight-in-I64.ensures.word))

pub returns-in-I64-clause-index : goal.returns-in-I64-clause-index
returns-in-I64-clause-index c =
    let put = c.put_signed-in-I64 in let P : Ty → Type 0 = λ ty. put.result ≤ c.args.at + 4 * element_size ty in
    (put.ensures.index.0, subst P (sym c.in-I64.is) (omega (arith, put.ensures.index.1)))

pub returns-in-F64-clause-text : goal.returns-in-F64-clause-text
returns-in-F64-clause-text c =
    let put = c.put_long_word in let P : Ty → Type 0 = λ (ty : Ty). take put.result put.new.chunk ≡ take c.args.at c.args.chunk.now ++ number_text ty (word_from c.args.payload.now c.args.offset (element_size ty)) in
    subst P (sym c.in-F64.is) (put.ensures.text ∙ ap (λ (word : ℕ). take c.args.at c.args.chunk.now ++ number_text F64 word) (c.read_eight-in-F64.ensures.word))

pub returns-in-F64-clause-index : goal.returns-in-F64-clause-index
returns-in-F64-clause-index c =
    let put = c.put_long_word in let P : Ty → Type 0 = λ ty. put.result ≤ c.args.at + 4 * element_size ty in
    (omega (arith, put.ensures.index), subst P (sym c.in-F64.is) (omega (arith, put.ensures.index)))
