use Rattle.std.proofs.Common.{◌≡◌, ℕ, List, [], ◌∷◌, ◌++◌, Result, Ok, Err, ap, ◌∙◌, append_assoc}
use Rattle.std.specs.Prelude.{OnOk, codes}
use Rattle.std.specs.Fmt.{decimal}
use Rattle.field_layout.specs.Definition.{Definition}
use Rattle.std.proofs.lemmas.Result.{err_from_is_err_and}
use Rattle.mav_text.proofs.layouts.put_message.Goals as goal

on_ok_more : {A E : Type 0} (P Q : Type 0) (result : Result A E) → (P → Q) → OnOk result P → OnOk result Q
on_ok_more P Q (Ok a) more p = more p
on_ok_more P Q (Err e) more p = tt

-- ten pieces were appended
pieces : (out o1 o2 o3 o4 o5 o6 o7 o8 o9 o10 a b c d e f g h i j : List ℕ) → o1 ≡ out ++ a → o2 ≡ o1 ++ b → o3 ≡ o2 ++ c → o4 ≡ o3 ++ d → o5 ≡ o4 ++ e → o6 ≡ o5 ++ f → o7 ≡ o6 ++ g → o8 ≡ o7 ++ h → o9 ≡ o8 ++ i → o10 ≡ o9 ++ j
    → o10 ≡ out ++ (((((((((a ++ b) ++ c) ++ d) ++ e) ++ f) ++ g) ++ h) ++ i) ++ j)
pieces out o1 o2 o3 o4 o5 o6 o7 o8 o9 o10 a b c d e f g h i j e1 e2 e3 e4 e5 e6 e7 e8 e9 e10 = simp (e10, e9, e8, e7, e6, e5, e4, e3, e2, e1, append_assoc)

pub returns-in_err-put_decimal : goal.returns-in_err-put_decimal
returns-in_err-put_decimal c = rw (err_from_is_err_and c.from_residual.result c.from_residual.ensures.1).1 tt

pub returns-in_err-put_text : goal.returns-in_err-put_text
returns-in_err-put_text c = rw (err_from_is_err_and c.from_residual-in_err-put_text.result c.from_residual-in_err-put_text.ensures.1).1 tt

pub returns-in_err-extend_from_slice : goal.returns-in_err-extend_from_slice
returns-in_err-extend_from_slice c = rw (err_from_is_err_and c.from_residual-in_err-extend_from_slice.result c.from_residual-in_err-extend_from_slice.ensures.1).1 tt

pub returns-in_err-put_text-2 : goal.returns-in_err-put_text-2
returns-in_err-put_text-2 c = rw (err_from_is_err_and c.from_residual-in_err-put_text-2.result c.from_residual-in_err-put_text-2.ensures.1).1 tt

pub returns-in_err-put_decimal-2 : goal.returns-in_err-put_decimal-2
returns-in_err-put_decimal-2 c = rw (err_from_is_err_and c.from_residual-in_err-put_decimal-2.result c.from_residual-in_err-put_decimal-2.ensures.1).1 tt

pub returns-in_err-put_text-3 : goal.returns-in_err-put_text-3
returns-in_err-put_text-3 c = rw (err_from_is_err_and c.from_residual-in_err-put_text-3.result c.from_residual-in_err-put_text-3.ensures.1).1 tt

pub returns-in_err-put_decimal-3 : goal.returns-in_err-put_decimal-3
returns-in_err-put_decimal-3 c = rw (err_from_is_err_and c.from_residual-in_err-put_decimal-3.result c.from_residual-in_err-put_decimal-3.ensures.1).1 tt

pub returns-in_err-put_text-4 : goal.returns-in_err-put_text-4
returns-in_err-put_text-4 c = rw (err_from_is_err_and c.from_residual-in_err-put_text-4.result c.from_residual-in_err-put_text-4.ensures.1).1 tt

pub returns-in_err-put_decimal-4 : goal.returns-in_err-put_decimal-4
returns-in_err-put_decimal-4 c = rw (err_from_is_err_and c.from_residual-in_err-put_decimal-4.result c.from_residual-in_err-put_decimal-4.ensures.1).1 tt

pub returns : goal.returns
returns c =
    let out = c.args.out.now.items in let def = c.args.layout.now in
    let id = c.from.ensures ∙ (ap (λ (d : Definition). d.id) c.def.view_is ∙ ap (λ (d : Definition). d.id) c.def-def.ensures.same) in
    let name = c.bytes.ensures ∙ (ap (λ (d : Definition). d.name) c.def.view_is ∙ ap (λ (d : Definition). d.name) c.def-def.ensures.same) in
    let o1 = c.put_decimal.new.out.items in let o2 = c.put_text.new.out.items in let o3 = c.extend_from_slice.new.self.items in let o4 = c.put_text-2.new.out.items in let o5 = c.put_decimal-2.new.out.items in
    let o6 = c.put_text-3.new.out.items in let o7 = c.put_decimal-3.new.out.items in let o8 = c.put_text-4.new.out.items in let o9 = c.put_decimal-4.new.out.items in
    on_ok_more _ _ c.put_text-5.result
    (pieces out o1 o2 o3 o4 o5 o6 o7 o8 o9 c.put_text-5.new.out.items _ (codes " ") def.name (codes " len ") _ (codes " full ") _ (codes " extra ") _ (10 ∷ [])
    (c.in_ok-put_decimal.ensures.ok ∙ ap (λ (n : ℕ). out ++ decimal n) id)
    c.in_ok-put_text.ensures
    (c.in_ok-extend_from_slice.ensures.items ∙ ap (λ (t : List ℕ). o2 ++ t) name)
    c.in_ok-put_text-2.ensures
    (c.in_ok-put_decimal-2.ensures.ok ∙ ap (λ (n : ℕ). o4 ++ decimal n) (c.from-2.ensures ∙ c.base_len.ensures))
    c.in_ok-put_text-3.ensures
    (c.in_ok-put_decimal-3.ensures.ok ∙ ap (λ (n : ℕ). o6 ++ decimal n) (c.from-3.ensures ∙ c.full_len.ensures))
    c.in_ok-put_text-4.ensures
    (c.in_ok-put_decimal-4.ensures.ok ∙ ap (λ (n : ℕ). o8 ++ decimal n) (c.from-4.ensures ∙ c.crc_extra.ensures)))
    c.put_text-5.ensures
