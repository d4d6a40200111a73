use Rattle.std.proofs.Common.{◌≡◌, ℕ, List, [], ◌∷◌, ◌++◌, Result, Ok, Err, ap, ◌∙◌, append_assoc}
use Rattle.std.specs.Prelude.{OnOk}
use Rattle.std.specs.Fmt.{decimal}
use Rattle.std.proofs.lemmas.Result.{err_from_is_err_and}
use Rattle.mav_text.proofs.layouts.put_field.Goals as goal

on_ok_more : {A E : Type 0} (P Q : Type 0) (result : Result A E) → (P → Q) → OnOk result P → OnOk result Q
on_ok_more P Q (Ok a) more p = more p
on_ok_more P Q (Err e) more p = tt

pieces : (out o1 o2 o3 o4 o5 o6 o7 number type name : List ℕ) → o1 ≡ out ++ 32 ∷ [] → o2 ≡ o1 ++ number → o3 ≡ o2 ++ 32 ∷ [] → o4 ≡ o3 ++ type → o5 ≡ o4 ++ 32 ∷ [] → o6 ≡ o5 ++ name → o7 ≡ o6 ++ 10 ∷ [] → o7 ≡ out ++ (32 ∷ (((((number ++ 32 ∷ []) ++ type) ++ 32 ∷ []) ++ name) ++ 10 ∷ []))
pieces out o1 o2 o3 o4 o5 o6 o7 number type name e1 e2 e3 e4 e5 e6 e7 = simp (e7, e6, e5, e4, e3, e2, e1, append_assoc)

pub returns-in_err-put_text : goal.returns-in_err-put_text
returns-in_err-put_text c =
    let e = err_from_is_err_and c.from_residual.result c.from_residual.ensures.1 in
    rw e.1 tt

pub returns-in_err-put_decimal : goal.returns-in_err-put_decimal
returns-in_err-put_decimal c =
    let e = err_from_is_err_and c.from_residual-in_err-put_decimal.result c.from_residual-in_err-put_decimal.ensures.1 in
    rw e.1 tt

pub returns-in_err-put_text-2 : goal.returns-in_err-put_text-2
returns-in_err-put_text-2 c =
    let e = err_from_is_err_and c.from_residual-in_err-put_text-2.result c.from_residual-in_err-put_text-2.ensures.1 in
    rw e.1 tt

pub returns-in_err-put_type : goal.returns-in_err-put_type
returns-in_err-put_type c =
    let e = err_from_is_err_and c.from_residual-in_err-put_type.result c.from_residual-in_err-put_type.ensures.1 in
    rw e.1 tt

pub returns-in_err-put_text-3 : goal.returns-in_err-put_text-3
returns-in_err-put_text-3 c =
    let e = err_from_is_err_and c.from_residual-in_err-put_text-3.result c.from_residual-in_err-put_text-3.ensures.1 in
    rw e.1 tt

pub returns-in_err-extend_from_slice : goal.returns-in_err-extend_from_slice
returns-in_err-extend_from_slice c =
    let e = err_from_is_err_and c.from_residual-in_err-extend_from_slice.result c.from_residual-in_err-extend_from_slice.ensures.1 in
    rw e.1 tt

pub returns : goal.returns
returns c =
    let o1 = c.put_text.new.out.items in let o5 = c.put_text-3.new.out.items in
    on_ok_more _ _ c.put_text-4.result
    (pieces c.args.out.now.items o1 c.put_decimal.new.out.items c.put_text-2.new.out.items c.put_type.new.out.items o5 c.extend_from_slice.new.self.items c.put_text-4.new.out.items _ _ c.args.field.now.name
    c.in_ok-put_text.ensures
    (c.in_ok-put_decimal.ensures.ok ∙ ap (λ (n : ℕ). o1 ++ decimal n) (c.from.ensures ∙ c.offset.ensures))
    c.in_ok-put_text-2.ensures
    c.in_ok-put_type.ensures
    c.in_ok-put_text-3.ensures
    (c.in_ok-extend_from_slice.ensures.items ∙ ap (λ (t : List ℕ). o5 ++ t) c.bytes.ensures))
    c.put_text-4.ensures
