-- The fields of a frame, put one after another.
use Rattle.std.proofs.Common.{◌≡◌, ℕ, suc, ◌+◌, List, [], ◌∷◌, ◌++◌, Some, drop, get_or, sym, ap, ◌∙◌, arith, append_assoc, append-nil, drop-cons}
use Rattle.std.specs.Prelude.{slice_get}
use Rattle.std.proofs.lemmas.Option.{get_or_from_slice_get, slice_get_within}
use Rattle.field_layout.specs.declared.fields.Field.{Field}
use Rattle.field_layout.proofs.Walking.{nowhere}
use Rattle.mav_text.specs.FrameText.{value_text, field_text, fields_text}

-- a space, a name, an equals sign and a value put one after another are put as one
pub together : (out text after behind name shown : List ℕ) → after ++ behind ≡ (out ++ (text ++ 32 ∷ [])) ++ name → after ++ ((behind ++ 61 ∷ []) ++ shown) ≡ (out ++ text) ++ ((32 ∷ name) ++ (61 ∷ shown))
together out text after behind name shown put =
    simp append_assoc (simp append_assoc at (ap (λ (t : List ℕ). t ++ 61 ∷ shown) put))

pub field_put : (words : ℕ → Field → List ℕ) (number : ℕ) (all : List Field) (field : Field) (out after name shown : List ℕ) → slice_get all number ≡ Some field → after ≡ out ++ (32 ∷ (name ++ shown)) → name ≡ field.name → shown ≡ 61 ∷ value_text field (words number field) → after ++ fields_text words (number + 1) (drop (number + 1) all) ≡ out ++ fields_text words number (drop number all)
field_put words number all field out after name shown got put named text =
    let rest = fields_text words (number + 1) (drop (number + 1) all) in
    let here : get_or all number nowhere.1 ≡ field = get_or_from_slice_get all number field nowhere.1 got in
    let next : suc number ≡ number + 1 = omega arith in
    let split : drop number all ≡ field ∷ drop (number + 1) all =
    drop-cons all number nowhere.1 (slice_get_within all number field got) ∙ (λ i. here i ∷ drop (next i) all) in
    let whole : out ++ (32 ∷ (name ++ shown)) ≡ out ++ field_text field (words number field) = λ i. out ++ (32 ∷ (named i ++ text i)) in
    ap (λ (t : List ℕ). t ++ rest) (put ∙ whole)
    ∙ (append_assoc out (field_text field (words number field)) rest
    ∙ ap (λ (fields : List Field). out ++ fields_text words number fields) (sym split))

-- a name, a sender, a version, fields and a block put one after another are put as one
pub frame_together : (out o1 t1 o2 t2 o3 t3 name sender version fields block : List ℕ) → o1 ++ t1 ≡ (out ++ []) ++ name → o2 ++ t2 ≡ o1 ++ ((t1 ++ sender) ++ version) → o3 ++ t3 ≡ (o2 ++ t2) ++ fields → o3 ++ (t3 ++ block) ≡ out ++ (name ++ sender ++ version ++ fields ++ block)
frame_together out o1 t1 o2 t2 o3 t3 name sender version fields block first second third =
    let prefix : o1 ++ t1 ≡ out ++ name = first ∙ ap (λ (t : List ℕ). t ++ name) (append-nil out) in
    let flat : o1 ++ ((t1 ++ sender) ++ version) ≡ ((o1 ++ t1) ++ sender) ++ version =
    sym (append_assoc o1 (t1 ++ sender) version) ∙ ap (λ (t : List ℕ). t ++ version) (sym (append_assoc o1 t1 sender)) in
    sym (append_assoc o3 t3 block)
    ∙ (ap (λ (t : List ℕ). t ++ block) (third ∙ ap (λ (t : List ℕ). t ++ fields) (second ∙ (flat ∙ ap (λ (t : List ℕ). (t ++ sender) ++ version) prefix)))
    ∙ simp append_assoc)
