-- What a definition without fault is like.
use Rattle.std.proofs.Common.{◌≡◌, ◌<◌, ◌≤◌, ◌*◌, lit<, ℕ, Bool, true, false, List, [], ◌∷◌, Option, Some, None, length, sym, cond, eqb, ltb, refl, arith}
use Rattle.std.specs.List.{sum_by}
use Rattle.std.proofs.Math.Nat.{mul-lt-mul_of_pos_left}
use Rattle.std.proofs.lemmas.List.Sums.{sum_by-cons, sum_by-append}
use Rattle.std.proofs.lemmas.Option.{none-some}
use Rattle.std.proofs.lemmas.Bool.Decides.{nat_tests}
use Rattle.field_layout.specs.declared.ty.Ty.{Ty}
use Rattle.field_layout.specs.declared.ty.Ty.TheVariants.{I8, U8, Char, I16, U16, I32, U32, I64, U64, F32, F64, Version}
use Rattle.field_layout.specs.declared.fields.Field.{Field}
use Rattle.field_layout.specs.declared.faults.LayoutFault.{LayoutFault}
use Rattle.field_layout.specs.declared.faults.LayoutFault.TheVariants.{NoFields, TwiceNamed, TooLong}
use Rattle.field_layout.specs.Types.{element_size}
use Rattle.field_layout.specs.Definition.{Definition, element_count, size_of, full_len_of}
use Rattle.field_layout.specs.Faults.{names_of, name_at, first_repeat, first_fault, length_fault, name_fault}

short_len : (len : ℕ) → length_fault len ≡ None → len ≤ 255
short_len len faultless =
    elim (ltb 255 len) as (λ b. ltb 255 len ≡ b → cond b (Some (TooLong len)) None ≡ None → len ≤ 255) [
      | true ↦ λ test h. absurd (none-some (TooLong len) (sym h))
      | false ↦ λ test h. grind (arith, nat_tests)
    ] refl faultless

short_without_fault : (empty : Bool) (names : List (List ℕ)) (len : ℕ) (repeat : Option ℕ) → cond empty (Some NoFields) (name_fault names len repeat) ≡ None → len ≤ 255
short_without_fault true names len repeat faultless = absurd (none-some NoFields (sym faultless))
short_without_fault false names len (Some place) faultless = absurd (none-some (TwiceNamed (name_at names place)) (sym faultless))
short_without_fault false names len None faultless = short_len len faultless

-- its payload has at most 255 bytes
pub short_payload : (def : Definition) → first_fault def ≡ None → full_len_of def ≤ 255
short_payload def faultless = short_without_fault (eqb (length def.fields) 0) (names_of def) (full_len_of def) (first_repeat (names_of def)) faultless

-- ---- and at least one

element_positive : (ty : Ty) → 0 < element_size ty
element_positive I8 = lit< tt
element_positive U8 = lit< tt
element_positive Char = lit< tt
element_positive I16 = lit< tt
element_positive U16 = lit< tt
element_positive I32 = lit< tt
element_positive U32 = lit< tt
element_positive I64 = lit< tt
element_positive U64 = lit< tt
element_positive F32 = lit< tt
element_positive F64 = lit< tt
element_positive Version = lit< tt

count_positive : (n : ℕ) → 0 < cond (eqb n 0) 1 n
count_positive n =
    elim (eqb n 0) as (λ b. eqb n 0 ≡ b → 0 < cond b 1 n) [
      | true ↦ λ test. lit< tt
      | false ↦ λ test. grind (arith, nat_tests)
    ] refl

pub size_positive : (field : Field) → 0 < size_of field
size_positive field =
    let one : 0 < element_size field.ty = element_positive field.ty in
    let some : 0 < element_count field = count_positive field.len in
    let product : element_size field.ty * 0 < element_size field.ty * element_count field = mul-lt-mul_of_pos_left some one in
    omega (arith, product)

sizes_positive : (fields : List Field) → 0 < length fields → 0 < sum_by size_of fields
sizes_positive [] some = absurd (omega arith)
sizes_positive (f ∷ fs) some = omega (arith, sum_by-cons size_of f fs, size_positive f)

base_field : (count : ℕ) (rest : Option LayoutFault) → cond (eqb count 0) (Some NoFields) rest ≡ None → 0 < count
base_field count rest faultless =
    elim (eqb count 0) as (λ b. eqb count 0 ≡ b → cond b (Some NoFields) rest ≡ None → 0 < count) [
      | true ↦ λ test h. absurd (none-some NoFields (sym h))
      | false ↦ λ test h. grind (arith, nat_tests)
    ] refl faultless

-- its payload has at least one byte
pub some_payload : (def : Definition) → first_fault def ≡ None → 0 < full_len_of def
some_payload def faultless =
    let base : 0 < length def.fields = base_field (length def.fields) (name_fault (names_of def) (full_len_of def) (first_repeat (names_of def))) faultless in
    omega (arith, sizes_positive def.fields base, sum_by-append size_of def.fields def.extensions)
