-- Lines that are put together by what is kept of a message.
use Rattle.std.proofs.Common.{◌≡◌, ℕ, zero, suc, ◌+◌, ◌*◌, ◌<◌, Bool, true, false, cond, ◌&&◌, ◌==◌, if◌then◌else◌, List, [], ◌∷◌, ◌++◌, Option, Some, None, length, drop, get_or, replicate, map, refl, sym, ap, ◌∙◌, subst, arith, append_assoc, drop-cons, add-zero}
use Rattle.std.specs.Prelude.{slice_get, slice_index, option_map}
use Rattle.std.specs.Fmt.{decimal}
use Rattle.std.specs.List.{range_with_len}
use Rattle.std.proofs.lemmas.Option.{none-some, same_Some, cond_some, get_or_from_slice_get, slice_get_within}
use Rattle.field_layout.specs.declared.fields.Field.{Field}
use Rattle.field_layout.specs.Types.{element_size}
use Rattle.field_layout.specs.Definition.{Definition, all_fields, base_len_of, full_len_of}
use Rattle.field_layout.specs.Reading.{word_from, words_from}
use Rattle.field_layout.proofs.Decoding.{place_room}
use Rattle.mav_frame.specs.Packet.{Packet}
use Rattle.mav_text.specs.FrameText.{value_text, fields_text, words_in, sender_text, version_text, value_bytes, block_text, shown_text}
use Rattle.mav_text.specs.TemplateText.{FieldTemplate, LineTemplate, field_template_of, field_templates_from, line_template_of, is_short, if_short, are_short, IsWithin, AreWithin, field_template_text, field_templates_text, line_of, template_line}

-- ---- the field templates of a message

-- the template of a field, and those after it
from_next : (def : Definition) (number : ℕ) (field : Field) → slice_get (all_fields def) number ≡ Some field → field_templates_from def number (drop number (all_fields def)) ≡ field_template_of def number field ∷ field_templates_from def (number + 1) (drop (number + 1) (all_fields def))
from_next def number field got =
    let all = all_fields def in
    let here : get_or all number field ≡ field = get_or_from_slice_get all number field field got in
    let next : suc number ≡ number + 1 = omega arith in
    let split : drop number all ≡ field ∷ drop (number + 1) all = drop-cons all number field (slice_get_within all number field got) ∙ (λ i. here i ∷ drop (next i) all) in
    ap (field_templates_from def number) split

-- a field template that was made is short
pub field_template_made : (made field_template : FieldTemplate) → if_short made ≡ Some field_template → (is_short made.prefix ≡ true) × (made ≡ field_template)
field_template_made made field_template e = cond_some (is_short made.prefix) made field_template e

-- one more field template is pushed
pub field_template_pushed : (def : Definition) (number : ℕ) (field : Field) (field_template : FieldTemplate) (before after : List FieldTemplate) → slice_get (all_fields def) number ≡ Some field → field_template_of def number field ≡ field_template → after ≡ before ++ field_template ∷ [] → after ++ field_templates_from def (number + 1) (drop (number + 1) (all_fields def)) ≡ before ++ field_templates_from def number (drop number (all_fields def))
field_template_pushed def number field field_template before after got made pushed =
    let rest = field_templates_from def (number + 1) (drop (number + 1) (all_fields def)) in
    ap (λ (ss : List FieldTemplate). ss ++ rest) pushed
    ∙ (append_assoc before (field_template ∷ []) rest
    ∙ (ap (λ (s : FieldTemplate). before ++ s ∷ rest) (sym made)
    ∙ ap (λ (ss : List FieldTemplate). before ++ ss) (sym (from_next def number field got))))

-- whether the templates are short is told by those after a short one
pub short_next : (def : Definition) (number : ℕ) (field : Field) → slice_get (all_fields def) number ≡ Some field → is_short (field_template_of def number field).prefix ≡ true → are_short (field_templates_from def number (drop number (all_fields def))) ≡ are_short (field_templates_from def (number + 1) (drop (number + 1) (all_fields def)))
short_next def number field got short =
    ap are_short (from_next def number field got)
    ∙ ap (λ (b : Bool). b && are_short (field_templates_from def (number + 1) (drop (number + 1) (all_fields def)))) short

long_field_template : (short : Bool) (field_template : FieldTemplate) → cond short (Some field_template) None ≡ None → short ≡ false
long_field_template true field_template e = absurd (none-some field_template (sym e))
long_field_template false field_template e = refl

-- a field template that was not made is not short
pub long_here : (def : Definition) (number : ℕ) (field : Field) → slice_get (all_fields def) number ≡ Some field → if_short (field_template_of def number field) ≡ None → are_short (field_templates_from def number (drop number (all_fields def))) ≡ false
long_here def number field got none =
    ap are_short (from_next def number field got)
    ∙ ap (λ (b : Bool). b && are_short (field_templates_from def (number + 1) (drop (number + 1) (all_fields def)))) (long_field_template (is_short (field_template_of def number field).prefix) (field_template_of def number field) none)

within_from : (def : Definition) (number : ℕ) (fields : List Field) → ((k : ℕ) (field : Field) → slice_get fields k ≡ Some field → slice_get (all_fields def) (number + k) ≡ Some field) → (k : ℕ) (field_template : FieldTemplate) → slice_get (field_templates_from def number fields) k ≡ Some field_template → IsWithin (full_len_of def) field_template
within_from def number [] there k field_template got = absurd (none-some field_template got)
within_from def number (field ∷ fields) there zero field_template got =
    let same : field_template_of def number field ≡ field_template = same_Some (field_template_of def number field) field_template got in
    let here : slice_get (all_fields def) number ≡ Some field = ap (slice_get (all_fields def)) (sym (add-zero number)) ∙ there zero field refl in
    let P : FieldTemplate → Type 0 = IsWithin (full_len_of def) in
    subst P same (place_room def number field here)
within_from def number (field ∷ fields) there (suc k) field_template got =
    let behind : (j : ℕ) (f : Field) → slice_get fields j ≡ Some f → slice_get (all_fields def) (number + 1 + j) ≡ Some f =
    λ j f e. let further : number + 1 + j ≡ number + suc j = omega arith in ap (slice_get (all_fields def)) further ∙ there (suc j) f e in
    within_from def (number + 1) fields behind k field_template got

-- each value ends within the payload
pub all_within : (def : Definition) → AreWithin (full_len_of def) (field_templates_from def 0 (all_fields def))
all_within def = within_from def 0 (all_fields def) (λ k field got. let same : 0 + k ≡ k = omega arith in ap (slice_get (all_fields def)) same ∙ got)

-- ---- a payload and zeros after it

same_there : (n at x : ℕ) → get_or (replicate n x) at x ≡ x
same_there zero at x = refl
same_there (suc n) zero x = refl
same_there (suc n) (suc at) x = same_there n at x

index_zeros : (xs : List ℕ) (n at : ℕ) → slice_index (xs ++ replicate n 0) at ≡ slice_index xs at
index_zeros [] n at = same_there n at 0
index_zeros (x ∷ xs) n zero = refl
index_zeros (x ∷ xs) n (suc at) = index_zeros xs n at

word_zeros : (xs : List ℕ) (n at size : ℕ) → word_from (xs ++ replicate n 0) at size ≡ word_from xs at size
word_zeros xs n at zero = refl
word_zeros xs n at (suc size) = λ i. index_zeros xs n at i + 256 * word_zeros xs n (at + 1) size i

words_zeros : (xs : List ℕ) (n at size count : ℕ) → words_from (xs ++ replicate n 0) at size count ≡ words_from xs at size count
words_zeros xs n at size count = λ i. map (λ k. word_zeros xs n (at + size * k) size i) (range_with_len 0 count)

-- the fields are put the same
pub field_templates_zeros : (xs : List ℕ) (n : ℕ) (field_templates : List FieldTemplate) → field_templates_text (xs ++ replicate n 0) field_templates ≡ field_templates_text xs field_templates
field_templates_zeros xs n [] = refl
field_templates_zeros xs n (field_template ∷ field_templates) =
    λ i. (field_template.prefix ++ shown_text field_template.ty field_template.len (words_zeros xs n field_template.at (element_size field_template.ty) (if field_template.len == 0 then 1 else field_template.len) i)) ++ field_templates_zeros xs n field_templates i

-- ---- texts put one after another

-- one more field is put
pub field_templates_next : (now next payload : List ℕ) (i : ℕ) (field_templates : List FieldTemplate) (field_template : FieldTemplate) → i < length field_templates → field_template ≡ get_or field_templates i field_template → next ≡ now ++ field_template_text payload field_template → next ++ field_templates_text payload (drop (i + 1) field_templates) ≡ now ++ field_templates_text payload (drop i field_templates)
field_templates_next now next payload i field_templates field_template inside here put =
    let rest = field_templates_text payload (drop (i + 1) field_templates) in
    let back : get_or field_templates i field_template ≡ field_template = sym here in
    let behind : suc i ≡ i + 1 = omega arith in
    let split : drop i field_templates ≡ field_template ∷ drop (i + 1) field_templates = drop-cons field_templates i field_template inside ∙ (λ k. back k ∷ drop (behind k) field_templates) in
    ap (λ (t : List ℕ). t ++ rest) put
    ∙ (append_assoc now (field_template_text payload field_template) rest
    ∙ ap (λ (ss : List FieldTemplate). now ++ field_templates_text payload ss) (sym split))

-- the text that is put in the chunk, some of which is appended
pub text_put : (out after put shown : List ℕ) (text kept : List ℕ) → put ≡ text ++ shown → after ++ kept ≡ out ++ put → after ++ kept ≡ (out ++ text) ++ shown
text_put out after put shown text kept is appended =
    appended ∙ (ap (λ (t : List ℕ). out ++ t) is ∙ sym (append_assoc out text shown))

-- the parts of a line
pub line_put : (out o2 o3 offset name sender version fields block ending head kept before all : List ℕ) → head ≡ (((offset ++ 32 ∷ []) ++ name) ++ sender) ++ version → o2 ++ kept ≡ (out ++ head) ++ fields → before ≡ kept ++ block → all ≡ before ++ ending → o3 ≡ o2 ++ all → o3 ≡ out ++ (offset ++ 32 ∷ (name ++ sender ++ version ++ fields ++ block) ++ ending)
line_put out o2 o3 offset name sender version fields block ending head kept before all first second third fourth last =
    last
    ∙ (ap (λ (t : List ℕ). o2 ++ t) (fourth ∙ ap (λ (t : List ℕ). t ++ ending) third)
    ∙ (sym (append_assoc o2 (kept ++ block) ending)
    ∙ (ap (λ (t : List ℕ). t ++ ending) (sym (append_assoc o2 kept block))
    ∙ (ap (λ (t : List ℕ). (t ++ block) ++ ending) (second ∙ ap (λ (t : List ℕ). (out ++ t) ++ fields) first)
    ∙ simp append_assoc))))

-- ---- the line of a frame

pub fields_field_templates : (def : Definition) (payload : List ℕ) (number : ℕ) (fields : List Field) → fields_text (words_in def payload) number fields ≡ field_templates_text payload (field_templates_from def number fields)
fields_field_templates def payload number [] = refl
fields_field_templates def payload number (field ∷ fields) =
    let same = sym (append_assoc (32 ∷ field.name) (61 ∷ []) (value_text field (words_in def payload number field))) in
    λ i. same i ++ fields_field_templates def payload (number + 1) fields i

-- the fields of a message are those of its template
pub all_field_templates : (def : Definition) (payload : List ℕ) → fields_text (words_in def payload) 0 (all_fields def) ≡ field_templates_text payload (line_template_of def).field_templates
all_field_templates def payload = fields_field_templates def payload 0 (all_fields def)

-- and so is the line
pub line_by_template : (known : Option Definition) (line_template : LineTemplate) (offset : ℕ) (packet : Packet) (ending : List ℕ) → option_map line_template_of known ≡ Some line_template → template_line line_template offset packet ending ≡ line_of known offset packet ending
line_by_template None line_template offset packet ending e = absurd (none-some line_template e)
line_by_template (Some def) line_template offset packet ending e =
    ap (λ (r : LineTemplate). template_line r offset packet ending) (sym (same_Some (line_template_of def) line_template e))
    ∙ ap (λ (fields : List ℕ). decimal offset ++ 32 ∷ (def.name ++ sender_text packet ++ version_text packet.old ++ fields ++ block_text packet.block) ++ ending) (sym (all_field_templates def (value_bytes (base_len_of def) packet)))
