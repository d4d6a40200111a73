use Rattle.std.proofs.Common.{◌≡◌, ◌*◌, ℕ, List, ◌++◌, ◌∷◌, [], Some, map, get_or, length, zero-add, sym, ap, ◌∙◌, subst, arith}
use Rattle.std.specs.Prelude.{slice_get}
use Rattle.std.specs.List.{range_with_len}
use Rattle.std.proofs.lemmas.List.{map_push}
use Rattle.std.proofs.lemmas.List.FromFn.{map-range_with_len_more}
use Rattle.std.proofs.lemmas.Option.{get_or_from_slice_get}
use Rattle.field_layout.specs.declared.fields.Field.{Field}
use Rattle.field_layout.specs.Types.{element_size}
use Rattle.field_layout.specs.Definition.{Definition, all_fields, element_count, size_of}
use Rattle.field_layout.specs.WireOrder.{offset_of}
use Rattle.field_layout.specs.Payload.{Represents}
use Rattle.field_layout.specs.Reading.{words_from}
use Rattle.field_layout.specs.Words.{items_of}
use Rattle.field_layout.proofs.Faultless.{short_payload}
use Rattle.field_layout.proofs.Walking.{nowhere}
use Rattle.field_layout.proofs.Decoding.{decoded, decoded_all, decoded_represents, place_room}
use Rattle.field_layout.proofs.unpacking.unpack.Goals as goal

pub read_words-requires-clause-within : goal.read_words-requires-clause-within
read_words-requires-clause-within c =
    let def = c.args.layout.now in
    let field = c.field-field.result.now in
    let place = c.loop-place.place in
    let got : slice_get (all_fields def) place ≡ Some field = ap (λ (d : Definition). slice_get (all_fields d) place) (sym c.def-def.ensures.same) ∙ c.field-field.ensures in
    let product : c.size.result * c.count.result ≡ size_of field = ap (λ (n : ℕ). n * c.count.result) c.size.ensures ∙ ap (λ (n : ℕ). element_size field.ty * n) c.count.ensures in
    omega (arith, c.offset-at.ensures, product, place_room def place field got, short_payload def c.def-def.ensures.faultless)

pub loop-place-preserved : goal.loop-place-preserved
loop-place-preserved c =
    let def = c.args.layout.now in
    let payload = c.args.payload.now in
    let field = c.field-field.result.now in
    let place = c.loop-place.place in
    let got : slice_get (all_fields def) place ≡ Some field = ap (λ (d : Definition). slice_get (all_fields d) place) (sym c.def-def.ensures.same) ∙ c.field-field.ensures in
    let is : get_or (all_fields def) place nowhere.1 ≡ field = get_or_from_slice_get (all_fields def) place field nowhere.1 got in
    let read : items_of c.in_ok-read_words.field-0 ≡ words_from payload (offset_of def place) (element_size field.ty) (element_count field) =
    c.in_ok-read_words.ensures ∙ (ap (λ (n : ℕ). words_from payload n c.size.result c.count.result) c.offset-at.ensures ∙ (ap (λ (n : ℕ). words_from payload (offset_of def place) n c.count.result) c.size.ensures ∙ ap (words_from payload (offset_of def place) (element_size field.ty)) c.count.ensures)) in
    let here : items_of c.in_ok-read_words.field-0 ≡ decoded def payload place = read ∙ sym (ap (λ (f : Field). words_from payload (offset_of def place) (element_size f.ty) (element_count f)) is) in
    let more = map-range_with_len_more (decoded def payload) 0 place place (zero-add place) in
    let numbers : List ℕ = range_with_len 0 place in
    ap (map items_of) c.in_ok-push.ensures.items ∙ (map_push items_of c.loop-place.words.items c.in_ok-read_words.field-0 ∙ (ap (λ (l : List (List ℕ)). l ++ items_of c.in_ok-read_words.field-0 ∷ []) c.loop-place.invariant ∙ (ap (λ (w : List ℕ). map (decoded def payload) numbers ++ w ∷ []) here ∙ sym more)))

pub returns : goal.returns
returns c =
    let def = c.args.layout.now in
    let payload = c.args.payload.now in
    let count : c.loop-place.place ≡ length (all_fields def) = omega (arith, c.field_count-place-end.ensures, ap (λ (d : Definition). length (all_fields d)) c.def-def.ensures.same) in
    let all : c.new.result ≡ decoded_all def payload = c.new.ensures ∙ (c.loop-place.invariant ∙ ap (λ (n : ℕ). map (decoded def payload) (range_with_len 0 n)) count) in
    let P : List (List ℕ) → Type 0 = Represents def payload in
    subst P (sym all) (decoded_represents def payload (λ i. (c.type_inv.payload i).fits))
