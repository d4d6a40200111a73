use Rattle.std.proofs.Common.{◌≡◌, ℕ, Bool, true, if◌then◌else◌, List, ◌++◌, IfOk, take, sym, ap, ◌∙◌, subst}
use Rattle.field_layout.specs.declared.fields.Field.{Field}
use Rattle.field_layout.specs.Definition.{all_fields, base_len_of}
use Rattle.mav_frame.specs.Packet.{Packet}
use Rattle.mav_text.specs.FrameText.{fields_text, value_bytes, words_in}
use Rattle.mav_text.proofs.PaddedWords.{words_in_buffer, words_in_padded}
use Rattle.mav_text.proofs.fields.put_fields_of.Goals as goal

pub returns-then-frame-clause-text : goal.returns-then-frame-clause-text
returns-then-frame-clause-text c =
    let def = c.args.layout.now in let frame = c.args.frame.now in
    let old : frame.old ≡ true = ap (λ (p : Packet). p.old) (sym c.frame.view_is) ∙ c.if-frame.true in
    let len : c.from.result ≡ base_len_of def = c.from.ensures ∙ c.base_len.ensures in
    let base : c.base_bytes-base.result.now ≡ value_bytes (base_len_of def) frame =
    c.base_bytes-base.ensures.bytes
    ∙ ((λ i. take (len i) (c.payload_bytes.ensures.bytes i))
    ∙ ap (λ (is : Bool). if is then take (base_len_of def) frame.payload else frame.payload) (sym old)) in
    let same : words_in def c.with_zeros.result ≡ words_in def (value_bytes (base_len_of def) frame) =
    ap (words_in def) c.with_zeros.ensures ∙ (words_in_padded def c.base_bytes-base.result.now ∙ ap (words_in def) base) in
    let P : (ℕ → Field → List ℕ) → Type 0 = λ words.
    IfOk c.put_all.result (λ end. c.put_all.new.out.items ++ take end c.put_all.new.chunk ≡ (c.args.out.now.items ++ take c.args.at c.args.chunk.now) ++ fields_text words 0 (all_fields def)) in
    subst P same c.put_all.ensures.text

pub returns-clause-text : goal.returns-clause-text
returns-clause-text c =
    let def = c.args.layout.now in let inside = c.frame.inside in
    let same : words_in def inside.payload ≡ words_in def (value_bytes (base_len_of def) c.args.frame.now) =
    words_in_buffer def inside.len inside.payload c.frame.invariant.1
    ∙ (ap (λ (old : Bool). words_in def (if old then take (base_len_of def) (take inside.len inside.payload) else take inside.len inside.payload)) (sym c.if-frame.false)
    ∙ ap (λ (p : Packet). words_in def (value_bytes (base_len_of def) p)) c.frame.view_is) in
    let P : (ℕ → Field → List ℕ) → Type 0 = λ words.
    IfOk c.put_all-2.result (λ end. c.put_all-2.new.out.items ++ take end c.put_all-2.new.chunk ≡ (c.args.out.now.items ++ take c.args.at c.args.chunk.now) ++ fields_text words 0 (all_fields def)) in
    subst P same c.put_all-2.ensures.text
