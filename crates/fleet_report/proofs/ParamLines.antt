-- The characters of an id, and the lines of parameters, one by one.
use Rattle.std.proofs.Common.{◌≡◌, ℕ, ◌+◌, ◌<◌, ◌≤◌, List, [], ◌++◌, length, get_or, drop, refl, sym, ap, ◌∙◌, add-one, append-nil, append_assoc, drop-cons}
use Rattle.std.proofs.lemmas.Bool.{eq-eqb, ne_eqb}
use Rattle.std.proofs.lemmas.List.{drop_all}
use Rattle.mav_names.specs.declared.names.Name.{Name}
use Rattle.param_proto.specs.declared.params.Param.{Param}
use Rattle.field_layout.specs.CharText.{char_text, chars_text}
use Rattle.fleet_report.specs.Texts.{param_text, params_text}

-- a piece is written, and the rest is left
piece_added : (whole now new left piece rest : List ℕ) → now ++ left ≡ whole → left ≡ piece ++ rest → new ≡ now ++ piece → new ++ rest ≡ whole
piece_added whole now new left piece rest so_far cut added =
    ap (λ text. text ++ rest) added ∙ append_assoc now piece rest ∙ ap (λ text. now ++ text) (sym cut) ∙ so_far

-- nothing is left
all_written : (whole now left : List ℕ) → now ++ left ≡ whole → left ≡ [] → now ≡ whole
all_written whole now left so_far none = sym (append-nil now) ∙ ap (λ text. now ++ text) (sym none) ∙ so_far

-- ---- characters

chars_next : (id : List ℕ) (i : ℕ) → i < length id → (get_or id i 0 ≡ 0 → ⊥)
    → chars_text (drop i id) ≡ char_text (get_or id i 0) ++ chars_text (drop (i + 1) id)
chars_next id i inside full = rw (add-one, drop-cons id i 0, ne_eqb (get_or id i 0) 0 full) refl

chars_stop : (id : List ℕ) (i : ℕ) → i < length id → get_or id i 0 ≡ 0 → chars_text (drop i id) ≡ []
chars_stop id i inside zero = rw (drop-cons id i 0, eq-eqb (get_or id i 0) 0 zero) refl

pub char_added : (id whole now new : List ℕ) (i : ℕ) → i < length id → (get_or id i 0 ≡ 0 → ⊥) → now ++ chars_text (drop i id) ≡ whole
    → new ≡ now ++ char_text (get_or id i 0) → new ++ chars_text (drop (i + 1) id) ≡ whole
char_added id whole now new i inside full so_far added = piece_added _ _ _ _ _ _ so_far (chars_next id i inside full) added

-- a zero ends them, and so does the end of the id
pub chars_before_zero : (id whole now : List ℕ) (i : ℕ) → i < length id → get_or id i 0 ≡ 0 → now ++ chars_text (drop i id) ≡ whole → now ≡ whole
chars_before_zero id whole now i inside zero so_far = all_written _ _ _ so_far (chars_stop id i inside zero)

pub chars_ended : (id whole now : List ℕ) (i : ℕ) → length id ≤ i → now ++ chars_text (drop i id) ≡ whole → now ≡ whole
chars_ended id whole now i past so_far = all_written _ _ _ so_far (ap chars_text (drop_all i id past))

-- ---- lines

params_next : (station : Name) (params : List Param) (i : ℕ) (d : Param) → i < length params
    → params_text station (drop i params) ≡ param_text station (get_or params i d) ++ params_text station (drop (i + 1) params)
params_next station params i d inside = rw (add-one, drop-cons params i d) refl

pub param_added : (station : Name) (params : List Param) (whole now new : List ℕ) (i : ℕ) (d : Param) → i < length params
    → now ++ params_text station (drop i params) ≡ whole → new ≡ now ++ param_text station (get_or params i d)
    → new ++ params_text station (drop (i + 1) params) ≡ whole
param_added station params whole now new i d inside so_far added =
    piece_added _ _ _ _ _ _ so_far (params_next station params i d inside) added

pub params_ended : (station : Name) (params : List Param) (whole now : List ℕ) (i : ℕ) → length params ≤ i
    → now ++ params_text station (drop i params) ≡ whole → now ≡ whole
params_ended station params whole now i past so_far = all_written _ _ _ so_far (ap (params_text station) (drop_all i params past))
