-- The lines of fields in wire order, by the fields' indices.
use Rattle.std.proofs.Common.{◌≡◌, ℕ, ◌+◌, ◌<◌, List, ◌++◌, length, get_or, take, map, Some, sym, ap, ◌∙◌, append_assoc, arith}
use Rattle.std.specs.Prelude.{slice_get}
use Rattle.std.specs.List.{flat_map}
use Rattle.std.proofs.lemmas.List.{get_or-map, length-map}
use Rattle.field_layout.specs.declared.fields.Field.{Field}
use Rattle.field_layout.specs.Definition.{Definition, all_fields}
use Rattle.field_layout.specs.WireOrder.{Placed, place_of, wire_order}
use Rattle.field_layout.proofs.Placing.{wire_entries}
use Rattle.field_layout.proofs.Walking.{nowhere, place_in_range, field_here, flat_map_more}
use Rattle.mav_text.specs.LayoutText.{message_line, field_line}

module _ (def : Definition) (order : List ℕ) (i : ℕ) (in_order : order ≡ map place_of (wire_order def)) (inside : i < length order) where
  within : i < length (wire_order def)
  within = omega (arith, ap length in_order, length-map (wire_order def) place_of)

  -- an index in the wire order is that of a field
  pub place_of_field : get_or order i 0 < length (all_fields def)
  place_of_field = rw in_order (place_in_range def (wire_order def) i (wire_entries def) within)

  -- a text with the line of the field there
  pub lines-more : (text before : List ℕ) (field : Field) → slice_get (all_fields def) (get_or order i 0) ≡ Some field
      → text ≡ before ++ (message_line def ++ flat_map (field_line def) (take i (wire_order def)))
      → text ++ field_line def (get_or order i 0, field) ≡ before ++ (message_line def ++ flat_map (field_line def) (take (i + 1) (wire_order def)))
  lines-more text before field there done =
      let at : get_or order i 0 ≡ (get_or (wire_order def) i nowhere).0 =
      ap (λ (indices : List ℕ). get_or indices i 0) in_order ∙ get_or-map place_of (wire_order def) i nowhere 0 within in
      let is : (get_or (wire_order def) i nowhere).1 ≡ field =
      field_here def (wire_order def) i field (wire_entries def) within (ap (λ (indices : List ℕ). slice_get (all_fields def) (get_or indices i 0)) (sym in_order) ∙ there) in
      let lines = flat_map (field_line def) (take i (wire_order def)) in
      let entry : get_or (wire_order def) i nowhere ≡ (get_or order i 0, field) = λ j. (sym at j, is j) in
      let more : flat_map (field_line def) (take (i + 1) (wire_order def)) ≡ lines ++ field_line def (get_or order i 0, field) =
      flat_map_more (field_line def) (wire_order def) i within ∙ ap (λ (placed : Placed). lines ++ field_line def placed) entry in
      ap (λ (all : List ℕ). all ++ field_line def (get_or order i 0, field)) done
      ∙ append_assoc before (message_line def ++ lines) (field_line def (get_or order i 0, field))
      ∙ ap (λ (rest : List ℕ). before ++ rest) (append_assoc (message_line def) lines (field_line def (get_or order i 0, field)))
      ∙ ap (λ (all : List ℕ). before ++ (message_line def ++ all)) (sym more)
