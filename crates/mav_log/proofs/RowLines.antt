-- The line of a row, piece by piece.
use Rattle.std.proofs.Common.{◌≡◌, ◌∙◌, ℕ, Bool, true, false, refl, List, [], ◌∷◌, ◌++◌, ap, append_assoc, drop, Result, Ok, Err, OnOk}
use Rattle.std.specs.Fmt.{decimal}
use Rattle.field_layout.specs.Definition.{Definition}
use Rattle.mav_profile.specs.Messages.{definition_with}
use Rattle.mav_frame.specs.Looks.{id_at, is_old_at, packet_at}
use Rattle.mav_text.specs.TemplateText.{line_of}
use Rattle.log_rows.specs.Rows.{first_row, micros_at}
use Rattle.mav_log.specs.LogText.{row_line}

abbrev pub line_at : List Definition → ℕ → List ℕ → List ℕ
line_at known micros frame = line_of (definition_with (id_at (is_old_at true frame) frame) known) micros (packet_at (is_old_at true frame) frame) (10 ∷ [])

-- a frame's id is the one that it begins with
id_is : (old : Bool) (b : List ℕ) → id_at old b ≡ (packet_at old b).id
id_is true b = refl
id_is false b = refl

row_put_at : (known : List Definition) (offset : ℕ) (bytes frame : List ℕ) (micros : ℕ) (old a b new : List ℕ) → frame ≡ drop 8 bytes → micros ≡ micros_at bytes → a ≡ old ++ decimal offset → b ≡ a ++ 32 ∷ [] → new ≡ b ++ line_at known micros frame
    → new ≡ old ++ row_line known offset (first_row bytes)
row_put_at known offset bytes frame micros old a b new there time e f g =
    g
    ∙ (λ i. (f ∙ ap (λ (t : List ℕ). t ++ 32 ∷ []) e) i ++ line_at known (time i) (there i))
    ∙ append_assoc (old ++ decimal offset) (32 ∷ []) (line_at known (micros_at bytes) (drop 8 bytes))
    ∙ append_assoc old (decimal offset) (32 ∷ line_at known (micros_at bytes) (drop 8 bytes))
    ∙ ap (λ (id : ℕ). old ++ (decimal offset ++ 32 ∷ line_of (definition_with id known) (micros_at bytes) (first_row bytes).frame (10 ∷ []))) (id_is (is_old_at true (drop 8 bytes)) (drop 8 bytes))

pub row_put : {E : Type 0} (known : List Definition) (offset : ℕ) (bytes frame : List ℕ) (micros : ℕ) (old a b new : List ℕ) (r : Result (Unit {0}) E) → frame ≡ drop 8 bytes → micros ≡ micros_at bytes → a ≡ old ++ decimal offset → b ≡ a ++ 32 ∷ [] → OnOk r (new ≡ b ++ line_at known micros frame)
    → OnOk r (new ≡ old ++ row_line known offset (first_row bytes))
row_put known offset bytes frame micros old a b new (Ok x) there time e f g = row_put_at known offset bytes frame micros old a b new there time e f g
row_put known offset bytes frame micros old a b new (Err x) there time e f g = tt
