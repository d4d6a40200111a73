-- The row at the start of some bytes, and its system.
use Rattle.std.proofs.Common.{◌≡◌, ◌≢◌, ◌∙◌, ◌==◌, ◌++◌, ◌-◌, ◌+◌, ℕ, List, [], sym, ap, arith, append-nil, length, take, drop, get_or}
use Rattle.std.proofs.lemmas.Bool.{eq-eqb, ne_eqb, cond-true, cond-false}
use Rattle.std.proofs.lemmas.List.{take_all, length-drop}
use Rattle.mav_frame.specs.Looks.{packet_at}
use Rattle.mav_stream.specs.Held.{Held}
use Rattle.log_rows.specs.LogParse.{RowEvent}
use Rattle.log_rows.specs.Progress.{LogHeld}
use Rattle.log_rows.specs.Rows.{row_encoding, first_row}
use Rattle.mav_log.specs.RowsMade.{row_of}
use Rattle.mav_log.specs.Tellers.{IsRowOf, Filtering, Making}

pub behind_time : (bytes : List ℕ) → take (length bytes - 8) (drop 8 bytes) ≡ drop 8 bytes
behind_time bytes = take_all (length bytes - 8) (drop 8 bytes) (omega (arith, length-drop 8 bytes))

-- the system of a frame, by its version
pub old_system : (b whole : List ℕ) → whole ≡ b → get_or whole 0 0 ≡ 254 → get_or whole 3 0 ≡ (packet_at (get_or b 0 0 == 254) b).from.sys
old_system b whole same is =
    ap (λ (w : List ℕ). get_or w 3 0) same
    ∙ ap (λ old. (packet_at old b).from.sys) (sym (eq-eqb (get_or b 0 0) 254 (ap (λ (w : List ℕ). get_or w 0 0) (sym same) ∙ is)))

pub new_system : (b whole : List ℕ) → whole ≡ b → get_or whole 0 0 ≢ 254 → get_or whole 5 0 ≡ (packet_at (get_or b 0 0 == 254) b).from.sys
new_system b whole same other =
    ap (λ (w : List ℕ). get_or w 5 0) same
    ∙ ap (λ old. (packet_at old b).from.sys) (sym (ne_eqb (get_or b 0 0) 254 (λ e. other (ap (λ (w : List ℕ). get_or w 0 0) same ∙ e))))

-- a row is kept if its frame is of the system, and else not
module _ (now inside : Filtering) (size : ℕ) (bytes old text : List ℕ) (system : ℕ) (same : inside ≡ now) (held : bytes ≡ inside.reader.bytes) (says : system ≡ (first_row bytes).frame.from.sys) where
  there : bytes ≡ now.reader.bytes
  there = held ∙ ap (λ (f : Filtering). f.reader.bytes) same

  pub row_kept : IsRowOf now.reader.bytes size → system ≡ inside.sys → text ≡ old ++ take size bytes → text ≡ old ++ row_of now.sys (RowEvent (first_row now.reader.bytes))
  row_kept is one added =
      added
      ∙ ap (λ more. old ++ more) (ap (take size) there ∙ is.2)
      ∙ ap (λ more. old ++ more) (sym (cond-true ((first_row now.reader.bytes).frame.from.sys == now.sys) (row_encoding (first_row now.reader.bytes)) []
      (eq-eqb (first_row now.reader.bytes).frame.from.sys now.sys (ap (λ b. (first_row b).frame.from.sys) (sym there) ∙ sym says ∙ one ∙ ap (λ (f : Filtering). f.sys) same))))

  pub row_left : system ≢ inside.sys → text ≡ old → text ≡ old ++ row_of now.sys (RowEvent (first_row now.reader.bytes))
  row_left other added =
      added ∙ sym (append-nil old)
      ∙ ap (λ more. old ++ more) (sym (cond-false ((first_row now.reader.bytes).frame.from.sys == now.sys) (row_encoding (first_row now.reader.bytes)) []
      (ne_eqb (first_row now.reader.bytes).frame.from.sys now.sys (λ e. other (says ∙ ap (λ b. (first_row b).frame.from.sys) there ∙ e ∙ sym (ap (λ (f : Filtering). f.sys) same))))))

-- and it is no longer held
pub row_gone : (now inside : Filtering) (size : ℕ) (reader : LogHeld) → inside ≡ now → reader ≡ record inside.reader { bytes = drop size inside.reader.bytes }
    → ◌≡◌ {A = Filtering} (record inside { reader = reader }) (record now { reader = record now.reader { bytes = drop size now.reader.bytes } })
row_gone now inside size reader same gone =
    ap (λ (z : LogHeld). let f : Filtering = record inside { reader = z } in f) gone
    ∙ ap (λ (f : Filtering). let g : Filtering = record f { reader = record f.reader { bytes = drop size f.reader.bytes } } in g) same

pub row_made : (now inside : Making) (size : ℕ) (reader : Held) → inside ≡ now → reader ≡ record inside.reader { bytes = drop size inside.reader.bytes }
    → ◌≡◌ {A = Making} (record inside { reader = reader; rows = inside.rows + 1 }) (record now { reader = record now.reader { bytes = drop size now.reader.bytes }; rows = now.rows + 1 })
row_made now inside size reader same gone =
    ap (λ (z : Held). let m : Making = record inside { reader = z; rows = inside.rows + 1 } in m) gone
    ∙ ap (λ (m : Making). let n : Making = record m { reader = record m.reader { bytes = drop size m.reader.bytes }; rows = m.rows + 1 } in n) same

pub frame_gone : (now inside : Making) (count : ℕ) (reader : Held) → inside ≡ now → reader ≡ record inside.reader { bytes = drop count inside.reader.bytes }
    → ◌≡◌ {A = Making} (record inside { reader = reader }) (record now { reader = record now.reader { bytes = drop count now.reader.bytes } })
frame_gone now inside count reader same gone =
    ap (λ (z : Held). let m : Making = record inside { reader = z } in m) gone
    ∙ ap (λ (m : Making). let n : Making = record m { reader = record m.reader { bytes = drop count m.reader.bytes } } in n) same
