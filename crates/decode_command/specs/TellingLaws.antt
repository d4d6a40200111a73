-- What was told is a prefix of what is told of the bytes taken, or all of it.
use Rattle.std.proofs.Common.{◌≡◌, ℕ, ◌+◌, Bool, true, false, List, [], ◌∷◌, ◌++◌, sym, ap, ◌∙◌, arith, append_assoc}
use Rattle.std.specs.Prelude.{sum_by}
use Rattle.std.proofs.lemmas.List.Sums.{sum_by-cons}
use Rattle.mav_profile.specs.Messages.{extras_of}
use Rattle.decode_command.specs.Parsing.{parse_events}
use Rattle.decode_command.specs.Parses.{final_begins, incremental_begins}
use Rattle.decode_command.specs.DecodeText.{event_size, event_line, event_lines, lines_at, lines_from, bytes_in}
use Rattle.decode_command.specs.Decodes.{Decoding, HasDecoded, HasDecodedAll}
use Rattle.decode_command.specs.Spec.{decode_telling}
use Rattle.decode_command.specs.Tellings.{Leads}

-- the lines of the first events, and of those after them
pub lines_append : {E : Type 0} (line : ℕ → E → List ℕ) (size : E → ℕ) (offset : ℕ) (xs ys : List E)
    → lines_at line size offset (xs ++ ys) ≡ lines_at line size offset xs
    ++ lines_at line size (offset + sum_by size xs) ys
lines_append line size offset [] ys = ap (λ (n : ℕ). lines_at line size n ys) (omega arith)
lines_append line size offset (x ∷ xs) ys =
    let there : offset + size x + sum_by size xs ≡ offset + sum_by size (x ∷ xs) =
    omega (arith, sum_by-cons size x xs) in
    ap (λ (more : List ℕ). line offset x ++ more)
    (lines_append line size (offset + size x) xs ys ∙ ap
    (λ (n : ℕ). lines_at line size (offset + size x) xs ++ lines_at line size n ys) there)
    ∙ sym (append_assoc (line offset x) (lines_at line size (offset + size x) xs)
    (lines_at line size (offset + sum_by size (x ∷ xs)) ys))

-- the events of the bytes taken
pub decoded_begins : (d : Decoding) (ended : Bool) (taken told : List ℕ) (h : HasDecoded d ended taken told)
    → parse_events (extras_of d.known.dialect) ended taken ≡ h.given
    ++ parse_events (extras_of d.known.dialect) ended d.reader.bytes
decoded_begins d true taken told h = final_begins
    (extras_of d.known.dialect) h.given d.reader.bytes taken h.progress.final
decoded_begins d false taken told h = incremental_begins (extras_of d.known.dialect) h.given d.reader.bytes taken
    (h.progress.incremental h.is_ended)

abbrev pub decoded_leads : (d : Decoding) (ended : Bool) (taken told : List ℕ) → HasDecoded d ended taken told
    → Leads (decode_telling d.known) ended taken told
decoded_leads d ended taken told h =
    let more = parse_events (extras_of d.known.dialect) ended d.reader.bytes in (
      lines_from d.known (0 + bytes_in h.given) more,
      ap (event_lines d.known) (decoded_begins d ended taken told h)
          ∙ (lines_append (event_line d.known) event_size 0 h.given more ∙ ap
          (λ (text : List ℕ). text ++ lines_from d.known (0 + bytes_in h.given) more) (sym h.lines)),
    )

abbrev pub decoded_all : (d : Decoding) (ended : Bool) (taken told : List ℕ) → HasDecodedAll d ended taken told
    → told ≡ (decode_telling d.known).told ended taken
decoded_all d ended taken told h = h.has.lines ∙ ap (event_lines d.known) h.all
