-- A text that is written piece by piece.
use Rattle.std.proofs.Common.{◌≡◌, ◌∙◌, ℕ, suc, ◌+◌, ◌≤◌, List, [], ◌∷◌, ◌++◌, length, drop, refl, sym, subst, ap, arith, append-nil, append_assoc, Option, Some, None, slice_get}
use Rattle.std.specs.List.{flat_map}
use Rattle.std.proofs.Math.ListN.{drop_of_length-le}
use Rattle.std.proofs.Math.Seq.{drop-cons}
use Rattle.std.proofs.lemmas.Option.{slice_get_within, get_or_from_slice_get}
use Rattle.mav_ports.specs.Counts.{Rose}
use Rattle.mav_ports.specs.Puts.{Sent, SentPrefix}
use Rattle.mav_ports.proofs.Known.{sent_in, sent_start, sent_step, sent_all}
use Rattle.field_layout.specs.Definition.{Definition}
use Rattle.mav_text.specs.LayoutText.{layout_text}
use Rattle.run_status.specs.declared.run_ends.RunEnd.{RunEnd}
use Rattle.run_status.specs.declared.run_ends.RunEnd.TheVariants.{Usage, Stopped, ReadFault, WriteFault, NoMemory, TurnsSpent, Live}
use Rattle.dialect_command.specs.Writes.{WroteText}

-- the lines of a message come before those of the messages after it
pub lines_left : (defs : List Definition) (i : ℕ) (def : Definition) (last : List ℕ) → slice_get defs i ≡ Some def → flat_map layout_text (drop i defs) ++ last ≡ layout_text def ++ (flat_map layout_text (drop (i + 1) defs) ++ last)
lines_left defs i def last is =
    let next : suc i ≡ i + 1 = omega arith in
    let here : drop i defs ≡ def ∷ drop (i + 1) defs =
    drop-cons defs i def (slice_get_within defs i def is) ∙ ap (λ d. d ∷ drop (suc i) defs) (get_or_from_slice_get defs i def def is)
    ∙ ap (λ n. def ∷ drop n defs) next in
    ap (λ (rest : List Definition). flat_map layout_text rest ++ last) here
    ∙ append_assoc (layout_text def) (flat_map layout_text (drop (i + 1) defs)) last

-- after the last message none are left
pub nothing_left : (defs : List Definition) (i : ℕ) (last : List ℕ) → length defs ≤ i → flat_map layout_text (drop i defs) ++ last ≡ last
nothing_left defs i last done = ap (λ (rest : List Definition). flat_map layout_text rest ++ last) (drop_of_length-le defs done)

-- nothing was written
pub wrote_nothing : (text : List ℕ) (refusals : ℕ) (sb : Option (List ℕ)) → WroteText text (Some NoMemory) refusals refusals sb sb
wrote_nothing text refusals sb = ((text, sent_start sb text), refl)

module _ (sb sm sa : Option (List ℕ)) (rb rm ra : ℕ) (same : rm ≡ rb) where
  -- a prefix of a text, and then a prefix of the next piece
  front_more : (text next rest : List ℕ) → Sent sb sm text (next ++ rest) → SentPrefix sm sa next → SentPrefix sb sa text
  front_more text next rest sent (more, part) = (more ++ rest, sent_in sb sm sa text next rest more sent part)

  -- the next piece was not written whole
  pub wrote_front : (text next rest : List ℕ) (halt : RunEnd) → Sent sb sm text (next ++ rest) → WroteText next (Some halt) rm ra sm sa → WroteText text (Some halt) rb ra sb sa
  wrote_front text next rest Usage sent wrote = wrote
  wrote_front text next rest (Stopped stop) sent wrote = wrote
  wrote_front text next rest ReadFault sent wrote = wrote
  wrote_front text next rest WriteFault sent wrote = (front_more text next rest sent wrote.0, subst (λ n. Rose n ra) same wrote.1)
  wrote_front text next rest NoMemory sent wrote = (front_more text next rest sent wrote.0, wrote.1 ∙ same)
  wrote_front text next rest TurnsSpent sent wrote = wrote
  wrote_front text next rest (Live end) sent wrote = wrote

  -- the last piece
  pub wrote_last : (text last : List ℕ) (end : Option RunEnd) → Sent sb sm text last → WroteText last end rm ra sm sa → WroteText text end rb ra sb sa
  wrote_last text last None sent wrote =
      (sent_all sb sa text (sent_step sb sm sa text last [] (subst (λ rest. Sent sb sm text rest) (sym (append-nil last)) sent) wrote.0), wrote.1 ∙ same)
  wrote_last text last (Some halt) sent wrote = wrote_front text last [] halt (subst (λ rest. Sent sb sm text rest) (sym (append-nil last)) sent) wrote
