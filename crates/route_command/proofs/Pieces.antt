-- Texts that are held and sent piece by piece.
use Rattle.std.proofs.Common.{◌≡◌, ◌∙◌, ◌⊎◌, inl, inr, ℕ, suc, ◌+◌, ◌<◌, List, [], ◌∷◌, ◌++◌, length, drop, get_or, refl, sym, subst, ap, arith, append_assoc, Option, Some, None, Result, Ok, Err, OnOk, IfErr, IsErrOf}
use Rattle.std.proofs.Math.Seq.{drop-cons}
use Rattle.std.specs.Result.{result_err}
use Rattle.mav_ports.specs.Counts.{Rose}
use Rattle.mav_ports.specs.Puts.{Sent, SentPrefix}
use Rattle.mav_ports.proofs.Known.{sent_all}
use Rattle.mav_router.specs.declared.entries.Entry.{Entry}
use Rattle.run_status.specs.declared.run_ends.RunEnd.{RunEnd}
use Rattle.run_status.specs.declared.run_ends.RunEnd.TheVariants.{WriteFault, NoMemory}
use Rattle.route_command.specs.Texts.{entry_line, entry_lines}
use Rattle.route_command.specs.Routes.{WroteAll}

-- what holds whatever a result is
pub if_err : {T E P : Type 0} (r : Result T E) → P → IfErr r (λ fault. P)
if_err (Ok done) p = tt
if_err (Err fault) p = p

pub on_ok : {T E P Q : Type 0} (r : Result T E) → OnOk r P → (P → Q) → OnOk r Q
on_ok (Ok done) p f = f p
on_ok (Err fault) p f = tt

-- the line of an entry comes before those of the entries after it
pub entries_left : (journal : List Entry) (i : ℕ) (entry d : Entry) (rest : List ℕ) → i < length journal → entry ≡ get_or journal i d → entry_lines (drop i journal) ++ rest ≡ entry_line entry ++ (entry_lines (drop (i + 1) journal) ++ rest)
entries_left journal i entry d rest within is =
    let next : suc i ≡ i + 1 = omega arith in
    let here : drop i journal ≡ entry ∷ drop (i + 1) journal =
    drop-cons journal i d within ∙ ap (λ (e : Entry). e ∷ drop (suc i) journal) (sym is) ∙ ap (λ (n : ℕ). entry ∷ drop n journal) next in
    ap (λ (es : List Entry). entry_lines es ++ rest) here ∙ append_assoc (entry_line entry) (entry_lines (drop (i + 1) journal)) rest

module _ (before middle after : Option (List ℕ)) (whole : List ℕ) where
  -- what is held is a prefix of what is left: as much of the whole is sent as of its part up to there
  pub moved_on : (text held more : List ℕ) → ((b : Option (List ℕ)) (w : List ℕ) → Sent b middle w text → Sent b after w held) → Sent before middle whole (text ++ more) → Sent before after whole (held ++ more)
  moved_on text held more moves s =
      let t = moves before (s.part ++ text) (record { part = s.part; whole = refl; appended = s.appended }) in
      record {
        part = t.part;
        whole = sym (append_assoc t.part held more) ∙ (ap (λ (xs : List ℕ). xs ++ more) t.whole ∙ (append_assoc s.part text more ∙ s.whole));
        appended = t.appended;
      }

  pub front_on : (text more : List ℕ) → ((b : Option (List ℕ)) (w : List ℕ) → Sent b middle w text → SentPrefix b after w) → Sent before middle whole (text ++ more) → SentPrefix before after whole
  front_on text more moves s =
      let (rest, t) = moves before (s.part ++ text) (record { part = s.part; whole = refl; appended = s.appended }) in (
        rest ++ more,
        record {
          part = t.part;
          whole = sym (append_assoc t.part rest more) ∙ (ap (λ (xs : List ℕ). xs ++ more) t.whole ∙ (append_assoc s.part text more ∙ s.whole));
          appended = t.appended;
        },
      )

  -- a line more is held, and what comes after it is left
  pub held_more : (text line held rest : List ℕ) → held ≡ text ++ line → Sent before middle whole (text ++ (line ++ rest)) → Sent before middle whole (held ++ rest)
  held_more text line held rest is s =
      subst (λ (xs : List ℕ). Sent before middle whole xs) (sym (append_assoc text line rest) ∙ ap (λ (xs : List ℕ). xs ++ rest) (sym is)) s

module _ (wanted : Option RunEnd) (text : List ℕ) (rb ra : ℕ) (sb sa : Option (List ℕ)) where
  -- a text wasn't written whole
  pub wrote_front : (end : RunEnd) → (end ≡ WriteFault) ⊎ (end ≡ NoMemory) → (end ≡ WriteFault → Rose rb ra) → ((end ≡ WriteFault → ⊥) → ra ≡ rb) → SentPrefix sb sa text → WroteAll wanted (Some end) text rb ra sb sa
  wrote_front end (inl is) rose sound front = inr (inl (ap Some is, rose is, front))
  wrote_front end (inr is) rose sound front = inr (inr (ap Some is, sound (λ e. cc (is, e)), front))

  -- the last of it was written, or not
  pub wrote_last : (r : Result (Unit {0}) RunEnd) (held : List ℕ) → OnOk r (Sent sb sa text held) → OnOk r (held ≡ []) → SentPrefix sb sa text → IfErr r (λ end. end ≡ WriteFault) → (IsErrOf r WriteFault → Rose rb ra) → OnOk r (ra ≡ rb) → WroteAll None (result_err r) text rb ra sb sa
  wrote_last (Ok done) held sent empty front error rose sound =
      inl (refl, sound, sent_all sb sa text (subst (λ (xs : List ℕ). Sent sb sa text xs) empty sent))
  wrote_last (Err end) held sent empty front error rose sound = inr (inl (ap Some error, rose (ap Err error), front))

  -- a run that wrote no whole text ends by that, whatever it wanted
  pub wrote_other : (end : RunEnd) → WroteAll None (Some end) text rb ra sb sa → WroteAll wanted (Some end) text rb ra sb sa
  wrote_other end (inl never) = absurd (cc never.0)
  wrote_other end (inr other) = inr other
