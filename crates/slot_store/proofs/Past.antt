-- One more moment joins those before.
use Rattle.std.proofs.Common.{◌≡◌, ◌⊎◌, inl, inr, ⊎_elim, ℕ, zero, suc, ◌≤◌, List, [], ◌∷◌, ◌++◌, length, drop, refl, sym, ◌∙◌, subst, arith, length-append}
use Rattle.slot_store.specs.Disks.{Elapses}
use Rattle.slot_store.specs.MemDisks.{IsImage, HadBeen, IsRecorded}
use Rattle.slot_store.specs.declared.unsynced.Range.{Range}
use Rattle.slot_store.specs.declared.unsynced.Moment.{Moment}

keeps : (past : List Moment) (m : Moment) (c : List ℕ) → HadBeen past c → HadBeen (past ++ m ∷ []) c
keeps [] m c had = absurd had
keeps (p ∷ past) m c (inl here) = inl here
keeps (p ∷ past) m c (inr there) = inr (keeps past m c there)

adds : (past : List Moment) (m : Moment) (c : List ℕ) → HadBeen (past ++ m ∷ []) c → HadBeen past c ⊎ IsImage m.bytes.items m.ranges.items c
adds [] m c (inl here) = inr here
adds [] m c (inr none) = absurd none
adds (p ∷ past) m c (inl here) = inl (inl here)
adds (p ∷ past) m c (inr there) = ⊎_elim (λ had. inl (inr had)) (λ new. inr new) (adds past m c there)

newest : (past : List Moment) (m : Moment) (c : List ℕ) → IsImage m.bytes.items m.ranges.items c → HadBeen (past ++ m ∷ []) c
newest [] m c is = inl is
newest (p ∷ past) m c is = inr (newest past m c is)

drop_push : (t : ℕ) (past : List Moment) (m : Moment) → t ≤ length past → drop t (past ++ m ∷ []) ≡ drop t past ++ m ∷ []
drop_push zero past m le = refl
drop_push (suc t) [] m le = absurd (omega arith)
drop_push (suc t) (p ∷ past) m le = drop_push t past m (omega arith)

-- what a crash since t might have left
abbrev Since : List Moment → List ℕ → List Range → ℕ → List ℕ → Type 0
Since past bytes ranges t c = IsImage bytes ranges c ⊎ HadBeen (drop t past) c

pub elapses_same : (past later : List Moment) (bytes : List ℕ) (ranges : List Range) → later ≡ past
    → Elapses (length past) (length later) (Since past bytes ranges) (Since later bytes ranges) (IsImage bytes ranges)
elapses_same past later bytes ranges is = subst (λ l. Elapses (length past) (length l) (Since past bytes ranges) (Since l bytes ranges) (IsImage bytes ranges)) (sym is)
    (record { later = omega arith; nothing_else = λ t c le left. inl left; keeps = λ t c le left. left })

elapses_push : (past : List Moment) (m : Moment) (bytes now : List ℕ) (ranges open_now : List Range) → m.bytes.items ≡ bytes → m.ranges.items ≡ ranges
    → Elapses (length past) (length (past ++ m ∷ [])) (Since past bytes ranges) (Since (past ++ m ∷ []) now open_now) (IsImage now open_now)
elapses_push past m bytes now ranges open_now is are = record {
  later = omega (arith, length-append past (m ∷ []));
  nothing_else = λ t c le left. ⊎_elim (λ here. inr here) (λ had. inl (was t c (adds (drop t past) m c (subst (λ l. HadBeen l c) (drop_push t past m le) had)))) left;
  keeps = λ t c le left. inr (subst (λ l. HadBeen l c) (sym (drop_push t past m le)) (⊎_elim (λ here. newest (drop t past) m c (back c here)) (keeps (drop t past) m c) left));
}
  where
    back : (c : List ℕ) → IsImage bytes ranges c → IsImage m.bytes.items m.ranges.items c
    back c here = subst (λ b. IsImage b m.ranges.items c) (sym is) (subst (λ r. IsImage bytes r c) (sym are) here)

    was : (t : ℕ) (c : List ℕ) → HadBeen (drop t past) c ⊎ IsImage m.bytes.items m.ranges.items c → Since past bytes ranges t c
    was t c (inl had) = inr had
    was t c (inr new) = inl (subst (λ r. IsImage bytes r c) are (subst (λ b. IsImage b m.ranges.items c) is new))

-- a call that was recorded
pub elapses : (past mid later : List Moment) (bytes now : List ℕ) (ranges open_now : List Range) → IsRecorded bytes ranges past mid → later ≡ mid
    → Elapses (length past) (length later) (Since past bytes ranges) (Since later now open_now) (IsImage now open_now)
elapses past mid later bytes now ranges open_now (m, is, are, same) end =
    subst (λ l. Elapses (length past) (length l) (Since past bytes ranges) (Since l now open_now) (IsImage now open_now)) (sym (end ∙ same))
    (elapses_push past m bytes now ranges open_now is are)

-- a call that recorded nothing and changed nothing
pub elapses_kept : (past later : List Moment) (bytes now : List ℕ) (ranges open_now : List Range) → later ≡ past → now ≡ bytes → open_now ≡ ranges
    → Elapses (length past) (length later) (Since past bytes ranges) (Since later now open_now) (IsImage now open_now)
elapses_kept past later bytes now ranges open_now is kept open_kept =
    subst (λ b. Elapses (length past) (length later) (Since past bytes ranges) (Since later b open_now) (IsImage b open_now)) (sym kept)
    (subst (λ r. Elapses (length past) (length later) (Since past bytes ranges) (Since later bytes r) (IsImage bytes r)) (sym open_kept) (elapses_same past later bytes ranges is))
