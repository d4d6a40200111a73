-- Parts of one list of bytes.
use Rattle.std.proofs.Common.{◌≡◌, Bool, IsTrue, ℕ, zero, suc, ◌+◌, ◌-◌, ◌≤◌, List, [], ◌∷◌, ◌++◌, length, take, drop, slice_get, option_map, Option, Some, None, refl, sym, ap, ◌∙◌, subst, arith, length-append, length-drop}
use Rattle.std.proofs.lemmas.List.{take-append-le, drop-append-le}
use Rattle.mav_names.specs.declared.names.Name.{Name}
use Rattle.fleet_world.specs.declared.sent.Span.{Span}
use Rattle.mav_sign.specs.Signing.{BytesVerify}
use Rattle.fleet_world.specs.WorldView.{Kept, bytes_of}
use Rattle.fleet_world.specs.Cuts.{cut, cuts, AreWithin, AreSigned, span_after}

pub cuts_length : (bytes : List ℕ) (spans : List Span) → length (cuts bytes spans) ≡ length spans
cuts_length bytes [] = refl
cuts_length bytes (p ∷ ps) = ap suc (cuts_length bytes ps)

pub cuts_get : (bytes : List ℕ) (spans : List Span) (k : ℕ) → slice_get (cuts bytes spans) k ≡ option_map (cut bytes) (slice_get spans k)
cuts_get bytes [] k = refl
cuts_get bytes (p ∷ ps) zero = refl
cuts_get bytes (p ∷ ps) (suc k) = cuts_get bytes ps k

-- a part lies within the bytes
pub record IsWithin (bytes : List ℕ) (span : Span) : Type 0 where
  pub order : span.start ≤ span.end
  pub below : span.end ≤ length bytes

pub within_at : (bytes : List ℕ) (spans : List Span) (k : ℕ) (span : Span) → AreWithin bytes spans → slice_get spans k ≡ Some span → IsWithin bytes span
within_at bytes [] k span all found = cc
within_at bytes (p ∷ ps) zero span all found =
    let same : p ≡ span = cc in
    subst (IsWithin bytes) same (record { order = all.0; below = all.1 })
within_at bytes (p ∷ ps) (suc k) span all found = within_at bytes ps k span all.2 found

cut_stays : (bytes more : List ℕ) (p : Span) → p.start ≤ p.end → p.end ≤ length bytes → cut (bytes ++ more) p ≡ cut bytes p
cut_stays bytes more p order below =
    let start : p.start ≤ length bytes = omega arith in
    let fits : p.end - p.start ≤ length (drop p.start bytes) = omega (arith, length-drop p.start bytes) in
    ap (λ (part : List ℕ). (p.from, take (p.end - p.start) part)) (drop-append-le p.start bytes more start)
    ∙ ap (λ (part : List ℕ). (p.from, part)) (take-append-le (p.end - p.start) (drop p.start bytes) more fits)

-- bytes that come after change no part
pub cuts_stay : (bytes more : List ℕ) (spans : List Span) → AreWithin bytes spans → cuts (bytes ++ more) spans ≡ cuts bytes spans
cuts_stay bytes more [] all = refl
cuts_stay bytes more (p ∷ ps) all =
    ap (λ (one : Kept). one ∷ cuts (bytes ++ more) ps) (cut_stays bytes more p all.0 all.1)
    ∙ ap (λ (rest : List Kept). cut bytes p ∷ rest) (cuts_stay bytes more ps all.2)

pub within_more : (bytes more : List ℕ) (spans : List Span) → AreWithin bytes spans → AreWithin (bytes ++ more) spans
within_more bytes more [] all = tt
within_more bytes more (p ∷ ps) all = (all.0, omega (arith, all.1, length-append bytes more), within_more bytes more ps all.2)

cuts-push : (bytes : List ℕ) (spans : List Span) (p : Span) → cuts bytes (spans ++ p ∷ []) ≡ cuts bytes spans ++ cut bytes p ∷ []
cuts-push bytes [] p = refl
cuts-push bytes (q ∷ qs) p = ap (λ (rest : List Kept). cut bytes q ∷ rest) (cuts-push bytes qs p)

within-push : (bytes : List ℕ) (spans : List Span) (p : Span) → AreWithin bytes spans → p.start ≤ p.end → p.end ≤ length bytes → AreWithin bytes (spans ++ p ∷ [])
within-push bytes [] p all order below = (order, below, tt)
within-push bytes (q ∷ qs) p all order below = (all.0, all.1, within-push bytes qs p all.2 order below)

whole : (more : List ℕ) (n : ℕ) → n ≡ length more → take n more ≡ more
whole [] n e = rw e
whole (b ∷ bs) n e = rw e (ap (λ (l : List ℕ). b ∷ l) (whole bs (length bs) refl))

cut_last : (from : Name) (signed : Bool) (bytes more : List ℕ) → cut (bytes ++ more) (span_after from signed bytes more) ≡ (from, more)
cut_last from signed bytes more =
    let span_after : drop (length bytes) (bytes ++ more) ≡ drop (length bytes) bytes ++ more = drop-append-le (length bytes) bytes more (omega arith) in
    let none : drop (length bytes) bytes ≡ [] = drop_all bytes in
    let size : length bytes + length more - length bytes ≡ length more = omega arith in
    ap (λ (n : ℕ). (from, take n (drop (length bytes) (bytes ++ more)))) size
    ∙ ap (λ (l : List ℕ). (from, take (length more) l)) (span_after ∙ ap (λ (l : List ℕ). l ++ more) none)
    ∙ ap (λ (l : List ℕ). (from, l)) (whole more (length more) refl)
  where
    drop_all : (l : List ℕ) → drop (length l) l ≡ []
    drop_all [] = refl
    drop_all (x ∷ xs) = drop_all xs

-- a part more, after bytes that come after
pub pushed : (from : Name) (signed : Bool) (bytes more b : List ℕ) (spans ps : List Span) (p : Span) (kept : List Kept) → AreWithin bytes spans → cuts bytes spans ≡ kept → p ≡ span_after from signed bytes more → b ≡ bytes ++ more → ps ≡ spans ++ p ∷ [] → cuts b ps ≡ kept ++ (from, more) ∷ []
pushed from signed bytes more b spans ps p kept all view is joined more_spans =
    ap (λ (l : List Span). cuts b l) more_spans
    ∙ ap (λ (l : List ℕ). cuts l (spans ++ p ∷ [])) joined
    ∙ cuts-push (bytes ++ more) spans p
    ∙ ap (λ (front : List Kept). front ++ cut (bytes ++ more) p ∷ []) (cuts_stay bytes more spans all ∙ view)
    ∙ ap (λ (one : Kept). kept ++ one ∷ []) (ap (cut (bytes ++ more)) is ∙ cut_last from signed bytes more)

pub pushed_within : (from : Name) (signed : Bool) (bytes more b : List ℕ) (spans ps : List Span) (p : Span) → AreWithin bytes spans → p ≡ span_after from signed bytes more → b ≡ bytes ++ more → ps ≡ spans ++ p ∷ [] → AreWithin b ps
pushed_within from signed bytes more b spans ps p all is joined more_spans =
    let order : p.start ≤ p.end = subst (λ (q : Span). q.start ≤ q.end) (sym is) (omega arith) in
    let below : p.end ≤ length (bytes ++ more) = subst (λ (q : Span). q.end ≤ length (bytes ++ more)) (sym is) (omega (arith, length-append bytes more)) in
    subst (λ (l : List Span). AreWithin b l) (sym more_spans)
    (subst (λ (l : List ℕ). AreWithin l (spans ++ p ∷ [])) (sym joined)
    (within-push (bytes ++ more) spans p (within_more bytes more spans all) order below))

-- bytes that come after without a part
pub kept_within : (bytes more b : List ℕ) (spans ps : List Span) → AreWithin bytes spans → b ≡ bytes ++ more → ps ≡ spans → AreWithin b ps
kept_within bytes more b spans ps all joined same =
    subst (λ (l : List Span). AreWithin b l) (sym same)
    (subst (λ (l : List ℕ). AreWithin l spans) (sym joined) (within_more bytes more spans all))

-- so are those that were signed
signed_more : (key bytes more : List ℕ) (spans : List Span) → AreWithin bytes spans → AreSigned key bytes spans → AreSigned key (bytes ++ more) spans
signed_more key bytes more [] all signed = tt
signed_more key bytes more (p ∷ ps) all signed =
    (λ is. subst (λ (one : Kept). BytesVerify key one.1) (sym (cut_stays bytes more p all.0 all.1)) (signed.0 is), signed_more key bytes more ps all.2 signed.1)

signed-push : (key bytes : List ℕ) (spans : List Span) (p : Span) → AreSigned key bytes spans → (IsTrue p.signed → BytesVerify key (cut bytes p).1) → AreSigned key bytes (spans ++ p ∷ [])
signed-push key bytes [] p signed last = (last, tt)
signed-push key bytes (q ∷ qs) p signed last = (signed.0, signed-push key bytes qs p signed.1 last)

pub kept_signed : (key bytes more b : List ℕ) (spans ps : List Span) → AreWithin bytes spans → AreSigned key bytes spans → b ≡ bytes ++ more → ps ≡ spans → AreSigned key b ps
kept_signed key bytes more b spans ps all signed joined same =
    subst (λ (l : List Span). AreSigned key b l) (sym same)
    (subst (λ (l : List ℕ). AreSigned key l spans) (sym joined) (signed_more key bytes more spans all signed))

pub pushed_signed : (key : List ℕ) (from : Name) (known : Bool) (bytes more b : List ℕ) (spans ps : List Span) (p : Span) → AreWithin bytes spans → AreSigned key bytes spans → (IsTrue known → BytesVerify key more) → p ≡ span_after from known bytes more → b ≡ bytes ++ more → ps ≡ spans ++ p ∷ [] → AreSigned key b ps
pushed_signed key from known bytes more b spans ps p all signed last is joined more_spans =
    let same : (cut (bytes ++ more) p).1 ≡ more = ap (λ (q : Span). (cut (bytes ++ more) q).1) is ∙ ap (λ (one : Kept). one.1) (cut_last from known bytes more) in
    let flag : p.signed ≡ known = ap (λ (q : Span). q.signed) is in
    subst (λ (l : List Span). AreSigned key b l) (sym more_spans)
    (subst (λ (l : List ℕ). AreSigned key l (spans ++ p ∷ [])) (sym joined)
    (signed-push key (bytes ++ more) spans p (signed_more key bytes more spans all signed)
    (λ told. subst (BytesVerify key) (sym same) (last (subst IsTrue flag told)))))

-- the same bytes
pub same_kept : (key bytes b : List ℕ) (spans : List Span) → b ≡ bytes → AreWithin bytes spans × AreSigned key bytes spans → AreWithin b spans × AreSigned key b spans
same_kept key bytes b spans same kept = subst (λ (l : List ℕ). AreWithin l spans × AreSigned key l spans) (sym same) kept

-- a look-up of a part
found_cut : (bytes : List ℕ) (spans look : List Span) (kept : List Kept) (k : ℕ) (o : Option Span) → cuts bytes spans ≡ kept → look ≡ spans → o ≡ slice_get look k → option_map (cut bytes) o ≡ slice_get kept k
found_cut bytes spans look kept k o view is found =
    ap (option_map (cut bytes)) (found ∙ ap (λ (l : List Span). slice_get l k) is)
    ∙ (sym (cuts_get bytes spans k) ∙ ap (λ (l : List Kept). slice_get l k) view)

pub sender_found : (bytes : List ℕ) (spans look : List Span) (kept : List Kept) (k : ℕ) (o : Option Span) → cuts bytes spans ≡ kept → look ≡ spans → o ≡ slice_get look k → option_map (λ (at : Span). at.from) o ≡ option_map (λ (one : Kept). one.0) (slice_get kept k)
sender_found bytes spans look kept k o view is found =
    by_case o ∙ ap (option_map (λ (one : Kept). one.0)) (found_cut bytes spans look kept k o view is found)
  where
    by_case : (p : Option Span) → option_map (λ (at : Span). at.from) p ≡ option_map (λ (one : Kept). one.0) (option_map (cut bytes) p)
    by_case None = refl
    by_case (Some at) = refl

pub part_found : (bytes : List ℕ) (spans look : List Span) (kept : List Kept) (k : ℕ) (o : Option Span) → cuts bytes spans ≡ kept → look ≡ spans → o ≡ slice_get look k → bytes_of (option_map (cut bytes) o) ≡ bytes_of (slice_get kept k)
part_found bytes spans look kept k o view is found = ap bytes_of (found_cut bytes spans look kept k o view is found)

pub span_within : (bytes : List ℕ) (spans look : List Span) (k : ℕ) (at : Span) → AreWithin bytes spans → look ≡ spans → Some at ≡ slice_get look k → IsWithin bytes at
span_within bytes spans look k at all is found =
    within_at bytes spans k at all (sym (found ∙ ap (λ (l : List Span). slice_get l k) is))

signed_at : (key bytes : List ℕ) (spans : List Span) (k : ℕ) (span : Span) → AreSigned key bytes spans → slice_get spans k ≡ Some span → IsTrue span.signed → BytesVerify key (cut bytes span).1
signed_at key bytes [] k span all found told = cc
signed_at key bytes (p ∷ ps) zero span all found told =
    let same : p ≡ span = cc in
    subst (λ (q : Span). BytesVerify key (cut bytes q).1) same (all.0 (subst (λ (q : Span). IsTrue q.signed) (sym same) told))
signed_at key bytes (p ∷ ps) (suc k) span all found told = signed_at key bytes ps k span all.1 found told

pub span_signed : (key bytes : List ℕ) (spans look : List Span) (k : ℕ) (at : Span) → AreSigned key bytes spans → look ≡ spans → Some at ≡ slice_get look k → IsTrue at.signed → BytesVerify key (cut bytes at).1
span_signed key bytes spans look k at all is found =
    signed_at key bytes spans k at all (sym (found ∙ ap (λ (l : List Span). slice_get l k) is))
