-- The values of a list, kept as parameters beside marks of which were taken.
use Rattle.std.proofs.Common.{◌≡◌, ℕ, suc, zero, ◌+◌, ◌-◌, ◌<◌, ◌≤◌, Bool, true, false, List, [], ◌∷◌, ◌++◌, length, take, get_or, replicate, Option, Some, None, Result, Ok, is_ok, if◌then◌else◌, nat_lt, refl, ap, sym, ◌∙◌, arith}
use Rattle.std.proofs.Math.ListN.{set, length-take, length-append, length-replicate}
use Rattle.std.proofs.lemmas.List.{take_all}
use Rattle.param_proto.specs.declared.params.Param.{Param}
use Rattle.param_proto.specs.Client.{known_values, with_value, was_taken, asks_all}
use Rattle.param_proto.specs.Views.{value_if, values_view, leading}

-- ---- marks

pub leading_within : (ts : List Bool) → leading ts ≤ length ts
leading_within [] = omega arith
leading_within (true ∷ ts) = omega (arith, leading_within ts)
leading_within (false ∷ ts) = omega arith

-- one more is true
pub leading_more : (ts : List Bool) (k : ℕ) → k ≤ leading ts → k < length ts → get_or ts k false ≡ true → k + 1 ≤ leading ts
leading_more [] k from inside here = absurd (omega arith)
leading_more (true ∷ ts) zero from inside here = omega arith
leading_more (true ∷ ts) (suc k) from inside here = omega (arith, leading_more ts k (omega arith) (omega arith) here)
leading_more (false ∷ ts) zero from inside here = absurd (let wrong : false ≡ true = here in cc)
leading_more (false ∷ ts) (suc k) from inside here = absurd (omega arith)

-- the next isn't
pub leading_stops : (ts : List Bool) (k : ℕ) → k ≤ leading ts → get_or ts k false ≡ false → k ≡ leading ts
leading_stops [] k from here = omega arith
leading_stops (true ∷ ts) zero from here = absurd (let wrong : true ≡ false = here in cc)
leading_stops (true ∷ ts) (suc k) from here = omega (arith, leading_stops ts k (omega arith) here)
leading_stops (false ∷ ts) k from here = omega arith

pub leading_all : (ts : List Bool) (k : ℕ) → k ≤ leading ts → length ts ≤ k → k ≡ leading ts
leading_all ts k from past = omega (arith, leading_within ts)

-- marks that aren't set add none
pub leading_padded : (ts : List Bool) (n : ℕ) → leading (ts ++ replicate n false) ≡ leading ts
leading_padded [] zero = refl
leading_padded [] (suc n) = refl
leading_padded (true ∷ ts) n = ap suc (leading_padded ts n)
leading_padded (false ∷ ts) n = refl

pub leading_pushed : (ts : List Bool) → leading ts ≤ leading (ts ++ true ∷ [])
leading_pushed [] = omega arith
leading_pushed (true ∷ ts) = omega (arith, leading_pushed ts)
leading_pushed (false ∷ ts) = omega arith

pub leading_set : (ts : List Bool) (k : ℕ) → leading ts ≤ leading (set ts k true)
leading_set [] k = omega arith
leading_set (true ∷ ts) zero = omega arith
leading_set (true ∷ ts) (suc k) = omega (arith, leading_set ts k)
leading_set (false ∷ ts) k = omega arith

pub leading_taken : (ts : List Bool) (n : ℕ) → n ≤ leading ts → leading (take n ts) ≡ n
leading_taken ts zero within = refl
leading_taken [] (suc n) within = absurd (omega arith)
leading_taken (true ∷ ts) (suc n) within = ap suc (leading_taken ts n (omega arith))
leading_taken (false ∷ ts) (suc n) within = absurd (omega arith)

-- ---- the view

pub view_length : (ts : List Bool) (ps : List Param) → length ts ≡ length ps → length (values_view ts ps) ≡ length ts
view_length [] ps same = refl
view_length (t ∷ ts) [] same = absurd (omega arith)
view_length (t ∷ ts) (p ∷ ps) same = omega (arith, view_length ts ps (omega arith))

pub known_length : (ts : List Bool) (ps : List Param) → length ts ≡ length ps → length (known_values (values_view ts ps)) ≡ leading ts
known_length [] ps same = refl
known_length (t ∷ ts) [] same = absurd (omega arith)
known_length (true ∷ ts) (p ∷ ps) same = ap suc (known_length ts ps (omega arith))
known_length (false ∷ ts) (p ∷ ps) same = refl

pub known_front : (ts : List Bool) (ps : List Param) → length ts ≡ length ps → take (leading ts) ps ≡ known_values (values_view ts ps)
known_front [] ps same = refl
known_front (t ∷ ts) [] same = absurd (omega arith)
known_front (true ∷ ts) (p ∷ ps) same = ap (λ l. p ∷ l) (known_front ts ps (omega arith))
known_front (false ∷ ts) (p ∷ ps) same = refl

pub view_appended : (ts us : List Bool) (ps qs : List Param) → length ts ≡ length ps → values_view (ts ++ us) (ps ++ qs) ≡ values_view ts ps ++ values_view us qs
view_appended [] us [] qs same = refl
view_appended [] us (p ∷ ps) qs same = absurd (omega arith)
view_appended (t ∷ ts) us [] qs same = absurd (omega arith)
view_appended (t ∷ ts) us (p ∷ ps) qs same = ap (λ l. value_if t p ∷ l) (view_appended ts us ps qs (omega arith))

pub view_blank : (n : ℕ) (p : Param) → values_view (replicate n false) (replicate n p) ≡ replicate n None
view_blank zero p = refl
view_blank (suc n) p = ap (λ l. None ∷ l) (view_blank n p)

pub view_taken : (n : ℕ) (ts : List Bool) (ps : List Param) → values_view (take n ts) (take n ps) ≡ take n (values_view ts ps)
view_taken zero ts ps = refl
view_taken (suc n) [] ps = refl
view_taken (suc n) (t ∷ ts) [] = refl
view_taken (suc n) (t ∷ ts) (p ∷ ps) = ap (λ l. value_if t p ∷ l) (view_taken n ts ps)

pub view_set : (ts : List Bool) (ps : List Param) (i : ℕ) (p : Param) → values_view (set ts i true) (set ps i p) ≡ set (values_view ts ps) i (Some p)
view_set [] ps i p = refl
view_set (t ∷ ts) [] zero p = refl
view_set (t ∷ ts) [] (suc i) p = refl
view_set (t ∷ ts) (q ∷ ps) zero p = refl
view_set (t ∷ ts) (q ∷ ps) (suc i) p = ap (λ l. value_if t q ∷ l) (view_set ts ps i p)

pub taken_is : (ts : List Bool) (ps : List Param) (i : ℕ) → length ts ≡ length ps → get_or ts i false ≡ was_taken (values_view ts ps) i
taken_is [] ps i same = refl
taken_is (t ∷ ts) [] i same = absurd (omega arith)
taken_is (true ∷ ts) (p ∷ ps) zero same = refl
taken_is (false ∷ ts) (p ∷ ps) zero same = refl
taken_is (t ∷ ts) (p ∷ ps) (suc i) same = taken_is ts ps i (omega arith)

pub taken_past : (ts : List Bool) (ps : List Param) (i : ℕ) → length ts ≤ i → was_taken (values_view ts ps) i ≡ false
taken_past [] ps i past = refl
taken_past (t ∷ ts) [] i past = refl
taken_past (t ∷ ts) (p ∷ ps) zero past = absurd (omega arith)
taken_past (t ∷ ts) (p ∷ ps) (suc i) past = taken_past ts ps i (omega arith)

-- ---- a value that is taken

pub value_replaced : (vs : List (Option Param)) (i : ℕ) (p : Param) → i < length vs → set vs i (Some p) ≡ with_value vs i p
value_replaced [] i p inside = absurd (omega arith)
value_replaced (v ∷ vs) zero p inside = refl
value_replaced (v ∷ vs) (suc i) p inside = ap (λ l. v ∷ l) (value_replaced vs i p (omega arith))

value_alone : (i : ℕ) (p : Param) → replicate i None ++ Some p ∷ [] ≡ with_value [] i p
value_alone zero p = refl
value_alone (suc i) p = ap (λ l. None ∷ l) (value_alone i p)

pub value_added : (vs : List (Option Param)) (i n : ℕ) (p : Param) → length vs + n ≡ i → (vs ++ replicate n None) ++ Some p ∷ [] ≡ with_value vs i p
value_added [] i n p past = let e : n ≡ i = omega arith in rw e (value_alone i p)
value_added (v ∷ vs) zero n p past = absurd (omega arith)
value_added (v ∷ vs) (suc i) n p past = ap (λ l. v ∷ l) (value_added vs i n p (omega arith))

-- ---- the same for the values `vs` that contracts see

pub seen_length : (ts : List Bool) (ps : List Param) (vs : List (Option Param)) → length ts ≡ length ps → values_view ts ps ≡ vs → length vs ≡ length ps
seen_length ts ps vs same view = rw (← view) (view_length ts ps same ∙ same)

pub seen_known : (ts : List Bool) (ps : List Param) (vs : List (Option Param)) (k : ℕ) → length ts ≡ length ps → values_view ts ps ≡ vs → k ≡ leading ts → k ≡ length (known_values vs)
seen_known ts ps vs k same view known = rw (← view) (known ∙ sym (known_length ts ps same))

pub seen_front : (ts : List Bool) (ps xs : List Param) (vs : List (Option Param)) (k : ℕ) → length ts ≡ length ps → values_view ts ps ≡ vs → k ≡ leading ts → xs ≡ ps → take k xs ≡ known_values vs
seen_front ts ps xs vs k same view known read = rw (read, ← view, known) (known_front ts ps same)

pub front_length : (ts : List Bool) (ps xs : List Param) (k : ℕ) → length ts ≡ length ps → k ≡ leading ts → xs ≡ ps → k ≡ length (take k xs)
front_length ts ps xs k same known read =
    let within : k ≤ length ps = omega (arith, leading_within ts) in
    rw (read, length-take k ps) (omega arith)

pub seen_past : (ts : List Bool) (ps : List Param) (vs : List (Option Param)) (i : ℕ) → values_view ts ps ≡ vs → length ts ≤ i → false ≡ was_taken vs i
seen_past ts ps vs i view past = rw (← view) (sym (taken_past ts ps i past))

seen_asks : (vs : List (Option Param)) (k : ℕ) → 0 < length vs → k ≡ length (known_values vs) → nat_lt 32767 k ≡ asks_all vs
seen_asks [] k some known = absurd (omega arith)
seen_asks (v ∷ vs) k some known = rw known refl

pub asks_of : (ts : List Bool) (ps : List Param) (vs : List (Option Param)) (k : ℕ) → length ts ≡ length ps → values_view ts ps ≡ vs → k ≡ leading ts → 0 < length ps → nat_lt 32767 k ≡ asks_all vs
asks_of ts ps vs k same view known some =
    seen_asks vs k (omega (arith, seen_length ts ps vs same view)) (seen_known ts ps vs k same view known)

pub padded : {X E : Type 0} (r : Result (Unit {0}) E) (u : Unit {0}) (xs ys : List X) (n m l : ℕ) (v : X) → r ≡ Ok u → m ≡ length xs → length xs ≡ l → l ≤ n → ys ≡ (if is_ok r then take n xs ++ replicate (n - m) v else xs) → ys ≡ xs ++ replicate (n - l) v
padded r u xs ys n m l v ok len same past filled =
    let full : ys ≡ take n xs ++ replicate (n - m) v = rw ok at filled in
    let front : take n xs ≡ xs = take_all n xs (omega arith) in
    full ∙ (ap (λ k. take n xs ++ replicate (n - k) v) (len ∙ same) ∙ ap (λ f. f ++ replicate (n - l) v) front)

pub seen_padded : (ts us : List Bool) (ps qs : List Param) (vs : List (Option Param)) (n : ℕ) (p : Param) → length ts ≡ length ps → values_view ts ps ≡ vs → us ≡ ts ++ replicate n false → qs ≡ ps ++ replicate n p
    → values_view us qs ≡ vs ++ replicate n None
seen_padded ts us ps qs vs n p same view marks params =
    rw (marks, params, ← view) (view_appended ts (replicate n false) ps (replicate n p) same ∙ ap (λ l. values_view ts ps ++ l) (view_blank n p))

pub seen_pushed : (ts us : List Bool) (ps qs : List Param) (vs : List (Option Param)) (p : Param) → length ts ≡ length ps → values_view ts ps ≡ vs → us ≡ ts ++ true ∷ [] → qs ≡ ps ++ p ∷ []
    → values_view us qs ≡ vs ++ Some p ∷ []
seen_pushed ts us ps qs vs p same view marks params = rw (marks, params, ← view) (view_appended ts (true ∷ []) ps (p ∷ []) same)

pub seen_cut : (ts us : List Bool) (ps qs : List Param) (vs : List (Option Param)) (n : ℕ) → values_view ts ps ≡ vs → us ≡ take n ts → qs ≡ take n ps → values_view us qs ≡ take n vs
seen_cut ts us ps qs vs n view marks params = rw (marks, params, ← view) (view_taken n ts ps)

-- the marks after each of these
pub marks_padded : (ts us : List Bool) (k n : ℕ) → k ≡ leading ts → us ≡ ts ++ replicate n false → k ≡ leading us
marks_padded ts us k n known marks = rw marks (known ∙ sym (leading_padded ts n))

pub marks_pushed : (ts us xs : List Bool) (k : ℕ) → k ≡ leading ts → us ≡ ts ++ true ∷ [] → xs ≡ us → k ≤ leading xs
marks_pushed ts us xs k known marks read = rw (read, marks) (omega (arith, leading_pushed ts))

pub marks_cut : (ts us : List Bool) (ps : List Param) (vs : List (Option Param)) (n : ℕ) → length ts ≡ length ps → values_view ts ps ≡ vs → n ≤ length (known_values vs) → us ≡ take n ts → n ≡ leading us
marks_cut ts us ps vs n same view within marks =
    let known : length (known_values vs) ≡ leading ts = rw (← view) (known_length ts ps same) in
    rw marks (sym (leading_taken ts n (omega arith)))

pub length_padded : {X Y : Type 0} (ts us : List X) (ps qs : List Y) (n : ℕ) (t : X) (p : Y) → length ts ≡ length ps → us ≡ ts ++ replicate n t → qs ≡ ps ++ replicate n p → length us ≡ length qs
length_padded ts us ps qs n t p same marks params =
    rw (marks, params) (omega (arith, same, length-append ts (replicate n t), length-append ps (replicate n p), length-replicate n t, length-replicate n p))

pub length_cut : {X Y : Type 0} (ts us : List X) (ps qs : List Y) (n : ℕ) → length ts ≡ length ps → us ≡ take n ts → qs ≡ take n ps → length us ≡ length qs
length_cut ts us ps qs n same marks params = rw (marks, params) (omega (arith, same, length-take n ts, length-take n ps))

-- ---- a value at an index, put in two ways

pub padding_length : (vs us : List (Option Param)) (i : ℕ) → length vs ≤ i → us ≡ vs ++ replicate (i - length vs) None → length us ≡ i
padding_length vs us i past padding = rw padding (omega (arith, length-append vs (replicate (i - length vs) None), length-replicate {A = Option Param} (i - length vs) None))

pub put_inside : (vs us : List (Option Param)) (i j : ℕ) (p : Param) → i ≡ j → i < length vs → us ≡ set vs i (Some p) → us ≡ with_value vs j p
put_inside vs us i j p index inside replaced = replaced ∙ (value_replaced vs i p inside ∙ ap (λ k. with_value vs k p) index)

pub put_past : (vs us ws : List (Option Param)) (i j : ℕ) (p : Param) → i ≡ j → length vs ≤ i → us ≡ vs ++ replicate (i - length vs) None → ws ≡ us ++ Some p ∷ [] → ws ≡ with_value vs j p
put_past vs us ws i j p index past padding pushed =
    pushed ∙ (ap (λ l. l ++ Some p ∷ []) padding ∙ (value_added vs i (i - length vs) p (omega arith) ∙ ap (λ k. with_value vs k p) index))
