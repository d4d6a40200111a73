-- The answers that wait at a server: the values between two indices.
use Rattle.std.proofs.Common.{◌≡◌, ℕ, suc, ◌+◌, ◌-◌, ◌<◌, ◌≤◌, List, [], ◌∷◌, length, drop, get_or, Some, refl, ap, sym, ◌∙◌, arith}
use Rattle.std.proofs.lemmas.List.{drop_more, get_or_default}
use Rattle.std.proofs.lemmas.Option.{slice_get-get_or, slice_get_past}
use Rattle.mav_messages.specs.declared.messages.Message.{Message}
use Rattle.param_proto.specs.declared.params.Param.{Param}
use Rattle.param_proto.specs.Server.{value_message, value_of, value_at, next_answer, without_next, taken_from, serves}
use Rattle.param_proto.specs.Views.{values_between}

pub next_between : (ps : List Param) (next end : ℕ) (p : Param) → next < end → end ≤ length ps → p ≡ get_or ps next p → values_between ps next end ≡ value_message (length ps) next p ∷ values_between ps (next + 1) end
next_between ps next end p before within read =
    let more : end - next ≡ suc (end - (next + 1)) = omega arith in
    let here : drop next ps ≡ p ∷ drop (next + 1) ps = drop_more ps next p (omega arith) ∙ ap (λ q. q ∷ drop (next + 1) ps) (sym read) in
    rw (more, here) refl

pub none_between : (ps : List Param) (next end : ℕ) → end ≤ next → values_between ps next end ≡ []
none_between ps next end over = let none : end - next ≡ 0 = omega arith in rw none refl

pub one_between : (ps : List Param) (at : ℕ) → at < length ps → values_between ps at (at + 1) ≡ value_at ps (Some at)
one_between [] at inside = absurd (omega arith)
one_between (p ∷ ps) at inside =
    let all = p ∷ ps in
    let q : Param = get_or all at p in
    next_between all at (at + 1) q (omega arith) (omega arith) (get_or_default all at p q (omega arith))
    ∙ (ap (λ l. value_message (length all) at q ∷ l) (none_between all (at + 1) (at + 1) (omega arith)) ∙ sym (ap (value_of (length all) at) (slice_get-get_or all at p inside)))

pub none_at : (ps : List Param) (at : ℕ) → length ps ≤ at → [] ≡ value_at ps (Some at)
none_at ps at past = sym (ap (value_of (length ps) at) (slice_get_past ps at past))

-- ---- the same for the state `s` that contracts see

pub one_waits : (ps : List Param) (at : ℕ) → at < length ps → serves ps (values_between ps at (at + 1)) ≡ serves ps (value_at ps (Some at))
one_waits ps at inside = ap (serves ps) (one_between ps at inside)

pub next_taken : (ps : List Param) (next end n : ℕ) (p : Param) (m : Message) → next < end → end ≤ length ps → p ≡ get_or ps next p → n ≡ length ps → m ≡ value_message n next p → Some m ≡ next_answer (values_between ps next end)
next_taken ps next end n p m before within read count is =
    ap (λ x. Some x) (is ∙ ap (λ k. value_message k next p) count) ∙ sym (ap next_answer (next_between ps next end p before within read))

pub rest_waits : (ps : List Param) (next end : ℕ) (p : Param) → next < end → end ≤ length ps → p ≡ get_or ps next p → serves ps (values_between ps (next + 1) end) ≡ taken_from (serves ps (values_between ps next end))
rest_waits ps next end p before within read = ap (λ ms. serves ps (without_next ms)) (sym (next_between ps next end p before within read))
