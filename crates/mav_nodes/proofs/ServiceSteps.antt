-- Steps of services, part by part.
use Rattle.std.proofs.Common.{◌≡◌, ℕ, zero, suc, ◌+◌, ◌-◌, ◌<◌, List, [], ◌∷◌, ◌++◌, length, Some, refl, sym, ap, ◌∙◌, arith, append_assoc}
use Rattle.mav_messages.specs.declared.messages.Message.{Message}
use Rattle.param_proto.specs.declared.params.Param.{Param}
use Rattle.param_proto.specs.Server.{next_answer, without_next}
use Rattle.mav_nodes.specs.Services.{user_param, user_params_from}

-- ---- parameters of users, one after another

users_next : (left n : ℕ) → 0 < left → user_params_from left n ≡ user_param n ∷ user_params_from (left - 1) (n + 1)
users_next zero n h = absurd (omega (arith, h))
users_next (suc left) n h = let e : suc left - 1 ≡ left = omega arith in rw e refl

pub one_user : (before : List Param) (n : ℕ) → n < 37 → (before ++ user_param n ∷ []) ++ user_params_from (37 - (n + 1)) (n + 1) ≡ before ++ user_params_from (37 - n) n
one_user before n h =
    append_assoc before (user_param n ∷ []) (user_params_from (37 - (n + 1)) (n + 1))
    ∙ ap (λ (l : List Param). before ++ l) (let e : 37 - (n + 1) ≡ 37 - n - 1 = omega arith in rw e (sym (users_next (37 - n) n (omega (arith, h)))))

-- ---- answers that wait, one after another

pub fewer : (waiting : List Message) (answer : Message) → next_answer waiting ≡ Some answer → length (without_next waiting) < length waiting
fewer [] answer h = absurd (cc)
fewer (m ∷ ms) answer h = omega arith
