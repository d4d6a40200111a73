-- What a caller of the readers of plans hands on.
use Rattle.std.proofs.Common.{◌≡◌, Result, Err, List, [], ◌∷◌, ℕ, ◌==◌, true, false, length, refl, sym, ap, ◌∙◌, arith}
use Rattle.std.specs.Prelude.{IsErrOf}
use Rattle.std.proofs.lemmas.Bool.Decides.{nat_tests}
use Rattle.plan_image.specs.declared.faults.KeptFault.{KeptFault}
use Rattle.plan_image.specs.declared.faults.KeptFault.TheVariants.{BadKept}

-- a fault of the whole is that of the part that was read
pub bad_carried : {A B : Type 0} (r : Result A KeptFault) (x y : KeptFault) → r ≡ Err y → y ≡ x → IsErrOf r BadKept → IsErrOf {T = B} (Err x) BadKept
bad_carried r x y is same bad =
    let e : y ≡ BadKept = cc in
    ap (λ f. Err f) (sym same ∙ e)

-- whether bytes are left
pub no_bytes : (bytes : List ℕ) → true ≡ (length bytes == 0) → bytes ≡ []
no_bytes [] none = refl
no_bytes (b ∷ bytes) none = absurd (grind (arith, nat_tests))

pub some_bytes : (bytes : List ℕ) → false ≡ (length bytes == 0) → bytes ≡ [] → ⊥
some_bytes bytes some none = let same : length bytes ≡ 0 = ap length none in grind (arith, nat_tests)
