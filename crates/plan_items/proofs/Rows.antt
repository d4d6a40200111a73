-- A table of tests, of which the first that fails decides.
use Rattle.std.proofs.Common.{◌≡◌, Bool, true, false, not, if◌then◌else◌, refl, sym, ◌∙◌}

-- a row whose test fails gives the result
pub row_fails : {X : Type 0} {answer : X} (rest : X) (test known : Bool) → known ≡ test → known ≡ false → answer ≡ (if not test then answer else rest)
row_fails rest true known e f = absurd (let bad : false ≡ true = sym f ∙ e in cc)
row_fails rest false known e f = refl

-- a row whose test holds leaves it to the next
pub row_holds : {X : Type 0} {answer rest : X} (other : X) (test known : Bool) → known ≡ test → known ≡ true → answer ≡ rest → answer ≡ (if not test then other else rest)
row_holds other true known e f next = next
row_holds other false known e f next = absurd (let bad : true ≡ false = sym f ∙ e in cc)
