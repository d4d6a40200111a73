-- Bytes may be checked in parts.
use Rattle.std.proofs.Common.{◌≡◌, ℕ, List, [], ◌∷◌, ◌++◌, refl}
use Rattle.x25_check.specs.Check.{after_byte, check_from}

pub check_from-append : (register : ℕ) (xs ys : List ℕ) → check_from register (xs ++ ys) ≡ check_from (check_from register xs) ys
check_from-append register [] ys = refl
check_from-append register (x ∷ xs) ys = check_from-append (after_byte register x) xs ys
