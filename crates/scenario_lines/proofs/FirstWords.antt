-- The first word of a line, as a text.
use Rattle.std.proofs.Common.{◌≡◌, ℕ, ◌||◌, Bool, true, false, List, refl, sym}
use Rattle.std.specs.Str.{bytes_eq}
use Rattle.std.proofs.lemmas.Slice.Eq.{bytes_eq-Decides}

pub spelled : (word text : List ℕ) → true ≡ bytes_eq word text → word ≡ text
spelled word text h = (bytes_eq-Decides word text).0 (sym h)

pub by_or : (a b : Bool) (P : Type 0) → (a ≡ true → P) → (b ≡ true → P) → (a || b) ≡ true → P
by_or true b P f g h = f refl
by_or false b P f g h = g h
