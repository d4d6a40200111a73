-- Values in options.
use Rattle.std.proofs.Common.{◌≡◌, Some, None}

pub nothing : {A : Type 0} (a : A) → None ≡ Some a → ⊥
nothing a is = cc is

pub same_value : {A : Type 0} (a b : A) → Some a ≡ Some b → a ≡ b
same_value a b is = cc is
