-- The words of a field, as they are kept.
use Rattle.std.specs.Prelude.{ℕ, List}
use Rattle.std.specs.Global.{Vec}

abbrev pub items_of : Vec ℕ → List ℕ
items_of words = words.items
