-- Lists of fields and texts as they are kept.
use Rattle.std.specs.Prelude.{ℕ, List}
use Rattle.std.specs.Global.{Vec}
use Rattle.dialect.specs.Shape.{FieldText}

abbrev pub items_of : Vec FieldText → List FieldText
items_of fields = fields.items

abbrev pub bytes_of : Vec ℕ → List ℕ
bytes_of text = text.items
