use Rattle.std.proofs.Common.{map, take, sym, ap, ◌∙◌}
use Rattle.std.proofs.lemmas.List.{take-map}
use Rattle.dialect.specs.Spelled.{bytes_of}
use Rattle.dialect.proofs.name_set.NameSet.cut.Goals as goal

pub returns : goal.returns
returns c =
    ap (map bytes_of) c.truncate.ensures.keys
    ∙ sym (take-map bytes_of c.args.count c.self.inside.names.keys)
    ∙ ap (take c.args.count) c.self.view_is
