use Rattle.std.proofs.Common.{sym, ap, ◌∙◌}
use Rattle.std.specs.List.{list_any}
use Rattle.std.specs.Str.{bytes_eq}
use Rattle.dialect.specs.Spelled.{bytes_of}
use Rattle.dialect.proofs.Keys.{list_any-map}
use Rattle.dialect.proofs.name_set.NameSet.has.Goals as goal

pub returns : goal.returns
returns c =
    c.contains.ensures
    ∙ sym (list_any-map bytes_of (bytes_eq c.args.name.now) c.self.inside.names.keys)
    ∙ ap (list_any (bytes_eq c.args.name.now)) c.self.view_is
