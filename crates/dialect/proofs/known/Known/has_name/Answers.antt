use Rattle.std.proofs.Common.{ap, ◌∙◌}
use Rattle.std.specs.List.{list_any}
use Rattle.std.specs.Str.{bytes_eq}
use Rattle.dialect.specs.Grammar.{has_name}
use Rattle.mav_profile.specs.Messages.{name_of}
use Rattle.dialect.proofs.Keys.{list_any-map}
use Rattle.dialect.proofs.known.Known.has_name.Goals as goal

pub returns : goal.returns
returns c =
    c.has.ensures
    ∙ ap (list_any (bytes_eq c.args.name.now)) c.self.invariant
    ∙ list_any-map name_of (bytes_eq c.args.name.now) c.self.inside.layouts
    ∙ ap (λ defs. has_name defs c.args.name.now) c.self.view_is
