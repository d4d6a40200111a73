-- The set's keys are those that it had and the new name.
use Rattle.std.proofs.Common.{◌≡◌, rules, map, ap, ◌∙◌}
use Rattle.dialect.specs.Spelled.{bytes_of}
use Rattle.dialect.proofs.Keys.{names-insert_key}
use Rattle.dialect.proofs.name_set.NameSet.add.Goals as goal

pub returns-clause-added : goal.returns-clause-added
returns-clause-added c =
    let copied : c.in_ok-to_vec.field-0.items ≡ c.args.name.now = search rules in
    ap (map bytes_of) c.in_ok-insert.ensures.keys
    ∙ names-insert_key c.self.inside.names.keys c.in_ok-to_vec.field-0 c.args.name.now c.args.self.now copied c.self.view_is c.requires
