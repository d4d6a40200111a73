use Rattle.std.proofs.Common.{sym, ◌∙◌}
use Rattle.command_proto.proofs.LastLists.{read_last, read_nothing}
use Rattle.command_proto.proofs.last_commands.LastCommands.of.Goals as goal

pub returns-in_err-at : goal.returns-in_err-at
returns-in_err-at c =
    c.from_residual.ensures
    ∙ sym (rw (← c.self.view_is) (read_nothing c.self.inside.entries.items c.deref.result.now c.args.stream c.deref.ensures.value (sym c.place.ensures ∙ c.in_err-at.was)))

pub returns : goal.returns
returns c =
    rw (← c.self.view_is)
    (read_last c.self.inside.entries.items c.deref.result.now c.args.stream c.in_ok-at.at c.index.result.now c.deref.ensures.value (sym c.place.ensures ∙ c.in_ok-at.was) c.index.ensures)
