use Rattle.std.proofs.Common.{◌∙◌, sym, ap}
use Rattle.slot_store.specs.Layout.{are_foreign}
use Rattle.slot_store.proofs.keeper.SlotKeeper.open.Goals as goal

pub returns-in-Ok-clause-foreign : goal.returns-in-Ok-clause-foreign
returns-in-Ok-clause-foreign g c = λ observable is.
    let s = g.D.Disk.seen c.look.new.disk in (
      c.look.ensures.crash s (g.met.D.Disk.seen_may_be_left c.look.new.disk observable),
      c.in-Ok.ensures.durable,
      ap are_foreign (sym (c.in-Ok.ensures.headers observable)) ∙ sym c.are_foreign.ensures ∙ c.if-are_foreign.true,
    )

pub returns-in-Ok-2-clause-opened : goal.returns-in-Ok-2-clause-opened
returns-in-Ok-2-clause-opened g c = λ observable.
    let s = g.D.Disk.seen c.look.new.disk in (
      c.look.ensures.crash s (g.met.D.Disk.seen_may_be_left c.look.new.disk observable),
      c.in-Ok.ensures.durable,
      ap are_foreign (sym (c.in-Ok.ensures.headers observable)) ∙ sym c.are_foreign.ensures ∙ c.if-are_foreign.false,
    )

pub returns-in-Err-clause-any_moment_fault : goal.returns-in-Err-clause-any_moment_fault
returns-in-Err-clause-any_moment_fault g c = c.look.ensures.any_moment

pub returns-in-Ok-clause-any_moment_fault : goal.returns-in-Ok-clause-any_moment_fault
returns-in-Ok-clause-any_moment_fault g c = c.look.ensures.any_moment

pub returns-in-Ok-2-clause-any_moment : goal.returns-in-Ok-2-clause-any_moment
returns-in-Ok-2-clause-any_moment g c = c.look.ensures.any_moment
