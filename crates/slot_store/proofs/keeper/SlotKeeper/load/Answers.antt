use Rattle.std.proofs.Common.{◌∙◌, refl, sym, ap}
use Rattle.slot_store.specs.Layout.{contents}
use Rattle.slot_store.specs.Crashes.{HoldsAsBefore}
use Rattle.slot_store.proofs.Moments.{if_ok, weaker, one_after_another}
use Rattle.slot_store.proofs.keeper.SlotKeeper.load.Goals as goal

pub returns-clause-loaded : goal.returns-clause-loaded
returns-clause-loaded g c = λ observable.
    let now = c.look.new.disk in
    let s = g.D.Disk.seen now in
    if_ok c.read_contents.result _ _ (c.read_contents.ensures.bytes observable (c.in_ok-headers.ensures.headers observable)) (λ bytes is. (
      (s, c.look.ensures.crash s (g.met.D.Disk.seen_may_be_left now observable), sym is),
      λ image left. ap contents (c.in_ok-headers.ensures.durable image (c.read_contents.ensures.crash image left)) ∙ sym is,
    ))

pub returns-clause-any_moment : goal.returns-clause-any_moment
returns-clause-any_moment g c = λ observable.
    let disk = g.D.Disk in let old = c.args.self.now.disk in let may = disk.may_leave old in
    let sound = c.args.self.now.sound observable in
    weaker disk.moment disk.left_since old c.read_contents.new.disk may (HoldsAsBefore may)
    (one_after_another disk.moment disk.left_since old c.look.new.disk c.read_contents.new.disk may (disk.may_leave c.look.new.disk) may c.look.ensures.any_moment c.read_contents.ensures.any_moment (λ x p. p) (λ x p. c.look.ensures.crash x p))
    (λ image left. (sound.never_foreign image left, (image, left, refl)))

pub returns-in_err-headers-clause-any_moment : goal.returns-in_err-headers-clause-any_moment
returns-in_err-headers-clause-any_moment g c = λ observable.
    let disk = g.D.Disk in let old = c.args.self.now.disk in let may = disk.may_leave old in
    let sound = c.args.self.now.sound observable in
    weaker disk.moment disk.left_since old c.look.new.disk may (HoldsAsBefore may) c.look.ensures.any_moment (λ image left. (sound.never_foreign image left, (image, left, refl)))
