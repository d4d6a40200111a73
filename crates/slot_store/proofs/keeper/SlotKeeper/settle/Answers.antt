use Rattle.slot_store.proofs.Moments.{started}
use Rattle.slot_store.proofs.keeper.SlotKeeper.settle.Goals as goal

pub returns-in-Some-clause-read : goal.returns-in-Some-clause-read
returns-in-Some-clause-read g c = λ observable.
    let disk = c.args.self.now.disk in
    let s = g.D.Disk.seen disk in
    let sound = c.args.self.now.sound observable in
    let durable = sound.durable c.in-Some.headers c.in-Some.is in
    record { alone = durable.0; read = durable.1; own = sound.never_foreign s (g.met.D.Disk.seen_may_be_left disk observable) }

pub returns-in-Some-clause-any_moment : goal.returns-in-Some-clause-any_moment
returns-in-Some-clause-any_moment g c =
    let disk = g.D.Disk in let old = c.args.self.now.disk in
    started disk.moment disk.left_since old (disk.may_leave old) (λ x left. g.met.D.Disk.only_now old x left)
