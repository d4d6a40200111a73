use Rattle.std.proofs.Common.{ℕ, [], ◌∷◌, inl, inr, refl, sym, ◌∙◌, subst}
use Rattle.std.specs.Prelude.{OnOk}
use Rattle.slot_store.specs.Disks.{SameOutside, Writes, LeavesOnly}
use Rattle.slot_store.specs.Layout.{start_of, MayClose}
use Rattle.slot_store.proofs.Moments.{started, weaker}
use Rattle.slot_store.proofs.Runs.{closed_if, same_image}
use Rattle.slot_store.proofs.writing.close.Goals as goal

pub returns-then-is_open-clause-any_moment : goal.returns-then-is_open-clause-any_moment
returns-then-is_open-clause-any_moment g c = λ alone.
    let disk = g.D.Disk in let old = c.args.disk.now in let at = start_of c.args.slot in
    weaker disk.moment disk.left_since old c.put.new.disk (SameOutside at 1 (disk.seen old)) (MayClose at c.args.is_open (disk.seen old))
    (subst (λ (n : ℕ). LeavesOnly disk.moment disk.left_since old c.put.new.disk (SameOutside n 1 (disk.seen old))) c.start.ensures (c.put.ensures.any_moment alone))
    (λ x torn. inr (c.if-is_open.true, torn))

pub returns-then-is_open-clause-closed : goal.returns-then-is_open-clause-closed
returns-then-is_open-clause-closed g c = λ seen says.
    let disk = g.D.Disk in
    closed_if c.put.result (start_of c.args.slot) (disk.seen c.args.disk.now) (disk.seen c.put.new.disk)
    (subst (λ (n : ℕ). OnOk c.put.result (Writes n (0 ∷ []) (disk.seen c.args.disk.now) (disk.seen c.put.new.disk))) c.start.ensures (c.put.ensures.written seen))

pub returns-then-is_open-clause-durable : goal.returns-then-is_open-clause-durable
returns-then-is_open-clause-durable g c = λ alone. c.put.ensures.durable

pub returns-else-is_open-clause-any_moment : goal.returns-else-is_open-clause-any_moment
returns-else-is_open-clause-any_moment g c = λ alone.
    let disk = g.D.Disk in let old = c.args.disk.now in
    started disk.moment disk.left_since old (MayClose (start_of c.args.slot) c.args.is_open (disk.seen old)) (λ x left. inl (alone x (g.met.D.Disk.only_now old x left)))

pub returns-else-is_open-clause-closed : goal.returns-else-is_open-clause-closed
returns-else-is_open-clause-closed g c = λ seen says. record { outside = same_image (start_of c.args.slot) 1 _ _ refl; closed = sym says ∙ c.if-is_open.false }
