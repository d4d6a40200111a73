use Rattle.std.proofs.Common.{◌+◌, length, ap, sym, ◌∙◌}
use Rattle.std.proofs.lemmas.List.{take_at}
use Rattle.slot_store.specs.Disks.{bytes_at}
use Rattle.std.proofs.lemmas.Result.{err_from_is_err_and}
use Rattle.slot_store.proofs.Moments.{started}
use Rattle.slot_store.proofs.Runs.{one_call}
use Rattle.slot_store.proofs.reading.read_stored.Goals as goal

pub returns-in_err-bytes-clause-any_moment : goal.returns-in_err-bytes-clause-any_moment
returns-in_err-bytes-clause-any_moment g c =
    let disk = g.D.Disk in let old = c.args.disk.now in
    started disk.moment disk.left_since old (disk.may_leave old) (λ x left. g.met.D.Disk.only_now old x left)

pub returns-in_err-read-clause-any_moment : goal.returns-in_err-read-clause-any_moment
returns-in_err-read-clause-any_moment g c =
    let disk = g.D.Disk in let old = c.args.disk.now in
    one_call disk.moment disk.left_since old c.read.new.self (disk.may_leave old) (disk.may_leave c.read.new.self) (λ x left. g.met.D.Disk.only_now old x left) c.read.ensures.time c.read.ensures.crash

pub returns-clause-any_moment : goal.returns-clause-any_moment
returns-clause-any_moment g c =
    let disk = g.D.Disk in let old = c.args.disk.now in
    one_call disk.moment disk.left_since old c.read.new.self (disk.may_leave old) (disk.may_leave c.read.new.self) (λ x left. g.met.D.Disk.only_now old x left) c.read.ensures.time c.read.ensures.crash

pub returns-in_err-bytes-clause-bytes : goal.returns-in_err-bytes-clause-bytes
returns-in_err-bytes-clause-bytes g c = λ seen. rw (err_from_is_err_and c.from_residual.result c.from_residual.ensures.1).1 tt

pub returns-in_err-read-clause-bytes : goal.returns-in_err-read-clause-bytes
returns-in_err-read-clause-bytes g c = λ seen. rw (err_from_is_err_and c.from_residual-in_err-read.result c.from_residual-in_err-read.ensures.1).1 tt

pub returns-clause-bytes : goal.returns-clause-bytes
returns-clause-bytes g c = λ seen.
    let count = c.deref_mut.ensures.len ∙ (c.in_ok-bytes.ensures.len ∙ c.min.ensures) in
    take_at c.read.new.out _ c.in_ok-bytes.bytes.len (c.read.auto.out ∙ (ap length c.deref_mut.ensures.value ∙ sym c.in_ok-bytes.bytes.ok.0))
    ∙ (c.in_ok-read.ensures.bytes seen ∙ (λ i. bytes_at (c.start.ensures i + 10) (count i) (g.D.Disk.seen c.args.disk.now)))
