use Rattle.std.proofs.Common.{ℕ, List, length, ◌∙◌}
use Rattle.std.proofs.lemmas.Result.{err_from_is_err_and}
use Rattle.slot_store.specs.Disks.{SameOutside}
use Rattle.slot_store.proofs.Moments.{started, goes_on}
use Rattle.slot_store.proofs.Runs.{same_image, torn, still_written, counts_on}
use Rattle.slot_store.proofs.writing.put.Goals as goal

pub returns-in_err-write-clause-any_moment : goal.returns-in_err-write-clause-any_moment
returns-in_err-write-clause-any_moment g c = λ alone.
    let disk = g.D.Disk in let old = c.args.disk.now in
    goes_on disk.moment disk.left_since old old c.write.new.self (SameOutside c.args.at (length c.args.bytes.now) (disk.seen old)) (disk.may_leave c.write.new.self)
    (started disk.moment disk.left_since old _ (λ x left. same_image c.args.at _ (disk.seen old) x (alone x (g.met.D.Disk.only_now old x left))))
    c.write.ensures.time (λ x left. torn c.args.at _ (disk.seen old) x (disk.may_leave old) alone (c.write.ensures.crash x left))

pub returns-in_err-write-clause-written : goal.returns-in_err-write-clause-written
returns-in_err-write-clause-written g c = λ seen. rw (err_from_is_err_and c.from_residual.result c.from_residual.ensures.1).1 tt

pub returns-in_err-write-clause-durable : goal.returns-in_err-write-clause-durable
returns-in_err-write-clause-durable g c = rw (err_from_is_err_and c.from_residual.result c.from_residual.ensures.1).1 tt

pub returns-in_err-write-clause-faults : goal.returns-in_err-write-clause-faults
returns-in_err-write-clause-faults g c = rw (err_from_is_err_and c.from_residual.result c.from_residual.ensures.1).1 c.in_err-write.ensures.faults

pub returns-clause-any_moment : goal.returns-clause-any_moment
returns-clause-any_moment g c = λ alone.
    let disk = g.D.Disk in let old = c.args.disk.now in
    let P = SameOutside c.args.at (length c.args.bytes.now) (disk.seen old) in
    let kept = λ (x : List ℕ) (left : disk.may_leave c.write.new.self x). torn c.args.at (length c.args.bytes.now) (disk.seen old) x (disk.may_leave old) alone (c.write.ensures.crash x left) in
    goes_on disk.moment disk.left_since old c.write.new.self c.sync.new.self P (disk.may_leave c.sync.new.self)
    (goes_on disk.moment disk.left_since old old c.write.new.self P (disk.may_leave c.write.new.self)
    (started disk.moment disk.left_since old P (λ x left. same_image c.args.at _ (disk.seen old) x (alone x (g.met.D.Disk.only_now old x left))))
    c.write.ensures.time kept)
    c.sync.ensures.time (λ x left. kept x (c.sync.ensures.crash x left))

pub returns-clause-written : goal.returns-clause-written
returns-clause-written g c = λ seen. still_written c.sync.result c.args.at c.args.bytes.now (g.D.Disk.seen c.args.disk.now) _ _ (c.in_ok-write.ensures.written seen) c.sync.ensures.seen

pub returns-clause-extent : goal.returns-clause-extent
returns-clause-extent g c = c.sync.ensures.extent ∙ c.write.ensures.extent

pub returns-clause-faults : goal.returns-clause-faults
returns-clause-faults g c = counts_on c.sync.result (g.D.Disk.faults c.args.disk.now) _ _ c.in_ok-write.ensures.faults c.sync.ensures.faults
