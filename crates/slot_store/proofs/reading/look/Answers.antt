use Rattle.std.proofs.Common.{ℕ, subst, ◌∙◌}
use Rattle.std.proofs.lemmas.Result.{err_from_is_err_and}
use Rattle.mav_ports.specs.Counts.{Rose}
use Rattle.slot_store.proofs.Moments.{one_after_another}
use Rattle.slot_store.proofs.Runs.{one_call, both_read}
use Rattle.slot_store.proofs.reading.look.Goals as goal

pub returns-clause-any_moment : goal.returns-clause-any_moment
returns-clause-any_moment g c =
    let disk = g.D.Disk in let old = c.args.disk.now in let P = disk.may_leave old in
    let synced = one_call disk.moment disk.left_since old c.sync.new.self P (disk.may_leave c.sync.new.self) (λ x left. g.met.D.Disk.only_now old x left) c.sync.ensures.time c.sync.ensures.crash in
    let first = one_after_another disk.moment disk.left_since old c.sync.new.self c.read_header.new.disk P (disk.may_leave c.sync.new.self) P synced c.read_header.ensures.any_moment (λ x p. p) (λ x p. c.sync.ensures.crash x p) in
    one_after_another disk.moment disk.left_since old c.read_header.new.disk c.read_header-2.new.disk P (disk.may_leave c.read_header.new.disk) P first c.read_header-2.ensures.any_moment (λ x p. p) (λ x p. c.sync.ensures.crash x (c.read_header.ensures.crash x p))

pub returns-in_err-sync-clause-headers : goal.returns-in_err-sync-clause-headers
returns-in_err-sync-clause-headers g c = λ seen. rw (err_from_is_err_and c.from_residual.result c.from_residual.ensures.1).1 tt

pub returns-in_err-sync-clause-durable : goal.returns-in_err-sync-clause-durable
returns-in_err-sync-clause-durable g c = rw (err_from_is_err_and c.from_residual.result c.from_residual.ensures.1).1 tt

pub returns-in_err-sync-clause-any_moment : goal.returns-in_err-sync-clause-any_moment
returns-in_err-sync-clause-any_moment g c =
    let disk = g.D.Disk in let old = c.args.disk.now in let P = disk.may_leave old in
    let synced = one_call disk.moment disk.left_since old c.sync.new.self P (disk.may_leave c.sync.new.self) (λ x left. g.met.D.Disk.only_now old x left) c.sync.ensures.time c.sync.ensures.crash in
    synced

pub returns-in_err-sync-clause-faults : goal.returns-in_err-sync-clause-faults
returns-in_err-sync-clause-faults g c = rw (err_from_is_err_and c.from_residual.result c.from_residual.ensures.1).1 c.in_err-sync.ensures.faults

pub returns-in_err-read_header-clause-headers : goal.returns-in_err-read_header-clause-headers
returns-in_err-read_header-clause-headers g c = λ seen. rw (err_from_is_err_and c.from_residual-in_err-read_header.result c.from_residual-in_err-read_header.ensures.1).1 tt

pub returns-in_err-read_header-clause-durable : goal.returns-in_err-read_header-clause-durable
returns-in_err-read_header-clause-durable g c = rw (err_from_is_err_and c.from_residual-in_err-read_header.result c.from_residual-in_err-read_header.ensures.1).1 tt

pub returns-in_err-read_header-clause-any_moment : goal.returns-in_err-read_header-clause-any_moment
returns-in_err-read_header-clause-any_moment g c =
    let disk = g.D.Disk in let old = c.args.disk.now in let P = disk.may_leave old in
    let synced = one_call disk.moment disk.left_since old c.sync.new.self P (disk.may_leave c.sync.new.self) (λ x left. g.met.D.Disk.only_now old x left) c.sync.ensures.time c.sync.ensures.crash in
    one_after_another disk.moment disk.left_since old c.sync.new.self c.read_header.new.disk P (disk.may_leave c.sync.new.self) P synced c.read_header.ensures.any_moment (λ x p. p) (λ x p. c.sync.ensures.crash x p)

pub returns-in_err-read_header-clause-faults : goal.returns-in_err-read_header-clause-faults
returns-in_err-read_header-clause-faults g c = rw (err_from_is_err_and c.from_residual-in_err-read_header.result c.from_residual-in_err-read_header.ensures.1).1 (subst (λ (n : ℕ). Rose n (g.D.Disk.faults c.read_header.new.disk)) c.in_ok-sync.ensures.faults c.in_err-read_header.ensures.faults)

pub returns-in_err-read_header-2-clause-headers : goal.returns-in_err-read_header-2-clause-headers
returns-in_err-read_header-2-clause-headers g c = λ seen. rw (err_from_is_err_and c.from_residual-in_err-read_header-2.result c.from_residual-in_err-read_header-2.ensures.1).1 tt

pub returns-in_err-read_header-2-clause-durable : goal.returns-in_err-read_header-2-clause-durable
returns-in_err-read_header-2-clause-durable g c = rw (err_from_is_err_and c.from_residual-in_err-read_header-2.result c.from_residual-in_err-read_header-2.ensures.1).1 tt

pub returns-in_err-read_header-2-clause-any_moment : goal.returns-in_err-read_header-2-clause-any_moment
returns-in_err-read_header-2-clause-any_moment g c =
    let disk = g.D.Disk in let old = c.args.disk.now in let P = disk.may_leave old in
    let synced = one_call disk.moment disk.left_since old c.sync.new.self P (disk.may_leave c.sync.new.self) (λ x left. g.met.D.Disk.only_now old x left) c.sync.ensures.time c.sync.ensures.crash in
    let first = one_after_another disk.moment disk.left_since old c.sync.new.self c.read_header.new.disk P (disk.may_leave c.sync.new.self) P synced c.read_header.ensures.any_moment (λ x p. p) (λ x p. c.sync.ensures.crash x p) in
    one_after_another disk.moment disk.left_since old c.read_header.new.disk c.read_header-2.new.disk P (disk.may_leave c.read_header.new.disk) P first c.read_header-2.ensures.any_moment (λ x p. p) (λ x p. c.sync.ensures.crash x (c.read_header.ensures.crash x p))

pub returns-in_err-read_header-2-clause-faults : goal.returns-in_err-read_header-2-clause-faults
returns-in_err-read_header-2-clause-faults g c = rw (err_from_is_err_and c.from_residual-in_err-read_header-2.result c.from_residual-in_err-read_header-2.ensures.1).1 (subst (λ (n : ℕ). Rose n (g.D.Disk.faults c.read_header-2.new.disk)) (c.in_ok-read_header.ensures.faults ∙ c.in_ok-sync.ensures.faults) c.in_err-read_header-2.ensures.faults)

pub returns-clause-headers : goal.returns-clause-headers
returns-clause-headers g c = λ seen. both_read _ _ (g.D.Disk.seen c.sync.new.self) (g.D.Disk.seen c.read_header.new.disk) _ (c.in_ok-read_header.ensures.header seen) (c.in_ok-read_header-2.ensures.header seen) c.read_header.ensures.seen c.read_header-2.ensures.seen

pub returns-clause-faults : goal.returns-clause-faults
returns-clause-faults g c = c.in_ok-read_header-2.ensures.faults ∙ (c.in_ok-read_header.ensures.faults ∙ c.in_ok-sync.ensures.faults)
