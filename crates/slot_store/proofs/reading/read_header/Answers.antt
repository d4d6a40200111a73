use Rattle.std.proofs.Common.{◌≡◌, ◌∙◌, ◌+◌, ◌==◌, sym, ap, arith}
use Rattle.std.specs.Int.{w64, from_le_bytes}
use Rattle.slot_store.specs.Disks.{bytes_at}
use Rattle.slot_store.specs.Layout.{start_of}
use Rattle.slot_store.proofs.Images.{one_of, part_of}
use Rattle.std.proofs.lemmas.Result.{err_from_is_err_and}
use Rattle.slot_store.proofs.Runs.{one_call}
use Rattle.slot_store.proofs.reading.read_header.Goals as goal

pub returns-clause-header : goal.returns-clause-header
returns-clause-header g c = λ observable.
    let s = g.D.Disk.seen c.args.disk.now in
    let at = start_of c.args.slot in
    let out = c.read.new.out in
    let is : bytes_at at 10 s ≡ out = sym (c.in_ok-read.ensures.bytes observable ∙ ap (λ k. bytes_at k 10 s) c.start.ensures) in
    let flag = sym (one_of at 10 0 at s out (omega arith) is (omega arith)) in
    let generation = sym (one_of at 10 1 (at + 1) s out (omega arith) is (omega arith)) in
    let size = c.u64_of.ensures ∙ ap (λ l. from_le_bytes w64 l) (sym (part_of at 10 2 8 (at + 2) s out (omega arith) is (omega arith))) in
    λ i. record { is_open = flag i == 165; generation = generation i; length = size i }

pub returns-in_err-read-clause-any_moment : goal.returns-in_err-read-clause-any_moment
returns-in_err-read-clause-any_moment g c =
    let disk = g.D.Disk in let old = c.args.disk.now in
    one_call disk.moment disk.left_since old c.read.new.self (disk.may_leave old) (disk.may_leave c.read.new.self) (λ x left. g.met.D.Disk.only_now old x left) c.read.ensures.time c.read.ensures.crash

pub returns-clause-any_moment : goal.returns-clause-any_moment
returns-clause-any_moment g c =
    let disk = g.D.Disk in let old = c.args.disk.now in
    one_call disk.moment disk.left_since old c.read.new.self (disk.may_leave old) (disk.may_leave c.read.new.self) (λ x left. g.met.D.Disk.only_now old x left) c.read.ensures.time c.read.ensures.crash

pub returns-in_err-read-clause-header : goal.returns-in_err-read-clause-header
returns-in_err-read-clause-header g c = λ seen. rw (err_from_is_err_and c.from_residual.result c.from_residual.ensures.1).1 tt

pub returns-in_err-read-clause-faults : goal.returns-in_err-read-clause-faults
returns-in_err-read-clause-faults g c = rw (err_from_is_err_and c.from_residual.result c.from_residual.ensures.1).1 c.in_err-read.ensures.faults
