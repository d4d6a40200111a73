use Rattle.slot_store.proofs.Patches.{images_kept}
use Rattle.std.proofs.lemmas.Result.{err_from_is_err_and}
use Rattle.std.proofs.Common.{◌∙◌, ap, refl, sym, length}
use Rattle.slot_store.proofs.MemCalls.{mem_done, mem_failed, mem_refused}
use Rattle.slot_store.proofs.mem_disk.MemDiskDisk.read.Goals as goal

pub returns-in_err-begin-clause-bytes : goal.returns-in_err-begin-clause-bytes
returns-in_err-begin-clause-bytes c = rw (err_from_is_err_and c.from_residual.result c.from_residual.ensures.1).1 tt

pub returns-in_err-begin-clause-seen : goal.returns-in_err-begin-clause-seen
returns-in_err-begin-clause-seen c = ap (λ v. v.items) c.begin.ensures.bytes

pub returns-in_err-begin-clause-crash : goal.returns-in_err-begin-clause-crash
returns-in_err-begin-clause-crash c = images_kept c.args.self.now.bytes.items c.begin.new.self.bytes.items c.args.self.now.ranges.items c.begin.new.self.ranges.items (ap (λ v. v.items) c.begin.ensures.bytes) (ap (λ v. v.items) c.begin.ensures.ranges)

pub returns-clause-seen : goal.returns-clause-seen
returns-clause-seen c = ap (λ v. v.items) c.begin.ensures.bytes

pub returns-clause-crash : goal.returns-clause-crash
returns-clause-crash c = images_kept c.args.self.now.bytes.items c.begin.new.self.bytes.items c.args.self.now.ranges.items c.begin.new.self.ranges.items (ap (λ v. v.items) c.begin.ensures.bytes) (ap (λ v. v.items) c.begin.ensures.ranges)

pub returns-then-branch-clause-passes : goal.returns-then-branch-clause-passes
returns-then-branch-clause-passes c = mem_failed c.args.self.now c.begin.new.self c.fault.new.self c.fault.result c.in_ok-begin.ensures.past c.begin.ensures.bytes c.in_ok-begin.ensures.faults c.begin.ensures.call (c.begin.ensures.listed, c.begin.ensures.stop) c.fault.ensures

pub returns-clause-passes : goal.returns-clause-passes
returns-clause-passes c = mem_done c.args.self.now c.begin.new.self (c.begin.new.self) c.in_ok-begin.ensures.past refl (ap (λ v. length v.items) c.begin.ensures.bytes) c.in_ok-begin.ensures.faults c.begin.ensures.call (sym c.in_ok-begin.ensures.fails ∙ c.if-branch.false) (c.begin.ensures.listed, c.begin.ensures.stop)

pub returns-in_err-begin-clause-passes : goal.returns-in_err-begin-clause-passes
returns-in_err-begin-clause-passes c = rw (err_from_is_err_and c.from_residual.result c.from_residual.ensures.1).1 (mem_refused c.args.self.now c.begin.new.self _ c.in_err-begin.ensures.past_err c.begin.ensures.bytes c.begin.ensures.ranges c.in_err-begin.ensures.faults c.begin.ensures.call (c.begin.ensures.listed, c.begin.ensures.stop))
