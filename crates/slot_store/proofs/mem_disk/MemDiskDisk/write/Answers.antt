use Rattle.std.proofs.lemmas.Result.{err_from_is_err_and}
use Rattle.std.proofs.Common.{ℕ, List, ◌≤◌, ◌+◌, ◌∙◌, length, ap, refl, sym, subst, arith}
use Rattle.slot_store.specs.Disks.{Tears, Writes}
use Rattle.slot_store.specs.MemDisks.{IsImage}
use Rattle.slot_store.proofs.Patches.{carried, tears_kept}
use Rattle.slot_store.specs.declared.mem_disk.MemDisk.{MemDisk}
use Rattle.slot_store.proofs.MemCalls.{mem_done, mem_failed, mem_refused}
use Rattle.slot_store.proofs.mem_disk.MemDiskDisk.write.Goals as goal

pub returns-in_default-clause-crash : goal.returns-in_default-clause-crash
returns-in_default-clause-crash c =
    let n = length c.args.bytes.now in
    let bytes = ap (λ v. v.items) c.begin.ensures.bytes in
    let ranges = ap (λ v. v.items) c.begin.ensures.ranges in
    let within : c.args.at + n ≤ length c.begin.new.self.bytes.items = omega (arith, c.requires, ap length bytes) in
    let torn = carried c.args.at n c.args.self.now.bytes.items c.begin.new.self.bytes.items c.args.self.now.ranges.items c.begin.new.self.ranges.items _ bytes ranges
    (c.mark.ensures.torn c.begin.new.self.bytes.items within) in
    subst (λ (d : MemDisk). Tears c.args.at n (IsImage c.args.self.now.bytes.items c.args.self.now.ranges.items) (IsImage d.bytes.items d.ranges.items)) (sym c.fault.ensures) torn

pub returns-in_err-fails-clause-crash : goal.returns-in_err-fails-clause-crash
returns-in_err-fails-clause-crash c =
    let old = c.args.self.now in let new = c.begin.new.self in
    tears_kept c.args.at (length c.args.bytes.now) old.bytes.items new.bytes.items old.ranges.items new.ranges.items (ap (λ v. v.items) c.begin.ensures.bytes) (ap (λ v. v.items) c.begin.ensures.ranges)

pub returns-in-Ok-clause-written : goal.returns-in-Ok-clause-written
returns-in-Ok-clause-written c = subst (λ (b : List ℕ). Writes c.args.at c.args.bytes.now b c.replace.new.held.items) (ap (λ v. v.items) c.begin.ensures.bytes) c.replace.ensures

pub returns-in-Ok-clause-crash : goal.returns-in-Ok-clause-crash
returns-in-Ok-clause-crash c =
    let n = length c.args.bytes.now in let mid = c.begin.new.self in
    let bytes = ap (λ v. v.items) c.begin.ensures.bytes in
    let within : c.args.at + n ≤ length mid.bytes.items = omega (arith, c.requires, ap length bytes) in
    carried c.args.at n c.args.self.now.bytes.items mid.bytes.items c.args.self.now.ranges.items mid.ranges.items _ bytes (ap (λ v. v.items) c.begin.ensures.ranges)
    (c.in-Ok.ensures.written mid.bytes.items c.replace.new.held.items within c.replace.ensures.outside)

pub returns-in_err-fails-clause-written : goal.returns-in_err-fails-clause-written
returns-in_err-fails-clause-written c = rw (err_from_is_err_and c.from_residual.result c.from_residual.ensures.1).1 tt

pub returns-in_default-clause-passes : goal.returns-in_default-clause-passes
returns-in_default-clause-passes c = mem_failed c.args.self.now (record c.begin.new.self { ranges = c.mark.new.ranges }) c.fault.new.self c.fault.result c.in_ok-fails.ensures.past c.begin.ensures.bytes c.in_ok-fails.ensures.faults c.begin.ensures.call (c.begin.ensures.listed, c.begin.ensures.stop) c.fault.ensures

pub returns-in-Ok-clause-passes : goal.returns-in-Ok-clause-passes
returns-in-Ok-clause-passes c = mem_done c.args.self.now c.begin.new.self (record c.begin.new.self { ranges = c.mark.new.ranges; bytes = c.replace.new.held }) c.in_ok-fails.ensures.past refl (c.replace.ensures.outside.size ∙ ap (λ v. length v.items) c.begin.ensures.bytes) c.in_ok-fails.ensures.faults c.begin.ensures.call (sym c.in_ok-fails.ensures.fails ∙ c.if-not-fails.true) (c.begin.ensures.listed, c.begin.ensures.stop)

pub returns-in_err-fails-clause-passes : goal.returns-in_err-fails-clause-passes
returns-in_err-fails-clause-passes c = rw (err_from_is_err_and c.from_residual.result c.from_residual.ensures.1).1 (mem_refused c.args.self.now c.begin.new.self _ c.in_err-fails.ensures.past_err c.begin.ensures.bytes c.begin.ensures.ranges c.in_err-fails.ensures.faults c.begin.ensures.call (c.begin.ensures.listed, c.begin.ensures.stop))
