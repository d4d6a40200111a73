-- What each call of a disk in memory does beside its own work.
use Rattle.std.proofs.Common.{◌≡◌, arith, false, Ok, Err, length, refl, sym, subst, ap}
use Rattle.mav_ports.specs.Calls.{call_after}
use Rattle.mav_ports.specs.Counts.{Rose, next_count}
use Rattle.slot_store.specs.MemDisks.{IsRecorded, fails_at}
use Rattle.slot_store.specs.MemCalls.{MemCall}
use Rattle.slot_store.specs.declared.disks.DiskFault.{DiskFault}
use Rattle.slot_store.specs.declared.mem_disk.MemDisk.{MemDisk}
use Rattle.slot_store.proofs.Past.{elapses, elapses_kept}

-- it was begun and is done
pub mem_done : (old mid new : MemDisk) → IsRecorded old.bytes.items old.ranges.items old.past.items mid.past.items → new.past ≡ mid.past → length new.bytes.items ≡ length old.bytes.items
    → new.faults ≡ old.faults → new.call ≡ call_after old.call → fails_at old.fails.items old.stop old.call ≡ false → (new.fails ≡ old.fails) × (new.stop ≡ old.stop)
    → MemCall (Ok (tt {0})) old new
mem_done old mid new recorded past extent faults call listed stays = record {
  time = elapses old.past.items mid.past.items new.past.items old.bytes.items new.bytes.items old.ranges.items new.ranges.items recorded (ap (λ v. v.items) past);
  extent = extent;
  faults = faults;
  call = call;
  listed = listed;
  stays = stays;
}

-- it was begun and fails
pub mem_failed : (old mid new : MemDisk) (fault : DiskFault) → IsRecorded old.bytes.items old.ranges.items old.past.items mid.past.items → mid.bytes ≡ old.bytes → mid.faults ≡ old.faults
    → mid.call ≡ call_after old.call → (mid.fails ≡ old.fails) × (mid.stop ≡ old.stop) → new ≡ record mid { faults = next_count mid.faults }
    → MemCall {A = Unit {0}} (Err fault) old new
mem_failed old mid new fault recorded bytes faults call stays is = subst (λ d. MemCall {A = Unit {0}} (Err fault) old d) (sym is) (record {
  time = elapses old.past.items mid.past.items mid.past.items old.bytes.items mid.bytes.items old.ranges.items mid.ranges.items recorded refl;
  extent = ap (λ v. length v.items) bytes;
  faults = subst (λ n. Rose old.faults (next_count n)) (sym faults) (omega arith);
  call = call;
  listed = tt;
  stays = stays;
})

-- it wasn't begun
pub mem_refused : (old new : MemDisk) (fault : DiskFault) → new.past.items ≡ old.past.items → new.bytes ≡ old.bytes → new.ranges ≡ old.ranges → Rose old.faults new.faults
    → new.call ≡ call_after old.call → (new.fails ≡ old.fails) × (new.stop ≡ old.stop)
    → MemCall {A = Unit {0}} (Err fault) old new
mem_refused old new fault past bytes ranges faults call stays = record {
  time = elapses_kept old.past.items new.past.items old.bytes.items new.bytes.items old.ranges.items new.ranges.items past (ap (λ v. v.items) bytes) (ap (λ v. v.items) ranges);
  extent = ap (λ v. length v.items) bytes;
  faults = faults;
  call = call;
  listed = tt;
  stays = stays;
}
