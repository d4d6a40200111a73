-- What each call of a disk in memory does beside its own work.
use Rattle.std.specs.Prelude.{◌≡◌, false, length, OnOk}
use Rattle.std.specs.declared.result.Result.{Result}
use Rattle.mav_ports.specs.Calls.{call_after}
use Rattle.slot_store.specs.Disks.{CountsDiskFault}
use Rattle.slot_store.specs.MemDisks.{TimePasses, fails_at}
use Rattle.slot_store.specs.declared.disks.DiskFault.{DiskFault}
use Rattle.slot_store.specs.declared.mem_disk.MemDisk.{MemDisk}

-- time passes, the call counts, and it fails where it is listed to
pub record MemCall {A : Type 0} (result : Result A DiskFault) (old new : MemDisk) : Type 0 where
  pub time : TimePasses old.bytes.items old.ranges.items old.past.items new.bytes.items new.ranges.items new.past.items
  pub extent : length new.bytes.items ≡ length old.bytes.items
  pub faults : CountsDiskFault result old.faults new.faults
  pub call : new.call ≡ call_after old.call
  pub listed : OnOk result (fails_at old.fails.items old.stop old.call ≡ false)
  pub stays : (new.fails ≡ old.fails) × (new.stop ≡ old.stop)
