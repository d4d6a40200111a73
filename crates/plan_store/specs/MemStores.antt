-- What a store in memory holds, what its next call returns, and what it holds then.
use Rattle.std.specs.Prelude.{◌==◌, ◌%◌, ℕ, Bool, false, List, Some, None, Ok, Err, if◌then◌else◌}
use Rattle.std.specs.declared.option.Option.{Option}
use Rattle.std.specs.declared.result.Result.{Result}
use Rattle.mav_ports.specs.Calls.{is_listed, call_after}
use Rattle.mav_ports.specs.Counts.{next_count}
use Rattle.plan_store.specs.declared.keepers.KeepFault.{KeepFault}
use Rattle.plan_store.specs.declared.keepers.KeepFault.TheVariants.{Store, NoMemory}

-- a store in memory between two calls
pub record MemStore : Type 0 where
  -- the bytes that it holds
  pub contents : List ℕ
  -- the numbers of the calls that fail
  pub fails : List ℕ
  -- the number of the next call
  pub call : Option ℕ
  -- how many calls failed by `Store`
  pub faults : ℕ

-- before the first call
abbrev pub store_from_start : List ℕ → List ℕ → MemStore
store_from_start contents fails =
    record { contents = contents; fails = fails; call = Some 0; faults = 0 }

-- the next call is listed to fail
abbrev pub fails_next : MemStore → Bool
fails_next s = is_listed s.fails s.call

-- the number of the next call is odd
abbrev pub is_odd_call : Option ℕ → Bool
is_odd_call None = false
is_odd_call (Some call) = call % 2 == 1

-- the store after a load
abbrev pub after_load : MemStore → MemStore
after_load s =
    if fails_next s then record s { call = call_after s.call; faults = next_count s.faults }
    else record s { call = call_after s.call }

-- what the next save returns, with enough memory
abbrev pub save_answer : MemStore → Result (Unit {0}) KeepFault
save_answer s = if fails_next s then Err Store else Ok tt

-- the store after a save of these bytes: one that fails by `Store` leaves the old contents if its number is even,
-- and the new ones if it is odd; want of memory leaves the old ones
abbrev pub after_save : MemStore → List ℕ → Result (Unit {0}) KeepFault → MemStore
after_save s bytes (Ok done) = record s { contents = bytes; call = call_after s.call }
after_save s bytes (Err Store) = record s {
  contents = if is_odd_call s.call then bytes else s.contents;
  call = call_after s.call;
  faults = next_count s.faults;
}
after_save s bytes (Err NoMemory) = record s { call = call_after s.call }
