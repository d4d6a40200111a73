-- What one call of a store does to its contents and its count of faults.
use Rattle.std.specs.Prelude.{◌≡◌, ◌⊎◌, ℕ, List, ⊤, Some, None, Ok, Err}
use Rattle.std.specs.declared.option.Option.{Option}
use Rattle.std.specs.declared.result.Result.{Result}
use Rattle.mav_ports.specs.Counts.{Rose}
use Rattle.plan_store.specs.declared.keepers.KeepFault.{KeepFault}
use Rattle.plan_store.specs.declared.keepers.KeepFault.TheVariants.{Store, NoMemory}

-- these bytes in place of the contents, if the contents are known
abbrev pub replace_known : Option (List ℕ) → List ℕ → Option (List ℕ)
replace_known None bytes = None
replace_known (Some kept) bytes = Some bytes

-- the contents are those before, or these bytes
abbrev pub KeptOrReplaced : Option (List ℕ) → Option (List ℕ) → List ℕ → Type 0
KeptOrReplaced before now bytes = (now ≡ before) ⊎ (now ≡ replace_known before bytes)

-- the count of faults rises at the fault `Store` alone
abbrev pub CountsFault : KeepFault → ℕ → ℕ → Type 0
CountsFault Store before now = Rose before now
CountsFault NoMemory before now = now ≡ before

-- the same of a call's result
abbrev pub CountsStoreFault : {A : Type 0} → Result A KeepFault → ℕ → ℕ → Type 0
CountsStoreFault (Ok value) before now = now ≡ before
CountsStoreFault (Err fault) before now = CountsFault fault before now

-- the result isn't `Store`
abbrev pub IsNotStoreFault : {A : Type 0} → Result A KeepFault → Type 0
IsNotStoreFault (Ok value) = ⊤
IsNotStoreFault (Err Store) = ⊥
IsNotStoreFault (Err NoMemory) = ⊤
