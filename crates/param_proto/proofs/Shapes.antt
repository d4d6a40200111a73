-- A list without a fault.
use Rattle.std.proofs.Common.{◌≡◌, ◌≤◌, Bool, true, false, nat_lt, if◌then◌else◌, List, length, Option, Some, None, refl, arith}
use Rattle.std.proofs.lemmas.Bool.Decides.{nat_tests}
use Rattle.param_proto.specs.declared.params.Param.{Param}
use Rattle.param_proto.specs.declared.faults.ParamFault.{ParamFault}
use Rattle.param_proto.specs.declared.faults.ParamFault.TheVariants.{TooMany}
use Rattle.param_proto.specs.Faults.{name_fault, first_of, fault_of}

none_first : (b : Bool) (fault : ParamFault) (later last : Option ParamFault) → first_of (if b then Some fault else later) last ≡ None → b ≡ false
none_first true fault later last e = absurd (let wrong : Some fault ≡ None = e in cc)
none_first false fault later last e = refl

-- isn't too long
pub few_of : (ps : List Param) → fault_of ps ≡ None → length ps ≤ 1000
few_of ps none =
    let short : nat_lt 1000 (length ps) ≡ false = none_first (nat_lt 1000 (length ps)) (TooMany (length ps)) _ (name_fault ps) none in
    grind (arith, nat_tests)
