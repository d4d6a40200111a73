-- Why a list of parameters is no server's, in the order of the tests.
use Rattle.std.specs.Prelude.{◌≡◌, if◌then◌else◌, nat_lt, List, length, position, Option, Some, None, option_map}
use Rattle.param_proto.specs.declared.params.Param.{Param}
use Rattle.param_proto.specs.declared.faults.ParamFault.{ParamFault}
use Rattle.param_proto.specs.declared.faults.ParamFault.TheVariants.{TooMany, BadType, TwiceId, NoMemory}
use Rattle.param_proto.specs.Server.{most_params, untyped, twice_named}

-- too many, or the first with a type that is none
abbrev pub shape_fault : List Param → Option ParamFault
shape_fault params = if nat_lt most_params (length params) then Some (TooMany (length params))
    else option_map (λ at. BadType at) (position untyped params)

-- the first with the id of an earlier one
abbrev pub name_fault : List Param → Option ParamFault
name_fault params = option_map (λ at. TwiceId at) (twice_named params)

-- the first of two
abbrev pub first_of : Option ParamFault → Option ParamFault → Option ParamFault
first_of (Some fault) later = Some fault
first_of None later = later

abbrev pub fault_of : List Param → Option ParamFault
fault_of params = first_of (shape_fault params) (name_fault params)

-- of the ids alone, or want of memory
abbrev pub IsNameFault : List Param → ParamFault → Type 0
IsNameFault params (TooMany count) = ⊥
IsNameFault params (BadType at) = ⊥
IsNameFault params (TwiceId at) = twice_named params ≡ Some at
IsNameFault params NoMemory = Unit {0}

-- memory is needed only to find the ids
abbrev pub IsFault : List Param → ParamFault → Type 0
IsFault params (TooMany count) = fault_of params ≡ Some (TooMany count)
IsFault params (BadType at) = fault_of params ≡ Some (BadType at)
IsFault params (TwiceId at) = fault_of params ≡ Some (TwiceId at)
IsFault params NoMemory = shape_fault params ≡ None
