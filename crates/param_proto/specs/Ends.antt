-- What a client returns of a step and of a tick.
use Rattle.std.specs.Prelude.{length, Option, Some, None}
use Rattle.mav_messages.specs.declared.messages.Message.{Message}
use Rattle.param_proto.specs.declared.ends.ParamEnd.{ParamEnd}
use Rattle.param_proto.specs.declared.ends.ParamEnd.TheVariants.{One, All}
use Rattle.param_proto.specs.declared.ends.ParamTick.{ParamTick}
use Rattle.param_proto.specs.declared.ends.ParamTick.TheVariants.{Quiet, Again, NoAnswer}
use Rattle.param_proto.specs.Client.{idle_limit, ParamsEnd, One_value, All_values, No_answer}

-- no step ends without an answer
abbrev pub end_told : Option ParamsEnd → Option ParamEnd
end_told None = None
end_told (Some (One_value p)) = Some (One p)
end_told (Some (All_values values)) = Some (All (length values))
end_told (Some No_answer) = None

abbrev pub sent_told : Option Message → ParamTick
sent_told None = Quiet
sent_told (Some m) = Again m

-- a tick ends an operation only without an answer
abbrev pub tick_told : Option ParamsEnd → Option Message → ParamTick
tick_told None answer = sent_told answer
tick_told (Some end) answer = NoAnswer idle_limit
