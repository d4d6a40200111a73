use Rattle.std.proofs.Common.{◌≡◌, ◌++◌, drop, string_bytes}
use Rattle.fleet_report.specs.Texts.{params_text}
use Rattle.fleet_report.proofs.params.put_params.Given as goal

abbrev pub invariant-loop-param : goal.invariant-loop-param
invariant-loop-param l =
    string_bytes l.text ++ params_text l.station (drop l.param-index l.params) ≡ string_bytes l.initial.text ++ params_text l.station l.params
