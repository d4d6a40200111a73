use Rattle.std.proofs.Common.{◌≡◌, take, false}
use Rattle.std.specs.List.{list_any}
use Rattle.std.specs.Str.{bytes_eq}
use Rattle.field_layout.specs.Faults.{names_of, name_at}
use Rattle.field_layout.proofs.faults.repeats.Given as goal

abbrev pub invariant-loop-earlier : goal.invariant-loop-earlier
invariant-loop-earlier l = list_any (bytes_eq (name_at (names_of l.def) l.place)) (take l.earlier (names_of l.def)) ≡ false
