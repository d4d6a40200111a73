-- Calls of a port are numbered from 0, so that a list can name some of them.
use Rattle.std.specs.Prelude.{◌==◌, ◌+◌, ◌-◌, ◌^◌, ℕ, Bool, false, List, nat_lt, None, Some, if◌then◌else◌}
use Rattle.std.specs.List.{list_any}
use Rattle.std.specs.declared.option.Option.{Option}

-- the call has a number, and the list holds it
abbrev pub is_listed : List ℕ → Option ℕ → Bool
is_listed numbers None = false
is_listed numbers (Some call) = list_any (λ number. number == call) numbers

-- the number of the next call: there is none after 2 ^ 64 - 1, which is the last that a list can hold
abbrev pub call_after : Option ℕ → Option ℕ
call_after None = None
call_after (Some call) = if nat_lt call (2 ^ 64 - 1) then Some (call + 1) else None
