-- Units of 10 microseconds since 2015-01-01 00:00 GMT (MAVLink guide, Message Signing: Timestamp Handling).
use Rattle.std.specs.Prelude.{◌-◌, ◌*◌, ◌/◌, ◌^◌, ◌&&◌, ℕ, nat_le, nat_lt, Some, None, if◌then◌else◌}
use Rattle.std.specs.declared.option.Option.{Option}

-- 2015-01-01 00:00 GMT, in nanoseconds since 1970: 16,436 days
abbrev pub start_of_2015 : ℕ
start_of_2015 = 16_436 * 86_400 * 1_000_000_000

-- the whole units from the start of 2015 to a time in nanoseconds since 1970: none before it, nor from 2 ^ 64 on
abbrev pub units_at : ℕ → Option ℕ
units_at nanos =
    let units = (nanos - start_of_2015) / 10_000 in
    if nat_le start_of_2015 nanos && nat_lt units (2 ^ 64) then Some units else None
