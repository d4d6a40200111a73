use Rattle.std.proofs.Common.{◌≡◌, ◌++◌, drop, string_bytes}
use Rattle.field_layout.specs.CharText.{chars_text}
use Rattle.fleet_report.proofs.params.put_chars.Given as goal

abbrev pub invariant-loop-byte : goal.invariant-loop-byte
invariant-loop-byte l = string_bytes l.text ++ chars_text (drop l.byte-index l.id) ≡ string_bytes l.initial.text ++ chars_text l.id
