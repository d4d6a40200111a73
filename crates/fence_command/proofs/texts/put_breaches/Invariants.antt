use Rattle.std.proofs.Common.{◌≡◌, ◌++◌, drop, string_bytes}
use Rattle.fence_command.specs.FenceText.{breaches_text}
use Rattle.fence_command.proofs.texts.put_breaches.Given as goal

-- what was written, and what is left
abbrev pub invariant-loop-breach : goal.invariant-loop-breach
invariant-loop-breach l = string_bytes l.text ++ breaches_text (drop l.breach-index l.breaches) ≡ string_bytes l.initial.text ++ breaches_text l.breaches
