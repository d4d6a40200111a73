use Rattle.std.proofs.Common.{◌≡◌, map, string_bytes, drop}
use Rattle.command_line.specs.Lines.{with_rest}
use Rattle.command_line.proofs.reading.Reader.take_all.Given as goal

abbrev pub invariant-loop-word : goal.invariant-loop-word
invariant-loop-word l =
    with_rest l.self.place l.self.settings.items l.self.words.items (map string_bytes (drop l.word-index l.words))
    ≡ with_rest l.initial.self.place l.initial.self.settings.items l.initial.self.words.items (map string_bytes l.words)
