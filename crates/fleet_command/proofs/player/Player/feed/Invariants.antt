use Rattle.std.proofs.Common.{◌≡◌, ◌≤◌, ◌+◌, ◌++◌, List, ℕ, Bool, take}
use Rattle.std.specs.declared.option.Option.{Option}
use Rattle.fleet_command.specs.Plays.{Reading, budget}
use Rattle.fleet_command.proofs.player.Player.feed.Given as goal

abbrev pub invariant-loop-byte : goal.invariant-loop-byte
invariant-loop-byte g l = record {
  reading : (key : List ℕ) (frames : Bool) (taken : List ℕ) (before : Option (List ℕ)) → Reading key frames taken l.initial.self.world l.initial.self.number l.initial.self.line.items before (g.K.Sink.sent l.initial.out)
      → Reading key frames (taken ++ take l.byte-index l.piece) l.self.world l.self.number l.self.line.items before (g.K.Sink.sent l.out);
  spends : budget l.self.number l.self.line.items + l.byte-index ≤ budget l.initial.self.number l.initial.self.line.items;
  faults : g.K.Sink.faults l.out ≡ g.K.Sink.faults l.initial.out;
}
