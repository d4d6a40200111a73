use Rattle.std.proofs.Common.{◌≡◌, List, ℕ, Bool, [], ◌≤◌}
use Rattle.std.specs.Io.KnownBytes.{prepend_known}
use Rattle.fleet_command.specs.Plays.{Reading, budget}
use Rattle.fleet_command.proofs.playing.play.Given as goal

abbrev pub invariant-loop-count : goal.invariant-loop-count
invariant-loop-count g l = record {
  reading : (key : List ℕ) (frames : Bool) → Reading key frames [] l.initial.player.world l.initial.player.number l.initial.player.line.items (g.K.Sink.sent l.initial.out) (g.K.Sink.sent l.initial.out)
      → (taken : List ℕ) × (g.S.Source.left l.initial.main ≡ prepend_known taken (g.S.Source.left l.main))
      × Reading key frames taken l.player.world l.player.number l.player.line.items (g.K.Sink.sent l.initial.out) (g.K.Sink.sent l.out);
  faults : g.S.Source.faults l.main ≡ g.S.Source.faults l.initial.main;
  idles : g.S.Source.idles l.initial.main ≤ g.S.Source.idles l.main;
  refusals : g.K.Sink.faults l.out ≡ g.K.Sink.faults l.initial.out;
}

abbrev pub decreases-loop-count : goal.decreases-loop-count
decreases-loop-count g l = budget l.player.number l.player.line.items
