use Rattle.std.proofs.Common.{◌≡◌, ◌<◌, ◌≤◌, ◌+◌, ◌*◌, [], ℕ, List, length, false}
use Rattle.std.specs.Io.KnownBytes.{prepend_known}
use Rattle.decode_command.specs.Tellings.{most_input_bytes, most_load, ToldAll}
use Rattle.decode_command.proofs.running.run_pieces.Given as goal

abbrev pub invariant-loop-count : goal.invariant-loop-count
invariant-loop-count g l = record {
  same : g.T.Teller.telling l.teller ≡ g.T.Teller.telling l.initial.teller;
  load : g.T.Teller.load l.teller + 3 * l.left ≤ most_load;
  room : g.T.Teller.held l.teller < 288;
  empty : l.text.items ≡ [];
  buf : length l.buf ≡ 65536;
  told : (taken : List ℕ) × (g.S.Source.left l.initial.main ≡ prepend_known taken (g.S.Source.left l.main)) × (length taken + l.left ≡ most_input_bytes)
      × ToldAll (g.T.Teller.telling l.initial.teller) (g.T.Teller.has_told l.teller) false taken l.text.items (g.K.Sink.sent l.initial.out) (g.K.Sink.sent l.out);
  faults : g.S.Source.faults l.main ≡ g.S.Source.faults l.initial.main;
  idles : g.S.Source.idles l.initial.main ≤ g.S.Source.idles l.main;
  refusals : g.K.Sink.faults l.out ≡ g.K.Sink.faults l.initial.out;
}

abbrev pub decreases-loop-count : goal.decreases-loop-count
decreases-loop-count g l = l.left
