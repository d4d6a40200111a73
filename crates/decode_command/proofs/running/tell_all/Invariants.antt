use Rattle.std.proofs.Common.{◌≡◌, ◌≤◌, ℕ, Bool, List}
use Rattle.std.specs.declared.option.Option.{Option}
use Rattle.decode_command.specs.Tellings.{Tells}
use Rattle.decode_command.proofs.running.tell_all.Given as goal

abbrev pub invariant-loop-span : goal.invariant-loop-span
invariant-loop-span g l = record {
  same : g.T.Teller.telling l.teller ≡ g.T.Teller.telling l.initial.teller;
  load : g.T.Teller.load l.teller ≤ g.T.Teller.load l.initial.teller;
  told : (ended : Bool) (taken : List ℕ) (before : Option (List ℕ))
      → Tells (g.T.Teller.has_told l.initial.teller) ended taken l.initial.text.items before (g.K.Sink.sent l.initial.out)
      → Tells (g.T.Teller.has_told l.teller) ended taken l.text.items before (g.K.Sink.sent l.out);
  refusals : g.K.Sink.faults l.out ≡ g.K.Sink.faults l.initial.out;
}

abbrev pub decreases-loop-span : goal.decreases-loop-span
decreases-loop-span g l = g.T.Teller.held l.teller
