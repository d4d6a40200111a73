use Rattle.log_rows.proofs.replay_rows.Rows.at_hand.Goals as goal

pub returns-then-count-gt0-clause-gives : goal.returns-then-count-gt0-clause-gives
returns-then-count-gt0-clause-gives c = record {
  within = (c.if-count-gt0.true, c.give-count.ensures.within);
  left = c.give-count.ensures.left;
  waits = λ e. absurd cc;
  over = λ e. absurd cc;
}
