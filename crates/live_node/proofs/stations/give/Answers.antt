use Rattle.live_node.proofs.Giving.{given, given_end, given_counts, not_given, other_end, other_counts}
use Rattle.live_node.proofs.stations.give.Goals as goal

pub returns-in-Ok-clause-gives : goal.returns-in-Ok-clause-gives
returns-in-Ok-clause-gives g c = λ link time.
    given c.args.ended c.write_given.result c.in-Ok.bytes link _ _ time c.in-Ok.is c.write_given.ensures.end c.write_given.ensures.printed

pub returns-in-Ok-clause-end : goal.returns-in-Ok-clause-end
returns-in-Ok-clause-end g c = λ h. given_end c.write_given.result c.write_given.ensures.end

pub returns-in-Ok-clause-faults : goal.returns-in-Ok-clause-faults
returns-in-Ok-clause-faults g c = λ pb pa ob f.
    given_counts c.args.ended c.write_given.result c.in-Ok.bytes pb pa ob _ _ c.in-Ok.is c.write_given.ensures.end c.write_given.ensures.faults f

pub returns-in-Err-clause-gives : goal.returns-in-Err-clause-gives
returns-in-Err-clause-gives g c = λ link time. not_given c.args.ended c.in-Err.end link _ time c.in-Err.is

pub returns-in-Err-clause-end : goal.returns-in-Err-clause-end
returns-in-Err-clause-end g c = λ h. other_end c.args.ended c.in-Err.end c.in-Err.is h

pub returns-in-Err-clause-faults : goal.returns-in-Err-clause-faults
returns-in-Err-clause-faults g c = λ pb pa ob f. other_counts c.args.ended c.in-Err.end pb pa ob _ c.in-Err.is f
