use Rattle.decode_command.specs.Parses.{incremental_is}
use Rattle.decode_command.proofs.laws.incremental_events_are_the_parse.Goals as goal

pub returns : goal.returns
returns c extras bytes left events h = incremental_is extras events left bytes h
