use Rattle.decode_command.specs.Parses.{final_is}
use Rattle.decode_command.proofs.laws.final_events_are_the_parse.Goals as goal

pub returns : goal.returns
returns c extras bytes events h = final_is extras events bytes h
