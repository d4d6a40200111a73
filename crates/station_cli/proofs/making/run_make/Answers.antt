use Rattle.std.proofs.Common.{subst, map, string_bytes}
use Rattle.command_line.specs.Lines.{NumberSays}
use Rattle.station_cli.proofs.making.run_make.Goals as goal

pub returns-clause-makes : goal.returns-clause-makes
returns-clause-makes g c =
    let line = c.args.line.now in
    let said = subst (λ d. NumberSays d (map string_bytes line.words.items) line.number) c.requires.command c.requires.says.number_is in
    (line.number, said.0, said.1, c.make.ensures.before_status)
