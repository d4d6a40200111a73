use Rattle.test_services.proofs.Computed.{worked_commands, worked_params, worked_flights}
use Rattle.test_services.proofs.worked_services.Goals as goal

pub returns-clause-commands : goal.returns-clause-commands
returns-clause-commands c = worked_commands

pub returns-clause-params : goal.returns-clause-params
returns-clause-params c = worked_params

pub returns-clause-flights : goal.returns-clause-flights
returns-clause-flights c = worked_flights
