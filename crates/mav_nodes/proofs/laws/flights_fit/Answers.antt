use Rattle.mav_nodes.proofs.Sendings.{flights_fit}
use Rattle.mav_nodes.proofs.laws.flights_fit.Goals as goal

pub returns : goal.returns
returns c = flights_fit
