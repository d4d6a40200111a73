use Rattle.mav_nodes.proofs.Sendings.{heartbeats_fit}
use Rattle.mav_nodes.proofs.laws.heartbeats_fit.Goals as goal

pub returns : goal.returns
returns c = heartbeats_fit
