use Rattle.mav_text.proofs.ShownValues.{shows_represented_values}
use Rattle.mav_text.proofs.laws.shows_represented_values.Goals as goal

pub returns : goal.returns
returns c = shows_represented_values
