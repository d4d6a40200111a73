use Rattle.mav_sign.proofs.ForgettingLaw.{admits_the_same, learns_alike, stays_forgetful}
use Rattle.mav_sign.proofs.laws.forgetting.Goals as goal

pub returns-clause-same : goal.returns-clause-same
returns-clause-same c = admits_the_same

pub returns-clause-stays : goal.returns-clause-stays
returns-clause-stays c = stays_forgetful

pub returns-clause-learns : goal.returns-clause-learns
returns-clause-learns c = learns_alike
