use Rattle.std.proofs.Common.{sym, subst}
use Rattle.mav_sign.specs.Endpoints.{HasProfile}
use Rattle.mav_nodes.proofs.Tables.{profile_known}
use Rattle.mav_nodes.proofs.link.profile_extras.Goals as goal

pub returns-clause-profile : goal.returns-clause-profile
returns-clause-profile c = subst HasProfile (sym c.profile_extras.ensures) profile_known
