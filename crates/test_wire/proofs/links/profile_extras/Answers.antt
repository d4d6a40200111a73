use Rattle.std.proofs.Common.{ap, sym, ◌∙◌, subst}
use Rattle.mav_sign.specs.Endpoints.{HasProfile}
use Rattle.mav_profile.specs.Messages.{extras_of}
use Rattle.test_wire.proofs.Profiles.{profile_known}
use Rattle.test_wire.proofs.links.profile_extras.Goals as goal

pub returns : goal.returns
returns c =
    subst HasProfile (sym (c.in_ok-extras.ensures ∙ (c.extras.ensures ∙ ap extras_of c.in_ok-profile.ensures))) profile_known
