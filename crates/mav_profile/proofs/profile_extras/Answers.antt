-- The published bytes are those that the definitions give, by computation.
use Rattle.x25_check.specs.Check as check
use Rattle.mav_profile.proofs.profile_extras.Goals as goal

pub returns : goal.returns
unfolding check.after_byte
returns c = c.profile.ensures
