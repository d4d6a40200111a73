use Rattle.std.proofs.Common.{refl}
use Rattle.mav_profile.specs.Profile.{mission_current_definition}
use Rattle.mav_messages.proofs.Decoded.{represents}
use Rattle.mav_messages.proofs.missions.MissionCurrent.read.Goals as goal

pub returns : goal.returns
returns c =
    let payload = c.args.payload.now in
    represents mission_current_definition payload _ c.fits-payload (rw (c.u16_at.ensures) refl)
