use Rattle.std.proofs.Common.{refl, arith, ap, length}
use Rattle.field_layout.specs.Definition.{all_fields}
use Rattle.mav_profile.specs.Profile.{mission_current_definition}
use Rattle.mav_messages.specs.Values.{mission_current_values}
use Rattle.mav_messages.proofs.Decoded.{fits_layout}
use Rattle.mav_messages.proofs.missions.MissionCurrent.write.Goals as goal

pub returns-clause-bytes : goal.returns-clause-bytes
returns-clause-bytes c =
    rw (c.put_u16.ensures.bytes, c.requires) refl

pub returns-clause-fits : goal.returns-clause-fits
returns-clause-fits c =
    fits_layout (all_fields mission_current_definition) (mission_current_values c.args.self.now)
    ((refl, c.put_u16.ensures.small), tt)

pub put_u16-requires : goal.put_u16-requires
put_u16-requires c = omega (arith, ap length c.requires)
