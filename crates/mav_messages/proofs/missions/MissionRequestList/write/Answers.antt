use Rattle.std.proofs.Common.{refl, arith, ap, length}
use Rattle.field_layout.specs.Definition.{all_fields}
use Rattle.mav_profile.specs.Profile.{mission_request_list_definition}
use Rattle.mav_messages.specs.Values.{mission_request_list_values}
use Rattle.mav_messages.proofs.Decoded.{fits_layout}
use Rattle.mav_messages.proofs.missions.MissionRequestList.write.Goals as goal

pub returns-clause-bytes : goal.returns-clause-bytes
returns-clause-bytes c =
    rw (c.put_u8-3.ensures.bytes, c.put_u8-2.ensures.bytes, c.put_u8.ensures.bytes, c.requires) refl

pub returns-clause-fits : goal.returns-clause-fits
returns-clause-fits c =
    fits_layout (all_fields mission_request_list_definition) (mission_request_list_values c.args.self.now)
    ((refl, c.put_u8.ensures.small), ((refl, c.put_u8-2.ensures.small), ((refl, c.put_u8-3.ensures.small), tt)))

pub put_u8-requires : goal.put_u8-requires
put_u8-requires c = omega (arith, ap length c.requires)

pub put_u8-requires-2 : goal.put_u8-requires-2
put_u8-requires-2 c = omega (arith, ap length c.requires)

pub put_u8-requires-3 : goal.put_u8-requires-3
put_u8-requires-3 c = omega (arith, ap length c.requires)
