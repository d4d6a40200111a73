use Rattle.std.proofs.Common.{refl, arith, ap, length}
use Rattle.field_layout.specs.Definition.{all_fields}
use Rattle.mav_profile.specs.Profile.{ping_definition}
use Rattle.mav_messages.specs.Values.{ping_values}
use Rattle.mav_messages.proofs.Decoded.{fits_layout}
use Rattle.mav_messages.proofs.nodes.Ping.write.Goals as goal

pub returns-clause-bytes : goal.returns-clause-bytes
returns-clause-bytes c =
    rw (c.put_u8-2.ensures.bytes, c.put_u8.ensures.bytes, c.put_u32.ensures.bytes, c.put_u64.ensures.bytes, c.requires) refl

pub returns-clause-fits : goal.returns-clause-fits
returns-clause-fits c =
    fits_layout (all_fields ping_definition) (ping_values c.args.self.now)
    ((refl, c.put_u64.ensures.small), ((refl, c.put_u32.ensures.small), ((refl, c.put_u8.ensures.small), ((refl, c.put_u8-2.ensures.small), tt))))

pub put_u64-requires : goal.put_u64-requires
put_u64-requires c = omega (arith, ap length c.requires)

pub put_u32-requires : goal.put_u32-requires
put_u32-requires c = omega (arith, ap length c.requires)

pub put_u8-requires : goal.put_u8-requires
put_u8-requires c = omega (arith, ap length c.requires)

pub put_u8-requires-2 : goal.put_u8-requires-2
put_u8-requires-2 c = omega (arith, ap length c.requires)
