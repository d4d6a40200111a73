use Rattle.std.proofs.Common.{refl, rules, arith, ap, length}
use Rattle.field_layout.specs.Definition.{all_fields}
use Rattle.mav_profile.specs.Profile.{command_ack_definition}
use Rattle.mav_messages.specs.Values.{command_ack_values}
use Rattle.std.specs.Int.{w32}
use mir.Val.{SFits}
use Rattle.mav_messages.proofs.Decoded.{fits_layout, passed_word}
use Rattle.mav_messages.proofs.commands.CommandAck.write.Goals as goal

pub returns-clause-bytes : goal.returns-clause-bytes
returns-clause-bytes c =
    let m = c.args.self.now in
    let result_param2 : SFits w32 m.result_param2 = search rules in
    rw (c.put_u8-4.ensures.bytes, c.put_u8-3.ensures.bytes, c.put_u32.ensures.bytes, c.cast_unsigned.ensures, passed_word w32 m.result_param2 result_param2, c.put_u8-2.ensures.bytes, c.put_u8.ensures.bytes, c.put_u16.ensures.bytes, c.requires) refl

pub returns-clause-fits : goal.returns-clause-fits
returns-clause-fits c =
    fits_layout (all_fields command_ack_definition) (command_ack_values c.args.self.now)
    ((refl, c.put_u16.ensures.small), ((refl, c.put_u8.ensures.small), ((refl, c.put_u8-2.ensures.small), ((refl, search rules), ((refl, c.put_u8-3.ensures.small), ((refl, c.put_u8-4.ensures.small), tt))))))

pub put_u16-requires : goal.put_u16-requires
put_u16-requires c = omega (arith, ap length c.requires)

pub put_u8-requires : goal.put_u8-requires
put_u8-requires c = omega (arith, ap length c.requires)

pub put_u8-requires-2 : goal.put_u8-requires-2
put_u8-requires-2 c = omega (arith, ap length c.requires)

pub put_u32-requires : goal.put_u32-requires
put_u32-requires c = omega (arith, ap length c.requires)

pub put_u8-requires-3 : goal.put_u8-requires-3
put_u8-requires-3 c = omega (arith, ap length c.requires)

pub put_u8-requires-4 : goal.put_u8-requires-4
put_u8-requires-4 c = omega (arith, ap length c.requires)
