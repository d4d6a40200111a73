use Rattle.std.proofs.Common.{refl, rules, arith, ap, length}
use Rattle.field_layout.specs.Definition.{all_fields}
use Rattle.mav_profile.specs.Profile.{global_position_int_definition}
use Rattle.mav_messages.specs.Values.{global_position_int_values}
use Rattle.std.specs.Int.{w16, w32}
use mir.Val.{SFits}
use Rattle.mav_messages.proofs.Decoded.{fits_layout, passed_word}
use Rattle.mav_messages.proofs.nodes.GlobalPositionInt.write.Goals as goal

pub returns-clause-bytes : goal.returns-clause-bytes
returns-clause-bytes c =
    let m = c.args.self.now in
    let lat : SFits w32 m.lat = search rules in
    let lon : SFits w32 m.lon = search rules in
    let alt : SFits w32 m.alt = search rules in
    let relative_alt : SFits w32 m.relative_alt = search rules in
    let vx : SFits w16 m.vx = search rules in
    let vy : SFits w16 m.vy = search rules in
    let vz : SFits w16 m.vz = search rules in
    rw (c.put_u16-4.ensures.bytes, c.put_u16-3.ensures.bytes, c.cast_unsigned-7.ensures, passed_word w16 m.vz vz, c.put_u16-2.ensures.bytes, c.cast_unsigned-6.ensures, passed_word w16 m.vy vy, c.put_u16.ensures.bytes, c.cast_unsigned-5.ensures, passed_word w16 m.vx vx, c.put_u32-5.ensures.bytes, c.cast_unsigned-4.ensures, passed_word w32 m.relative_alt relative_alt, c.put_u32-4.ensures.bytes, c.cast_unsigned-3.ensures, passed_word w32 m.alt alt, c.put_u32-3.ensures.bytes, c.cast_unsigned-2.ensures, passed_word w32 m.lon lon, c.put_u32-2.ensures.bytes, c.cast_unsigned.ensures, passed_word w32 m.lat lat, c.put_u32.ensures.bytes, c.requires) refl

pub returns-clause-fits : goal.returns-clause-fits
returns-clause-fits c =
    fits_layout (all_fields global_position_int_definition) (global_position_int_values c.args.self.now)
    ((refl, c.put_u32.ensures.small), ((refl, search rules), ((refl, search rules), ((refl, search rules), ((refl, search rules), ((refl, search rules), ((refl, search rules), ((refl, search rules), ((refl, c.put_u16-4.ensures.small), tt)))))))))

pub put_u32-requires : goal.put_u32-requires
put_u32-requires c = omega (arith, ap length c.requires)

pub put_u32-requires-2 : goal.put_u32-requires-2
put_u32-requires-2 c = omega (arith, ap length c.requires)

pub put_u32-requires-3 : goal.put_u32-requires-3
put_u32-requires-3 c = omega (arith, ap length c.requires)

pub put_u32-requires-4 : goal.put_u32-requires-4
put_u32-requires-4 c = omega (arith, ap length c.requires)

pub put_u32-requires-5 : goal.put_u32-requires-5
put_u32-requires-5 c = omega (arith, ap length c.requires)

pub put_u16-requires : goal.put_u16-requires
put_u16-requires c = omega (arith, ap length c.requires)

pub put_u16-requires-2 : goal.put_u16-requires-2
put_u16-requires-2 c = omega (arith, ap length c.requires)

pub put_u16-requires-3 : goal.put_u16-requires-3
put_u16-requires-3 c = omega (arith, ap length c.requires)

pub put_u16-requires-4 : goal.put_u16-requires-4
put_u16-requires-4 c = omega (arith, ap length c.requires)
