use Rattle.std.proofs.Common.{refl, rules, append_assoc, arith, ap, length}
use Rattle.std.proofs.lemmas.List.{append-nil}
use Rattle.field_layout.specs.Definition.{all_fields}
use Rattle.mav_profile.specs.Profile.{param_request_read_definition}
use Rattle.mav_messages.specs.Values.{param_request_read_values}
use Rattle.std.specs.Int.{w16}
use mir.Val.{SFits}
use Rattle.mav_messages.proofs.Decoded.{fits_layout, passed_word}
use Rattle.mav_messages.proofs.params.ParamRequestRead.write.Goals as goal

pub returns-clause-bytes : goal.returns-clause-bytes
returns-clause-bytes c =
    let m = c.args.self.now in
    let param_index : SFits w16 m.param_index = search rules in
    rw (c.put_bytes.ensures.bytes, c.put_u8-2.ensures.bytes, c.put_u8.ensures.bytes, c.put_u16.ensures.bytes, c.cast_unsigned.ensures, passed_word w16 m.param_index param_index, c.requires) (simp (append_assoc, append-nil))

pub returns-clause-fits : goal.returns-clause-fits
returns-clause-fits c =
    fits_layout (all_fields param_request_read_definition) (param_request_read_values c.args.self.now)
    ((refl, c.put_u8.ensures.small), ((refl, c.put_u8-2.ensures.small), ((search rules, c.put_bytes.ensures.small), ((refl, search rules), tt))))

pub put_u16-requires : goal.put_u16-requires
put_u16-requires c = omega (arith, ap length c.requires)

pub put_u8-requires : goal.put_u8-requires
put_u8-requires c = omega (arith, ap length c.requires)

pub put_u8-requires-2 : goal.put_u8-requires-2
put_u8-requires-2 c = omega (arith, ap length c.requires)

pub put_bytes-requires : goal.put_bytes-requires
put_bytes-requires c = omega (arith, ap length c.requires)
