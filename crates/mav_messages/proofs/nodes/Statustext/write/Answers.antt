use Rattle.std.proofs.Common.{refl, rules, append_assoc, arith, ap, length}
use Rattle.std.proofs.lemmas.List.{append-nil}
use Rattle.field_layout.specs.Definition.{all_fields}
use Rattle.mav_profile.specs.Profile.{statustext_definition}
use Rattle.mav_messages.specs.Values.{statustext_values}
use Rattle.mav_messages.proofs.Decoded.{fits_layout}
use Rattle.mav_messages.proofs.nodes.Statustext.write.Goals as goal

pub returns-clause-bytes : goal.returns-clause-bytes
returns-clause-bytes c =
    rw (c.put_u8-2.ensures.bytes, c.put_u16.ensures.bytes, c.put_bytes.ensures.bytes, c.put_u8.ensures.bytes, c.requires) (simp (append_assoc, append-nil))

pub returns-clause-fits : goal.returns-clause-fits
returns-clause-fits c =
    fits_layout (all_fields statustext_definition) (statustext_values c.args.self.now)
    ((refl, c.put_u8.ensures.small), ((search rules, c.put_bytes.ensures.small), ((refl, c.put_u16.ensures.small), ((refl, c.put_u8-2.ensures.small), tt))))

pub put_u8-requires : goal.put_u8-requires
put_u8-requires c = omega (arith, ap length c.requires)

pub put_bytes-requires : goal.put_bytes-requires
put_bytes-requires c = omega (arith, ap length c.requires)

pub put_u16-requires : goal.put_u16-requires
put_u16-requires c = omega (arith, ap length c.requires)

pub put_u8-requires-2 : goal.put_u8-requires-2
put_u8-requires-2 c = omega (arith, ap length c.requires)
