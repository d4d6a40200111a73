-- The CRC_EXTRA table of the profile, by computation.
use Rattle.std.proofs.Common.{Some, ◌≡◌, refl}
use Rattle.std.proofs.lemmas.List.Elements.{All-from_recursion}
use Rattle.x25_check.specs.Check.{after_byte}
use Rattle.x25_check.specs.Extras.{extra_of}
use Rattle.field_layout.specs.Definition.{Definition}
use Rattle.field_layout.specs.CrcExtra.{crc_extra_of}
use Rattle.mav_profile.specs.Profile.{profile_definitions}
use Rattle.mav_profile.specs.Messages.{extras_of}
use Rattle.mav_sign.specs.Endpoints.{HasProfile}

-- it has the byte of each message
pub profile_known : HasProfile (extras_of profile_definitions)
unfolding after_byte
profile_known =
    All-from_recursion (λ (def : Definition). extra_of def.id (extras_of profile_definitions) ≡ Some (crc_extra_of def)) profile_definitions (refl, (refl, (refl, (refl, (refl, (refl, (refl, (refl, (refl, (refl, (refl, (refl, (refl, (refl, (refl, (refl, (refl, (refl, (refl, tt)))))))))))))))))))
