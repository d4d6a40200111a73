use Rattle.std.proofs.Common.{◌≡◌, ℕ, Option, Some, sym, ap, ◌∙◌, refl, subst}
use Rattle.std.specs.Prelude.{IsSome}
use Rattle.x25_check.specs.Extras.{extra_of}
use Rattle.field_layout.specs.Definition.{Definition}
use Rattle.field_layout.specs.CrcExtra.{crc_extra_of}
use Rattle.mav_sign.proofs.Profiles.{profile_has}
use Rattle.mav_sign.proofs.endpoint.Endpoint.extra_of.Goals as goal

pub unwrap-requires : goal.unwrap-requires
unwrap-requires c =
    let extras = c.self.inside.extras in
    let known = profile_has (λ (def : Definition). extra_of def.id extras ≡ Some (crc_extra_of def)) c.self.invariant.0 c.args.message.now in
    subst (λ (o : Option ℕ). IsSome o) (sym (c.get.ensures ∙ (ap (λ (n : ℕ). extra_of n extras) c.id.ensures ∙ known))) refl
