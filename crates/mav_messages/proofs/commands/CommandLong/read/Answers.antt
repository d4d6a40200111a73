use Rattle.std.proofs.Common.{refl}
use Rattle.mav_profile.specs.Profile.{command_long_definition}
use Rattle.mav_messages.proofs.Decoded.{represents}
use Rattle.mav_messages.proofs.commands.CommandLong.read.Goals as goal

pub returns : goal.returns
returns c =
    let payload = c.args.payload.now in
    represents command_long_definition payload _ c.fits-payload (rw (c.u32_at.ensures, c.u32_at-2.ensures, c.u32_at-3.ensures, c.u32_at-4.ensures, c.u32_at-5.ensures, c.u32_at-6.ensures, c.u32_at-7.ensures, c.u16_at.ensures, c.u8_at.ensures, c.u8_at-2.ensures, c.u8_at-3.ensures) refl)
