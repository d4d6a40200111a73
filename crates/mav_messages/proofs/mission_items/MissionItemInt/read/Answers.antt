use Rattle.std.proofs.Common.{refl}
use Rattle.std.specs.Int.{w32}
use Rattle.mav_profile.specs.Profile.{mission_item_int_definition}
use Rattle.mav_messages.proofs.Decoded.{represents, signed_word}
use Rattle.mav_messages.proofs.mission_items.MissionItemInt.read.Goals as goal

pub returns : goal.returns
returns c =
    let payload = c.args.payload.now in
    let word = signed_word payload c.fits-payload in
    represents mission_item_int_definition payload _ c.fits-payload (rw (c.u32_at.ensures, c.u32_at-2.ensures, c.u32_at-3.ensures, c.u32_at-4.ensures, word w32 16 4 c.i32_at.result refl c.i32_at.ensures, word w32 20 4 c.i32_at-2.result refl c.i32_at-2.ensures, c.u32_at-5.ensures, c.u16_at.ensures, c.u16_at-2.ensures, c.u8_at.ensures, c.u8_at-2.ensures, c.u8_at-3.ensures, c.u8_at-4.ensures, c.u8_at-5.ensures, c.u8_at-6.ensures) refl)
