use Rattle.std.proofs.Common.{refl}
use Rattle.std.specs.Int.{w16, w32}
use Rattle.mav_profile.specs.Profile.{global_position_int_definition}
use Rattle.mav_messages.proofs.Decoded.{represents, signed_word}
use Rattle.mav_messages.proofs.nodes.GlobalPositionInt.read.Goals as goal

pub returns : goal.returns
returns c =
    let payload = c.args.payload.now in
    let word = signed_word payload c.fits-payload in
    represents global_position_int_definition payload _ c.fits-payload (rw (c.u32_at.ensures, word w32 4 4 c.i32_at.result refl c.i32_at.ensures, word w32 8 4 c.i32_at-2.result refl c.i32_at-2.ensures, word w32 12 4 c.i32_at-3.result refl c.i32_at-3.ensures, word w32 16 4 c.i32_at-4.result refl c.i32_at-4.ensures, word w16 20 2 c.i16_at.result refl c.i16_at.ensures, word w16 22 2 c.i16_at-2.result refl c.i16_at-2.ensures, word w16 24 2 c.i16_at-3.result refl c.i16_at-3.ensures, c.u16_at.ensures) refl)
