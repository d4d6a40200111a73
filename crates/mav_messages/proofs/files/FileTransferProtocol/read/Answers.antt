use Rattle.std.proofs.Common.{refl}
use Rattle.mav_profile.specs.Profile.{file_transfer_protocol_definition}
use Rattle.mav_messages.proofs.Decoded.{represents}
use Rattle.mav_messages.proofs.files.FileTransferProtocol.read.Goals as goal

pub returns : goal.returns
returns c =
    let payload = c.args.payload.now in
    represents file_transfer_protocol_definition payload _ c.fits-payload (rw (c.u8_at.ensures, c.u8_at-2.ensures, c.u8_at-3.ensures, c.bytes_at.ensures) refl)
