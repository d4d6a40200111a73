use Rattle.mav_ftp.proofs.ClientPieces.{within}
use Rattle.mav_ftp.proofs.client.transfers.OpenTransfer.acknowledge.Goals as goal

pub write_on-requires-in-Writing-clause-written : goal.write_on-requires-in-Writing-clause-written
write_on-requires-in-Writing-clause-written c =
    let t = c.self.inside in
    within c.args.self.now t.stage t.bytes.items t.idle c.in-Writing.session c.in-Writing.written
    c.self.view_is c.in-Writing.is c.self.invariant.stage c.request_data.result.now c.request_data.ensures.bytes
