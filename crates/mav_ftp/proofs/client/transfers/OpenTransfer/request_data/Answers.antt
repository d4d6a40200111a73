use Rattle.std.proofs.Common.{◌+◌, min, ◌∙◌, ap}
use Rattle.mav_ftp.proofs.ClientPieces.{next_bytes}
use Rattle.mav_ftp.proofs.client.transfers.OpenTransfer.request_data.Goals as goal

pub returns-in-Writing-clause-bytes : goal.returns-in-Writing-clause-bytes
returns-in-Writing-clause-bytes c =
    let t = c.self.inside in
    next_bytes c.args.self.now t.stage t.bytes.items t.idle c.in-Writing.session c.in-Writing.written c.min-end.result
    c.self.view_is c.in-Writing.is c.self.invariant.stage c.deref.result.now c.deref.ensures.value
    (c.min-end.ensures ∙ ap (λ n. min n (c.in-Writing.written + 239)) (c.len.ensures ∙ t.bytes.ok.0))
