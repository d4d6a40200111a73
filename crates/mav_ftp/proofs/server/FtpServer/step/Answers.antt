use Rattle.std.proofs.Common.{◌∙◌, sym, ap}
use Rattle.mav_ftp.specs.Replies.{nak_of}
use Rattle.mav_ftp.specs.Server.{FilesState}
use Rattle.mav_ftp.proofs.ServerSteps.{refused_reply, served_reply, served_state}
use Rattle.mav_ftp.proofs.server.FtpServer.step.Goals as goal

pub returns-then-is_full_for-clause-reply : goal.returns-then-is_full_for-clause-reply
returns-then-is_full_for-clause-reply c =
    let st : FilesState = record { files = c.self.inside.storage.files; sessions = c.self.inside.storage.sessions; exchanges = c.self.inside.exchanges } in
    rw (← c.self.view_is)
    (c.nak.ensures
    ∙ (ap (λ r. nak_of r 1) c.read-request.ensures
    ∙ sym (refused_reply st c.args.from c.args.payload.now (sym c.in_default.ensures) (sym c.is_full_for.ensures ∙ c.if-is_full_for.true))))

pub returns-clause-state : goal.returns-clause-state
returns-clause-state c =
    let st : FilesState = record { files = c.self.inside.storage.files; sessions = c.self.inside.storage.sessions; exchanges = c.self.inside.exchanges } in
    rw (← c.self.view_is)
    (served_state st c.args.from c.args.payload.now c.read-request.result c.sized_data.result.now c.in_ok-reply.reply c.step.new.self c.set.new.self
    (sym c.in_default.ensures) (sym c.is_full_for.ensures ∙ c.if-is_full_for.false) c.read-request.ensures c.sized_data.ensures.bytes
    c.in_ok-reply.ensures.reply c.in_ok-reply.ensures.storage c.set.ensures)

pub returns-clause-reply : goal.returns-clause-reply
returns-clause-reply c =
    let st : FilesState = record { files = c.self.inside.storage.files; sessions = c.self.inside.storage.sessions; exchanges = c.self.inside.exchanges } in
    rw (← c.self.view_is)
    (served_reply st c.args.from c.args.payload.now c.read-request.result c.sized_data.result.now c.in_ok-reply.reply (sym c.in_default.ensures)
    (sym c.is_full_for.ensures ∙ c.if-is_full_for.false) c.read-request.ensures c.sized_data.ensures.bytes c.in_ok-reply.ensures.reply)
