use Rattle.std.proofs.Common.{sym, ap, ◌∙◌}
use Rattle.mav_ftp.specs.Client.{FileStep, Transfer}
use Rattle.mav_ftp.proofs.ClientCalls.{now_open, put_back, quiet_step, taken_step, few_taken}
use Rattle.mav_ftp.proofs.client.FtpClient.step.Goals as goal

pub returns-then-not-is_reply-clause-client : goal.returns-then-not-is_reply-clause-client
returns-then-not-is_reply-clause-client c = ap (λ (t : FileStep). t.state) (quiet_step c.self.inside c.args.self.now c.in-Some.transfer c.args.payload.now c.request_seq.result c.read-reply.result c.is_reply.result c.self.view_is (sym c.take.ensures.value ∙ c.in-Some.is) c.request_seq.ensures c.read-reply.ensures c.is_reply.ensures c.if-not-is_reply.true)

pub returns-then-not-is_reply-clause-answer : goal.returns-then-not-is_reply-clause-answer
returns-then-not-is_reply-clause-answer c = ap (λ (t : FileStep). t.answer) (quiet_step c.self.inside c.args.self.now c.in-Some.transfer c.args.payload.now c.request_seq.result c.read-reply.result c.is_reply.result c.self.view_is (sym c.take.ensures.value ∙ c.in-Some.is) c.request_seq.ensures c.read-reply.ensures c.is_reply.ensures c.if-not-is_reply.true)

pub returns-in-Ok-clause-client : goal.returns-in-Ok-clause-client
returns-in-Ok-clause-client c = c.follow.ensures.client ∙ ap (λ (t : FileStep). t.state) (taken_step c.self.inside c.args.self.now c.in-Some.transfer c.args.payload.now c.request_seq.result c.read-reply.result c.is_reply.result _ _ c.self.view_is (sym c.take.ensures.value ∙ c.in-Some.is) c.request_seq.ensures c.read-reply.ensures c.is_reply.ensures c.if-not-is_reply.false c.sized_data.ensures.bytes c.in-Ok.ensures.course)

pub returns-in-Ok-clause-answer : goal.returns-in-Ok-clause-answer
returns-in-Ok-clause-answer c = c.follow.ensures.answer ∙ ap (λ (t : FileStep). t.answer) (taken_step c.self.inside c.args.self.now c.in-Some.transfer c.args.payload.now c.request_seq.result c.read-reply.result c.is_reply.result _ _ c.self.view_is (sym c.take.ensures.value ∙ c.in-Some.is) c.request_seq.ensures c.read-reply.ensures c.is_reply.ensures c.if-not-is_reply.false c.sized_data.ensures.bytes c.in-Ok.ensures.course)

pub returns-in-Err-clause-err : goal.returns-in-Err-clause-err
returns-in-Err-clause-err c =
    ap (λ (t : Transfer). now_open c.self.inside t) c.in-Err.ensures.err ∙ put_back c.self.inside c.args.self.now c.in-Some.transfer c.self.view_is (sym c.take.ensures.value ∙ c.in-Some.is)

pub take-requires-2 : goal.take-requires-2
take-requires-2 c = few_taken c.in-Some.transfer c.args.payload.now c.request_seq.result c.read-reply.result c.is_reply.result c.sized_data.result.now c.read-reply.ensures c.is_reply.ensures c.if-not-is_reply.false c.sized_data.ensures.bytes

pub follow-requires : goal.follow-requires
follow-requires c = c.take.ensures.after
