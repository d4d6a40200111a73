use Rattle.mav_sign.proofs.Hearing.{told_one}
use Rattle.mav_sign.proofs.endpoint.Endpoint.hear_frame.Goals as goal

pub returns-clause-told : goal.returns-clause-told
returns-clause-told c =
    λ history of.
    let appended = rw c.unwrap.ensures at c.push-added.ensures.items in
    told_one c.args.self.now.key history c.args.frame.now c.take-heard.result c.args.out.now.items c.push-added.new.self.items c.take-heard.new.self.stamps (c.take-heard.ensures.heard history of) appended (c.take-heard.ensures.history history of)
