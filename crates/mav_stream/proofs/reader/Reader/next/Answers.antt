use Rattle.std.proofs.Common.{ap, ◌∙◌, subst}
use Rattle.mav_frame.proofs.FoundEncoded.{IsBytes}
use Rattle.mav_stream.specs.Held.{Held}
use Rattle.mav_stream.proofs.Steps.{next_on, whole_at_need}
use Rattle.mav_stream.proofs.Answers.{room_after}
use Rattle.mav_stream.proofs.reader.Reader.next.Goals as goal

pub returns-clause-room : goal.returns-clause-room
returns-clause-room c = room_after c.args.self.now c.step.new.self c.step.result (subst IsBytes (c.bytes-held.ensures.list ∙ ap (λ (h : Held). h.bytes) c.self.view_is) c.bytes-held.ensures.bytes) c.step.ensures

pub returns-clause-progress : goal.returns-clause-progress
returns-clause-progress c extras reads_old taken given h =
    next_on extras reads_old taken given c.args.self.now h c.step.result c.step.new.self c.step.ensures

pub returns-clause-whole : goal.returns-clause-whole
returns-clause-whole c extras reads_old taken given h =
    whole_at_need extras reads_old taken given c.args.self.now h c.step.result c.step.new.self c.step.ensures
