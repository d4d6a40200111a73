use Rattle.std.proofs.Common.{◌≡◌, Some, sym, ap, ◌∙◌, subst}
use Rattle.x25_check.specs.Extras.{extra_of}
use Rattle.field_layout.specs.Payload.{truncated}
use Rattle.mav_messages.specs.Messages.{definition_of}
use Rattle.mav_frame.specs.Packet.{Packet}
use Rattle.mav_sign.specs.Endpoints.{EndpointState, FrameOf}
use Rattle.mav_sign.proofs.Sending.{sealed_frame}
use Rattle.mav_sign.proofs.endpoint.Endpoint.write_frame.Goals as goal

pub returns-clause-frame : goal.returns-clause-frame
returns-clause-frame c =
    let message = c.args.message.now in
    let me = c.self.inside.me in
    let extras = c.self.inside.extras in
    let known : extra_of (definition_of message).id extras ≡ Some c.extra_of.result = ap (λ (s : EndpointState). extra_of (definition_of message).id s.extras) c.self.view_is ∙ c.extra_of.ensures in
    let bytes = c.truncated.ensures.bytes ∙ ap truncated c.serialise.ensures.bytes in
    let frame = sealed_frame me extras c.self.inside.seq c.args.stamp message c.id.result c.extra_of.result c.truncated.result.now _ c.id.ensures known c.serialise.ensures.fits bytes in
    subst (λ (s : EndpointState). FrameOf s.me s.extras s.seq c.args.stamp message c.seal.new.self) c.self.view_is (subst (λ (p : Packet). FrameOf me extras c.self.inside.seq c.args.stamp message p) (sym c.seal.ensures) frame)
