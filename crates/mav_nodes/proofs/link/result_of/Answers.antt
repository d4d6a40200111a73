use Rattle.std.proofs.Common.{◌≡◌, Option, Some, sym, ap, ◌∙◌, subst}
use Rattle.mav_names.specs.declared.names.Stream.{Stream}
use Rattle.mav_frame.specs.Packet.{SignatureBlock}
use Rattle.mav_sign.specs.declared.admission.Admit.{Admit}
use Rattle.mav_sign.specs.declared.admission.Admit.TheVariants.{Admitted}
use Rattle.mav_sign.specs.History.{answer_to, stream_of}
use Rattle.mav_nodes.specs.Promises.{IsAnswer}
use Rattle.mav_nodes.proofs.link.result_of.Goals as goal

pub returns-in-Admitted-Some : goal.returns-in-Admitted-Some
returns-in-Admitted-Some c =
    λ link is.
    let frame = c.args.frame.now in
    let block = c.in-Admitted-Some.block in
    let of_block : c.block-in-Admitted-Some.inside.link ≡ block.link = ap (λ (b : SignatureBlock). b.link) c.block-in-Admitted-Some.view_is in
    let sender : Stream = record { sys = c.from-sys.result.sys; comp = c.from-sys.result.comp; link = c.block-in-Admitted-Some.inside.link } in
    let from : sender ≡ stream_of frame block = λ i. record { sys = (c.from-sys.ensures i).sys; comp = (c.from-sys.ensures i).comp; link = of_block i } in
    let admitted : Admitted ≡ answer_to link.key link.history frame = sym c.in-Admitted-Some.is-0 ∙ is in
    let signed : Some block ≡ frame.block = sym c.in-Admitted-Some.is-1 ∙ c.block.ensures in
    subst (λ (a : Admit). IsAnswer a frame frame.block c.carried.result) admitted (subst (λ (o : Option SignatureBlock). IsAnswer Admitted frame o c.carried.result) signed (c.carried.ensures block from))
