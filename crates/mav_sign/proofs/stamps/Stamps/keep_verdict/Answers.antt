use Rattle.std.proofs.Common.{◌≡◌, ℕ, Option, Some, None, refl, sym, ap, ◌∙◌, subst}
use Rattle.mav_names.specs.declared.names.Stream.{Stream}
use Rattle.mav_frame.specs.Packet.{SignatureBlock}
use Rattle.mav_sign.specs.declared.admission.Admit.TheVariants.{Unsigned}
use Rattle.mav_sign.specs.History.{is_admitted, stream_of, block_answer, stamp_answer}
use Rattle.mav_sign.specs.Kept.{IsStream, KeptAfter, KeptByBlock, kept_answer}
use Rattle.mav_sign.proofs.Keeping.{admitted_stamp, after_refused, after_tried, kept_same, verdict_same}
use Rattle.mav_sign.proofs.stamps.Stamps.keep_verdict.Goals as goal

-- the frame's stream and timestamp are those that are kept
stream_is : (c : goal.After-keep_stamp) → c.stream_on.result ≡ stream_of c.args.frame.now c.in-Some.block
stream_is c =
    let link : c.block-in-Some.inside.link ≡ c.in-Some.block.link = ap (λ (b : SignatureBlock). b.link) c.block-in-Some.view_is in
    c.stream_on.ensures.stream ∙ (λ i. record { sys = (c.from.ensures i).sys; comp = (c.from.ensures i).comp; link = link i })

kept : (c : goal.After-keep_stamp) → KeptAfter c.args.answer (stream_of c.args.frame.now c.in-Some.block) c.in-Some.block.stamp c.args.self.now c.keep_stamp.new.self
kept c =
    let stamp : c.block-in-Some.inside.stamp ≡ c.in-Some.block.stamp = ap (λ (b : SignatureBlock). b.stamp) c.block-in-Some.view_is in
    subst (λ (s : Stream). KeptAfter c.args.answer s c.in-Some.block.stamp c.args.self.now c.keep_stamp.new.self) (stream_is c) (subst (λ (n : ℕ). KeptAfter c.args.answer c.stream_on.result n c.args.self.now c.keep_stamp.new.self) stamp c.keep_stamp.ensures)

bytes : (c : goal.After-keep_stamp) → IsStream (stream_of c.args.frame.now c.in-Some.block)
bytes c = subst IsStream (stream_is c) c.stream_on.ensures.bytes

pub keep_stamp-requires-clause-right : goal.keep_stamp-requires-clause-right
keep_stamp-requires-clause-right c =
    λ admitted.
    let block = c.in-Some.block in
    let signed : c.args.frame.now.block ≡ Some block = sym c.block.ensures ∙ c.in-Some.is in
    let link : c.block-in-Some.inside.link ≡ block.link = ap (λ (b : SignatureBlock). b.link) c.block-in-Some.view_is in
    let stamp : c.block-in-Some.inside.stamp ≡ block.stamp = ap (λ (b : SignatureBlock). b.stamp) c.block-in-Some.view_is in
    let stream : c.stream_on.result ≡ stream_of c.args.frame.now block = c.stream_on.ensures.stream ∙ (λ i. record { sys = (c.from.ensures i).sys; comp = (c.from.ensures i).comp; link = link i }) in
    ap (λ (s : Stream). kept_answer c.args.self.now s c.block-in-Some.inside.stamp) stream ∙ (ap (kept_answer c.args.self.now (stream_of c.args.frame.now block)) stamp ∙ admitted_stamp c.args.key.now c.args.self.now c.args.frame.now block signed (sym c.requires ∙ admitted))

pub returns-in-Some : goal.returns-in-Some
returns-in-Some c =
    let old = c.args.self.now in
    let new = c.keep_stamp.new.self in
    let frame = c.args.frame.now in
    let block = c.in-Some.block in
    let signed : frame.block ≡ Some block = sym c.block.ensures ∙ c.in-Some.is in
    record {
      verdict = record {
        by_kept = c.requires;
        by_history = λ history of. c.requires ∙ verdict_same c.args.key.now old history frame block signed (bytes c) of;
      };
      unchanged = λ refused. kept_same c.args.answer (stream_of frame block) block.stamp old new refused (kept c);
      kept = subst (λ (o : Option SignatureBlock). KeptByBlock o frame c.args.answer old new) (sym signed) (kept c);
      history = λ history of. after_tried old new history frame block c.args.answer signed (bytes c)
          (λ is. admitted_stamp c.args.key.now old frame block signed (sym c.requires ∙ is)) (kept c) of;
    }

pub returns-in-None : goal.returns-in-None
returns-in-None c =
    let old = c.args.self.now in
    let frame = c.args.frame.now in
    let key = c.args.key.now in
    let none : frame.block ≡ None = sym c.block.ensures ∙ c.in-None.is in
    let unsigned : c.args.answer ≡ Unsigned = c.requires ∙ ap (λ (o : Option SignatureBlock). block_answer key (kept_answer old) frame o) none in
    record {
      verdict = record {
        by_kept = c.requires;
        by_history = λ history of. unsigned ∙ sym (ap (λ (o : Option SignatureBlock). block_answer key (λ stream stamp. stamp_answer stream stamp history) frame o) none);
      };
      unchanged = λ refused. refl;
      kept = subst (λ (o : Option SignatureBlock). KeptByBlock o frame c.args.answer old old) (sym none) refl;
      history = λ history of. after_refused old history frame c.args.answer (ap is_admitted unsigned) of;
    }
