use Rattle.std.proofs.Common.{◌≡◌, ◌∙◌, ◌++◌, ◌∷◌, [], List, length, map, take, sym, ap, subst, arith, length-append}
use Rattle.std.proofs.lemmas.List.{map-append}
use Rattle.std.proofs.lemmas.List.Elements.{All-append, All-cons}
use Rattle.mav_frame.specs.Packet.{Packet}
use Rattle.mav_sign.specs.Signing.{verified}
use Rattle.mav_router.specs.declared.entries.Entry.{Entry}
use Rattle.mav_router.specs.declared.found.FoundFrame.{FoundFrame}
use Rattle.mav_router.specs.declared.page.Head.{Head}
use Rattle.mav_router.specs.Admitting.{AdmitsThese, Judges}
use Rattle.mav_router.specs.Found.{packets_of}
use Rattle.mav_router.specs.Spans.{AreHeld, Holds, entries_of, entry_of, judged_of, packet_of}
use Rattle.mav_router.proofs.Admissions.{admits_more, all_got, judged_at, next_found}
use Rattle.mav_router.proofs.admitting.admit_frames.Goals as goal

pub admit_frame-outcome-requires-clause-verifies : goal.admit_frame-outcome-requires-clause-verifies
admit_frame-outcome-requires-clause-verifies c =
    let one = c.item_at-one.result in
    let judged = judged_at c.args.rules.now c.args.bytes.now c.args.found.now c.loop-at.at one c.requires.judged c.item_at-one.ensures in
    subst (λ (p : Packet). one.judgement.verifies ≡ verified c.args.rules.now.key p p.block) (sym c.frame_in-frame.ensures) judged.verifies

pub loop-at-preserved : goal.loop-at-preserved
loop-at-preserved c =
    let r = c.loop-at in
    let rules = c.args.rules.now in
    let port = c.args.port in
    let bytes = c.args.bytes.now in
    let found = c.args.found.now in
    let packets = packets_of (map (judged_of bytes) found) in
    let one = c.item_at-one.result in
    let there = c.item_at-one.ensures in
    let packet = packet_of bytes one.span in
    let outcome = c.admit_frame-outcome.result in
    let stamps = c.admit_frame-outcome.new.stamps in
    let table = c.admit_frame-outcome.new.table in
    let heads = c.put_last.new.list in
    let head : Head = record { span = one.span; outcome = outcome } in
    let judged = judged_at rules bytes found r.at one c.requires.judged there in
    let judges = subst (λ (p : Packet). Judges rules port p one.judgement.target r.stamps stamps r.table table outcome) c.frame_in-frame.ensures c.admit_frame-outcome.ensures in
    let items = c.put_last.ensures.items in
    let long = ap length items in
    let entries = ap (entries_of bytes) items ∙ map-append (entry_of bytes) r.heads.items (head ∷ []) in
    let more = admits_more rules port (take r.at packets) c.args.stamps.now r.stamps stamps c.args.table.now r.table table (entries_of bytes r.heads.items) packet one.judgement.target outcome c.requires.from c.requires.to r.invariant.admits judges judged.target in
    let P : Head → Type 0 = λ h. Holds bytes h.span in
    let holds : P head = all_got (λ (f : FoundFrame). Holds bytes f.span) found r.at one c.requires.held there in
    record {
      long = omega (arith, long, length-append r.heads.items (head ∷ []), heads.ok.0, r.heads.ok.0, r.invariant.long);
      room = omega (arith, r.invariant.room, c.put_last.ensures.room);
      held = subst (AreHeld bytes) (sym items) (All-append P r.heads.items (head ∷ []) r.invariant.held (All-cons P head [] holds (λ k d less. absurd (omega (arith, less)))));
      admits = subst (λ (f : List Packet). AdmitsThese rules port f c.args.stamps.now stamps c.args.table.now table (entries_of bytes heads.items)) (sym (next_found bytes found r.at one there))
          (subst (λ (e : List Entry). AdmitsThese rules port (take r.at packets ++ packet ∷ []) c.args.stamps.now stamps c.args.table.now table e) (sym entries) more);
    }
