use Rattle.std.proofs.Common.{◌≡◌, ◌∙◌, ◌+◌, ◌-◌, ◌++◌, ◌∷◌, [], ℕ, List, length, drop, ap, subst, arith}
use Rattle.mav_frame.specs.Encoding.{encoding}
use Rattle.mav_frame.specs.Packet.{Packet}
use Rattle.mav_stream.specs.Spans.{first_packet}
use Rattle.mav_router.specs.declared.found.FoundFrame.{FoundFrame}
use Rattle.mav_router.specs.Found.{IsJudged}
use Rattle.mav_router.specs.Spans.{Holds, packet_of}
use Rattle.mav_router.proofs.Buffers.{found_there, held_more, kept_there}
use Rattle.mav_router.proofs.found.find_frame.Goals as goal

-- the frame that is appended
abbrev one : goal.After-consume → FoundFrame
one c =
    let start = length c.args.bytes.now - length c.bytes.result.now in
    record { span = record { start = start; end = start + c.args.size }; judgement = c.judge-judgement.result }

there : (c : goal.After-consume) → Holds c.args.bytes.now (one c).span × (packet_of c.args.bytes.now (one c).span ≡ first_packet c.args.scan.now)
there c =
    let held = c.args.scan.now in
    let bytes = c.args.bytes.now in
    let start = length bytes - length c.bytes.result.now in
    let same = ap length c.bytes.ensures in
    let at : length bytes - length held.bytes ≡ start = omega (arith, same) in
    let text = ap length (c.bytes-bytes.ensures.bytes ∙ ap encoding c.raw_frame-frame.ensures) in
    found_there held bytes start c.args.size (λ i. omega (arith, c.type_inv.bytes i)) c.requires.there c.requires.within
    (c.requires.rest ∙ ap (λ (n : ℕ). drop n bytes) at) (omega (arith, same, c.requires.inside)) (omega (arith, text, c.bytes-bytes.ensures.short))

goes : (c : goal.After-consume) → c.put_last.new.list.items ≡ c.args.items.now.items ++ one c ∷ []
goes c = c.put_last.ensures.items ∙ ap (λ (l : List FoundFrame). l ++ one c ∷ []) c.in_ok-reserve.ensures.items

pub returns-clause-held : goal.returns-clause-held
returns-clause-held c = λ before. held_more c.args.bytes.now c.args.items.now.items c.put_last.new.list.items (one c) (there c).0 (goes c) before

pub returns-clause-kept : goal.returns-clause-kept
returns-clause-kept c =
    let judgement = c.judge-judgement in
    let right = subst (λ (p : Packet). IsJudged c.args.rules.now (record { frame = p; judgement = judgement.result })) c.raw_frame-frame.ensures (record { verifies = judgement.ensures.verifies; target = judgement.ensures.target }) in
    kept_there c.args.rules.now c.args.bytes.now c.args.items.now.items c.put_last.new.list.items (one c) (first_packet c.args.scan.now) (there c).1 right (goes c)
