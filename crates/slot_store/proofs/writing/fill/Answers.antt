use Rattle.std.proofs.Common.{◌∙◌, ◌∷◌, ◌++◌, ap, length, ◌≡◌, take, ◌+◌, rules, slice_set, ◌-◌}
use borrow.Rule.Slice.PartMut.{put_mid}
use Rattle.slot_store.proofs.Bodies.{filled}
use Rattle.slot_store.proofs.writing.fill.Goals as goal

pub returns : goal.returns
returns c =
    let eight : length c.copy_from_slice.new.self ≡ 8 = search rules in
    let bytes = c.args.bytes.now in
    let front = put_mid 1 8 (slice_set c.args.body.now 0 c.args.generation) c.copy_from_slice.new.self in
    ap (λ l. take (9 + length bytes) (put_mid 9 (9 + length bytes - 9) front l)) c.copy_from_slice-2.ensures.after
    ∙ filled c.args.generation c.args.body.now c.copy_from_slice.new.self bytes c.told-body eight
    ∙ ap (λ l. c.args.generation ∷ l ++ bytes) (c.copy_from_slice.ensures.after ∙ c.to_le_bytes.ensures)
