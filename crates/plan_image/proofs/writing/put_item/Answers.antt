use Rattle.std.proofs.Common.{[], ◌∷◌, slice_index, ◌∙◌, ap, ◌++◌}
use Rattle.std.specs.Int.{w16, w32, to_le_bytes, cast_unsigned}
use Rattle.std.proofs.lemmas.Int.{to_z-of_z}
use Rattle.plan_image.specs.Image.{word, item_bytes}
use Rattle.plan_image.proofs.Cuts.{ten_parts}
use Rattle.plan_image.proofs.writing.put_item.Goals as goal

pub returns-clause-bytes : goal.returns-clause-bytes
unfolding item_bytes
returns-clause-bytes c =
    let item = c.args.item in
    ten_parts _ _ _ _ _ _ _ _ _ _ _ (item.frame ∷ []) (to_le_bytes w16 item.command) (item.current ∷ item.autocontinue ∷ [])
    (word (slice_index item.p 0)) (word (slice_index item.p 1)) (word (slice_index item.p 2)) (word (slice_index item.p 3))
    (word (cast_unsigned w32 item.x)) (word (cast_unsigned w32 item.y)) (word item.z)
    c.put.ensures.bytes (c.put-2.ensures.bytes ∙ ap (λ l. c.put.new.bytes.items ++ l) c.to_le_bytes.ensures) c.put-3.ensures.bytes
    (c.put-4.ensures.bytes ∙ ap (λ l. c.put-3.new.bytes.items ++ l) c.to_le_bytes-2.ensures)
    (c.put-5.ensures.bytes ∙ ap (λ l. c.put-4.new.bytes.items ++ l) c.to_le_bytes-3.ensures)
    (c.put-6.ensures.bytes ∙ ap (λ l. c.put-5.new.bytes.items ++ l) c.to_le_bytes-4.ensures)
    (c.put-7.ensures.bytes ∙ ap (λ l. c.put-6.new.bytes.items ++ l) c.to_le_bytes-5.ensures)
    (c.put-8.ensures.bytes ∙ ap (λ l. c.put-7.new.bytes.items ++ l) (c.to_le_bytes-6.ensures ∙ ap (λ z. word (cast_unsigned w32 z)) (to_z-of_z w32 item.x c.see_ranges.ensures.x)))
    (c.put-9.ensures.bytes ∙ ap (λ l. c.put-8.new.bytes.items ++ l) (c.to_le_bytes-7.ensures ∙ ap (λ z. word (cast_unsigned w32 z)) (to_z-of_z w32 item.y c.see_ranges.ensures.y)))
    (c.put-10.ensures.bytes ∙ ap (λ l. c.put-9.new.bytes.items ++ l) c.to_le_bytes-8.ensures)
