use Rattle.std.proofs.Common.{◌∙◌, ap, refl}
use Rattle.plan_image.specs.Image.{word}
use Rattle.plan_image.proofs.Items.{item_whole, signed_word}
use Rattle.plan_image.proofs.reading.item_of.Goals as goal

pub returns-clause-bytes : goal.returns-clause-bytes
returns-clause-bytes c =
    item_whole c.args.bytes.now _ c.requires refl c.u16_of.ensures refl refl c.u32_of.ensures c.u32_of-2.ensures c.u32_of-3.ensures c.u32_of-4.ensures
    (ap word (signed_word c.u32_of-5.result c.cast_signed.result c.u32_of-5.type_inv c.cast_signed.ensures) ∙ c.u32_of-5.ensures)
    (ap word (signed_word c.u32_of-6.result c.cast_signed-2.result c.u32_of-6.type_inv c.cast_signed-2.ensures) ∙ c.u32_of-6.ensures)
    c.u32_of-7.ensures
