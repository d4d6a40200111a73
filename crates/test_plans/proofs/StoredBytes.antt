-- A stored image, computed from the definitions: the bytes are written out from the grammar.
use Rattle.std.proofs.Common.{◌≡◌, ℕ, List, [], ◌∷◌, pos, neg_ℤ, refl}
use Rattle.plan_items.specs.declared.items.Item.{Item}
use Rattle.plan_upload.specs.Plans.{Plans}
use Rattle.plan_upload.specs.Image.{image, item_bytes}

-- a place in the southern hemisphere
abbrev south : Item
south = record {
  frame = 6;
  command = 16;
  current = 0;
  autocontinue = 1;
  p = 0x3F800000 ∷ 0 ∷ 0 ∷ 0 ∷ [];
  x = neg_ℤ (pos 473977420);
  y = pos 85455940;
  z = 0x42200000;
}

abbrev one_item : Plans
one_item = record { mission = south ∷ []; fence = []; rally = [] }

-- system id and low bound, how many items, the item up to its flags, params, x, y, z, no fence, no rally points
abbrev written : List ℕ
written =
    1 ∷ 137 ∷ 19 ∷ 0 ∷ 0 ∷ 0 ∷ 0 ∷ 0 ∷ 0 ∷ 1 ∷ 0 ∷ 6 ∷ 16 ∷ 0 ∷ 0 ∷ 1
    ∷ 0 ∷ 0 ∷ 128 ∷ 63 ∷ 0 ∷ 0 ∷ 0 ∷ 0 ∷ 0 ∷ 0 ∷ 0 ∷ 0 ∷ 0 ∷ 0 ∷ 0 ∷ 0
    ∷ 180 ∷ 173 ∷ 191 ∷ 227 ∷ 68 ∷ 244 ∷ 23 ∷ 5 ∷ 0 ∷ 0 ∷ 32 ∷ 66 ∷ 0 ∷ 0 ∷ 0 ∷ 0 ∷ []

pub image_of_one_item : image 1 5001 one_item ≡ written
unfolding image item_bytes
image_of_one_item = refl
