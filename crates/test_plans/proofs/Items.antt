-- Rows of the table of faults, fences whole and broken, and the words of small numbers, computed from the definitions.
use Rattle.std.proofs.Common.{◌≡◌, ℕ, List, [], ◌∷◌, Some, None, ℤ, pos, neg_ℤ, refl}
use Rattle.std.specs.Prelude.{map}
use Rattle.plan_items.specs.declared.items.Item.{Item}
use Rattle.plan_items.specs.declared.faults.PlanFault.TheVariants.{UnsupportedFrame, Unsupported, InvalidX, InvalidY, InvalidParam1, Invalid}
use Rattle.plan_items.specs.declared.kinds.PlanKind.TheVariants.{Fence, Rally}
use Rattle.plan_items.specs.Kinds.{number_of, limit_of, kind_of}
use Rattle.plan_items.specs.Validation.{item_fault, whole_fault, plan_fault, code_of}
use Rattle.plan_items.specs.Words.{small_word_of, word_number}

abbrev placed : ℕ → ℕ → ℕ → ℤ → ℤ → Item
placed frame command param1 x y = record {
  frame = frame;
  command = command;
  current = 0;
  autocontinue = 1;
  p = param1 ∷ 0 ∷ 0 ∷ 0 ∷ [];
  x = x;
  y = y;
  z = 0;
}

abbrev item : ℕ → ℕ → ℕ → Item
item frame command param1 = placed frame command param1 (pos 0) (pos 0)

-- missions have five frames and five commands
pub mission_items :
    map (item_fault 0) (item 3 16 0 ∷ item 2 20 0 ∷ item 2 16 0 ∷ item 1 5000 0 ∷ item 0 5000 0 ∷ [])
    ≡ None ∷ None ∷ Some UnsupportedFrame ∷ Some UnsupportedFrame ∷ Some Unsupported ∷ []
unfolding item_fault
mission_items = refl

-- coordinates have bounds in global frames only
abbrev too_far_north : Item
too_far_north = placed 0 5100 0 (pos 900000001) (pos 0)

abbrev too_far_west : ℕ → ℕ → Item
too_far_west frame command = placed frame command 0 (neg_ℤ (pos 900000000)) (neg_ℤ (pos 1800000001))

pub far_items : map (item_fault 2) (too_far_north ∷ too_far_west 0 5100 ∷ []) ≡ Some InvalidX ∷ Some InvalidY ∷ []
unfolding item_fault
far_items = refl

pub far_in_no_global_frame : item_fault 0 (too_far_west 2 2000) ≡ None
unfolding item_fault
far_in_no_global_frame = refl

-- fences count their vertices, from 3 to 70
pub fence_items :
    map (item_fault 1) (item 6 5001 0x428C0000 ∷ item 6 5001 0x428E0000 ∷ item 6 5002 0x40000000 ∷ item 2 5000 0 ∷ [])
    ≡ None ∷ Some InvalidParam1 ∷ Some InvalidParam1 ∷ Some UnsupportedFrame ∷ []
unfolding item_fault small_word_of word_number
fence_items = refl

pub param1_has_code_6 : code_of InvalidParam1 ≡ 6
param1_has_code_6 = refl

-- vertices have the word of 3 in param1
abbrev fence_of : List ℕ → List Item
fence_of commands = map (λ command. item 0 command 0x40400000) commands

-- a fence is whole polygons and points
pub fences :
    map (λ commands. plan_fault 1 (fence_of commands)) (
    (5000 ∷ [])
    ∷ (5001 ∷ 5001 ∷ 5001 ∷ 5000 ∷ [])
    ∷ (5001 ∷ 5001 ∷ 5002 ∷ 5001 ∷ [])
    ∷ (5000 ∷ 5001 ∷ 5001 ∷ [])
    ∷ []
    )
    ≡ None ∷ None ∷ Some Invalid ∷ Some Invalid ∷ []
unfolding item_fault whole_fault plan_fault small_word_of word_number
fences = refl

-- the bits of singles
pub small_words : map small_word_of (0 ∷ 1 ∷ 3 ∷ 4 ∷ 64 ∷ 70 ∷ []) ≡ 0 ∷ 0x3F800000 ∷ 0x40400000 ∷ 0x40800000 ∷ 0x42800000 ∷ 0x428C0000 ∷ []
unfolding small_word_of
small_words = refl

-- only words of small numbers have a number
pub named_numbers :
    map word_number (0x428C0000 ∷ 0 ∷ 0x428E0000 ∷ 0x3F000000 ∷ 0xFFFFFFFF ∷ []) ≡ Some 70 ∷ Some 0 ∷ None ∷ None ∷ None ∷ []
unfolding small_word_of word_number
named_numbers = refl

-- kinds have numbers and limits
pub kind_numbers : map kind_of (number_of Fence ∷ 3 ∷ 255 ∷ []) ≡ Some Fence ∷ None ∷ None ∷ []
kind_numbers = refl

pub rally_limit : limit_of (number_of Rally) ≡ 50
rally_limit = refl
