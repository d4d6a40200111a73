-- What is written of small files, computed from the definitions alone.
use Rattle.std.proofs.Common.{◌≡◌, ℕ, List, [], true, codes, refl}
use Rattle.std.specs.Fmt.{digits}
use Rattle.hex.specs.Hex.{decode_pairs}
use Rattle.plan_items.specs.Validation.{item_fault, whole_fault, plan_fault}
use Rattle.plan_items.specs.Words.{small_word_of, word_number}
use Rattle.run_status.specs.Endings.{code_of}
use Rattle.run_status.specs.Runs.{output_of, end_of}
use Rattle.fence_command.specs.Spec.{fence_spec}
use Rattle.fence_command.specs.Examples.{square, square_text, on_edge, on_edge_text, inside, inside_text, two_corners}

-- all that a run over these bytes writes, and its status
abbrev written : List ℕ → List ℕ
written bytes = output_of fence_spec (end_of (fence_spec.stop true bytes)) true bytes

abbrev status : List ℕ → ℕ
status bytes = code_of (end_of (fence_spec.stop true bytes))

pub square_output : written square ≡ square_text
unfolding digits decode_pairs item_fault whole_fault plan_fault small_word_of word_number
square_output = refl

pub on_edge_output : written on_edge ≡ on_edge_text
unfolding digits decode_pairs item_fault whole_fault plan_fault small_word_of word_number
on_edge_output = refl

pub inside_output : written inside ≡ inside_text
unfolding digits decode_pairs item_fault whole_fault plan_fault small_word_of word_number
inside_output = refl

pub two_corners_output : written two_corners ≡ codes "bad fence: plan\n"
unfolding digits decode_pairs item_fault whole_fault plan_fault small_word_of word_number
two_corners_output = refl

pub two_corners_status : status two_corners ≡ 3
unfolding digits decode_pairs item_fault whole_fault plan_fault small_word_of word_number
two_corners_status = refl

pub empty_output : written [] ≡ codes "outside 0 legs 0 breaches 0\n"
unfolding digits item_fault whole_fault plan_fault
empty_output = refl
