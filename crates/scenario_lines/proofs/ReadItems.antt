-- The words of an item that are read one by one, against the arguments of its form.
use Rattle.std.proofs.Common.{◌≡◌, ℕ, ℤ, ◌+◌, List, [], ◌∷◌, length, lit≤, Option, Ok, Result}
use Rattle.plan_items.specs.declared.items.Item.{Item}
use Rattle.scenario_lines.specs.declared.faults.Reason.{Reason}
use Rattle.scenario_lines.specs.declared.faults.Reason.TheVariants.{Number}
use Rattle.scenario_lines.specs.declared.naming.Named.{Named}
use Rattle.scenario_lines.specs.Words.{word_at, number_in, integer_of}
use Rattle.scenario_lines.specs.Grammar.{Argument, Whole, Signed, Wire, misfit, first_reason, further_arguments, whole_at, signed_at, wire_at, item_words}
use Rattle.scenario_lines.specs.Readings.{answered, and_then, whole, signed, wire_or_zero}
use Rattle.scenario_lines.proofs.ReadWords.{inner_step, wire_step, the_value, number_wider}

-- an item by its words
abbrev item_of : (frame command : ℕ) (x y : ℤ) (z p1 p2 p3 p4 : ℕ) → Item
item_of frame command x y z p1 p2 p3 p4 = record {
  frame = frame;
  command = command;
  current = 0;
  autocontinue = 1;
  p = p1 ∷ p2 ∷ p3 ∷ p4 ∷ [];
  x = x;
  y = y;
  z = z;
}

-- its words from Z on, the first of them word `k`
abbrev from_z : List (List ℕ) → ℕ → (ℕ → ℕ → ℕ → ℕ → ℕ → Item) → Result Item Reason
from_z words k made =
    and_then (wire_or_zero words k) (λ z.
    and_then (wire_or_zero words (k + 1)) (λ p1.
    and_then (wire_or_zero words (k + 1 + 1)) (λ p2.
    and_then (wire_or_zero words (k + 1 + 1 + 1)) (λ p3.
    and_then (wire_or_zero words (k + 1 + 1 + 1 + 1)) (λ p4.
    Ok (made z p1 p2 p3 p4))))))

from_z-reads : {B : Type 0} (nodes : List Named) (words : List (List ℕ)) (k : ℕ) (n : Option Reason) (v : B)
    (made : ℕ → ℕ → ℕ → ℕ → ℕ → Item) (last : Item → Result B Reason)
    → last (made (wire_at words k) (wire_at words (k + 1)) (wire_at words (k + 1 + 1)) (wire_at words (k + 1 + 1 + 1)) (wire_at words (k + 1 + 1 + 1 + 1))) ≡ answered n v
    → and_then (from_z words k made) last ≡ answered (first_reason (misfit nodes (further_arguments k item_words (length words)) words k) n) v
from_z-reads nodes words k n v made last h =
    wire_step nodes words k ((Wire ∷ []) ∷ (Wire ∷ []) ∷ (Wire ∷ []) ∷ (Wire ∷ []) ∷ []) n v _ last (λ z is_z.
    wire_step nodes words (k + 1) ((Wire ∷ []) ∷ (Wire ∷ []) ∷ (Wire ∷ []) ∷ []) n v _ last (λ p1 is_p1.
    wire_step nodes words (k + 1 + 1) ((Wire ∷ []) ∷ (Wire ∷ []) ∷ []) n v _ last (λ p2 is_p2.
    wire_step nodes words (k + 1 + 1 + 1) ((Wire ∷ []) ∷ []) n v _ last (λ p3 is_p3.
    wire_step nodes words (k + 1 + 1 + 1 + 1) [] n v _ last (λ p4 is_p4.
    rw (← is_z, ← is_p1, ← is_p2, ← is_p3, ← is_p4) h)))))

-- an item's words, the first of them word `k`
abbrev pub item_from : List (List ℕ) → ℕ → Result Item Reason
item_from words k =
    and_then (whole words k 0 255) (λ frame.
    and_then (whole words (k + 1) 0 65535) (λ command.
    and_then (signed words (k + 1 + 1)) (λ x.
    and_then (signed words (k + 1 + 1 + 1)) (λ y.
    from_z words (k + 1 + 1 + 1 + 1) (item_of frame command x y)))))

abbrev pub item_said : List (List ℕ) → ℕ → Item
item_said words k =
    item_of (whole_at words k) (whole_at words (k + 1)) (signed_at words (k + 1 + 1)) (signed_at words (k + 1 + 1 + 1))
    (wire_at words (k + 1 + 1 + 1 + 1)) (wire_at words (k + 1 + 1 + 1 + 1 + 1)) (wire_at words (k + 1 + 1 + 1 + 1 + 1 + 1))
    (wire_at words (k + 1 + 1 + 1 + 1 + 1 + 1 + 1)) (wire_at words (k + 1 + 1 + 1 + 1 + 1 + 1 + 1 + 1))

-- the arguments of an item, of which the last may be left out
abbrev pub item_arguments : List (List ℕ) → ℕ → List Argument
item_arguments words k = Whole 0 255 ∷ Whole 0 65535 ∷ Signed ∷ Signed ∷ further_arguments (k + 1 + 1 + 1 + 1) item_words (length words)

pub item-reads : {B : Type 0} (nodes : List Named) (words : List (List ℕ)) (k : ℕ) (n : Option Reason) (v : B) (last : Item → Result B Reason)
    → last (item_said words k) ≡ answered n v
    → and_then (item_from words k) last ≡ answered (first_reason (misfit nodes (item_arguments words k) words k) n) v
item-reads nodes words k n v last h =
    inner_step (number_in 0 255 (word_at words k)) _ n Number v _ last (λ frame is_frame.
    inner_step (number_in 0 65535 (word_at words (k + 1))) _ n Number v _ last (λ command is_command.
    inner_step (integer_of (word_at words (k + 1 + 1))) _ n Number v _ last (λ x is_x.
    inner_step (integer_of (word_at words (k + 1 + 1 + 1))) _ n Number v _ last (λ y is_y.
    let e0 : whole_at words k ≡ frame = number_wider 0 255 frame (word_at words k) (lit≤ tt) is_frame in
    let e1 : whole_at words (k + 1) ≡ command = number_wider 0 65535 command (word_at words (k + 1)) (lit≤ tt) is_command in
    let e2 : signed_at words (k + 1 + 1) ≡ x = the_value _ _ x is_x in
    let e3 : signed_at words (k + 1 + 1 + 1) ≡ y = the_value _ _ y is_y in
    rw (← e0, ← e1, ← e2, ← e3)
    (from_z-reads nodes words (k + 1 + 1 + 1 + 1) n v
    (item_of (whole_at words k) (whole_at words (k + 1)) (signed_at words (k + 1 + 1)) (signed_at words (k + 1 + 1 + 1))) last h)))))
