-- The lines of items, one item more.
use Rattle.std.proofs.Common.{◌≡◌, ℕ, ◌+◌, ◌<◌, List, [], ◌∷◌, ◌++◌, length, get_or, take, sym, ap, ◌∙◌, arith, add-zero, append-nil, append_assoc}
use Rattle.std.proofs.lemmas.List.{take_more, length-take-le}
use Rattle.std.specs.Fmt.{decimal}
use Rattle.plan_items.specs.declared.items.Item.{Item}
use Rattle.fleet_report.specs.Parts.{place_text}
use Rattle.fleet_report.specs.Texts.{space, newline, item_text, items_text}

-- what the holes of a line write one after another, joined from the left
parts_joined : (a b c d e p x y z : List ℕ)
    → a ++ (space ++ (b ++ (space ++ (c ++ (space ++ (d ++ (space ++ (e ++ (space ++ (p ++ x ++ space ++ y ++ space ++ z ++ newline))))))))))
    ≡ a ++ space ++ b ++ space ++ c ++ space ++ d ++ space ++ e ++ space ++ p ++ x ++ space ++ y ++ space ++ z ++ newline
parts_joined a b c d e p x y z = simp append_assoc

-- the line of an item
pub item_text-parts : (seq : ℕ) (item : Item)
    → decimal seq ++ (space ++ (decimal item.frame ++ (space ++ (decimal item.command ++ (space ++ (decimal item.current
    ++ (space ++ (decimal item.autocontinue ++ (space ++ place_text item)))))))))
    ≡ item_text seq item
item_text-parts seq item = parts_joined _ _ _ _ _ _ _ _ _

pub items_text-push : (seq : ℕ) (items : List Item) (item : Item)
    → items_text seq (items ++ item ∷ []) ≡ items_text seq items ++ item_text (seq + length items) item
items_text-push seq [] item =
    append-nil (item_text seq item) ∙ ap (λ n. item_text n item) (sym (add-zero seq))
items_text-push seq (first ∷ items) item =
    ap (λ more. item_text seq first ++ more) (items_text-push (seq + 1) items item)
    ∙ sym (append_assoc (item_text seq first) (items_text (seq + 1) items) (item_text (seq + 1 + length items) item))
    ∙ ap (λ n. item_text seq first ++ items_text (seq + 1) items ++ item_text n item)
    {x = seq + 1 + length items} {y = seq + length (first ∷ items)} (omega arith)

-- the lines of the first items, and the line of the next
pub items_text-take : (items : List Item) (i : ℕ) (default : Item) → i < length items
    → items_text 0 (take i items) ++ item_text i (get_or items i default) ≡ items_text 0 (take (i + 1) items)
items_text-take items i default within =
    let len : 0 + length (take i items) ≡ i = omega (arith, length-take-le i items (omega arith)) in
    sym (
    ap (λ shown. items_text 0 shown) (take_more items i default within)
    ∙ items_text-push 0 (take i items) (get_or items i default)
    ∙ ap (λ n. items_text 0 (take i items) ++ item_text n (get_or items i default)) len
    )

-- a line after those that were written before
pub line_added : (old now new shown line more : List ℕ) → now ≡ old ++ shown → new ≡ now ++ line → shown ++ line ≡ more
    → new ≡ old ++ more
line_added old now new shown line more written added joined =
    added ∙ ap (λ text. text ++ line) written ∙ append_assoc old shown line ∙ ap (λ lines. old ++ lines) joined
