-- The parts of a report, put together.
use Rattle.std.proofs.Common.{◌≡◌, ℕ, List, [], ◌++◌, length, append_assoc}
use Rattle.plan_items.specs.declared.items.Item.{Item}
use Rattle.fence_watch.specs.declared.flights.Breach.{Breach}
use Rattle.fence_watch.specs.Fences.{Polygon, polygons_of}
use Rattle.fence_command.specs.FenceFile.{FileState}
use Rattle.fence_command.specs.FenceText.{items_text, outside, touching, legs_text, breaches_of, breaches_text, counts_text, fence_text}

pub whole_text : (f : FileState) (fence : List Polygon) (items : List Item) (breaches listed : List Breach) (none first second third all : List ℕ) (o l n : ℕ)
    → fence ≡ polygons_of f.fence → items ≡ f.mission → breaches ≡ breaches_of f → listed ≡ breaches
    → none ≡ [] → first ≡ none ++ items_text fence 0 items → o ≡ outside fence items
    → second ≡ first ++ legs_text (touching fence f.home 0 items) → l ≡ length (touching fence f.home 0 items)
    → third ≡ second ++ breaches_text listed → n ≡ length breaches → all ≡ third ++ counts_text o l n
    → all ≡ fence_text f
whole_text f fence items breaches listed none first second third all o l n the_fence the_items the_breaches the_listed start one outsides two legs three many four =
    rw (four, three, two, one, start, outsides, legs, many, the_listed, the_breaches, the_items, the_fence) (simp append_assoc)
