-- What is written of a file whose fence and mission are sound.
use Rattle.std.specs.Prelude.{ℕ, ◌+◌, Bool, ◌&&◌, if◌then◌else◌, List, [], ◌∷◌, ◌++◌, length, count_by, codes, Option}
use Rattle.std.specs.Prelude.{Some, None, is_some}
use Rattle.std.specs.Fmt.{decimal, signed_decimal}
use Rattle.plan_items.specs.declared.items.Item.{Item}
use Rattle.plan_items.specs.Validation.{goes_to_place}
use Rattle.drone_sim.specs.declared.points.Point.{Point}
use Rattle.drone_sim.specs.Sim.{location_of}
use Rattle.fence_watch.specs.declared.flights.Breach.{Breach}
use Rattle.fence_watch.specs.Fences.{Polygon, polygons_of, is_touched}
use Rattle.fence_watch.specs.Judging.{judged, flown}
use Rattle.fence_command.specs.FenceFile.{FileState}

-- ---- items

-- an item without a location has none, one whose location is allowed is ok, and another is outside with its code
abbrev pub verdict_text : Option ℕ → List ℕ
verdict_text None = codes "ok"
verdict_text (Some code) = codes "outside " ++ decimal code

abbrev pub item_text : List Polygon → ℕ → Item → List ℕ
item_text fence number item =
    decimal number ++ (codes " " ++ ((if goes_to_place item.command then verdict_text (judged fence item)
    else codes "none") ++ codes "\n"))

abbrev pub items_text : List Polygon → ℕ → List Item → List ℕ
items_text fence number [] = []
items_text fence number (item ∷ more) = item_text fence number item ++ items_text fence (number + 1) more

-- how many items are outside
abbrev pub outside : List Polygon → List Item → ℕ
outside fence items = count_by (λ item. is_some (judged fence item)) items

-- ---- legs

-- a leg goes from the home or an item with a location to the next such item: where the next leg begins, once an item
-- was looked at, and whether a leg ends at the item and touches the fence
abbrev pub next_from : Point → Item → Point
next_from from item = if goes_to_place item.command then location_of item else from

abbrev pub ends_touching : List Polygon → Point → Item → Bool
ends_touching fence from item = goes_to_place item.command && is_touched fence from (location_of item)

abbrev pub counted : Bool → ℕ → List ℕ
counted touches number = if touches then number ∷ [] else []

-- the numbers of the items at which a leg ends that touches the fence
abbrev pub touching : List Polygon → Point → ℕ → List Item → List ℕ
touching fence from number [] = []
touching fence from number (item ∷ more) =
    counted (ends_touching fence from item) number ++ touching fence (next_from from item) (number + 1) more

abbrev pub leg_text : ℕ → List ℕ
leg_text number = codes "leg " ++ (decimal number ++ codes " touches\n")

abbrev pub legs_text : List ℕ → List ℕ
legs_text [] = []
legs_text (number ∷ more) = leg_text number ++ legs_text more

-- ---- breaches

-- an empty mission isn't flown
abbrev pub breaches_over : FileState → List Item → List Breach
breaches_over f [] = []
breaches_over f (item ∷ more) = flown (polygons_of f.fence) (item ∷ more) f.home f.step f.ticks

abbrev pub breaches_of : FileState → List Breach
breaches_of f = breaches_over f f.mission

abbrev pub breach_text : Breach → List ℕ
breach_text b = codes "breach " ++ (decimal b.tick
    ++ (codes " " ++ (signed_decimal b.at.x ++ (codes " " ++ (signed_decimal b.at.y ++ codes "\n")))))

abbrev pub breaches_text : List Breach → List ℕ
breaches_text [] = []
breaches_text (b ∷ more) = breach_text b ++ breaches_text more

-- ---- all of it

abbrev pub counts_text : ℕ → ℕ → ℕ → List ℕ
counts_text items legs breaches =
    codes "outside " ++ (decimal items ++ (codes " legs "
    ++ (decimal legs ++ (codes " breaches " ++ (decimal breaches ++ codes "\n")))))

abbrev pub fence_text : FileState → List ℕ
fence_text f =
    let fence = polygons_of f.fence in
    let legs = touching fence f.home 0 f.mission in
    items_text fence 0 f.mission ++ (legs_text legs ++ (breaches_text (breaches_of f)
    ++ counts_text (outside fence f.mission) (length legs) (length (breaches_of f))))
