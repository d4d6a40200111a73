-- One tick more of a flight.
use Rattle.std.proofs.Common.{◌≡◌, ℕ, zero, suc, ◌+◌, true, false, cond, not, List, [], ◌∷◌, ◌++◌, append-nil, refl, sym, ap, ◌∙◌, arith}
use Rattle.std.proofs.lemmas.List.FromFn.{filter_of_map_range_with_len_more}
use Rattle.plan_items.specs.declared.items.Item.{Item}
use Rattle.drone_sim.specs.declared.points.Point.{Point}
use Rattle.drone_sim.specs.Sim.{SimState, sim_tick}
use Rattle.drone_sim.specs.Laws.{ticks}
use Rattle.fence_watch.specs.declared.flights.Breach.{Breach}
use Rattle.fence_watch.specs.Fences.{Polygon, allows}
use Rattle.fence_watch.specs.Judging.{place_after, flown}

one_more : (n : ℕ) (s : SimState) (items : List Item) (step : ℕ) → ticks (suc n) s items step ≡ (sim_tick (ticks n s items step) items step).sim
one_more zero s items step = refl
one_more (suc n) s items step = one_more n (sim_tick s items step).sim items step

pub tick_more : (n : ℕ) (s : SimState) (items : List Item) (step : ℕ) → ticks (n + 1) s items step ≡ (sim_tick (ticks n s items step) items step).sim
tick_more n s items step = let e : n + 1 ≡ suc n = omega arith in ap (λ k. ticks k s items step) e ∙ one_more n s items step

module _ (fence : List Polygon) (mission : List Item) (home : Point) (step n : ℕ) where
  abbrev breach : ℕ → Breach
  breach k = record { tick = k; at = place_after mission home step k }

  more : flown fence mission home step (n + 1) ≡ flown fence mission home step n ++ cond (not (allows fence (place_after mission home step (n + 1)))) (breach (n + 1) ∷ []) []
  more = filter_of_map_range_with_len_more (λ (b : Breach). not (allows fence b.at)) breach 1 n (n + 1) (omega arith)

  -- the place wasn't allowed, and the breach was added
  pub breach_more : (all before : List Breach) (here : Point) → all ≡ before ++ record { tick = n + 1; at = here } ∷ [] → before ≡ flown fence mission home step n
      → here ≡ place_after mission home step (n + 1) → allows fence (place_after mission home step (n + 1)) ≡ false → all ≡ flown fence mission home step (n + 1)
  breach_more all before here e so_far there outside =
      e ∙ (ap (λ (bs : List Breach). bs ++ record { tick = n + 1; at = here } ∷ []) so_far
      ∙ (ap (λ (p : Point). flown fence mission home step n ++ record { tick = n + 1; at = p } ∷ []) there
      ∙ (ap (λ t. flown fence mission home step n ++ cond (not t) (breach (n + 1) ∷ []) []) (sym outside) ∙ sym more)))

  -- it was
  pub none_more : (all : List Breach) → all ≡ flown fence mission home step n → allows fence (place_after mission home step (n + 1)) ≡ true → all ≡ flown fence mission home step (n + 1)
  none_more all so_far inside =
      so_far ∙ (sym (append-nil (flown fence mission home step n))
      ∙ (ap (λ t. flown fence mission home step n ++ cond (not t) (breach (n + 1) ∷ []) []) (sym inside) ∙ sym more))
