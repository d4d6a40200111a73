-- How a drone starts from what its store has.
use Rattle.std.proofs.Common.{◌≡◌, ◌≢◌, ◌⊎◌, ℕ, List, [], length, Option, Some, None, Result, inl, inr, sym, ap, subst, arith}
use Rattle.std.specs.Prelude.{ℤ, IfSome, IfOk}
use Rattle.std.proofs.Common.{SFits, w32, to_z, of_z}
use Rattle.std.proofs.lemmas.Int.{to_z-of_z}
use Rattle.plan_image.specs.Plans.{Plans}
use Rattle.plan_image.specs.Image.{IsImageOf, IsImage}
use Rattle.plan_image.proofs.Readings.{image_same, image_short}
use Rattle.drone_sim.specs.declared.points.Point.{Point}
use Rattle.mav_nodes.specs.Nodes.{DroneView, IsDrone, new_drone}
use Rattle.mav_nodes.specs.Restarts.{stored_drone}
use Rattle.mav_nodes.specs.declared.faults.StartFault.{StartFault}
use Rattle.mav_nodes.specs.declared.faults.StartFault.TheVariants.{Store, BadKept, NoMemory}
use Rattle.mav_nodes.specs.Starts.{IsStarted, StartedFrom, StartFails}

-- a home's numbers are those of their words
pub home_again : (x y : ℤ) → SFits w32 x → SFits w32 y → ◌≡◌ {A = Point} (record { x = to_z w32 (of_z w32 x); y = to_z w32 (of_z w32 y) }) (record { x = x; y = y })
home_again x y a b = λ i. record { x = to_z-of_z w32 x a i; y = to_z-of_z w32 y b i }

-- no image is empty
no_image : (sys low : ℕ) (plans : Plans) (bytes : List ℕ) → IsImageOf sys low plans bytes → bytes ≡ [] → ⊥
no_image sys low plans bytes is none =
    let short = (image_short sys low plans bytes is).0 in
    let zero = ap length none in
    omega (arith, short, zero)

pub started_anew : (bytes : List ℕ) (key : List ℕ) (sys : ℕ) (home : Point) (node : DroneView) → bytes ≡ [] → IsDrone (new_drone key sys home) node → StartedFrom key sys home bytes node
started_anew bytes key sys home node none is = record {
  anew = λ _. is;
  stored = λ low plans image. absurd (no_image sys low plans bytes image none);
  either = inl none;
}

pub started_from : (bytes : List ℕ) (key : List ℕ) (sys : ℕ) (home : Point) (low : ℕ) (plans : Plans) (node : DroneView) → IsImageOf sys low plans bytes → IsDrone (stored_drone key sys home low plans) node → StartedFrom key sys home bytes node
started_from bytes key sys home low plans node here is = record {
  anew = λ none. absurd (no_image sys low plans bytes here none);
  stored = λ l p other.
      let equal = image_same sys low l plans p bytes here other in
      subst (λ (n : ℕ). IsDrone (stored_drone key sys home n p) node) equal.0 (subst (λ (q : Plans). IsDrone (stored_drone key sys home low q) node) equal.1 is);
  either = inr (record { low = low; plans = plans; is = here });
}

-- it starts anew or from an image
started_either : (bytes : List ℕ) (key : List ℕ) (sys : ℕ) (home : Point) (node : DroneView) → (bytes ≡ []) ⊎ IsImage sys bytes → StartedFrom key sys home bytes node → IsStarted key sys home node
started_either bytes key sys home node (inl none) from = inl (from.anew none)
started_either bytes key sys home node (inr image) from = inr (record { low = image.low; plans = image.plans; bytes = bytes; is_image = image.is; is = from.stored image.low image.plans image.is })

pub is_started : (bytes : List ℕ) (key : List ℕ) (sys : ℕ) (home : Point) (node : DroneView) → StartedFrom key sys home bytes node → IsStarted key sys home node
is_started bytes key sys home node from = started_either bytes key sys home node from.either from

-- the bytes are what the store has, if that is known
pub known_start : (contents : Option (List ℕ)) (loaded : List ℕ) (r : Result DroneView StartFault) (key : List ℕ) (sys : ℕ) (home : Point) → IfSome contents (λ kept. loaded ≡ kept) → IfOk r (StartedFrom key sys home loaded) → IfSome contents (λ bytes. IfOk r (StartedFrom key sys home bytes))
known_start None loaded r key sys home same from = tt
known_start (Some bytes) loaded r key sys home same from = subst (λ (b : List ℕ). IfOk r (StartedFrom key sys home b)) same from

pub known_fault : (contents : Option (List ℕ)) (loaded : List ℕ) (fault : StartFault) (sys : ℕ) (failed : Type 0) → IfSome contents (λ kept. loaded ≡ kept) → StartFails fault sys (Some loaded) ⊥ → StartFails fault sys contents failed
known_fault contents loaded Store sys failed same fails = absurd fails
known_fault None loaded BadKept sys failed same fails = tt
known_fault (Some bytes) loaded BadKept sys failed same fails = subst (λ (b : List ℕ). (b ≢ []) × (IsImage sys b → ⊥)) same fails
known_fault contents loaded NoMemory sys failed same fails = tt

pub no_memory : (fault : StartFault) (sys : ℕ) (contents : Option (List ℕ)) (failed : Type 0) → fault ≡ NoMemory → StartFails fault sys contents failed
no_memory fault sys contents failed is = subst (λ (f : StartFault). StartFails f sys contents failed) (sym is) tt
