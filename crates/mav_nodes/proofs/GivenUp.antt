-- What a store has of a node that is given up at a frame.
use Rattle.std.proofs.Common.{◌≡◌, ◌⊎◌, ℕ, Bool, List, Option, inl, inr, refl}
use Rattle.mav_names.specs.declared.names.Stream.{Stream}
use Rattle.plan_items.specs.declared.messages.PlanMsg.{PlanMsg}
use Rattle.mav_frame.specs.Packet.{Packet}
use Rattle.mav_nodes.specs.declared.link.Tried.TheVariants.{Plan}
use Rattle.mav_nodes.specs.Links.{Link}
use Rattle.mav_nodes.specs.Stores.{HoldsFrom, IsRaised, GivenUp}
use Rattle.mav_nodes.specs.Steps.{CoreStep}
use Rattle.mav_nodes.specs.Promises.{IsTried, AtFrame}
use Rattle.mav_nodes.proofs.StoreCalls.{from_raised}

module _ {Core : Type 0} (contents : Option (List ℕ)) (stored : Core → ℕ → List ℕ → Type 0) (taken : Bool → Core → Stream → PlanMsg → CoreStep Core) (core : Core) (link : Link) (packet : Packet) (a b : Option ℕ) where
  -- it is as before the frame, but for the low bound
  pub unchanged : IsRaised a b → HoldsFrom contents (stored core) b → GivenUp contents stored a (AtFrame taken link packet core)
  unchanged r h = record { core = core; may_be = inl refl; holds = from_raised contents (stored core) a b r h }

  -- the frame carries a plan message
  pub took : (from : Stream) (message : PlanMsg) → IsTried link packet (Plan from message) → IsRaised a b
      → GivenUp contents stored b (λ after. (after ≡ core) ⊎ ((kept : Bool) × (after ≡ (taken kept core from message).core))) → GivenUp contents stored a (AtFrame taken link packet core)
  took from message tried r h = record { core = h.core; may_be = by_core h.may_be; holds = from_raised contents (stored h.core) a b r h.holds }
    where
      by_core : (h.core ≡ core) ⊎ ((kept : Bool) × (h.core ≡ (taken kept core from message).core)) → AtFrame taken link packet core h.core
      by_core (inl e) = inl e
      by_core (inr k) = inr (record { kept = k.0; from = from; message = message; tried = tried; is = k.1 })
