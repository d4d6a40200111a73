-- A drone at its start, by what its store has.
use Rattle.std.proofs.Common.{◌≡◌, ◌⊎◌, inl, inr, ℕ, List, [], ◌∷◌, Option, Some, None, refl, sym, ap, ◌∙◌, subst, arith}
use Rattle.std.specs.Prelude.{IfSome, max}
use Rattle.plan_image.specs.Plans.{Plans}
use Rattle.plan_image.specs.Image.{IsImageOf, IsImage}
use Rattle.plan_upload.specs.Addresses.{node_of}
use Rattle.plan_upload.specs.Drone.{DroneState}
use Rattle.mav_nodes.specs.Nodes.{DroneSide, DroneView, IsDrone, new_drone}
use Rattle.mav_nodes.specs.Restarts.{stored_drone}
use Rattle.mav_nodes.specs.Starts.{IsStarted, StartedFrom}
use Rattle.mav_nodes.specs.Stores.{Holds}
use Rattle.mav_nodes.specs.Images.{IsStored, StoreHolds}
use Rattle.mav_ports.proofs.Known.{append_known_nil}
use Rattle.mav_links.specs.Links.{LinkState}
use Rattle.mav_nodes.specs.Stores.{Serves}
use Rattle.mav_nodes.specs.Streams.{HasRead}
use Rattle.node_reports.specs.Nodes.{Drone}
use Rattle.live_node.specs.declared.nodes.LiveNode.TheVariants.{Drone as LiveDrone}
use Rattle.live_node.specs.declared.run_log.RunLog.{RunLog}
use Rattle.live_node.specs.Runs.{Outside, outside, Stores}
use Rattle.live_node.specs.Progress.{Opened}
use Rattle.run_status.specs.declared.run_ends.RunEnd.{RunEnd}
use Rattle.plan_store.specs.MemStores.{MemStore, store_from_start}
use Rattle.live_node.specs.declared.drones.DronePlan.{DronePlan}
use Rattle.live_node.specs.Drones.{origin, StartsFrom, mem_stores, DroneRuns, NewDroneRuns}

-- a drone that has started, and what its store has of it
pub record Begun (key : List ℕ) (sys : ℕ) (contents : Option (List ℕ)) (view : DroneView) : Type 0 where
  pub node : DroneSide
  pub starts : StartsFrom key sys contents node
  pub is : IsDrone node view
  pub name : node_of node.link.me ≡ (record { sys = sys; comp = 1 })
  pub stored : StoreHolds contents view

unknown : (f : ℕ → List ℕ → Type 0) (low : Option ℕ) → Holds None f low
unknown f None = tt
unknown f (Some low) = tt

bound_alone : (low : ℕ) → max 0 low ≡ low
bound_alone low = grind arith

new_low : (key : List ℕ) (sys : ℕ) (view : DroneView) → IsDrone (new_drone key sys origin) view → view.link.low ≡ None
new_low key sys view is = is.link.low

old_low : (key : List ℕ) (sys low : ℕ) (plans : Plans) (view : DroneView) → IsDrone (stored_drone key sys origin low plans) view → view.link.low ≡ Some low
old_low key sys low plans view is = is.link.low ∙ ap Some (bound_alone low)

restored : (key : List ℕ) (sys : ℕ) (bytes : List ℕ) (view : DroneView) (low : ℕ) (plans : Plans) → IsImageOf sys low plans bytes → IsDrone (stored_drone key sys origin low plans) view → StoreHolds (Some bytes) view
restored key sys bytes view low plans image is =
    subst (λ (l : Option ℕ). Holds (Some bytes) (IsStored view.drone) l) (sym (old_low key sys low plans view is))
    (subst (λ (d : DroneState). IsImageOf d.sys low d.plans bytes) (sym is.core) image)

pub begun : (key : List ℕ) (sys : ℕ) (contents : Option (List ℕ)) (view : DroneView) → IsStarted key sys origin view → IfSome contents (λ bytes. StartedFrom key sys origin bytes view) → Begun key sys contents view
begun key sys None view (inl is) from = record { node = new_drone key sys origin; starts = inl refl; is = is; name = refl; stored = unknown (IsStored view.drone) view.link.low }
begun key sys None view (inr f) from = record {
  node = stored_drone key sys origin f.low f.plans;
  starts = inr (f.bytes, record { low = f.low; plans = f.plans; is_image = f.is_image; is = refl });
  is = f.is;
  name = refl;
  stored = unknown (IsStored view.drone) view.link.low;
}
begun key sys (Some []) view started from =
    let is = from.anew refl in
    record {
      node = new_drone key sys origin;
      starts = refl;
      is = is;
      name = refl;
      stored = subst (λ (l : Option ℕ). Holds (Some []) (IsStored view.drone) l) (sym (new_low key sys view is)) refl;
    }
begun key sys (Some (byte ∷ bytes)) view started from = by_image from.either
  where
    by_image : ((byte ∷ bytes) ≡ []) ⊎ IsImage sys (byte ∷ bytes) → Begun key sys (Some (byte ∷ bytes)) view
    by_image (inl e) = cc
    by_image (inr image) =
        let is = from.stored image.low image.plans image.is in
        record {
          node = stored_drone key sys origin image.low image.plans;
          starts = record { low = image.low; plans = image.plans; is_image = image.is; is = refl };
          is = is;
          name = refl;
          stored = restored key sys (byte ∷ bytes) view image.low image.plans image.is is;
        }

-- and before its first call
pub opened : {S : Type 0} (stores : Stores S) (before now : S) (key : List ℕ) (sys : ℕ) (view : DroneView) (t : RunLog) (link : LinkState) (text : Option (List ℕ)) (time : Option ℕ) → (b : Begun key sys (stores.contents before) view) → Serves stores.faults stores.is_infallible before now → stores.contents now ≡ stores.contents before → HasRead [] [] view.link → t.name ≡ (record { sys = sys; comp = 1 }) → t.sent ≡ 0 → t.ending ≡ None → t.ticks ≡ 0 → Opened stores before now (Drone b.node) (LiveDrone view) t (outside link text time)
opened stores before now key sys view t link text time b serves stays stream name sent ending ticks = record {
  output = record {
    node = Drone b.node;
    events = [];
    run = refl;
    is = b.is;
    name = name ∙ sym b.name;
    count = sent;
    ending = ending;
    ticks = ticks;
    faults = refl;
    sent = append_known_nil link.sent;
    printed = append_known_nil text;
    time = refl;
    kept = record { serves = serves; each = serves };
    stored = subst (λ (contents : Option (List ℕ)). StoreHolds contents view) (sym stays) b.stored;
  };
  heard = stream;
  same = b.is.link.end.extras;
}

-- a drone that ran over an empty store in memory
pub ran_anew : (key : List ℕ) (plan : DronePlan) (contents fails : List ℕ) (before after : MemStore) (end : Option RunEnd) (first last : Outside) → contents ≡ [] → fails ≡ [] → before ≡ store_from_start contents fails → DroneRuns mem_stores key plan before after end first last → NewDroneRuns key plan end first last
ran_anew key plan contents fails before after end first last empty sure start run =
    let is : before ≡ store_from_start [] [] = start ∙ (ap (λ (c : List ℕ). store_from_start c fails) empty ∙ ap (store_from_start []) sure) in
    (after, subst (λ (s : MemStore). DroneRuns mem_stores key plan s after end first last) is run)
