-- The node that a search by name finds.
use Rattle.std.proofs.Common.{◌≡◌, ℕ, suc, ◌+◌, ◌<◌, Bool, true, false, not, cond, ◌==◌, nat_lt, List, [], ◌∷◌, length, position, slice_get, Some, None, refl, sym, ap, ◌∙◌, subst, arith}
use Rattle.mav_nodes.specs.Nodes.{DroneSide, StationSide}
use Rattle.std.specs.List.{position_or_len}
use Rattle.std.proofs.lemmas.Bool.{and_parts, eqb-true}
use borrow.Author.Tests.{ltb-true}
use Rattle.mav_names.specs.declared.names.Name.{Name}
use Rattle.plan_upload.specs.Addresses.{node_of, same_name}
use Rattle.node_reports.specs.Nodes.{Node, Drone, Station}
use Rattle.fleet_world.specs.WorldState.{is_drone_named, is_station_named}

pub record FoundBy (p : Node → Bool) (nodes : List Node) (k : ℕ) : Type 0 where
  pub node : Node
  pub there : slice_get nodes k ≡ Some node
  pub passes : p node ≡ true

module _ (p : Node → Bool) where
  found_test : (x : Node) (xs whole : List Node) (k n : ℕ) → k ≡ position_or_len p (x ∷ xs) → k < length (x ∷ xs) → ((node : Node) → slice_get (x ∷ xs) k ≡ Some node → slice_get whole n ≡ Some node) → (k ≡ suc (position_or_len p xs) → position_or_len p xs < length xs → FoundBy p whole n) → (b : Bool) → p x ≡ b → FoundBy p whole n
  found_test x xs whole k n index within there next true e =
      let zero_is : k ≡ 0 = index ∙ ap (λ (t : Bool). cond (not t) (1 + position_or_len p xs) 0) e in
      record { node = x; there = there x (ap (slice_get (x ∷ xs)) zero_is); passes = e }
  found_test x xs whole k n index within there next false e =
      let more : k ≡ 1 + position_or_len p xs = index ∙ ap (λ (t : Bool). cond (not t) (1 + position_or_len p xs) 0) e in
      next (omega arith) (omega arith)

  found_at : (nodes whole : List Node) (k n : ℕ) → k ≡ position_or_len p nodes → k < length nodes → ((node : Node) → slice_get nodes k ≡ Some node → slice_get whole n ≡ Some node) → FoundBy p whole n
  found_at [] whole k n index within there = absurd (omega arith)
  found_at (x ∷ xs) whole k n index within there =
      found_test x xs whole k n index within there
      (λ next less. found_at xs whole (position_or_len p xs) n refl less (λ node h. there node (ap (slice_get (x ∷ xs)) next ∙ h)))
      (p x) refl

  some_place : (n size k : ℕ) → cond (nat_lt n size) (Some n) None ≡ Some k → (n ≡ k) × (n < size)
  some_place n size k e = by_size (nat_lt n size) refl e
    where
      by_size : (b : Bool) → nat_lt n size ≡ b → cond b (Some n) None ≡ Some k → (n ≡ k) × (n < size)
      by_size true t h = let same : n ≡ k = cc in (same, ltb-true n size t)
      by_size false t h = cc

  pub found_by : (nodes : List Node) (k : ℕ) → position p nodes ≡ Some k → FoundBy p nodes k
  found_by nodes k e =
      let index = some_place (position_or_len p nodes) (length nodes) k e in
      found_at nodes nodes k k (sym index.0) (subst (λ (n : ℕ). n < length nodes) index.0 index.1) (λ node h. h)

pub same_is : (a b : Name) → same_name a b ≡ true → a ≡ b
same_is a b e =
    let parts = and_parts (a.sys == b.sys) (a.comp == b.comp) e in
    λ i. record { sys = eqb-true a.sys b.sys parts.0 i; comp = eqb-true a.comp b.comp parts.1 i }

-- the drone of a name
pub record FoundDrone (name : Name) (nodes : List Node) (k : ℕ) : Type 0 where
  pub node : DroneSide
  pub there : slice_get nodes k ≡ Some (Drone node)
  pub called : node_of node.link.me ≡ name

pub found_drone : (name : Name) (nodes : List Node) (k : ℕ) → position (is_drone_named name) nodes ≡ Some k → FoundDrone name nodes k
found_drone name nodes k e = let f = found_by (is_drone_named name) nodes k e in by_node f.node f.there f.passes
  where
    by_node : (node : Node) → slice_get nodes k ≡ Some node → is_drone_named name node ≡ true → FoundDrone name nodes k
    by_node (Drone n) there passes = record { node = n; there = there; called = same_is (node_of n.link.me) name passes }
    by_node (Station n) there passes = cc

-- and the station
pub record FoundStation (name : Name) (nodes : List Node) (k : ℕ) : Type 0 where
  pub node : StationSide
  pub there : slice_get nodes k ≡ Some (Station node)
  pub called : node_of node.link.me ≡ name

pub found_station : (name : Name) (nodes : List Node) (k : ℕ) → position (is_station_named name) nodes ≡ Some k → FoundStation name nodes k
found_station name nodes k e = let f = found_by (is_station_named name) nodes k e in by_node f.node f.there f.passes
  where
    by_node : (node : Node) → slice_get nodes k ≡ Some node → is_station_named name node ≡ true → FoundStation name nodes k
    by_node (Drone n) there passes = cc
    by_node (Station n) there passes = record { node = n; there = there; called = same_is (node_of n.link.me) name passes }
