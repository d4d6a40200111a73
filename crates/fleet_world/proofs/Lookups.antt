-- Look-ups by names, and counts.
use Rattle.std.specs.Prelude.{IfSome, is_some}
use Rattle.std.proofs.Common.{◌≡◌, ℕ, suc, ◌+◌, ◌-◌, Bool, true, false, not, cond, ◌||◌, nat_lt, List, [], ◌∷◌, length, map, position, Option, Some, None, refl, sym, ap, ◌∙◌, subst, arith}
use Rattle.std.proofs.lemmas.List.{length-map}
use Rattle.std.proofs.lemmas.Bool.Decides.{nat_tests}
use Rattle.std.specs.List.{position_or_len, list_any}
use Rattle.std.proofs.Common.{◌<◌, ◌≤◌, drop, get_or, drop-cons, add-one}
use Rattle.mav_names.specs.declared.names.Name.{Name}
use Rattle.scenario_lines.specs.declared.naming.Named.{Named}
use Rattle.scenario_lines.specs.declared.naming.Role.TheVariants.{Drone as DroneRole, Station as StationRole}
use Rattle.scenario_lines.specs.LineContext.{is_called, is_in_role}
use Rattle.node_reports.specs.Nodes.{Node, Drone, Station}
use Rattle.fleet_world.specs.declared.nodes.Node.{Node as ViewNode}
use Rattle.fleet_world.specs.declared.nodes.Node.TheVariants.{Drone as ViewDrone, Station as ViewStation}
use Rattle.fleet_world.specs.Counts.{is_drone_view, counted}
use Rattle.fleet_world.specs.WorldState.{named, is_named, is_drone_named, is_station_named, drones_in, stations_in}
use Rattle.fleet_world.specs.WorldView.{AreNodes, named_in, names_in, Fleet, IsFleet}
use Rattle.fleet_world.proofs.NodeLists.{names_are, as_many}

-- a search goes by the tests of the elements
module _ {A B : Type 0} (p : A → Bool) (q : B → Bool) (f : A → B) (same : (x : A) → q (f x) ≡ p x) where
  place_by : (xs : List A) → position_or_len q (map f xs) ≡ position_or_len p xs
  place_by [] = refl
  place_by (x ∷ xs) = ap (λ (b : Bool). cond (not b) (1 + position_or_len q (map f xs)) 0) (same x) ∙ ap (λ (n : ℕ). cond (not (p x)) (1 + n) 0) (place_by xs)

  position_by : (xs : List A) → position q (map f xs) ≡ position p xs
  position_by xs =
      ap (λ (n : ℕ). cond (nat_lt n (length (map f xs))) (Some n) None) (place_by xs)
      ∙ ap (λ (n : ℕ). cond (nat_lt (position_or_len p xs) n) (Some (position_or_len p xs)) None) (length-map xs f)

called_named : (name : Name) (node : Node) → is_called name (named node) ≡ is_named name node
called_named name (Drone n) = refl
called_named name (Station n) = refl

drone_named : (name : Name) (node : Node) → is_in_role DroneRole name (named node) ≡ is_drone_named name node
drone_named name (Drone n) = refl
drone_named name (Station n) = refl

station_named : (name : Name) (node : Node) → is_in_role StationRole name (named node) ≡ is_station_named name node
station_named name (Drone n) = refl
station_named name (Station n) = refl

module _ (nodes : List Node) (inside seen : List ViewNode) (found : Option ℕ) (are : AreNodes nodes seen) (same : inside ≡ seen) where
  place_by_name : (test : Named → Bool) (p : Node → Bool) → ((node : Node) → test (named node) ≡ p node) → found ≡ position (λ (v : ViewNode). test (named_in v)) inside → found ≡ position p nodes
  place_by_name test p agree is =
      is ∙ sym (position_by (λ (v : ViewNode). test (named_in v)) test named_in (λ v. refl) inside)
      ∙ ap (λ (l : List ViewNode). position test (names_in l)) same
      ∙ ap (position test) (names_are nodes seen are)
      ∙ position_by p test named agree nodes

  pub index_of_name : (name : Name) → found ≡ position (λ (v : ViewNode). is_called name (named_in v)) inside → found ≡ position (is_named name) nodes
  index_of_name name is = place_by_name (is_called name) (is_named name) (called_named name) is

  pub index_of_drone : (name : Name) → found ≡ position (λ (v : ViewNode). is_in_role DroneRole name (named_in v)) inside → found ≡ position (is_drone_named name) nodes
  index_of_drone name is = place_by_name (is_in_role DroneRole name) (is_drone_named name) (drone_named name) is

  pub index_of_station : (name : Name) → found ≡ position (λ (v : ViewNode). is_in_role StationRole name (named_in v)) inside → found ≡ position (is_station_named name) nodes
  index_of_station name is = place_by_name (is_in_role StationRole name) (is_station_named name) (station_named name) is

pub found_within : (found : Option ℕ) (inside seen : List ViewNode) → inside ≡ seen → IfSome found (λ k. k < length inside) → IfSome found (λ k. k < length seen)
found_within found inside seen same within = subst (λ (l : List ViewNode). IfSome found (λ k. k < length l)) same within

any_of_names : (test : Named → Bool) (seen : List ViewNode) → list_any (λ (v : ViewNode). test (named_in v)) seen ≡ list_any test (names_in seen)
any_of_names test [] = refl
any_of_names test (v ∷ vs) = ap (λ (b : Bool). test (named_in v) || b) (any_of_names test vs)

module _ {A : Type 0} (p : A → Bool) where
  both_more : (n m : ℕ) → nat_lt (1 + n) (suc m) ≡ nat_lt n m
  both_more n m = grind (arith, nat_tests)

  any_at : (n m : ℕ) (t rest : Bool) → nat_lt n m ≡ rest → nat_lt (cond (not t) (1 + n) 0) (suc m) ≡ (t || rest)
  any_at n m true rest more = grind (arith, nat_tests)
  any_at n m false rest more = both_more n m ∙ more

  any_before : (xs : List A) → nat_lt (position_or_len p xs) (length xs) ≡ list_any p xs
  any_before [] = refl
  any_before (x ∷ xs) = any_at (position_or_len p xs) (length xs) (p x) (list_any p xs) (any_before xs)

  some_if : (b : Bool) (n : ℕ) → is_some (cond b (Some n) None) ≡ b
  some_if true n = refl
  some_if false n = refl

  -- what a loop that looks for the first element that passes has found
  module _ (xs : List A) (i : ℕ) (before : i + position_or_len p (drop i xs) ≡ position_or_len p xs) where
    pub first_more : (x : A) → i < length xs → x ≡ get_or xs i x → p x ≡ false → (i + 1) + position_or_len p (drop (i + 1) xs) ≡ position_or_len p xs
    first_more x within is fails =
        let next : drop i xs ≡ x ∷ drop (i + 1) xs = drop-cons xs i x within ∙ ap (λ (y : _). y ∷ drop (suc i) xs) (sym is) ∙ ap (λ (n : ℕ). x ∷ drop n xs) (sym (add-one i)) in
        let split : position_or_len p (drop i xs) ≡ 1 + position_or_len p (drop (i + 1) xs) =
        ap (position_or_len p) next ∙ ap (λ (b : Bool). cond (not b) (1 + position_or_len p (drop (i + 1) xs)) 0) fails
        in
        omega (arith, split, before)

    pub first_here : (x : A) → i < length xs → x ≡ get_or xs i x → p x ≡ true → Some i ≡ position p xs
    first_here x within is passes =
        let next : drop i xs ≡ x ∷ drop (i + 1) xs = drop-cons xs i x within ∙ ap (λ (y : _). y ∷ drop (suc i) xs) (sym is) ∙ ap (λ (n : ℕ). x ∷ drop n xs) (sym (add-one i)) in
        let none : position_or_len p (drop i xs) ≡ 0 = ap (position_or_len p) next ∙ ap (λ (b : Bool). cond (not b) (1 + position_or_len p (drop (i + 1) xs)) 0) passes in
        let place : i ≡ position_or_len p xs = omega (arith, none, before) in
        let test : nat_lt i (length xs) ≡ true = grind (arith, nat_tests) in
        ap (λ (b : Bool). cond b (Some i) None) (sym test) ∙ ap (λ (n : ℕ). cond (nat_lt n (length xs)) (Some n) None) place

    pub first_none : i ≡ length xs → None ≡ position p xs
    first_none end =
        let past : length xs ≤ position_or_len p xs = omega (arith, before, end) in
        let test : nat_lt (position_or_len p xs) (length xs) ≡ false = grind (arith, nat_tests) in
        ap (λ (b : Bool). cond b (Some (position_or_len p xs)) None) (sym test)

-- a search of the nodes is one of their names
pub any_named : (test : Named → Bool) (inside seen : List ViewNode) (found : Option ℕ) (some : Bool) → inside ≡ seen → found ≡ position (λ (v : ViewNode). test (named_in v)) inside → some ≡ is_some found → some ≡ list_any test (names_in seen)
any_named test inside seen found some same is has =
    has ∙ ap is_some is ∙ some_if (λ (v : ViewNode). test (named_in v)) _ _ ∙ any_before (λ (v : ViewNode). test (named_in v)) inside
    ∙ any_of_names test inside ∙ ap (λ (l : List ViewNode). list_any test (names_in l)) same

-- ---- counts

none_more : (n : ℕ) → 0 + n ≡ n
none_more n = omega arith

-- one element more was counted
pub counted_one : {A : Type 0} (p : A → Bool) (xs : List A) (i : ℕ) (x : A) (count total : ℕ) → i < length xs → x ≡ get_or xs i x → count + counted p (drop i xs) ≡ total → (count + cond (p x) 1 0) + counted p (drop (i + 1) xs) ≡ total
counted_one p xs i x count total within is before =
    let next : drop i xs ≡ x ∷ drop (i + 1) xs = drop-cons xs i x within ∙ ap (λ (y : _). y ∷ drop (suc i) xs) (sym is) ∙ ap (λ (n : ℕ). x ∷ drop n xs) (sym (add-one i)) in
    let split : counted p (drop i xs) ≡ cond (p x) 1 0 + counted p (drop (i + 1) xs) = ap (counted p) next in
    omega (arith, split, before)

one_bit : (b : Bool) → cond b 1 0 ≤ 1
one_bit true = omega arith
one_bit false = omega arith

-- the same of a count in a loop
pub counted_more : {A : Type 0} (p : A → Bool) (xs : List A) (i : ℕ) (x : A) (count total add : ℕ) → i < length xs → x ≡ get_or xs i x → add ≡ cond (p x) 1 0 → count + counted p (drop i xs) ≡ total → (count + add) + counted p (drop (i + 1) xs) ≡ total
counted_more p xs i x count total add within is one before =
    ap (λ (n : ℕ). (count + n) + counted p (drop (i + 1) xs)) one ∙ counted_one p xs i x count total within is before

pub count_few : (i count add : ℕ) (test : Bool) → add ≡ cond test 1 0 → count ≤ i → count + add ≤ i + 1
count_few i count add test one few = let bit = one_bit test in omega (arith, bit, one, few)

pub drones_counted : (nodes : List Node) (seen : List ViewNode) → AreNodes nodes seen → counted is_drone_view seen ≡ drones_in nodes
drones_counted [] [] are = refl
drones_counted [] (v ∷ vs) are = absurd are
drones_counted (n ∷ ns) [] are = absurd are
drones_counted (Drone n ∷ ns) (ViewDrone v ∷ vs) are = ap (λ (n : ℕ). 1 + n) (drones_counted ns vs are.1)
drones_counted (Drone n ∷ ns) (ViewStation name v ∷ vs) are = absurd are.0
drones_counted (Station n ∷ ns) (ViewDrone v ∷ vs) are = absurd are.0
drones_counted (Station n ∷ ns) (ViewStation name v ∷ vs) are = none_more _ ∙ drones_counted ns vs are.1

all_counted : (nodes : List Node) → length nodes ≡ drones_in nodes + stations_in nodes
all_counted [] = refl
all_counted (Drone n ∷ ns) = let more : length ns ≡ drones_in ns + stations_in ns = all_counted ns in omega arith
all_counted (Station n ∷ ns) = let more : length ns ≡ drones_in ns + stations_in ns = all_counted ns in omega arith

pub drones_are : (nodes : List Node) (fleet inside : Fleet) (seen : List ViewNode) (drones : ℕ) → inside ≡ fleet → IsFleet nodes fleet → seen ≡ inside.nodes → drones ≡ counted is_drone_view seen → drones ≡ drones_in nodes
drones_are nodes fleet inside seen drones same f is found =
    found ∙ ap (λ (l : List ViewNode). counted is_drone_view l) (is ∙ ap (λ (z : Fleet). z.nodes) same)
    ∙ drones_counted nodes fleet.nodes f

pub all_are : (nodes : List Node) (fleet inside : Fleet) (total : ℕ) → inside ≡ fleet → IsFleet nodes fleet → total ≡ length inside.nodes → total ≡ length nodes
all_are nodes fleet inside total same f whole = whole ∙ ap (λ (z : Fleet). length z.nodes) same ∙ as_many nodes fleet.nodes f

pub stations_are : (nodes : List Node) (fleet inside : Fleet) (total drones : ℕ) → inside ≡ fleet → IsFleet nodes fleet → total ≡ length inside.nodes → drones ≡ drones_in nodes → total - drones ≡ stations_in nodes
stations_are nodes fleet inside total drones same f whole found =
    let all : total ≡ drones_in nodes + stations_in nodes = all_are nodes fleet inside total same f whole ∙ all_counted nodes in
    omega arith
