-- The nodes of a state: their names are distinct, and stay the same.
use Rattle.std.proofs.Common.{◌≡◌, ◌≢◌, ℕ, zero, suc, ◌<◌, ◌⊎◌, inl, inr, Bool, true, false, ◌==◌, ◌||◌, ◌&&◌, List, [], ◌∷◌, ◌++◌, slice_get, slice_set, Some, refl, sym, ap, subst, arith, ◌∙◌}
use Rattle.mav_nodes.specs.Nodes.{DroneSide, StationSide}
use Rattle.mav_names.specs.declared.names.Name.{Name}
use Rattle.mav_names.specs.declared.names.Stream.{Stream}
use Rattle.mav_names.specs.Addresses.{same_name, node_of, is_for_drone}
use Rattle.plan_ranges.specs.Ranges.{StreamInRange}
use Rattle.plan_safety.specs.World.{Nodes, Distinct}
use Rattle.plan_safety.proofs.Keys.{bool_split, differ, both_true, either_true, eq_true, name_eq, name_same, not_true}
use Rattle.scenario_lines.specs.LineContext.{has_name, has_drone, has_station}
use Rattle.node_reports.specs.Nodes.{Node, Drone as DroneNode, Station as StationNode, node_name}
use Rattle.fleet_world.specs.WorldState.{stream_of, names_of}
use Rattle.fleet_invariants.specs.Sound.{link_of}
use Rattle.fleet_safety.specs.Safe.{nodes_of}
use Rattle.fleet_safety.proofs.Lists.{some_is, at_end, set_there, set_elsewhere, more_there}

-- the stream that a node signs
abbrev pub stream_in : Node → Stream
stream_in a = (link_of a).me

-- two nodes have one role and one stream
abbrev pub SameRole : Node → Node → Type 0
SameRole (DroneNode d) (DroneNode e) = d.link.me ≡ e.link.me
SameRole (DroneNode d) (StationNode t) = ⊥
SameRole (StationNode s) (DroneNode e) = ⊥
SameRole (StationNode s) (StationNode t) = s.link.me ≡ t.link.me

pub same_role : (a : Node) → SameRole a a
same_role (DroneNode d) = refl
same_role (StationNode t) = refl

pub role_name : (a b : Node) → SameRole a b → node_name a ≡ node_name b
role_name (DroneNode d) (DroneNode e) h = ap node_of h
role_name (DroneNode d) (StationNode t) h = absurd h
role_name (StationNode s) (DroneNode e) h = absurd h
role_name (StationNode s) (StationNode t) h = ap node_of h

-- its name and its stream determine each other
pub name_in : (a b : Node) → stream_in a ≡ stream_in b → node_name a ≡ node_name b
name_in (DroneNode d) (DroneNode e) h = ap node_of h
name_in (DroneNode d) (StationNode t) h = ap node_of h
name_in (StationNode s) (DroneNode e) h = ap node_of h
name_in (StationNode s) (StationNode t) h = ap node_of h

pub named_in : (a : Node) (name : Name) → stream_of name ≡ stream_in a → name ≡ node_name a
named_in (DroneNode d) name h = ap node_of h
named_in (StationNode t) name h = ap node_of h

-- all sign on link 0; a drone is component 1, and no station is component 0
abbrev pub Proper : Node → Type 0
Proper (DroneNode d) = (d.link.me.link ≡ 0) × (d.link.me.comp ≡ 1) × StreamInRange d.link.me
Proper (StationNode t) = (t.link.me.link ≡ 0) × (0 < t.link.me.comp) × StreamInRange t.link.me

proper_on : (a b : Node) → SameRole a b → Proper a → Proper b
proper_on (DroneNode d) (DroneNode e) h p = subst (λ (me : Stream). (me.link ≡ 0) × (me.comp ≡ 1) × StreamInRange me) h p
proper_on (DroneNode d) (StationNode t) h p = absurd h
proper_on (StationNode s) (DroneNode e) h p = absurd h
proper_on (StationNode s) (StationNode t) h p = subst (λ (me : Stream). (me.link ≡ 0) × (0 < me.comp) × StreamInRange me) h p

pub in_range : (a : Node) → Proper a → StreamInRange (stream_in a)
in_range (DroneNode d) p = p.2
in_range (StationNode t) p = p.2

pub on_link : (a : Node) → Proper a → (stream_in a).link ≡ 0
on_link (DroneNode d) p = p.0
on_link (StationNode t) p = p.0

-- names are distinct
pub record Named (nodes : List Node) : Type 0 where
  pub apart : (i j : ℕ) (a b : Node) → slice_get nodes i ≡ Some a → slice_get nodes j ≡ Some b → node_name a ≡ node_name b → i ≡ j
  pub proper : (i : ℕ) (a : Node) → slice_get nodes i ≡ Some a → Proper a

-- no node has this name
abbrev pub Unnamed : List Node → Name → Type 0
Unnamed nodes name = (i : ℕ) (a : Node) → slice_get nodes i ≡ Some a → node_name a ≢ name

-- each node is one of the fleet
abbrev pub IsIn : Nodes → Node → Type 0
IsIn n (DroneNode d) = n.is_drone d.link.me ≡ true
IsIn n (StationNode t) = n.is_station t.link.me ≡ true

abbrev pub Covers : Nodes → List Node → Type 0
Covers n nodes = (i : ℕ) (a : Node) → slice_get nodes i ≡ Some a → IsIn n a

pub role_in : (n : Nodes) (a b : Node) → SameRole a b → IsIn n a → IsIn n b
role_in n (DroneNode d) (DroneNode e) h = subst (λ me. n.is_drone me ≡ true) h
role_in n (DroneNode d) (StationNode t) h = absurd h
role_in n (StationNode s) (DroneNode e) h = absurd h
role_in n (StationNode s) (StationNode t) h = subst (λ me. n.is_station me ≡ true) h

role_back : (a b : Node) → SameRole a b → SameRole b a
role_back (DroneNode d) (DroneNode e) h = sym h
role_back (DroneNode d) (StationNode t) h = absurd h
role_back (StationNode s) (DroneNode e) h = absurd h
role_back (StationNode s) (StationNode t) h = sym h

pub role_on : (a b c : Node) → SameRole a b → SameRole b c → SameRole a c
role_on (DroneNode d) (DroneNode e) (DroneNode f) h k = h ∙ k
role_on (DroneNode d) (DroneNode e) (StationNode t) h k = absurd k
role_on (DroneNode d) (StationNode t) c h k = absurd h
role_on (StationNode s) (DroneNode e) c h k = absurd h
role_on (StationNode s) (StationNode t) (DroneNode e) h k = absurd k
role_on (StationNode s) (StationNode t) (StationNode u) h k = h ∙ k

-- each node keeps its index and its role
pub record Stays (nodes : List Node) (i : ℕ) (a : Node) : Type 0 where
  pub node : Node
  pub there : slice_get nodes i ≡ Some node
  pub role : SameRole a node

abbrev pub Kept : List Node → List Node → Type 0
Kept nodes after = (i : ℕ) (a : Node) → slice_get nodes i ≡ Some a → Stays after i a

pub kept : (nodes : List Node) → Kept nodes nodes
kept nodes i a e = record { node = a; there = e; role = same_role a }

pub kept_on : (xs ys zs : List Node) → Kept xs ys → Kept ys zs → Kept xs zs
kept_on xs ys zs h k i a e =
    let y = h i a e in
    let z = k i y.node y.there in
    record { node = z.node; there = z.there; role = role_on a y.node z.node y.role z.role }

pub covers_back : (n : Nodes) (xs ys : List Node) → Kept xs ys → Covers n ys → Covers n xs
covers_back n xs ys h c i a e = let y = h i a e in role_in n y.node a (role_back a y.node y.role) (c i y.node y.there)

number_split : (i k : ℕ) → (i ≡ k) ⊎ (i ≢ k)
number_split i k = elim (bool_split (i == k)) [ inl t ↦ inl (eq_true i k t) | inr f ↦ inr (λ e. differ _ (subst (λ j. (i == j) ≡ true) e (grind arith)) f) ]

-- one node replaced by one of its role
module _ (nodes : List Node) (k : ℕ) (old new : Node) (found : slice_get nodes k ≡ Some old) (alike : SameRole old new) where
  -- the index that a node of the new list had
  pub record Was (i : ℕ) (a : Node) : Type 0 where
    pub node : Node
    pub there : slice_get nodes i ≡ Some node
    pub role : SameRole node a
    pub which : ((i ≡ k) × (a ≡ new)) ⊎ ((i ≢ k) × (node ≡ a))

  pub was : (i : ℕ) (a : Node) → slice_get (slice_set nodes k new) i ≡ Some a → Was i a
  was i a e = elim (number_split i k) [
    | inl is ↦ (let z : new ≡ a = some_is (sym (set_there nodes k old new found) ∙ sym (ap (slice_get (slice_set nodes k new)) is) ∙ e) in
        record { node = old; there = ap (slice_get nodes) is ∙ found; role = subst (SameRole old) z alike; which = inl (is, sym z) })
    | inr far ↦ record { node = a; there = sym (set_elsewhere nodes k i new far) ∙ e; role = same_role a; which = inr (far, refl) }
  ]

  pub set_kept : Kept nodes (slice_set nodes k new)
  set_kept i a e = elim (number_split i k) [
    | inl is ↦ (let z : old ≡ a = some_is (sym found ∙ sym (ap (slice_get nodes) is) ∙ e) in
        record { node = new; there = ap (slice_get (slice_set nodes k new)) is ∙ set_there nodes k old new found; role = subst (λ x. SameRole x new) z alike })
    | inr far ↦ record { node = a; there = set_elsewhere nodes k i new far ∙ e; role = same_role a }
  ]

  pub set_named : Named nodes → Named (slice_set nodes k new)
  set_named h = record {
    apart = λ i j a b ea eb e.
        let x = was i a ea in
        let y = was j b eb in
        h.apart i j x.node y.node x.there y.there (role_name x.node a x.role ∙ e ∙ sym (role_name y.node b y.role));
    proper = λ i a e. let x = was i a e in proper_on x.node a x.role (h.proper i x.node x.there);
  }

  pub set_covers : (n : Nodes) → Covers n nodes → Covers n (slice_set nodes k new)
  set_covers n h i a e = let x = was i a e in role_in n x.node a x.role (h i x.node x.there)

  pub set_unnamed : (name : Name) → Unnamed (slice_set nodes k new) name → Unnamed nodes name
  set_unnamed name h i a e is = let x = set_kept i a e in h i x.node x.there (sym (role_name a x.node x.role) ∙ is)

-- one node more
pub more_kept : (nodes : List Node) (new : Node) → Kept nodes (nodes ++ new ∷ [])
more_kept nodes new i a e = record { node = a; there = more_there nodes new a i e; role = same_role a }

pub more_named : (nodes : List Node) (new : Node) → Named nodes → Unnamed nodes (node_name new) → Proper new → Named (nodes ++ new ∷ [])
more_named nodes new h none proper = record {
  apart = λ i j a b ea eb e. elim (at_end nodes new a i ea) [
    | inl x ↦ elim (at_end nodes new b j eb) [
      | inl y ↦ h.apart i j a b x y e
      | inr y ↦ absurd (none i a x (e ∙ sym (ap node_name y.1)))
    ]
    | inr x ↦ elim (at_end nodes new b j eb) [
      | inl y ↦ absurd (none j b y (sym e ∙ sym (ap node_name x.1)))
      | inr y ↦ x.0 ∙ sym y.0
    ]
  ];
  proper = λ i a e. elim (at_end nodes new a i e) [ inl x ↦ h.proper i a x | inr x ↦ subst Proper x.1 proper ];
}

-- a name that no node has, and one that a node has
neither : (a b : Bool) → (a || b) ≡ false → (a ≡ false) × (b ≡ false)
neither true b e = absurd (cc)
neither false b e = (refl, e)

pub unnamed : (nodes : List Node) (name : Name) → has_name (names_of nodes) name ≡ false → Unnamed nodes name
unnamed nodes name h = all nodes h
  where
    all : (nodes : List Node) → has_name (names_of nodes) name ≡ false → (i : ℕ) (a : Node) → slice_get nodes i ≡ Some a → node_name a ≡ name → ⊥
    all [] h zero a e is = absurd (cc)
    all [] h (suc i) a e is = absurd (cc)
    all (DroneNode d ∷ ns) h zero a e is = differ _ (subst (λ x. same_name x name ≡ true) (sym (ap node_name (some_is e) ∙ is)) (name_same name)) (neither _ _ h).0
    all (StationNode d ∷ ns) h zero a e is = differ _ (subst (λ x. same_name x name ≡ true) (sym (ap node_name (some_is e) ∙ is)) (name_same name)) (neither _ _ h).0
    all (DroneNode d ∷ ns) h (suc i) a e is = all ns (neither _ _ h).1 i a e is
    all (StationNode d ∷ ns) h (suc i) a e is = all ns (neither _ _ h).1 i a e is

pub record HoldsDrone (nodes : List Node) (name : Name) : Type 0 where
  pub index : ℕ
  pub drone : DroneSide
  pub there : slice_get nodes index ≡ Some (DroneNode drone)
  pub name_is : node_of drone.link.me ≡ name

pub a_drone : (nodes : List Node) (name : Name) → has_drone (names_of nodes) name ≡ true → HoldsDrone nodes name
a_drone [] name h = absurd (cc)
a_drone (DroneNode d ∷ ns) name h = elim (either_true _ _ h) [
  | inl x ↦ record { index = 0; drone = d; there = refl; name_is = name_eq _ _ x }
  | inr y ↦ (let z = a_drone ns name y in record { index = suc z.index; drone = z.drone; there = z.there; name_is = z.name_is })
]
a_drone (StationNode t ∷ ns) name h = let z = a_drone ns name h in record { index = suc z.index; drone = z.drone; there = z.there; name_is = z.name_is }

pub record HoldsStation (nodes : List Node) (name : Name) : Type 0 where
  pub index : ℕ
  pub station : StationSide
  pub there : slice_get nodes index ≡ Some (StationNode station)
  pub name_is : node_of station.link.me ≡ name

pub a_station : (nodes : List Node) (name : Name) → has_station (names_of nodes) name ≡ true → HoldsStation nodes name
a_station [] name h = absurd (cc)
a_station (DroneNode d ∷ ns) name h = let z = a_station ns name h in record { index = suc z.index; station = z.station; there = z.there; name_is = z.name_is }
a_station (StationNode t ∷ ns) name h = elim (either_true _ _ h) [
  | inl x ↦ record { index = 0; station = t; there = refl; name_is = name_eq _ _ x }
  | inr y ↦ (let z = a_station ns name y in record { index = suc z.index; station = z.station; there = z.there; name_is = z.name_is })
]

or_true : (b : Bool) → (b || true) ≡ true
or_true true = refl
or_true false = refl

drone_held : (nodes : List Node) (i : ℕ) (d : DroneSide) → slice_get nodes i ≡ Some (DroneNode d) → has_drone (names_of nodes) (node_of d.link.me) ≡ true
drone_held [] zero d e = absurd (cc)
drone_held [] (suc i) d e = absurd (cc)
drone_held (DroneNode x ∷ ns) zero d e = let z : x ≡ d = cc in subst (λ (y : DroneSide). (same_name (node_of y.link.me) (node_of d.link.me) || has_drone (names_of ns) (node_of d.link.me)) ≡ true) (sym z) (rw (name_same (node_of d.link.me)) refl)
drone_held (StationNode t ∷ ns) zero d e = absurd (cc)
drone_held (DroneNode x ∷ ns) (suc i) d e = rw (drone_held ns i d e) (or_true (same_name (node_of x.link.me) (node_of d.link.me)))
drone_held (StationNode t ∷ ns) (suc i) d e = drone_held ns i d e

station_held : (nodes : List Node) (i : ℕ) (t : StationSide) → slice_get nodes i ≡ Some (StationNode t) → has_station (names_of nodes) (node_of t.link.me) ≡ true
station_held [] zero t e = absurd (cc)
station_held [] (suc i) t e = absurd (cc)
station_held (StationNode x ∷ ns) zero t e = let z : x ≡ t = cc in subst (λ (y : StationSide). (same_name (node_of y.link.me) (node_of t.link.me) || has_station (names_of ns) (node_of t.link.me)) ≡ true) (sym z) (rw (name_same (node_of t.link.me)) refl)
station_held (DroneNode d ∷ ns) zero t e = absurd (cc)
station_held (StationNode x ∷ ns) (suc i) t e = rw (station_held ns i t e) (or_true (same_name (node_of x.link.me) (node_of t.link.me)))
station_held (DroneNode d ∷ ns) (suc i) t e = station_held ns i t e

-- the nodes that were named are in their own fleet, and its names are distinct
zero_is : (k : ℕ) → k ≡ 0 → (k == 0) ≡ true
zero_is k e = grind arith

both : (a b : Bool) → a ≡ true → b ≡ true → (a && b) ≡ true
both a b e f = rw (e, f) refl

pub own_cover : (nodes : List Node) → Named nodes → Covers (nodes_of nodes) nodes
own_cover nodes named i (DroneNode d) e = both _ _ (drone_held nodes i d e) (zero_is _ (named.proper i (DroneNode d) e).0)
own_cover nodes named i (StationNode t) e = both _ _ (station_held nodes i t e) (zero_is _ (named.proper i (StationNode t) e).0)

abbrev of_name : Name → ℕ → Stream
of_name name link = record { sys = name.sys; comp = name.comp; link = link }

pub stream_is : (s t : Stream) → node_of s ≡ node_of t → s.link ≡ 0 → t.link ≡ 0 → s ≡ t
stream_is s t e a b =
    let z : of_name (node_of s) s.link ≡ of_name (node_of t) t.link = ap (λ n. of_name n s.link) e ∙ ap (of_name (node_of t)) (a ∙ sym b) in
    z

-- a stream on link 0 is that of its name
pub stream_named : (s : Stream) → s.link ≡ 0 → s ≡ stream_of (node_of s)
stream_named s e = stream_is s (stream_of (node_of s)) refl e refl

abbrev name : ℕ → ℕ → Name
name a b = record { sys = a; comp = b }

pub own_distinct : (nodes : List Node) → Named nodes → Distinct (nodes_of nodes)
own_distinct nodes named = record {
  component = λ d h. component d (a_drone nodes (node_of d) (both_true _ _ h).0);
  drones = λ d e hd he s. stream_is d e (names d e (a_drone nodes (node_of d) (both_true _ _ hd).0) (a_drone nodes (node_of e) (both_true _ _ he).0) s) (link d (both_true _ _ hd).1) (link e (both_true _ _ he).1);
  stations = λ s t hs ht e. stream_is s t e (link s (both_true _ _ hs).1) (link t (both_true _ _ ht).1);
  apart = λ d s hd hs. not_true _ (clash d s (a_drone nodes (node_of d) (both_true _ _ hd).0) (a_station nodes (node_of s) (both_true _ _ hs).0));
}
  where
    link : (s : Stream) → (s.link == 0) ≡ true → s.link ≡ 0
    link s h = eq_true _ _ h

    component : (d : Stream) → HoldsDrone nodes (node_of d) → d.comp ≡ 1
    component d h = sym (ap (λ (x : Name). x.comp) h.name_is) ∙ (named.proper h.index (DroneNode h.drone) h.there).1

    names : (d e : Stream) → HoldsDrone nodes (node_of d) → HoldsDrone nodes (node_of e) → d.sys ≡ e.sys → node_of d ≡ node_of e
    names d e x y s = ap (λ z. name z d.comp) s ∙ ap (λ c. name e.sys c) (component d x ∙ sym (component e y))

    one : (c : ℕ) → 0 < c → ((c == 1) || (c == 0)) ≡ true → c ≡ 1
    one c h e = elim (either_true _ _ e) [ inl x ↦ eq_true _ _ x | inr y ↦ (let z = eq_true c 0 y in absurd (omega arith)) ]

    clash : (d s : Stream) → HoldsDrone nodes (node_of d) → HoldsStation nodes (node_of s) → is_for_drone d.sys (node_of s) ≡ true → ⊥
    clash d s x y h =
        let z = both_true _ _ h in
        let system : s.sys ≡ d.sys = eq_true _ _ z.0 in
        let me : node_of y.station.link.me ≡ node_of s = y.name_is in
        let some : 0 < s.comp = subst (λ (n : Name). 0 < n.comp) me (named.proper y.index (StationNode y.station) y.there).1 in
        let comp : s.comp ≡ 1 = one s.comp some z.1 in
        let alike : node_of x.drone.link.me ≡ node_of y.station.link.me = x.name_is ∙ ap (λ c. name d.sys c) (component d x ∙ sym comp) ∙ ap (λ k. name k s.comp) (sym system) ∙ sym me in
        let index : x.index ≡ y.index = named.apart x.index y.index (DroneNode x.drone) (StationNode y.station) x.there y.there alike in
        absurd (two x.drone y.station (sym x.there ∙ ap (slice_get nodes) index ∙ y.there))
      where
        two : (d : DroneSide) (t : StationSide) → Some (DroneNode d) ≡ Some (StationNode t) → ⊥
        two d t e = absurd (cc)
