-- The rules of a relay beside those of a router.
use Rattle.std.proofs.Common.{◌≡◌, ◌∙◌, inl, inr, ℕ, ◌+◌, ◌==◌, ◌&&◌, ◌||◌, not, if◌then◌else◌, Bool, true, false, List, [], ◌∷◌, ◌++◌, length, map, filter, refl, sym, ap, arith}
use Rattle.std.specs.List.{list_any}
use Rattle.std.proofs.lemmas.Grind.{common_steps}
use Rattle.std.proofs.lemmas.List.{append-nil, map-append}
use Rattle.std.proofs.lemmas.List.Elements.{filter-append}
use Rattle.mav_names.specs.declared.names.Name.{Name}
use Rattle.link_table.specs.OpenLinks.{is_among}
use Rattle.link_table.specs.Routing.{Learned, has_port, is_behind}
use Rattle.link_table.proofs.Bits.{same_or}
use Rattle.mav_router.specs.Journal.{Rules, is_unsigned, target_by}
use Rattle.relay_rules.specs.Laws.{GoesAsRouted, LearnsAsRouted, NeverBack, NeverTwice, names_at, nothing_opened, numbers_in}
use Rattle.relay_rules.specs.States.{RelayState}
use Rattle.relay_rules.specs.Steps.{Event, Leads, Step, opens, closes, hears, refuses, forgets}

same : (n : ℕ) → (n == n) ≡ true
same n = grind (arith, common_steps)

pub never_back : NeverBack
never_back rules packet link = ap (λ (b : Bool). not b && (is_among link.names (target_by rules packet) && (not (is_unsigned packet) || has_port rules.plain link.port))) (same link.number)

-- ---- numbers

-- how many links were opened
given_step : (rules : Rules) (event : Event) (before after : RelayState) → Step rules event before after → after.given ≡ before.given + length (numbers_in (event ∷ []))
given_step rules (opens number port) before after s = ap (λ (t : RelayState). t.given) s.state
given_step rules (closes number) before after s = ap (λ (t : RelayState). t.given) s.state ∙ omega arith
given_step rules (hears number packet answer) before after s = ap (λ (t : RelayState). t.given) s.state ∙ omega arith
given_step rules (refuses port packet answer) before after s = s.given ∙ omega arith
given_step rules forgets before after s = s.given ∙ omega arith

one_more : (event : Event) (events : List Event) → length (numbers_in (event ∷ events)) ≡ length (numbers_in (event ∷ [])) + length (numbers_in events)
one_more (opens number port) events = omega arith
one_more (closes number) events = omega arith
one_more (hears number packet answer) events = omega arith
one_more (refuses port packet answer) events = omega arith
one_more forgets events = omega arith

numbered : (rules : Rules) (before after : List Event) (number port : ℕ) (first state : RelayState) → Leads rules (before ++ opens number port ∷ after) first state → number ≡ first.given + length (numbers_in before) + 1
numbered rules [] after number port first state l = let next = l.1.next in omega (arith, next)
numbered rules (event ∷ before) after number port first state l =
    let step = given_step rules event first l.0 l.1 in
    let rest = numbered rules before after number port l.0 state l.2 in
    omega (arith, step, rest, one_more event before)

pub never_twice : NeverTwice
never_twice rules kept before after number port state l = let is = numbered rules before after number port (nothing_opened kept) state l in omega (arith, is)

-- ---- a router's ports

-- a test of the nodes at a port
at_port : (test : Name → Bool) (port : ℕ) (learned : List Learned) → list_any test (names_at port learned) ≡ list_any (λ (l : Learned). (l.port == port) && test l.from) learned
at_port test port [] = refl
at_port test port (l ∷ learned) = by_port (l.port == port) (at_port test port learned)
  where
    by_port : (b : Bool) → list_any test (names_at port learned) ≡ list_any (λ (m : Learned). (m.port == port) && test m.from) learned → list_any test (map (λ (m : Learned). m.from) (if b then l ∷ filter (λ (m : Learned). m.port == port) learned else filter (λ (m : Learned). m.port == port) learned)) ≡ ((b && test l.from) || list_any (λ (m : Learned). (m.port == port) && test m.from) learned)
    by_port true rest = ap (λ (c : Bool). test l.from || c) rest
    by_port false rest = rest

among : (port : ℕ) (learned : List Learned) (target : Name) → is_among (names_at port learned) target ≡ is_behind learned port target
among port learned target =
    (λ i. if target.sys == 0 then true else (if target.comp == 0 then at_port (λ (n : Name). n.sys == target.sys) port learned i else at_port (λ (n : Name). (n.sys == target.sys) && (n.comp == target.comp)) port learned i))

pub goes_as_routed : GoesAsRouted
goes_as_routed rules learned packet own other o p =
    let target = target_by rules packet in
    (λ i. not (p.same i == o.same i) && ((ap (λ (names : List Name). is_among names target) p.names ∙ among other.port learned target) i && (not (is_unsigned packet) || has_port rules.plain other.port)))

names_more : (port : ℕ) (learned : List Learned) (last : Learned) → names_at port (learned ++ last ∷ []) ≡ names_at port learned ++ (if last.port == port then last.from ∷ [] else [])
names_more port learned last =
    let test = λ (l : Learned). l.port == port in
    let from = λ (l : Learned). l.from in
    ap (map from) (filter-append test learned (last ∷ []))
    ∙ (map-append from (filter test learned) (filter test (last ∷ [])) ∙ ap (λ (names : List Name). names_at port learned ++ names) (one (last.port == port)))
  where
    one : (b : Bool) → map (λ (l : Learned). l.from) (if b then last ∷ [] else []) ≡ (if b then last.from ∷ [] else [])
    one true = refl
    one false = refl

pub learns_as_routed : LearnsAsRouted
learns_as_routed learned from own other o p =
    let last : Learned = record { port = own.port; from = from } in
    let more = names_more other.port learned last in
    elim (same_or other.port own.port) [
      | inl e ↦ record {
        same = p.same;
        names =
            ap (λ (b : Bool). if b then other.names ++ from ∷ [] else other.names) e.1
            ∙ (ap (λ (names : List Name). names ++ from ∷ []) p.names
            ∙ sym (more ∙ ap (λ (b : Bool). names_at other.port learned ++ (if b then from ∷ [] else [])) (ap (λ (n : ℕ). own.port == n) e.0 ∙ same own.port)));
      }
      | inr e ↦ record {
        same = p.same;
        names =
            ap (λ (b : Bool). if b then other.names ++ from ∷ [] else other.names) e.1
            ∙ (p.names ∙ sym (more ∙ (ap (λ (b : Bool). names_at other.port learned ++ (if b then from ∷ [] else [])) (apart own.port other.port (λ f. e.0 (sym f))) ∙ append-nil (names_at other.port learned))));
      }
    ]
  where
    apart : (m n : ℕ) → (m ≡ n → ⊥) → (m == n) ≡ false
    apart m n h = grind (arith, common_steps)
