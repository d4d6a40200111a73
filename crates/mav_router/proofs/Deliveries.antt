-- Where each packet of a journal goes.
use Rattle.std.proofs.Common.{◌≡◌, ◌∙◌, ◌≤◌, ◌-◌, ◌⊎◌, inl, inr, ℕ, zero, suc, length, ◌==◌, ◌&&◌, ◌||◌, not, nat_le, Bool, true, false, List, [], ◌∷◌, ◌++◌, arith, refl, ap, sym, subst, append_assoc}
use Rattle.std.proofs.lemmas.List.{append-nil, get_or_past}
use Rattle.std.proofs.lemmas.Option.{slice_get_cases}
use Rattle.std.proofs.lemmas.Grind.{common_steps}
use Rattle.mav_names.specs.declared.names.Name.{Name}
use Rattle.mav_sign.specs.History.{is_admitted}
use Rattle.link_table.specs.Routing.{Learned, is_behind, goes_out, ways_of, no_ways, has_port, common_ways}
use Rattle.mav_router.specs.declared.entries.Entry.{Entry}
use Rattle.mav_router.specs.Journal.{Rules, IsPortOf, IsJournal, entry_after, ways_by, learned_in, target_by, is_unsigned}
use Rattle.mav_router.specs.Delivery.{EveryEntry, NeverBack}

-- one of the ports 1 to 8
each_port : (P : ℕ → Type 0) → P 1 → P 2 → P 3 → P 4 → P 5 → P 6 → P 7 → P 8 → (port : ℕ) → 1 ≤ port → port ≤ 8 → P port
each_port P a b c d e f g h zero from to = absurd (omega (arith, from))
each_port P a b c d e f g h (suc zero) from to = a
each_port P a b c d e f g h (suc (suc zero)) from to = b
each_port P a b c d e f g h (suc (suc (suc zero))) from to = c
each_port P a b c d e f g h (suc (suc (suc (suc zero)))) from to = d
each_port P a b c d e f g h (suc (suc (suc (suc (suc zero))))) from to = e
each_port P a b c d e f g h (suc (suc (suc (suc (suc (suc zero)))))) from to = f
each_port P a b c d e f g h (suc (suc (suc (suc (suc (suc (suc zero))))))) from to = g
each_port P a b c d e f g h (suc (suc (suc (suc (suc (suc (suc (suc zero)))))))) from to = h
each_port P a b c d e f g h (suc (suc (suc (suc (suc (suc (suc (suc (suc port))))))))) from to = absurd (omega (arith, to))

ways_at : (ports : ℕ) (learned : List Learned) (own : ℕ) (target : Name) (port : ℕ) → 1 ≤ port → port ≤ 8 → has_port (ways_of ports learned own target) port ≡ goes_out ports (is_behind learned port target) own port
ways_at ports learned own target =
    each_port (λ (port : ℕ). has_port (ways_of ports learned own target) port ≡ goes_out ports (is_behind learned port target) own port) refl refl refl refl refl refl refl refl

none_at : (port : ℕ) → 1 ≤ port → port ≤ 8 → has_port no_ways port ≡ false
none_at = each_port (λ (port : ℕ). has_port no_ways port ≡ false) refl refl refl refl refl refl refl refl

both_at : (ways others : List Bool) (port : ℕ) → 1 ≤ port → port ≤ 8 → has_port (common_ways ways others) port ≡ (has_port ways port && has_port others port)
both_at ways others =
    each_port (λ (port : ℕ). has_port (common_ways ways others) port ≡ (has_port ways port && has_port others port)) refl refl refl refl refl refl refl refl

-- the ports of a verdict
by_verdict : (admitted unsigned : Bool) (plain : List Bool) (ports : ℕ) (learned : List Learned) (own : ℕ) (target : Name) (port : ℕ) → 1 ≤ port → port ≤ 8 → has_port (ways_by admitted unsigned plain (ways_of ports learned own target)) port ≡ (admitted && (nat_le port ports && (not (port == own) && (is_behind learned port target && (not unsigned || has_port plain port)))))
by_verdict false unsigned plain ports learned own target port from to = none_at port from to
by_verdict true true plain ports learned own target port from to =
    both_at (ways_of ports learned own target) plain port from to ∙ (ap (λ (b : Bool). b && has_port plain port) (ways_at ports learned own target port from to) ∙ moved (nat_le port ports) (not (port == own)) (is_behind learned port target) (has_port plain port))
  where
    moved : (a b c d : Bool) → ((a && (b && c)) && d) ≡ (a && (b && (c && d)))
    moved true true c d = refl
    moved true false c d = refl
    moved false b c d = refl
by_verdict true false plain ports learned own target port from to =
    ways_at ports learned own target port from to ∙ ap (λ (b : Bool). nat_le port ports && (not (port == own) && b)) (always (is_behind learned port target))
  where
    always : (a : Bool) → a ≡ (a && true)
    always true = refl
    always false = refl

-- each entry is that of its port and frame after those before it
at_entry : (rules : Rules) (base before after : List Entry) (entry : Entry) → IsJournal rules base (before ++ entry ∷ after) → entry ≡ entry_after rules (base ++ before) entry.port entry.frame
at_entry rules base [] after entry j = subst (λ (b : List Entry). entry ≡ entry_after rules b entry.port entry.frame) (sym (append-nil base)) j.1
at_entry rules base (x ∷ before) after entry j =
    subst (λ (b : List Entry). entry ≡ entry_after rules b entry.port entry.frame) (append_assoc base (x ∷ []) before) (at_entry rules (base ++ x ∷ []) before after entry j.2)

-- it is of one of the router's ports
port_of : (rules : Rules) (base before after : List Entry) (entry : Entry) → IsJournal rules base (before ++ entry ∷ after) → IsPortOf rules entry.port
port_of rules base [] after entry j = j.0
port_of rules base (x ∷ before) after entry j = port_of rules (base ++ x ∷ []) before after entry j.2

-- the ports that a frame goes to are said for eight ports
eight : (admitted unsigned : Bool) (plain : List Bool) (ports : ℕ) (learned : List Learned) (own : ℕ) (target : Name) → length (ways_by admitted unsigned plain (ways_of ports learned own target)) ≡ 8
eight false unsigned plain ports learned own target = refl
eight true true plain ports learned own target = refl
eight true false plain ports learned own target = refl

pub every_entry : EveryEntry
every_entry rules before after entry port j from to =
    let is = at_entry rules [] before after entry j in
    let ways = by_verdict (is_admitted (entry_after rules before entry.port entry.frame).admit) (is_unsigned entry.frame) rules.plain rules.ports (learned_in before) entry.port (target_by rules entry.frame) port from to in
    ap (λ (e : Entry). has_port e.ways port) is ∙ (ways ∙ ap (λ (e : Entry). is_admitted e.admit && (nat_le port rules.ports && (not (port == entry.port) && (is_behind (learned_in before) port (target_by rules entry.frame) && (not (is_unsigned entry.frame) || has_port rules.plain port))))) (sym is))

pub never_back : NeverBack
never_back rules before after entry j =
    let is = at_entry rules [] before after entry j in
    let from = (port_of rules [] before after entry j).0 in
    let long = ap (λ (e : Entry). length e.ways) is ∙ eight (is_admitted (entry_after rules before entry.port entry.frame).admit) (is_unsigned entry.frame) rules.plain rules.ports (learned_in before) entry.port (target_by rules entry.frame) in
    elim ((slice_get_cases entry.ways (entry.port - 1)).1) [
      | inl w ↦
          let to : entry.port ≤ 8 = (let inside = w.1 in omega (arith, inside, long, from)) in
          every_entry rules before after entry entry.port j from to ∙ back (is_admitted entry.admit) (nat_le entry.port rules.ports) (entry.port == entry.port) (is_behind (learned_in before) entry.port (target_by rules entry.frame) && (not (is_unsigned entry.frame) || has_port rules.plain entry.port)) (same entry.port)
      | inr past ↦ get_or_past entry.ways (entry.port - 1) false past.0
    ]
  where
    same : (n : ℕ) → (n == n) ≡ true
    same n = grind (arith, common_steps)

    back : (a b c d : Bool) → c ≡ true → (a && (b && (not c && d))) ≡ false
    back false b c d e = refl
    back true false c d e = refl
    back true true true d e = refl
    back true true false d e = absurd cc
