-- One more node is learned.
use Rattle.std.proofs.Common.{◌≡◌, ◌∙◌, ◌<◌, ◌≤◌, inl, inr, ℕ, ◌+◌, ◌-◌, ◌*◌, ◌^◌, ◌==◌, ◌&&◌, ◌||◌, Bool, true, false, List, [], ◌∷◌, ◌++◌, length, get_or, set, replicate, arith, refl, ap, sym, subst}
use Rattle.std.specs.Int.Bits.{bit_or}
use Rattle.std.specs.List.{list_any}
use Rattle.std.proofs.lemmas.Grind.{common_steps}
use Rattle.std.proofs.lemmas.List.{get_or-replicate, get_or-set_same, get_or-set_other}
use Rattle.std.proofs.lemmas.List.Folds.{list_any-append}
use Rattle.std.proofs.lemmas.Nat.{same_from_place}
use Rattle.mav_names.specs.declared.names.Name.{Name}
use Rattle.link_table.specs.Routing.{Learned}
use Rattle.link_table.specs.Bits.{has_bit}
use Rattle.link_table.specs.OpenLinks.{has_link}
use Rattle.link_table.proofs.Bits.{same_or, link_more, one_less}
use Rattle.link_table.specs.Table.{Masks, Represents}

-- words with one more bit in one of them
pub marked_link : (words : List ℕ) (index other at k : ℕ) → index < length words → has_link (get_or (set words index (bit_or (get_or words index 0) (2 ^ at))) other 0) k ≡ (((at == k) && (index == other)) || has_link (get_or words other 0) k)
marked_link words index other at k within =
    elim (same_or index other) [
      | inl e ↦
          ap (λ (n : ℕ). has_link (get_or (set words index (bit_or (get_or words index 0) (2 ^ at))) n 0) k) (sym e.0)
          ∙ (ap (λ (n : ℕ). has_link n k) (get_or-set_same words index (bit_or (get_or words index 0) (2 ^ at)) 0 within)
          ∙ (link_more (get_or words index 0) at k
          ∙ (ap (λ (n : ℕ). (at == k) || has_link (get_or words n 0) k) e.0
          ∙ (and_true (at == k) (has_link (get_or words other 0) k) ∙ ap (λ (b : Bool). ((at == k) && b) || has_link (get_or words other 0) k) (sym e.1)))))
      | inr e ↦
          ap (λ (n : ℕ). has_link n k) (get_or-set_other words index other (bit_or (get_or words index 0) (2 ^ at)) 0 (λ same. e.0 (sym same)))
          ∙ (and_false (at == k) (has_link (get_or words other 0) k) ∙ ap (λ (b : Bool). ((at == k) && b) || has_link (get_or words other 0) k) (sym e.1))
    ]
  where
    and_true : (a b : Bool) → (a || b) ≡ ((a && true) || b)
    and_true true b = refl
    and_true false b = refl

    and_false : (a b : Bool) → b ≡ ((a && false) || b)
    and_false true b = refl
    and_false false b = refl

-- the bytes with one more bit
marked : (masks : List ℕ) (index other at port : ℕ) → index < length masks → 1 ≤ at → 1 ≤ port → has_bit (get_or (set masks index (bit_or (get_or masks index 0) (2 ^ (at - 1)))) other 0) port ≡ (((at == port) && (index == other)) || has_bit (get_or masks other 0) port)
marked masks index other at port within a p =
    marked_link masks index other (at - 1) (port - 1) within
    ∙ ap (λ (b : Bool). (b && (index == other)) || has_bit (get_or masks other 0) port) (one_less at port a p)

pub one_more : {A : Type 0} (p : A → Bool) (learned : List A) (last : A) → list_any p (learned ++ last ∷ []) ≡ (p last || list_any p learned)
one_more p learned last = list_any-append p learned (last ∷ []) ∙ turned (list_any p learned) (p last)
  where
    turned : (a b : Bool) → (a || (b || false)) ≡ (b || a)
    turned true true = refl
    turned true false = refl
    turned false true = refl
    turned false false = refl

pub same_node : (sys comp s c : ℕ) → comp < 256 → c < 256 → ((sys * 256 + comp) == (s * 256 + c)) ≡ ((sys == s) && (comp == c))
same_node sys comp s c below also =
    elim (same_or (sys * 256 + comp) (s * 256 + c)) [
      | inl e ↦ let both = same_from_place sys comp s c 256 below also e.0 in e.1 ∙ sym (are_same sys s comp c both.0 both.1)
      | inr e ↦ e.1 ∙ sym (apart sys s comp c (λ f g. e.0 (omega (arith, f, g))))
    ]
  where
    are_same : (a b c d : ℕ) → a ≡ b → c ≡ d → ((a == b) && (c == d)) ≡ true
    are_same a b c d e f = grind (arith, common_steps)

    apart : (a b c d : ℕ) → (a ≡ b → c ≡ d → ⊥) → ((a == b) && (c == d)) ≡ false
    apart a b c d h = elim (same_or a b) [
      | inl e ↦ elim (same_or c d) [
        | inl f ↦ absurd (h e.0 f.0)
        | inr f ↦ ap (λ (x : Bool). (a == b) && x) f.1 ∙ ap (λ (x : Bool). x && false) e.1
      ]
      | inr e ↦ ap (λ (x : Bool). x && (c == d)) e.1
    ]

-- the bit of one more node at a port, and of its system
pub learned_more : (masks : Masks) (learned : List Learned) (port : ℕ) (from : Name) → 1 ≤ port → from.sys < 256 → from.comp < 256 → from.sys * 256 + from.comp < length masks.nodes → from.sys < length masks.systems → Represents masks learned → Represents (record masks { nodes = set masks.nodes (from.sys * 256 + from.comp) (bit_or (get_or masks.nodes (from.sys * 256 + from.comp) 0) (2 ^ (port - 1))); systems = set masks.systems from.sys (bit_or (get_or masks.systems from.sys 0) (2 ^ (port - 1))) }) (learned ++ (record { port = port; from = from }) ∷ [])
learned_more masks learned port from a sys_fits comp_fits node_in system_in r =
    let last : Learned = record { port = port; from = from } in
    record {
      nodes = λ other sys comp one eight sys_is comp_is.
          marked masks.nodes (from.sys * 256 + from.comp) (sys * 256 + comp) port other node_in a one
          ∙ (ap (λ (b : Bool). ((port == other) && b) || has_bit (get_or masks.nodes (sys * 256 + comp) 0) other) (same_node from.sys from.comp sys comp comp_fits comp_is)
          ∙ (ap (λ (b : Bool). ((port == other) && ((from.sys == sys) && (from.comp == comp))) || b) (r.nodes other sys comp one eight sys_is comp_is)
          ∙ sym (one_more (λ (l : Learned). (l.port == other) && ((l.from.sys == sys) && (l.from.comp == comp))) learned last)));
      systems = λ other sys one eight sys_is.
          marked masks.systems from.sys sys port other system_in a one
          ∙ (ap (λ (b : Bool). ((port == other) && (from.sys == sys)) || b) (r.systems other sys one eight sys_is)
          ∙ sym (one_more (λ (l : Learned). (l.port == other) && (l.from.sys == sys)) learned last));
    }

-- the same, as the table's call says it
pub learned_by : (masks : Masks) (learned : List Learned) (port index : ℕ) (from : Name) (nodes old_nodes systems old_systems : List ℕ) → 1 ≤ port → from.sys < 256 → from.comp < 256 → index ≡ from.sys * 256 + from.comp → index < length old_nodes → from.sys < length old_systems → old_nodes ≡ masks.nodes → old_systems ≡ masks.systems → nodes ≡ set old_nodes index (bit_or (get_or old_nodes index 0) (2 ^ (port - 1))) → systems ≡ set old_systems from.sys (bit_or (get_or old_systems from.sys 0) (2 ^ (port - 1))) → Represents masks learned → Represents (record masks { nodes = nodes; systems = systems }) (learned ++ (record { port = port; from = from }) ∷ [])
learned_by masks learned port index from nodes old_nodes systems old_systems a sys_fits comp_fits is node_in system_in n s nodes_are systems_are r =
    let step = learned_more masks learned port from a sys_fits comp_fits (omega (arith, is, ap length n, node_in)) (omega (arith, ap length s, system_in)) r in
    let nodes_e = nodes_are ∙ (ap (λ (xs : List ℕ). set xs index (bit_or (get_or xs index 0) (2 ^ (port - 1)))) n ∙ ap (λ (i : ℕ). set masks.nodes i (bit_or (get_or masks.nodes i 0) (2 ^ (port - 1)))) is) in
    let systems_e = systems_are ∙ ap (λ (xs : List ℕ). set xs from.sys (bit_or (get_or xs from.sys 0) (2 ^ (port - 1)))) s in
    subst (λ (xs : List ℕ). Represents (record masks { nodes = xs; systems = systems }) (learned ++ (record { port = port; from = from }) ∷ [])) (sym nodes_e)
    (subst (λ (xs : List ℕ). Represents (record masks { nodes = set masks.nodes (from.sys * 256 + from.comp) (bit_or (get_or masks.nodes (from.sys * 256 + from.comp) 0) (2 ^ (port - 1))); systems = xs }) (learned ++ (record { port = port; from = from }) ∷ [])) (sym systems_e) step)

no_bit : (port : ℕ) → has_bit 0 port ≡ false
no_bit port = grind (arith, common_steps)

-- no bit is set at the start
pub nothing_learned : (ports : ℕ) (nodes systems : List ℕ) → nodes ≡ replicate 65536 0 → systems ≡ replicate 256 0 → Represents (record { ports = ports; nodes = nodes; systems = systems }) []
nothing_learned ports nodes systems n s = record {
  nodes = λ port sys comp one eight sys_is comp_is.
      ap (λ (xs : List ℕ). has_bit (get_or xs (sys * 256 + comp) 0) port) n
      ∙ (ap (λ (m : ℕ). has_bit m port) (get_or-replicate 65536 (sys * 256 + comp) 0 0 (omega (arith, sys_is, comp_is))) ∙ no_bit port);
  systems = λ port sys one eight sys_is.
      ap (λ (xs : List ℕ). has_bit (get_or xs sys 0) port) s
      ∙ (ap (λ (m : ℕ). has_bit m port) (get_or-replicate 256 sys 0 0 sys_is) ∙ no_bit port);
}
