-- Links that open, learn a node more, and close.
use Rattle.std.proofs.Common.{◌≡◌, ◌∙◌, ◌<◌, ◌≤◌, inl, inr, ℕ, zero, suc, ◌+◌, ◌*◌, ◌^◌, ◌==◌, ◌&&◌, ◌||◌, Bool, true, false, if◌then◌else◌, nat_lt, List, [], ◌∷◌, ◌++◌, length, get_or, set, replicate, arith, refl, ap, sym, subst}
use Rattle.std.specs.Int.Bits.{bit_or}
use Rattle.std.specs.Int.{bit_at}
use Rattle.std.specs.List.{list_any, remove}
use Rattle.std.proofs.lemmas.Grind.{common_steps}
use Rattle.std.proofs.lemmas.List.{get_or-replicate, get_or-set_same, get_or-set_other}
use Rattle.std.proofs.lemmas.List.Edits.{get_or-remove_below, get_or-remove_above}
use Rattle.std.proofs.lemmas.Nat.Bits.{bit_at-zero}
use Rattle.mav_names.specs.declared.names.Name.{Name}
use Rattle.link_table.specs.OpenLinks.{StandsFor, Words, bit_without, has_link, has_node, has_system, nodes_at}
use Rattle.link_table.proofs.Bits.{below_or, same_or}
use Rattle.link_table.proofs.Learning.{marked_link, one_more, same_node}

-- ---- no link

no_link : (word k : ℕ) → word ≡ 0 → has_link word k ≡ false
no_link word k e = ap (λ (n : ℕ). has_link n k) e ∙ ap (λ (n : ℕ). n == 1) (bit_at-zero k)

pub nothing_open : (nodes systems : List ℕ) → nodes ≡ replicate 65536 0 → systems ≡ replicate 256 0 → StandsFor (record { nodes = nodes; systems = systems }) []
nothing_open nodes systems n s = record {
  nodes = λ k sys comp sys_is comp_is.
      no_link (get_or nodes (sys * 256 + comp) 0) k (ap (λ (xs : List ℕ). get_or xs (sys * 256 + comp) 0) n ∙ get_or-replicate 65536 (sys * 256 + comp) 0 0 (omega (arith, sys_is, comp_is)));
  systems = λ k sys sys_is.
      no_link (get_or systems sys 0) k (ap (λ (xs : List ℕ). get_or xs sys 0) s ∙ get_or-replicate 256 sys 0 0 sys_is);
}

-- ---- a link more

-- the nodes at each link are those that they were
same_nodes : (links : List (List Name)) (k : ℕ) → nodes_at (links ++ [] ∷ []) k ≡ nodes_at links k
same_nodes [] zero = refl
same_nodes [] (suc k) = refl
same_nodes (names ∷ links) zero = refl
same_nodes (names ∷ links) (suc k) = same_nodes links k

pub opened : (words : Words) (links : List (List Name)) → StandsFor words links → StandsFor words (links ++ [] ∷ [])
opened words links of = record {
  nodes = λ k sys comp s c. of.nodes k sys comp s c ∙ sym (ap (λ (names : List Name). has_node names sys comp) (same_nodes links k));
  systems = λ k sys s. of.systems k sys s ∙ sym (ap (λ (names : List Name). has_system names sys) (same_nodes links k));
}

-- ---- a node more

-- whether some node passes a test at each link, once one more was learned at one of them
at_link : (test : Name → Bool) (links : List (List Name)) (link k : ℕ) (from : Name) → link < length links → list_any test (nodes_at (set links link (nodes_at links link ++ from ∷ [])) k) ≡ (((link == k) && test from) || list_any test (nodes_at links k))
at_link test links link k from within =
    let more = nodes_at links link ++ from ∷ [] in
    elim (same_or link k) [
      | inl e ↦
          ap (λ (n : ℕ). list_any test (get_or (set links link more) n [])) (sym e.0)
          ∙ (ap (λ (names : List Name). list_any test names) (get_or-set_same links link more [] within)
          ∙ (one_more test (nodes_at links link) from
          ∙ (ap (λ (n : ℕ). test from || list_any test (nodes_at links n)) e.0
          ∙ ap (λ (b : Bool). (b && test from) || list_any test (nodes_at links k)) (sym e.1))))
      | inr e ↦
          ap (λ (names : List Name). list_any test names) (get_or-set_other links link k more [] (λ same. e.0 (sym same)))
          ∙ ap (λ (b : Bool). (b && test from) || list_any test (nodes_at links k)) (sym e.1)
    ]

pub learned : (words : Words) (links : List (List Name)) (link index : ℕ) (from : Name) (nodes systems : List ℕ) → from.sys < 256 → from.comp < 256 → index ≡ from.sys * 256 + from.comp → index < length words.nodes → from.sys < length words.systems → nodes ≡ set words.nodes index (bit_or (get_or words.nodes index 0) (2 ^ link)) → systems ≡ set words.systems from.sys (bit_or (get_or words.systems from.sys 0) (2 ^ link)) → link < length links → StandsFor words links → StandsFor (record { nodes = nodes; systems = systems }) (set links link (nodes_at links link ++ from ∷ []))
learned words links link index from nodes systems sys_fits comp_fits is node_in system_in n s within of = record {
  nodes = λ k sys comp sys_is comp_is.
      ap (λ (xs : List ℕ). has_link (get_or xs (sys * 256 + comp) 0) k) n
      ∙ (marked_link words.nodes index (sys * 256 + comp) link k node_in
      ∙ (ap (λ (b : Bool). ((link == k) && b) || has_link (get_or words.nodes (sys * 256 + comp) 0) k) (ap (λ (i : ℕ). i == (sys * 256 + comp)) is ∙ same_node from.sys from.comp sys comp comp_fits comp_is)
      ∙ (ap (λ (b : Bool). ((link == k) && ((from.sys == sys) && (from.comp == comp))) || b) (of.nodes k sys comp sys_is comp_is)
      ∙ sym (at_link (λ (m : Name). (m.sys == sys) && (m.comp == comp)) links link k from within))));
  systems = λ k sys sys_is.
      ap (λ (xs : List ℕ). has_link (get_or xs sys 0) k) s
      ∙ (marked_link words.systems from.sys sys link k system_in
      ∙ (ap (λ (b : Bool). ((link == k) && (from.sys == sys)) || b) (of.systems k sys sys_is)
      ∙ sym (at_link (λ (m : Name). m.sys == sys) links link k from within)));
}

-- ---- a link less

-- what each word says of each link follows from what it said before
without_link : (links : List (List Name)) (link k word : ℕ) (test : List Name → Bool) → link < length links → ((j : ℕ) → has_link word j ≡ test (nodes_at links j)) → bit_without word link k ≡ test (nodes_at (remove links link) k)
without_link links link k word test within before = elim (below_or k link) [
  | inl e ↦
      ap (λ (b : Bool). if b then has_link word k else has_link word (k + 1)) e.1
      ∙ (before k ∙ ap test (sym (get_or-remove_below links link [] k e.0 within)))
  | inr e ↦
      ap (λ (b : Bool). if b then has_link word k else has_link word (k + 1)) e.1
      ∙ (before (k + 1) ∙ ap test (sym (get_or-remove_above links link [] k e.0 within)))
]

pub closed : (words : Words) (links : List (List Name)) (link : ℕ) (nodes systems : List ℕ) → length nodes ≡ 65536 → length systems ≡ 256 → ((at k : ℕ) → at < length nodes → has_link (get_or nodes at 0) k ≡ bit_without (get_or words.nodes at 0) link k) → ((at k : ℕ) → at < length systems → has_link (get_or systems at 0) k ≡ bit_without (get_or words.systems at 0) link k) → link < length links → StandsFor words links → StandsFor (record { nodes = nodes; systems = systems }) (remove links link)
closed words links link nodes systems all_nodes all_systems n s within of = record {
  nodes = λ k sys comp sys_is comp_is.
      n (sys * 256 + comp) k (omega (arith, all_nodes, sys_is, comp_is))
      ∙ without_link links link k (get_or words.nodes (sys * 256 + comp) 0) (λ (names : List Name). has_node names sys comp) within (λ j. of.nodes j sys comp sys_is comp_is);
  systems = λ k sys sys_is.
      s sys k (omega (arith, all_systems, sys_is))
      ∙ without_link links link k (get_or words.systems sys 0) (λ (names : List Name). has_system names sys) within (λ j. of.systems j sys sys_is);
}
