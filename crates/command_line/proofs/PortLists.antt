-- The ports of words, one after another.
use Rattle.std.proofs.Common.{◌≡◌, ◌∙◌, ◌<◌, ◌≤◌, ◌+◌, ◌&&◌, ℕ, false, true, List, [], ◌∷◌, ◌++◌, sym, ap, refl, add-one, drop-cons, append_assoc, append-nil, map, length, drop, get_or, Some, None, String, string_bytes}
use Rattle.std.proofs.lemmas.List.{drop_all, map-append}
use Rattle.std.specs.List.{list_all}
use Rattle.std.specs.declared.alloc.Global.{Global}
use Rattle.command_line.specs.declared.ports.Port.{Port}
use Rattle.command_line.specs.PortTexts.{IsRead, is_router_port, port_text}

-- the ports so far are those of the words so far, and the others are still to come
abbrev pub Done : List (String Global) → ℕ → List Port → Type 0
Done words i ports =
    (map port_text ports ++ map string_bytes (drop i words) ≡ map string_bytes words)
    × (list_all is_router_port (map string_bytes words) ≡ list_all is_router_port (map string_bytes (drop i words)))

pub none_done : (words : List (String Global)) (ports : List Port) → ports ≡ [] → Done words 0 ports
none_done words ports none = rw none (refl, refl)

module _ (words : List (String Global)) (i : ℕ) (ports : List Port) (item : String Global) (word : List ℕ) (within : i < length words) (is : item ≡ get_or words i item) (same : word ≡ string_bytes item) (done : Done words i ports) where
  here : map string_bytes (drop i words) ≡ word ∷ map string_bytes (drop (i + 1) words)
  here = rw (same, add-one, drop-cons words i item within, ← is) refl

  pub one_more : (more : List Port) (port : Port) → IsRead port_text (is_router_port word) word (Some port) → more ≡ ports ++ port ∷ [] → Done words (i + 1) more
  one_more more port read added =
      let rest = map string_bytes (drop (i + 1) words) in (
        ap (λ p. map port_text p ++ rest) added
            ∙ ap (λ t. t ++ rest) (map-append port_text ports (port ∷ []))
            ∙ append_assoc (map port_text ports) (port_text port ∷ []) rest
            ∙ ap (λ w. map port_text ports ++ w ∷ rest) read.1
            ∙ ap (λ ws. map port_text ports ++ ws) (sym here)
            ∙ done.0,
        done.1 ∙ ap (list_all is_router_port) here ∙ ap (λ b. b && list_all is_router_port rest) read.0,
      )

  pub not_one : IsRead port_text (is_router_port word) word None → list_all is_router_port (map string_bytes words) ≡ false
  not_one read =
      let rest = map string_bytes (drop (i + 1) words) in
      done.1 ∙ ap (list_all is_router_port) here ∙ ap (λ b. b && list_all is_router_port rest) read

pub all_done : (words : List (String Global)) (i : ℕ) (ports : List Port) → length words ≤ i → Done words i ports → (list_all is_router_port (map string_bytes words) ≡ true) × (map port_text ports ≡ map string_bytes words)
all_done words i ports end done =
    let none = drop_all i words end in (
      done.1 ∙ ap (λ ws. list_all is_router_port (map string_bytes ws)) none,
      sym (append-nil (map port_text ports)) ∙ ap (λ ws. map port_text ports ++ map string_bytes ws) (sym none) ∙ done.0,
    )
