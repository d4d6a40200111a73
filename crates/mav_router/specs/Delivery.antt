-- Where each packet of a journal goes, as a router's user sees it.
use Rattle.std.specs.Prelude.{ℕ, ◌≡◌, ◌==◌, ◌≤◌, ◌&&◌, ◌||◌, not, nat_le, Bool, false, List, [], ◌∷◌, ◌++◌}
use Rattle.mav_sign.specs.History.{is_admitted}
use Rattle.link_table.specs.Routing.{is_behind, has_port}
use Rattle.mav_router.specs.declared.entries.Entry.{Entry}
use Rattle.mav_router.specs.Journal.{Rules, IsJournal, learned_in, target_by, is_unsigned}

-- it goes out at a port if it was admitted, the port is another one of the router's, somebody whom it is for is behind
-- that port by what came in before, and it has a signature block or the port is open
abbrev pub reaches : Rules → List Entry → Entry → ℕ → Bool
reaches rules before entry port =
    is_admitted entry.admit && (nat_le port rules.ports
    && (not (port == entry.port) && (is_behind (learned_in before) port (target_by rules entry.frame)
    && (not (is_unsigned entry.frame) || has_port rules.plain port))))

-- and only then
abbrev pub EveryEntry : Type 0
EveryEntry =
    (rules : Rules) (before after : List Entry) (entry : Entry) (port : ℕ)
    → IsJournal rules [] (before ++ entry ∷ after) → 1 ≤ port → port ≤ 8
    → has_port entry.ways port ≡ reaches rules before entry port

-- no packet goes back to the port that it came in at, in any journal
abbrev pub NeverBack : Type 0
NeverBack =
    (rules : Rules) (before after : List Entry) (entry : Entry) → IsJournal rules [] (before ++ entry ∷ after)
    → has_port entry.ways entry.port ≡ false
