-- The ports of a set: a space over the first comma, or a dash.
use Rattle.std.proofs.Common.{◌≡◌, ℕ, zero, suc, ◌+◌, ◌≤◌, ◌<◌, Bool, true, false, if◌then◌else◌, List, [], ◌∷◌, ◌++◌, codes, length, take, set, refl, sym, ap, ◌∙◌, arith, append-nil, length-take, take-take}
use Rattle.std.specs.Fmt.{decimal}
use Rattle.std.proofs.Math.Seq.{take-append-add, take-set-lt}
use Rattle.link_table.specs.Routing.{has_port}
use Rattle.route_command.specs.Texts.{ports_from, ports_text}

-- what stood before what was put
pub start_kept : (at end : ℕ) (old new part : List ℕ) → at ≤ length old → at ≤ end → take end new ≡ take at old ++ part → take at new ≡ take at old
start_kept at end old new part before more put =
    let long : length (take at old) ≡ at = omega (arith, length-take at old) in
    let here : at + 0 ≡ at = omega arith in
    sym (take-take at end new more)
    ∙ (ap (take at) put
    ∙ (ap (λ (n : ℕ). take n (take at old ++ part)) (sym here ∙ ap (λ (n : ℕ). n + 0) (sym long))
    ∙ (take-append-add (take at old) part 0 ∙ append-nil (take at old))))

-- the ports without the first comma, or a dash
abbrev after_comma : List ℕ → List ℕ
after_comma [] = codes "-"
after_comma (comma ∷ text) = text

from_first : (ways : List Bool) (port count : ℕ) → ports_from true ways port count ≡ after_comma (ports_from false ways port count)
from_first ways port zero = refl
from_first ways port (suc count) = here (has_port ways port) (from_first ways (port + 1) count) where
  here : (t : Bool) → ports_from true ways (port + 1) count ≡ after_comma (ports_from false ways (port + 1) count) → (if t then [] ++ decimal port ++ ports_from false ways (port + 1) count else ports_from true ways (port + 1) count) ≡ after_comma (if t then codes "," ++ decimal port ++ ports_from false ways (port + 1) count else ports_from false ways (port + 1) count)
  here true later = refl
  here false later = later

-- no port was put
none_put : (start text : List ℕ) → length (start ++ text) ≡ length start → text ≡ []
none_put [] [] e = refl
none_put [] (x ∷ xs) e = absurd (omega (arith, e))
none_put (s ∷ start) text e = none_put start text (omega (arith, e))

pub dash_put : (ways : List Bool) (at : ℕ) (old put last : List ℕ) → at ≤ length old → at ≤ length put → take at put ≡ take at old ++ ports_from false ways 1 8 → last ≡ take at put ++ codes " -" → last ≡ take at old ++ 32 ∷ ports_text ways
dash_put ways at old put last before room is e =
    let none : ports_from false ways 1 8 ≡ [] =
    none_put (take at old) (ports_from false ways 1 8) (sym (ap length is) ∙ (let a = length-take at put in let b = length-take at old in omega arith)) in
    e ∙ ap (λ (l : List ℕ). l ++ codes " -") (start_kept at at old put (ports_from false ways 1 8) before (omega arith) is)
    ∙ ap (λ (l : List ℕ). take at old ++ 32 ∷ l) (sym (from_first ways 1 8 ∙ ap after_comma none))

-- a space over the first comma
space_over : (start text : List ℕ) → length start < length (start ++ text) → set (start ++ text) (length start) 32 ≡ start ++ 32 ∷ after_comma text
space_over [] [] more = absurd (omega (arith, more))
space_over [] (x ∷ xs) more = refl
space_over (s ∷ start) text more = ap (λ (l : List ℕ). s ∷ l) (space_over start text (omega (arith, more)))

pub ports_put : (ways : List Bool) (at end : ℕ) (old put : List ℕ) → at ≤ length old → at < end → end ≤ length put → take end put ≡ take at old ++ ports_from false ways 1 8 → take end (set put at 32) ≡ take at old ++ 32 ∷ ports_text ways
ports_put ways at end old put before more room is =
    let long : length (take at old) ≡ at = omega (arith, length-take at old) in
    let all : length (take at old ++ ports_from false ways 1 8) ≡ end = sym (ap length is) ∙ (let a = length-take end put in omega arith) in
    take-set-lt end put at 32 more
    ∙ (ap (λ (l : List ℕ). set l at 32) is
    ∙ (ap (λ (n : ℕ). set (take at old ++ ports_from false ways 1 8) n 32) (sym long)
    ∙ (space_over (take at old) (ports_from false ways 1 8) (omega (arith, all, long, more))
    ∙ ap (λ (l : List ℕ). take at old ++ 32 ∷ l) (sym (from_first ways 1 8)))))
