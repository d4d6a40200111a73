-- A file of items gives at most 2,000.
use Rattle.std.proofs.Common.{◌≡◌, ℕ, zero, suc, ◌+◌, ◌≤◌, Bool, true, false, List, [], ◌∷◌, ◌++◌, if◌then◌else◌, refl, ap, subst, arith, length, length-append, Some, None, Option, nat_lt}
use Rattle.std.proofs.lemmas.Bool.{ltb-false}
use Rattle.scenario_lines.specs.declared.faults.Reason.{Reason}
use Rattle.scenario_lines.specs.declared.faults.Reason.TheVariants.{Long, Word, Range, Draft}
use Rattle.scenario_lines.specs.declared.lines.Line.{Line}
use Rattle.scenario_lines.specs.declared.lines.Line.TheVariants.{Blank, Drone, Station, Item as OneItem, Items, Empty, Begin, Cancel, Clear, Get, Command, Params, Heartbeat, Deliver, Flow, Noise, Tick, Clock, Restart, Sim, WhereIs}
use Rattle.scenario_lines.specs.LineContext.{context_of}
use Rattle.scenario_lines.specs.Words.{words_of, word_at}
use Rattle.scenario_lines.specs.Grammar.{line_of, is_blank, form_of, most_line_bytes, most_draft, first_reason, against}
use Rattle.scenario_lines.specs.Reasons.{is_item_word, words_reason, item_reason_against, leaves_range}
use Rattle.scenario_lines.specs.ItemRows.{items_from}
use Rattle.scenario_lines.specs.Permits.{IsPermitted}
use Rattle.scenario_lines.proofs.Permitted.{read_is_permitted}
use Rattle.plan_items.specs.declared.items.Item.{Item}
use Rattle.command_inputs.specs.Takers.{Read, going, judged, rules_of, file_read}
use Rattle.command_inputs.proofs.LineKeeps.{bytes_keep}
use Rattle.command_inputs.specs.ItemFiles.{items_in, items_said, items_say, HoldsItems}

-- ---- a line of a file is one of scenarios

no_reason_words : (drafted : ℕ) (words : List (List ℕ)) (is_item : Bool) (reason : Option Reason) → (if is_item then reason else Some Word) ≡ None → reason ≡ None
no_reason_words drafted words true reason h = h
no_reason_words drafted words false reason h = cc

no_reason_text : (drafted : ℕ) (words : List (List ℕ)) (blank is_item : Bool) (reason : Option Reason) → (if blank then None else (if is_item then reason else Some Word)) ≡ None → (if blank then None else reason) ≡ None
no_reason_text drafted words true is_item reason h = refl
no_reason_text drafted words false is_item reason h = no_reason_words drafted words is_item reason h

no_reason_long : (long : Bool) (x y : Option Reason) → (x ≡ None → y ≡ None) → (if long then Some Long else x) ≡ None → (if long then Some Long else y) ≡ None
no_reason_long true x y on h = cc
no_reason_long false x y on h = on h

pub items_permitted : (drafted : ℕ) (text : List ℕ) → item_reason_against drafted text ≡ None → IsPermitted (context_of [] drafted 0) (line_of text)
items_permitted drafted text h =
    let words = words_of text in
    read_is_permitted (context_of [] drafted 0) text
    (no_reason_long (nat_lt most_line_bytes (length text)) _ _
    (no_reason_text drafted words (is_blank text) (is_item_word (word_at words 0)) (words_reason (context_of [] drafted 0) words (form_of (word_at words 0)))) h)

pub line_permitted : (n drafted : ℕ) (text : List ℕ) (line : Line) → n ≡ drafted → (item_reason_against n text ≡ None) × (line ≡ line_of text) → IsPermitted (context_of [] drafted 0) line
line_permitted n drafted text line same (good, said) =
    rw said (items_permitted drafted text (subst (λ k. item_reason_against k text ≡ None) same good))

-- ---- how many items a line adds

items_from-length : (n : ℕ) (first : Item) (i : ℕ) → length (items_from n first i) ≡ n
items_from-length zero first i = refl
items_from-length (suc n) first i = ap suc (items_from-length n first (i + 1))

no_draft : (bad : Bool) → against bad Draft ≡ None → bad ≡ false
no_draft true h = cc
no_draft false h = refl

no_range : (bad more : Bool) → first_reason (against bad Range) (against more Draft) ≡ None → (bad ≡ false) × (more ≡ false)
no_range true more h = cc
no_range false more h = (refl, no_draft more h)

-- what a line of `n` items tells of them
pub items_fit : (drafted n : ℕ) (first : Item) → IsPermitted (context_of [] drafted 0) (Items n first) → (n ≤ 2000) × (leaves_range n first ≡ false) × (drafted + n ≤ 2000)
items_fit drafted n first h =
    let parts = no_range (leaves_range n first) (nat_lt most_draft (drafted + n)) h.1 in
    (h.0.1, parts.0, ltb-false 2000 (drafted + n) parts.1)

adds_few : (items : List Item) (line : Line) → length items ≤ 2000 → IsPermitted (context_of [] (length items) 0) line → length (items ++ items_in line) ≤ 2000
adds_few items Blank few h = omega (arith, few, length-append items [])
adds_few items (Drone sys x y) few h = omega (arith, few, length-append items [])
adds_few items (Station sys comp) few h = omega (arith, few, length-append items [])
adds_few items (OneItem item) few h =
    let fits = ltb-false 2000 (length items + 1) (no_draft (nat_lt most_draft (length items + 1)) h.1) in
    omega (arith, fits, length-append items (item ∷ []))
adds_few items (Items n first) few h =
    omega (arith, (items_fit (length items) n first h).2, length-append items (items_from n first 0), items_from-length n first 0)
adds_few items Empty few h = omega (arith, few, length-append items [])
adds_few items (Begin station drone kind) few h = omega (arith, few, length-append items [])
adds_few items (Cancel station) few h = omega (arith, few, length-append items [])
adds_few items (Clear station drone kind) few h = omega (arith, few, length-append items [])
adds_few items (Get station drone kind) few h = omega (arith, few, length-append items [])
adds_few items (Command station drone number word) few h = omega (arith, few, length-append items [])
adds_few items (Params station drone) few h = omega (arith, few, length-append items [])
adds_few items (Heartbeat node) few h = omega (arith, few, length-append items [])
adds_few items (Deliver i node) few h = omega (arith, few, length-append items [])
adds_few items (Flow k) few h = omega (arith, few, length-append items [])
adds_few items (Noise node bytes) few h = omega (arith, few, length-append items [])
adds_few items (Tick node) few h = omega (arith, few, length-append items [])
adds_few items (Clock n) few h = omega (arith, few, length-append items [])
adds_few items (Restart drone) few h = omega (arith, few, length-append items [])
adds_few items (Sim drone n) few h = omega (arith, few, length-append items [])
adds_few items (WhereIs drone) few h = omega (arith, few, length-append items [])

-- ---- and a file

abbrev Few : Read (List Item) → Type 0
Few r = length r.state ≤ 2000

said_few : (r : Read (List Item)) (number : ℕ) (text : List ℕ) (reason : Option Reason) → item_reason_against (length r.state) text ≡ reason → Few r → Few (judged r number (items_said r.state text reason))
said_few r number text (Some reason) is few = few
said_few r number text None is few = adds_few r.state (line_of text) few (items_permitted (length r.state) text is)

file_few : (ended : Bool) (bytes : List ℕ) → length (file_read items_say [] ended bytes).state ≤ 2000
file_few ended bytes =
    bytes_keep (rules_of items_say) Few
    (record {
      text = λ r number text few. said_few r number text (item_reason_against (length r.state) text) refl few;
      long = λ r number few. few;
      many = λ r few. few;
    })
    (going []) ended bytes (omega arith)

-- a plan of a file has few items
pub holds_few : (spent : Type 0) (lb la : Option (List ℕ)) (items : List Item) → HoldsItems spent lb la items → length items ≤ 2000
holds_few spent lb la items h = subst (λ (r : Read (List Item)). length r.state ≤ 2000) h.gives (file_few true h.taken)
