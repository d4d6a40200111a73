-- What is read of a line's words, as a result for the whole line.
use Rattle.std.proofs.Common.{◌≡◌, ℕ, ◌≤◌, false, List, length, refl, sym, ◌∙◌, ap, subst, Option, Some, None, Result, Ok, Err, IfOk, IfErr}
use Rattle.std.proofs.lemmas.Bool.{le-ltb}
use Rattle.scenario_lines.specs.declared.faults.Reason.{Reason}
use Rattle.scenario_lines.specs.declared.faults.LineFault.{LineFault}
use Rattle.scenario_lines.specs.declared.faults.LineFault.TheVariants.{Bad, NoMemory}
use Rattle.scenario_lines.specs.declared.lines.Line.{Line}
use Rattle.scenario_lines.specs.Words.{words_of}
use Rattle.scenario_lines.specs.LineContext.{LineContext}
use Rattle.scenario_lines.specs.Grammar.{is_blank, line_of, most_line_bytes}
use Rattle.scenario_lines.specs.Reasons.{reason_against, item_reason_against}
use Rattle.scenario_lines.specs.Readings.{answered, Says, reading, reading_items}
use Rattle.scenario_lines.specs.Permits.{IsPermitted, IsOfItems}
use Rattle.scenario_lines.specs.Faults.{IfBad}
use Rattle.scenario_lines.proofs.Permitted.{read_is_permitted}
use Rattle.scenario_lines.proofs.ItemForms.{reads_of_items}

no_reason : (r : Option Reason) (said line : Line) → Ok line ≡ answered r said → (r ≡ None) × (line ≡ said)
no_reason None said line h = (refl, cc)
no_reason (Some reason) said line h = cc

a_reason : (r : Option Reason) (said : Line) (reason : Reason) → Err reason ≡ answered r said → r ≡ Some reason
a_reason None said reason h = cc
a_reason (Some other) said reason h = cc

-- a line that is neither too long nor blank, and what is read of its words
pub line_read : (s : LineContext) (text : List ℕ) (words : List (List ℕ)) (line : Line) → length text ≤ most_line_bytes → is_blank text ≡ false
    → words ≡ words_of text → Ok line ≡ reading s words → (reason_against s text ≡ None) × (line ≡ line_of text)
line_read s text words line short full is_words h =
    rw (le-ltb most_line_bytes (length text) short, full) (no_reason _ _ line (h ∙ ap (reading s) is_words))

pub line_refused : (s : LineContext) (text : List ℕ) (words : List (List ℕ)) (reason : Reason) → length text ≤ most_line_bytes → is_blank text ≡ false
    → words ≡ words_of text → Err reason ≡ reading s words → reason_against s text ≡ Some reason
line_refused s text words reason short full is_words h =
    rw (le-ltb most_line_bytes (length text) short, full) (a_reason _ _ reason (h ∙ ap (reading s) is_words))

-- the same of a line of items
pub items_read : (drafted : ℕ) (text : List ℕ) (words : List (List ℕ)) (line : Line) → length text ≤ most_line_bytes → is_blank text ≡ false
    → words ≡ words_of text → Ok line ≡ reading_items drafted words → (item_reason_against drafted text ≡ None) × (line ≡ line_of text)
items_read drafted text words line short full is_words h =
    rw (le-ltb most_line_bytes (length text) short, full) (no_reason _ _ line (h ∙ ap (reading_items drafted) is_words))

pub items_refused : (drafted : ℕ) (text : List ℕ) (words : List (List ℕ)) (reason : Reason) → length text ≤ most_line_bytes → is_blank text ≡ false
    → words ≡ words_of text → Err reason ≡ reading_items drafted words → item_reason_against drafted text ≡ Some reason
items_refused drafted text words reason short full is_words h =
    rw (le-ltb most_line_bytes (length text) short, full) (a_reason _ _ reason (h ∙ ap (reading_items drafted) is_words))

-- ---- the clauses of a read line, by what is said of its words

pub said_ok : (s : LineContext) (text : List ℕ) (words : List (List ℕ)) (r : Result Line LineFault) → length text ≤ most_line_bytes → is_blank text ≡ false
    → words ≡ words_of text → Says (reading s words) r → IfOk r (λ line. (reason_against s text ≡ None) × (line ≡ line_of text))
said_ok s text words (Ok line) short full is_words said = line_read s text words line short full is_words (sym said)
said_ok s text words (Err e) short full is_words said = tt

pub said_permitted : (s : LineContext) (text : List ℕ) (words : List (List ℕ)) (r : Result Line LineFault) → length text ≤ most_line_bytes → is_blank text ≡ false
    → words ≡ words_of text → Says (reading s words) r → IfOk r (IsPermitted s)
said_permitted s text words (Ok line) short full is_words said =
    let found = line_read s text words line short full is_words (sym said) in
    subst (IsPermitted s) (sym found.1) (read_is_permitted s text found.0)
said_permitted s text words (Err e) short full is_words said = tt

pub said_bad : (s : LineContext) (text : List ℕ) (words : List (List ℕ)) (r : Result Line LineFault) → length text ≤ most_line_bytes → is_blank text ≡ false
    → words ≡ words_of text → Says (reading s words) r → IfErr r (λ e. IfBad e (λ reason. reason_against s text ≡ Some reason))
said_bad s text words (Ok line) short full is_words said = tt
said_bad s text words (Err (Bad reason)) short full is_words said = line_refused s text words reason short full is_words (sym said)
said_bad s text words (Err NoMemory) short full is_words said = tt

pub items_ok : (drafted : ℕ) (text : List ℕ) (words : List (List ℕ)) (r : Result Line LineFault) → length text ≤ most_line_bytes → is_blank text ≡ false
    → words ≡ words_of text → Says (reading_items drafted words) r → IfOk r (λ line. (item_reason_against drafted text ≡ None) × (line ≡ line_of text))
items_ok drafted text words (Ok line) short full is_words said = items_read drafted text words line short full is_words (sym said)
items_ok drafted text words (Err e) short full is_words said = tt

pub items_of_items : (drafted : ℕ) (words : List (List ℕ)) (r : Result Line LineFault) → Says (reading_items drafted words) r → IfOk r IsOfItems
items_of_items drafted words (Ok line) said = reads_of_items drafted words line (sym said)
items_of_items drafted words (Err e) said = tt

pub items_bad : (drafted : ℕ) (text : List ℕ) (words : List (List ℕ)) (r : Result Line LineFault) → length text ≤ most_line_bytes → is_blank text ≡ false
    → words ≡ words_of text → Says (reading_items drafted words) r → IfErr r (λ e. IfBad e (λ reason. item_reason_against drafted text ≡ Some reason))
items_bad drafted text words (Ok line) short full is_words said = tt
items_bad drafted text words (Err (Bad reason)) short full is_words said = items_refused drafted text words reason short full is_words (sym said)
items_bad drafted text words (Err NoMemory) short full is_words said = tt

-- what is said of the words by another name
pub said_of : (said of : Result Line Reason) (r : Result Line LineFault) → said ≡ of → Says said r → Says of r
said_of said of r same h = subst (λ a. Says a r) same h
