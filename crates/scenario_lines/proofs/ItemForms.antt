-- Lines of items, if nothing else is read.
use Rattle.std.proofs.Common.{◌≡◌, ℕ, Bool, true, false, if◌then◌else◌, List, [], ◌∷◌, codes, refl, sym, subst, Option, Some, None, Ok}
use Rattle.std.specs.Str.{bytes_eq}
use Rattle.scenario_lines.specs.declared.faults.Reason.{Reason}
use Rattle.scenario_lines.specs.declared.faults.Reason.TheVariants.{Word}
use Rattle.scenario_lines.specs.declared.lines.Line.{Line}
use Rattle.scenario_lines.specs.Words.{word_at}
use Rattle.scenario_lines.specs.LineContext.{context_of}
use Rattle.scenario_lines.specs.Grammar.{line_from}
use Rattle.scenario_lines.specs.Reasons.{is_item_word}
use Rattle.scenario_lines.specs.Permits.{IsOfItems}
use Rattle.scenario_lines.specs.Readings.{answered, reading_items, read_one_item, read_items}
use Rattle.scenario_lines.proofs.Forms.{starts, item_reads, items_reads}
use Rattle.scenario_lines.proofs.FirstWords.{spelled, by_or}

pub item_only : (drafted : ℕ) (words : List (List ℕ)) → word_at words 0 ≡ codes "item" → reading_items drafted words ≡ read_one_item drafted words
item_only drafted words e =
    starts (λ ws. reading_items drafted ws ≡ read_one_item drafted ws) _ _ (λ ws. item_reads (context_of [] drafted 0) (codes "item" ∷ ws) refl) words e

pub items_only : (drafted : ℕ) (words : List (List ℕ)) → word_at words 0 ≡ codes "items" → reading_items drafted words ≡ read_items drafted words
items_only drafted words e =
    starts (λ ws. reading_items drafted ws ≡ read_items drafted ws) _ _ (λ ws. items_reads (context_of [] drafted 0) (codes "items" ∷ ws) refl) words e

of_items : (words : List (List ℕ)) → is_item_word (word_at words 0) ≡ true → IsOfItems (line_from words)
of_items words =
    by_or (bytes_eq (word_at words 0) (codes "item")) _ (IsOfItems (line_from words))
    (λ e. starts (λ ws. IsOfItems (line_from ws)) _ _ (λ ws. tt) words (spelled _ (codes "item") (sym e)))
    (λ e. starts (λ ws. IsOfItems (line_from ws)) _ _ (λ ws. tt) words (spelled _ (codes "items") (sym e)))

chosen_items : (b : Bool) (m : Option Reason) (said line : Line) → (b ≡ true → IsOfItems said) → Ok line ≡ answered (if b then m else Some Word) said
    → IsOfItems line
chosen_items false m said line h e = cc
chosen_items true (Some r) said line h e = cc
chosen_items true None said line h e = let same : said ≡ line = cc in subst IsOfItems same (h refl)

pub reads_of_items : (drafted : ℕ) (words : List (List ℕ)) (line : Line) → Ok line ≡ reading_items drafted words → IsOfItems line
reads_of_items drafted words line h = chosen_items (is_item_word (word_at words 0)) _ (line_from words) line (of_items words) h
