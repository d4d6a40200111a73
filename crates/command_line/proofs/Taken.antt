-- What a reader holds after a word that comes where options may.
use Rattle.std.proofs.Common.{◌≡◌, ◌∙◌, ℕ, List, [], ◌∷◌, ◌<◌, ◌≤◌, ◌+◌, ◌++◌, true, false, refl, sym, ap, add-one, drop-cons, append_assoc, length, drop, get_or, map, Option, Some, None, Ok, Err, Result, OnOk, String, string_bytes}
use Rattle.std.proofs.lemmas.List.{drop_all}
use Rattle.std.specs.declared.alloc.Global.{Global}
use Rattle.command_line.specs.declared.commands.OptionName.{OptionName}
use Rattle.command_line.specs.declared.lines.Setting.{Setting}
use Rattle.command_line.specs.declared.pieces.Place.{Place}
use Rattle.command_line.specs.declared.pieces.Place.TheVariants.{Anything, Value, Behind}
use Rattle.command_line.specs.declared.pieces.Sort.{Sort}
use Rattle.command_line.specs.declared.pieces.Sort.TheVariants.{Plain}
use Rattle.command_line.specs.Forms.{Given}
use Rattle.command_line.specs.Grammar.{is_dashed}
use Rattle.command_line.specs.Lines.{given_of, with_rest}
use Rattle.command_line.specs.Pieces.{Parts, given, plainly, sorted, sort_of, parts_at, joined}

-- what follows from what a result promises
pub on_ok_more : {A E P Q : Type 0} (answer : Result A E) → OnOk answer P → (P → Q) → OnOk answer Q
on_ok_more (Ok value) p more = more p
on_ok_more (Err e) p more = tt

pub sorted_at : (place : Place) (sort : Sort) (word : List ℕ) (rest : List (List ℕ)) → place ≡ Anything → sort ≡ sort_of word
    → parts_at place (word ∷ rest) ≡ sorted sort word (λ next. parts_at next rest)
sorted_at place sort word rest at is = rw (at, is) refl

joined_plainly : (settings : List Given) (plain : List (List ℕ)) (word : List ℕ) (parts : Option Parts)
    → joined settings plain (plainly word parts) ≡ joined settings (plain ++ word ∷ []) parts
joined_plainly settings plain word None = refl
joined_plainly settings plain word (Some p) =
    ap (λ words. Some (record { settings = settings ++ p.settings; plain = words })) (sym (append_assoc plain (word ∷ []) p.plain))

joined_given : (settings : List Given) (plain : List (List ℕ)) (name : OptionName) (value : List ℕ) (parts : Option Parts)
    → joined settings plain (given name value parts) ≡ joined (settings ++ (record { name = name; value = value }) ∷ []) plain parts
joined_given settings plain name value None = refl
joined_given settings plain name value (Some p) =
    ap (λ more. Some (record { settings = more; plain = plain ++ p.plain }))
    (sym (append_assoc settings ((record { name = name; value = value }) ∷ []) p.settings))

-- a word that is kept as it is
pub plain_taken : (place next : Place) (settings more : List Setting) (words longer : List (String Global)) (word : List ℕ) (rest : List (List ℕ))
    → place ≡ Anything → Plain ≡ sort_of word → map string_bytes longer ≡ map string_bytes words ++ word ∷ [] → more ≡ settings → next ≡ place
    → with_rest place settings words (word ∷ rest) ≡ with_rest next more longer rest
plain_taken place next settings more words longer word rest at is added same stays =
    ap (joined (map given_of settings) (map string_bytes words)) (sorted_at place Plain word rest at is)
    ∙ joined_plainly (map given_of settings) (map string_bytes words) word (parts_at Anything rest)
    ∙ rw (same, stays, at, added) refl

-- a word that gives an option a value
pub given_taken : (place next : Place) (settings more : List Setting) (words longer : List (String Global)) (word : List ℕ) (rest : List (List ℕ))
    (name : OptionName) (value : List ℕ)
    → parts_at place (word ∷ rest) ≡ given name value (parts_at Anything rest)
    → map given_of more ≡ map given_of settings ++ (record { name = name; value = value }) ∷ [] → longer ≡ words → next ≡ Anything
    → with_rest place settings words (word ∷ rest) ≡ with_rest next more longer rest
given_taken place next settings more words longer word rest name value is added same stays =
    ap (joined (map given_of settings) (map string_bytes words)) is
    ∙ joined_given (map given_of settings) (map string_bytes words) name value (parts_at Anything rest)
    ∙ rw (same, stays, added) refl

-- a word that is the value of the option before it, or can't be
pub value_at : (place : Place) (name : OptionName) (word : List ℕ) (rest : List (List ℕ)) → place ≡ Value name → is_dashed word ≡ false → parts_at place (word ∷ rest) ≡ given name word (parts_at Anything rest)
value_at place name word rest at plain = rw (at, plain) refl

pub no_value : (place : Place) (name : OptionName) (word : List ℕ) (rest : List (List ℕ)) → place ≡ Value name → is_dashed word ≡ true → parts_at place (word ∷ rest) ≡ None
no_value place name word rest at dashed = rw (at, dashed) refl

-- a word after `--`
pub behind_taken : (place next : Place) (settings more : List Setting) (words longer : List (String Global)) (word : List ℕ) (rest : List (List ℕ))
    → place ≡ Behind → map string_bytes longer ≡ map string_bytes words ++ word ∷ [] → more ≡ settings → next ≡ place
    → with_rest place settings words (word ∷ rest) ≡ with_rest next more longer rest
behind_taken place next settings more words longer word rest at added same stays =
    ap (λ p. joined (map given_of settings) (map string_bytes words) (parts_at p (word ∷ rest))) at
    ∙ joined_plainly (map given_of settings) (map string_bytes words) word (parts_at Behind rest)
    ∙ rw (same, stays, at, added) refl

-- one more of the words that are held
module _ (place : Place) (settings : List Setting) (words : List (String Global)) (ws : List (String Global)) (i : ℕ) (whole : Option Parts) (so_far : with_rest place settings words (map string_bytes (drop i ws)) ≡ whole) where
  pub one_taken : (next : Place) (more : List Setting) (longer : List (String Global)) (item : String Global) (word : List ℕ) → i < length ws → item ≡ get_or ws i item → word ≡ string_bytes item
      → with_rest place settings words (word ∷ map string_bytes (drop (i + 1) ws)) ≡ with_rest next more longer (map string_bytes (drop (i + 1) ws))
      → with_rest next more longer (map string_bytes (drop (i + 1) ws)) ≡ whole
  one_taken next more longer item word within is same step =
      let rest = map string_bytes (drop (i + 1) ws) in
      let here : map string_bytes (drop i ws) ≡ word ∷ rest = rw (same, add-one, drop-cons ws i item within, ← is) refl in
      sym step ∙ ap (with_rest place settings words) (sym here) ∙ so_far

  pub all_taken : length ws ≤ i → with_rest place settings words [] ≡ whole
  all_taken end = ap (λ rest. with_rest place settings words (map string_bytes rest)) (sym (drop_all i ws end)) ∙ so_far
