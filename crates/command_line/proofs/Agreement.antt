-- Reading from left to right agrees with the grammar.
use Rattle.std.proofs.Common.{◌≡◌, ◌∙◌, ℕ, true, false, List, [], ◌∷◌, ◌++◌, refl, sym, ap, subst, codes, Option, Some, None, inl, inr}
use Rattle.std.proofs.lemmas.Bool.{cases_Bool, cond-true, cond-false}
use Rattle.command_line.specs.declared.commands.Command.{Command}
use Rattle.command_line.specs.declared.commands.OptionName.{OptionName}
use Rattle.command_line.specs.declared.pieces.Sort.{Sort}
use Rattle.command_line.specs.declared.pieces.Sort.TheVariants.{Plain, Dashes, Alone, Joined as JoinedSort, Apart as ApartSort, Unknown}
use Rattle.command_line.specs.declared.pieces.Place.{Place}
use Rattle.command_line.specs.declared.pieces.Place.TheVariants.{Anything, Value, Behind}
use Rattle.command_line.specs.Commands.{command_words, option_word, has_value}
use Rattle.command_line.specs.Forms.{Given}
use Rattle.command_line.specs.Grammar.{is_dashed, Piece, Flag, Apart, Joined, Bare, ArePieces, words_of, behind_words, settings_of, plain_of, plain_behind, Asked, Written}
use Rattle.command_line.specs.Pieces.{Begun, begun, sort_of, joined_value, Parts, given, plainly, sorted, parts_at}
use Rattle.command_line.proofs.Sorts.{IsSort, sort_is, sort_alone, sort_apart, sort_joined, sort_plain, begun_words, words_begun}

-- words after a command, and what they give
pub record Tree (words : List (List ℕ)) (parts : Parts) : Type 0 where
  pub pieces : List Piece
  pub behind : Option (List (List ℕ))
  pub are_pieces : ArePieces pieces
  pub words_are : words ≡ words_of pieces ++ behind_words behind
  pub settings_are : parts.settings ≡ settings_of pieces
  pub plain_are : parts.plain ≡ plain_of pieces ++ plain_behind behind

abbrev pub with_given : OptionName → List ℕ → Parts → Parts
with_given name value p = record { settings = (record { name = name; value = value }) ∷ p.settings; plain = p.plain }

abbrev pub with_plain : List ℕ → Parts → Parts
with_plain word p = record { settings = p.settings; plain = word ∷ p.plain }

-- a value and the words after it
pub record ValueTree (name : OptionName) (words : List (List ℕ)) (parts : Parts) : Type 0 where
  pub value : List ℕ
  pub rest : List (List ℕ)
  pub more : Parts
  pub words_are : words ≡ value ∷ rest
  pub is_value : is_dashed value ≡ false
  pub tree : Tree rest more
  pub parts_are : parts ≡ with_given name value more

abbrev pub TreeAt : Place → List (List ℕ) → Parts → Type 0
TreeAt Anything words parts = Tree words parts
TreeAt (Value name) words parts = ValueTree name words parts
TreeAt Behind words parts = parts ≡ record { settings = []; plain = words }

plainly_some : (word : List ℕ) (o : Option Parts) (p : Parts) → plainly word o ≡ Some p → (q : Parts) × (o ≡ Some q) × (p ≡ with_plain word q)
plainly_some word None p never = absurd (cc never)
plainly_some word (Some q) p e = (q, refl, let same : p ≡ with_plain word q = cc e in same)

given_some : (name : OptionName) (value : List ℕ) (o : Option Parts) (p : Parts) → given name value o ≡ Some p → (q : Parts) × (o ≡ Some q) × (p ≡ with_given name value q)
given_some name value None p never = absurd (cc never)
given_some name value (Some q) p e = (q, refl, let same : p ≡ with_given name value q = cc e in same)

-- a piece before a tree
plain_tree : (word : List ℕ) (ws : List (List ℕ)) (q p : Parts) → is_dashed word ≡ false → p ≡ with_plain word q → Tree ws q → Tree (word ∷ ws) p
plain_tree word ws q p plain e t = record {
  pieces = Bare word ∷ t.pieces;
  behind = t.behind;
  are_pieces = (plain, t.are_pieces);
  words_are = ap (λ more. word ∷ more) t.words_are;
  settings_are = ap (λ (r : Parts). r.settings) e ∙ t.settings_are;
  plain_are = ap (λ (r : Parts). r.plain) e ∙ ap (λ more. word ∷ more) t.plain_are;
}

alone_tree : (name : OptionName) (ws : List (List ℕ)) (q p : Parts) → has_value name ≡ false → p ≡ with_given name [] q → Tree ws q → Tree (option_word name ∷ ws) p
alone_tree name ws q p none e t = record {
  pieces = Flag name ∷ t.pieces;
  behind = t.behind;
  are_pieces = (none, t.are_pieces);
  words_are = ap (λ more. option_word name ∷ more) t.words_are;
  settings_are = ap (λ (r : Parts). r.settings) e ∙ ap (λ more. (record { name = name; value = [] }) ∷ more) t.settings_are;
  plain_are = ap (λ (r : Parts). r.plain) e ∙ t.plain_are;
}

joined_tree : (name : OptionName) (value : List ℕ) (ws : List (List ℕ)) (q p : Parts) → has_value name ≡ true → p ≡ with_given name value q → Tree ws q → Tree ((option_word name ++ 61 ∷ value) ∷ ws) p
joined_tree name value ws q p has e t = record {
  pieces = Joined name value ∷ t.pieces;
  behind = t.behind;
  are_pieces = (has, t.are_pieces);
  words_are = ap (λ more. (option_word name ++ 61 ∷ value) ∷ more) t.words_are;
  settings_are = ap (λ (r : Parts). r.settings) e ∙ ap (λ more. (record { name = name; value = value }) ∷ more) t.settings_are;
  plain_are = ap (λ (r : Parts). r.plain) e ∙ t.plain_are;
}

apart_tree : (name : OptionName) (value : List ℕ) (ws : List (List ℕ)) (q p : Parts) → has_value name ≡ true → is_dashed value ≡ false → p ≡ with_given name value q → Tree ws q → Tree (option_word name ∷ value ∷ ws) p
apart_tree name value ws q p has plain e t = record {
  pieces = Apart name value ∷ t.pieces;
  behind = t.behind;
  are_pieces = ((has, plain), t.are_pieces);
  words_are = ap (λ more. option_word name ∷ value ∷ more) t.words_are;
  settings_are = ap (λ (r : Parts). r.settings) e ∙ ap (λ more. (record { name = name; value = value }) ∷ more) t.settings_are;
  plain_are = ap (λ (r : Parts). r.plain) e ∙ t.plain_are;
}

-- no word comes after the command
empty_tree : (p : Parts) → p ≡ record { settings = []; plain = [] } → Tree [] p
empty_tree p e = record { pieces = []; behind = None; are_pieces = tt; words_are = refl; settings_are = ap (λ (r : Parts). r.settings) e; plain_are = ap (λ (r : Parts). r.plain) e }

behind_tree : (ws : List (List ℕ)) (p : Parts) → p ≡ record { settings = []; plain = ws } → Tree (codes "--" ∷ ws) p
behind_tree ws p e = record { pieces = []; behind = Some ws; are_pieces = tt; words_are = refl; settings_are = ap (λ (r : Parts). r.settings) e; plain_are = ap (λ (r : Parts). r.plain) e }

-- a word of some sort, before words that are trees at each place
sorted_tree : (s : Sort) (word : List ℕ) (ws : List (List ℕ)) (p : Parts) → IsSort s word → ((place : Place) (q : Parts) → parts_at place ws ≡ Some q → TreeAt place ws q) → sorted s word (λ place. parts_at place ws) ≡ Some p → Tree (word ∷ ws) p
sorted_tree Plain word ws p is each e =
    let (q, found, same) = plainly_some word (parts_at Anything ws) p e in
    plain_tree word ws q p is same (each Anything q found)
sorted_tree Dashes word ws p is each e = subst (λ w. Tree (w ∷ ws) p) (sym is) (behind_tree ws p (each Behind p e))
sorted_tree (Alone name) word ws p is each e =
    let (q, found, same) = given_some name [] (parts_at Anything ws) p e in
    subst (λ w. Tree (w ∷ ws) p) (sym is.0) (alone_tree name ws q p is.1 same (each Anything q found))
sorted_tree (JoinedSort name) word ws p is each e =
    let (q, found, same) = given_some name (joined_value word) (parts_at Anything ws) p e in
    subst (λ w. Tree (w ∷ ws) p) (sym is.0) (joined_tree name (joined_value word) ws q p is.1 same (each Anything q found))
sorted_tree (ApartSort name) word ws p is each e =
    let t = each (Value name) p e in
    subst (λ w. Tree (w ∷ ws) p) (sym is.0) (subst (λ rest. Tree (option_word name ∷ rest) p) (sym t.words_are)
    (apart_tree name t.value t.rest t.more p is.1 t.is_value t.parts_are t.tree))
sorted_tree Unknown word ws p is each never = absurd (cc never)

-- what words give is what some tree of them gives
pub tree_at : (words : List (List ℕ)) (place : Place) (p : Parts) → parts_at place words ≡ Some p → TreeAt place words p
tree_at [] Anything p e = empty_tree p (let same : p ≡ record { settings = []; plain = [] } = cc e in same)
tree_at [] (Value name) p never = absurd (cc never)
tree_at [] Behind p e = let same : p ≡ record { settings = []; plain = [] } = cc e in same
tree_at (word ∷ ws) Anything p e = sorted_tree (sort_of word) word ws p (sort_is word) (tree_at ws) e
tree_at (word ∷ ws) (Value name) p e =
    elim (cases_Bool (is_dashed word)) [
      | inl dashed ↦ absurd (let never : None ≡ Some p = sym (cond-true (is_dashed word) None (given name word (parts_at Anything ws)) dashed) ∙ e in cc never)
      | inr plain ↦
          let (q, found, same) = given_some name word (parts_at Anything ws) p (sym (cond-false (is_dashed word) None (given name word (parts_at Anything ws)) plain) ∙ e) in
          record { value = word; rest = ws; more = q; words_are = refl; is_value = plain; tree = tree_at ws Anything q found; parts_are = same }
    ]
tree_at (word ∷ ws) Behind p e =
    let (q, found, same) = plainly_some word (parts_at Behind ws) p e in
    same ∙ ap (with_plain word) (tree_at ws Behind q found)

-- each tree's words give what it gives
pub parts_behind : (words : List (List ℕ)) → parts_at Behind words ≡ Some (record { settings = []; plain = words })
parts_behind [] = refl
parts_behind (word ∷ ws) = ap (plainly word) (parts_behind ws)

pub parts_of_tree : (pieces : List Piece) (behind : Option (List (List ℕ))) → ArePieces pieces → parts_at Anything (words_of pieces ++ behind_words behind) ≡ Some (record { settings = settings_of pieces; plain = plain_of pieces ++ plain_behind behind })
parts_of_tree [] None are = refl
parts_of_tree [] (Some words) are = parts_behind words
parts_of_tree (Flag name ∷ ps) behind are =
    let rest = words_of ps ++ behind_words behind in
    ap (λ s. sorted s (option_word name) (λ place. parts_at place rest)) (sort_alone name are.0) ∙ ap (given name []) (parts_of_tree ps behind are.1)
parts_of_tree (Apart name value ∷ ps) behind are =
    let rest = words_of ps ++ behind_words behind in
    ap (λ s. sorted s (option_word name) (λ place. parts_at place (value ∷ rest))) (sort_apart name are.0.0)
    ∙ cond-false (is_dashed value) None (given name value (parts_at Anything rest)) are.0.1
    ∙ ap (given name value) (parts_of_tree ps behind are.1)
parts_of_tree (Joined name value ∷ ps) behind are =
    let rest = words_of ps ++ behind_words behind in
    let word = option_word name ++ 61 ∷ value in
    ap (λ s. sorted s word (λ place. parts_at place rest)) (sort_joined name value are.0).0
    ∙ ap (λ v. given name v (parts_at Anything rest)) (sort_joined name value are.0).1
    ∙ ap (given name value) (parts_of_tree ps behind are.1)
parts_of_tree (Bare word ∷ ps) behind are =
    let rest = words_of ps ++ behind_words behind in
    ap (λ s. sorted s word (λ place. parts_at place rest)) (sort_plain word are.0) ∙ ap (plainly word) (parts_of_tree ps behind are.1)

-- a command's words are written as they are read
pub written : (words ws : List (List ℕ)) (c : Command) (p : Parts) → begun words ≡ Some (record { command = c; rest = ws }) → parts_at Anything ws ≡ Some p → Written words (record { command = c; settings = p.settings; plain = p.plain })
written words ws c p found parts =
    let t = tree_at ws Anything p parts in
    record {
      pieces = t.pieces;
      behind = t.behind;
      are_pieces = t.are_pieces;
      words_are = begun_words words _ found ∙ ap (λ more. command_words c ++ more) t.words_are;
      settings_are = t.settings_are;
      plain_are = t.plain_are;
    }

-- and read as they are written
abbrev pub rest_of : (words : List (List ℕ)) (a : Asked) → Written words a → List (List ℕ)
rest_of words a w = words_of w.pieces ++ behind_words w.behind

abbrev pub begins : (words : List (List ℕ)) (a : Asked) → Written words a → Begun
begins words a w = record { command = a.command; rest = rest_of words a w }

pub read_begun : (words : List (List ℕ)) (a : Asked) → (w : Written words a) → begun words ≡ Some (begins words a w)
read_begun words a w = ap begun w.words_are ∙ words_begun a.command (rest_of words a w)

pub read_parts : (words : List (List ℕ)) (a : Asked) → (w : Written words a) → parts_at Anything (rest_of words a w) ≡ Some (record { settings = a.settings; plain = a.plain })
read_parts words a w =
    parts_of_tree w.pieces w.behind w.are_pieces
    ∙ ap (λ s. Some (record { settings = s; plain = plain_of w.pieces ++ plain_behind w.behind })) (sym w.settings_are)
    ∙ ap (λ q. Some (record { settings = a.settings; plain = q })) (sym w.plain_are)

same_asked : (a b : Asked) → a.command ≡ b.command → a.settings ≡ b.settings → a.plain ≡ b.plain → a ≡ b
same_asked a b e f g = ap (λ c. let r : Asked = record { command = c; settings = a.settings; plain = a.plain } in r) e ∙ ap (λ s. let r : Asked = record { command = b.command; settings = s; plain = a.plain } in r) f ∙ ap (λ q. let r : Asked = record { command = b.command; settings = b.settings; plain = q } in r) g

abbrev pub settings_in : Option Parts → List Given
settings_in None = []
settings_in (Some p) = p.settings

abbrev pub plain_in : Option Parts → List (List ℕ)
plain_in None = []
plain_in (Some p) = p.plain

abbrev pub words_after : Option Begun → List (List ℕ)
words_after None = []
words_after (Some b) = b.rest

abbrev pub command_or : Command → Option Begun → Command
command_or c None = c
command_or c (Some b) = b.command

pub same_begun : (b d : Begun) → Some b ≡ Some d → (b.command ≡ d.command) × (b.rest ≡ d.rest)
same_begun b d e = (ap (command_or b.command) e, ap words_after e)

-- at most one line is written so
pub written_once : (words : List (List ℕ)) (a b : Asked) → Written words a → Written words b → a ≡ b
written_once words a b v w =
    let (command, rest) = same_begun (begins words a v) (begins words b w) (sym (read_begun words a v) ∙ read_begun words b w) in
    let parts = sym (read_parts words a v) ∙ ap (parts_at Anything) rest ∙ read_parts words b w in
    same_asked a b command (ap settings_in parts) (ap plain_in parts)
