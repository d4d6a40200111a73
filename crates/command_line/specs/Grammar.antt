-- The grammar of the words after the program's name: how a command, its options and its plain words are written.
use Rattle.std.specs.Prelude.{◌≡◌, ◌==◌, ℕ, Bool, true, false, List, [], ◌∷◌, ◌++◌, Option, Some, None, codes}
use Rattle.command_line.specs.declared.commands.Command.{Command}
use Rattle.command_line.specs.declared.commands.OptionName.{OptionName}
use Rattle.command_line.specs.Commands.{command_words, option_word, has_value}
use Rattle.command_line.specs.Forms.{Built, Given, Fits}

-- a word that begins with `-` and isn't `-` alone
abbrev pub is_dashed : List ℕ → Bool
is_dashed [] = false
is_dashed (b ∷ []) = false
is_dashed (b ∷ c ∷ more) = b == 45

-- what comes before `--`
pub data Piece : Type 0 where
  Flag : OptionName → Piece  -- an option without value, `--one`
  Apart : OptionName → List ℕ → Piece  -- an option and its value, `--key FILE`
  Joined : OptionName → List ℕ → Piece  -- both in one word, `--key=FILE`
  Bare : List ℕ → Piece  -- a plain word

-- the words of a piece
abbrev pub piece_words : Piece → List (List ℕ)
piece_words (Flag name) = option_word name ∷ []
piece_words (Apart name value) = option_word name ∷ value ∷ []
piece_words (Joined name value) = (option_word name ++ 61 ∷ value) ∷ []
piece_words (Bare word) = word ∷ []

-- a value that is a word of its own and a plain word before `--` aren't dashed
abbrev pub IsPiece : Piece → Type 0
IsPiece (Flag name) = has_value name ≡ false
IsPiece (Apart name value) = (has_value name ≡ true) × (is_dashed value ≡ false)
IsPiece (Joined name value) = has_value name ≡ true
IsPiece (Bare word) = is_dashed word ≡ false

abbrev pub ArePieces : List Piece → Type 0
ArePieces [] = Unit {0}
ArePieces (p ∷ ps) = IsPiece p × ArePieces ps

abbrev pub words_of : List Piece → List (List ℕ)
words_of [] = []
words_of (p ∷ ps) = piece_words p ++ words_of ps

-- the first `--` ends the options, and every word after it is plain
abbrev pub behind_words : Option (List (List ℕ)) → List (List ℕ)
behind_words None = []
behind_words (Some words) = codes "--" ∷ words

-- the options given, each with its value; one without has the empty value
abbrev pub settings_of : List Piece → List Given
settings_of [] = []
settings_of (Flag name ∷ ps) = (record { name = name; value = [] }) ∷ settings_of ps
settings_of (Apart name value ∷ ps) = (record { name = name; value = value }) ∷ settings_of ps
settings_of (Joined name value ∷ ps) = (record { name = name; value = value }) ∷ settings_of ps
settings_of (Bare word ∷ ps) = settings_of ps

-- the plain words
abbrev pub plain_of : List Piece → List (List ℕ)
plain_of [] = []
plain_of (Flag name ∷ ps) = plain_of ps
plain_of (Apart name value ∷ ps) = plain_of ps
plain_of (Joined name value ∷ ps) = plain_of ps
plain_of (Bare word ∷ ps) = word ∷ plain_of ps

abbrev pub plain_behind : Option (List (List ℕ)) → List (List ℕ)
plain_behind None = []
plain_behind (Some words) = words

-- what a command line asks for
pub record Asked : Type 0 where
  pub command : Command
  pub settings : List Given
  pub plain : List (List ℕ)

-- these words are written so: the pieces after the command, and what comes after `--`, if anything does
pub record Written (words : List (List ℕ)) (asked : Asked) : Type 0 where
  pub pieces : List Piece
  pub behind : Option (List (List ℕ))
  pub are_pieces : ArePieces pieces
  pub words_are : words ≡ command_words asked.command ++ (words_of pieces ++ behind_words behind)
  pub settings_are : asked.settings ≡ settings_of pieces
  pub plain_are : asked.plain ≡ plain_of pieces ++ plain_behind behind

-- these words are a line of the grammar, and ask for this
pub record Asks (built : Built) (words : List (List ℕ)) (asked : Asked) : Type 0 where
  pub written : Written words asked
  pub fits : Fits built asked.command asked.settings asked.plain

-- these words are no line of the grammar
abbrev pub AskNothing : Built → List (List ℕ) → Type 0
AskNothing built words = (asked : Asked) → ¬ Asks built words asked

-- two readings of the same words are the same
abbrev pub AsksOnce : Built → List (List ℕ) → Type 0
AsksOnce built words = (asked other : Asked) → Asks built words asked → Asks built words other → asked ≡ other
