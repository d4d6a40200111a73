-- What the words that the program holds ask for.
use Rattle.std.proofs.Common.{◌≡◌, ◌∙◌, ◌≤◌, ◌-◌, ℕ, true, false, List, [], ◌∷◌, sym, ap, arith, map, length, take, drop, get_or, Some, None, String, string_bytes}
use Rattle.std.proofs.lemmas.Grind.{common_steps}
use Rattle.std.specs.declared.alloc.Global.{Global}
use Rattle.command_line.specs.declared.commands.Command.{Command}
use Rattle.command_line.specs.declared.pieces.Place.TheVariants.{Anything}
use Rattle.command_line.specs.Built.{built}
use Rattle.command_line.specs.Grammar.{Asked, Written, Asks, AskNothing}
use Rattle.command_line.specs.Lines.{fits_now}
use Rattle.command_line.specs.Pieces.{Begun, begun, Parts, parts_at}
use Rattle.command_line.proofs.Agreement.{written, begins, read_begun, read_parts, settings_in, plain_in, same_begun}
use Rattle.command_line.proofs.FormsAgree.{fits_when, when_fits}

take_rest : (xs : List (String Global)) (x : String Global) → take (length (x ∷ xs) - 1) (drop 1 (x ∷ xs)) ≡ xs
take_rest xs x = grind (arith, common_steps)

-- a first word and those after it
pub words_split : (xs : List (String Global)) (x : String Global) → 1 ≤ length xs → x ≡ get_or xs 0 x → map string_bytes xs ≡ string_bytes x ∷ map string_bytes (take (length xs - 1) (drop 1 xs))
words_split [] x some e = absurd (omega (arith, some))
words_split (y ∷ ys) x some e = rw (take_rest ys y, e)

abbrev pub begun_with : Command → List (List ℕ) → Begun
begun_with c ws = record { command = c; rest = ws }

module _ (words ws : List (List ℕ)) (c : Command) (found : begun words ≡ Some (begun_with c ws)) where
  -- a line that fits is asked for
  pub asks_at : (p : Parts) → parts_at Anything ws ≡ Some p → fits_now c p.settings p.plain ≡ true → Asks built words (record { command = c; settings = p.settings; plain = p.plain })
  asks_at p parts fits = record { written = written words ws c p found parts; fits = fits_when c p.settings p.plain fits }

  -- another line with these words has the command and the parts
  same_line : (asked : Asked) → Written words asked → (c ≡ asked.command) × (parts_at Anything ws ≡ Some (record { settings = asked.settings; plain = asked.plain }))
  same_line asked w =
      let (command, rest) = same_begun (begun_with c ws) (begins words asked w) (sym found ∙ read_begun words asked w) in
      (command, ap (parts_at Anything) rest ∙ read_parts words asked w)

  -- words that give nothing ask for nothing
  pub nothing_at : parts_at Anything ws ≡ None → AskNothing built words
  nothing_at none asked asks =
      let never : None ≡ Some (record { settings = asked.settings; plain = asked.plain }) = sym none ∙ (same_line asked asks.written).1 in
      cc never

  -- and so do those that don't fit
  pub unfit_at : (p : Parts) → parts_at Anything ws ≡ Some p → fits_now c p.settings p.plain ≡ false → AskNothing built words
  unfit_at p found_parts unfit asked asks =
      let (command, read) = same_line asked asks.written in
      let parts = sym found_parts ∙ read in
      let fits = when_fits asked.command asked.settings asked.plain asks.fits in
      let same : fits_now c p.settings p.plain ≡ fits_now asked.command asked.settings asked.plain =
      ap (λ d. fits_now d p.settings p.plain) command ∙ ap (λ s. fits_now asked.command s p.plain) (ap settings_in parts) ∙ ap (λ q. fits_now asked.command asked.settings q) (ap plain_in parts) in
      let never : false ≡ true = sym unfit ∙ same ∙ fits in
      cc never

-- words that begin with no command ask for nothing
pub no_command_at : (words : List (List ℕ)) → begun words ≡ None → AskNothing built words
no_command_at words none asked asks =
    let never : None ≡ Some (begins words asked asks.written) = sym none ∙ read_begun words asked asks.written in
    cc never
