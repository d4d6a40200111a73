-- What holds at the start and after each line holds of all lines.
use Rattle.std.proofs.Common.{ℕ, ◌+◌, Bool, true, false, List, [], ◌∷◌, ◌++◌, length, Some, None, Option, cond, ltb, eqb}
use Rattle.std.proofs.lemmas.Bool.{cond_both}
use Rattle.scenario_lines.specs.Grammar.{most_line_bytes}
use Rattle.scenario_lines.specs.FileLines.{whole_lines, unfinished, without_cr, most_lines}
use Rattle.command_inputs.specs.LineRules.{LineRules, unless_stopped, line_read, lines_read, part_read, rest_read, bytes_read}
use Rattle.command_inputs.specs.ByteByByte.{reads}

-- what every line keeps
pub record Kept {R E : Type 0} (rules : LineRules R E) (P : R → Type 0) : Type 0 where
  pub text : (r : R) (number : ℕ) (text : List ℕ) → P r → P (rules.text r number text)
  pub long : (r : R) (number : ℕ) → P r → P (rules.long r number)
  pub many : (r : R) → P r → P (rules.many r)

module _ {R E : Type 0} (rules : LineRules R E) (P : R → Type 0) (kept : Kept rules P) where
  unless_keeps : (stop : Option E) (r next : R) → P r → P next → P (unless_stopped stop r next)
  unless_keeps None r next here there = there
  unless_keeps (Some stop) r next here there = here

  long_keeps : (r more : R) (number size : ℕ) → P r → P more → P (cond (ltb most_line_bytes size) (rules.long r number) more)
  long_keeps r more number size here there = cond_both (ltb most_line_bytes size) (rules.long r number) more P (λ e. kept.long r number here) (λ e. there)

  text_keeps : (r : R) (number size : ℕ) (text : List ℕ) → P r → P (cond (ltb most_lines number) (rules.many r) (cond (ltb most_line_bytes size) (rules.long r number) (rules.text r number text)))
  text_keeps r number size text here =
      cond_both (ltb most_lines number) (rules.many r) (cond (ltb most_line_bytes size) (rules.long r number) (rules.text r number text)) P (λ e. kept.many r here)
      (λ e. long_keeps r (rules.text r number text) number size here (kept.text r number text here))

  lines_keep : (r : R) (number : ℕ) (lines : List (List ℕ)) → P r → P (lines_read rules r number lines)
  lines_keep r number [] here = here
  lines_keep r number (raw ∷ more) here =
      unless_keeps (rules.stop r) r (lines_read rules (line_read rules r number raw) (number + 1) more) here
      (lines_keep (line_read rules r number raw) (number + 1) more (text_keeps r number (length raw) (without_cr raw) here))

  rest_keeps : (ended : Bool) (r : R) (number : ℕ) (part : List ℕ) → P r → P (rest_read rules ended r number part)
  rest_keeps true r number [] here = here
  rest_keeps true r number (b ∷ bs) here = text_keeps r number (length (b ∷ bs)) (b ∷ bs) here
  rest_keeps false r number part here =
      cond_both (ltb most_line_bytes (length part)) (cond (ltb most_lines number) (rules.many r) (rules.long r number)) r P
      (λ e. cond_both (ltb most_lines number) (rules.many r) (rules.long r number) P (λ f. kept.many r here) (λ f. kept.long r number here)) (λ e. here)

  pub bytes_keep : (start : R) (ended : Bool) (bytes : List ℕ) → P start → P (bytes_read rules start ended bytes)
  bytes_keep start ended bytes here =
      let lines = lines_read rules start 1 (whole_lines bytes) in
      let at_end = lines_keep start 1 (whole_lines bytes) here in
      unless_keeps (rules.stop lines) lines (rest_read rules ended lines (length (whole_lines bytes) + 1) (unfinished bytes)) at_end
      (rest_keeps ended lines (length (whole_lines bytes) + 1) (unfinished bytes) at_end)

  -- the same of bytes after a line that is held
  pub reads_keep : (ended : Bool) (r : R) (number : ℕ) (part bytes : List ℕ) → P r → P (reads rules ended r number part bytes)
  reads_keep ended r number part [] here = rest_keeps ended r number part here
  reads_keep ended r number part (b ∷ bs) here =
      let q = line_read rules r number part in
      let held = part ++ b ∷ [] in
      let onwards = reads rules ended q (number + 1) [] bs in
      let cut = part_read rules r number held in
      let longer = reads rules ended r number held bs in
      let there = text_keeps r number (length part) (without_cr part) here in
      cond_both (eqb b 10) (unless_stopped (rules.stop q) q onwards) (cond (ltb most_line_bytes (length part + 1)) cut longer) P
      (λ e. unless_keeps (rules.stop q) q onwards there (reads_keep ended q (number + 1) [] bs there))
      (λ e. cond_both (ltb most_line_bytes (length part + 1)) cut longer P (λ f. rest_keeps false r number held here) (λ f. reads_keep ended r number held bs here))
