-- Lines that are read byte by byte: what the bytes to come lead to, after a line that is held unfinished.
use Rattle.std.specs.Prelude.{◌≡◌, ℕ, ◌+◌, ◌-◌, ◌*◌, ◌==◌, ◌≤◌, nat_lt, Bool, if◌then◌else◌, List, [], ◌∷◌, ◌++◌}
use Rattle.std.specs.Prelude.{length, Some, Ok, Err}
use Rattle.std.specs.declared.result.Result.{Result}
use Rattle.scenario_lines.specs.declared.faults.Reason.TheVariants.{Long}
use Rattle.scenario_lines.specs.Grammar.{most_line_bytes}
use Rattle.run_status.specs.declared.input_errors.Bound.TheVariants.{Lines}
use Rattle.run_status.specs.declared.input_errors.InputError.{InputError}
use Rattle.run_status.specs.declared.input_errors.InputError.TheVariants.{AtLimit}
use Rattle.run_status.specs.declared.run_ends.RunEnd.{RunEnd}
use Rattle.run_status.specs.declared.run_ends.RunEnd.TheVariants.{Usage, Stopped, ReadFault, WriteFault, NoMemory}
use Rattle.run_status.specs.declared.run_ends.RunEnd.TheVariants.{TurnsSpent, Live}
use Rattle.scenario_lines.specs.FileLines.{most_lines}
use Rattle.command_inputs.specs.LineRules.{LineRules, unless_stopped, line_read, part_read, rest_read}
use Rattle.command_inputs.specs.Takers.{Says, Read, going, rules_of, bad_line}
use Rattle.command_inputs.specs.declared.held.HeldLine.{HeldLine}

-- line `number` is held unfinished, and these bytes follow; `ended` says whether the input ended after them
abbrev pub reads : {R E : Type 0} → LineRules R E → Bool → R → ℕ → List ℕ → List ℕ → R
reads rules ended r number part [] = rest_read rules ended r number part
reads rules ended r number part (b ∷ bs) =
    if b == 10 then unless_stopped (rules.stop (line_read rules r number part)) (line_read rules r number part)
    (reads rules ended (line_read rules r number part) (number + 1) [] bs)
    else if nat_lt most_line_bytes (length part + 1) then part_read rules r number (part ++ b ∷ [])
    else reads rules ended r number (part ++ b ∷ []) bs

-- how a run halts at lines that lead to `r`: they stopped there, or there was no memory
abbrev pub HaltedAt : {S : Type 0} → RunEnd → Read S → Type 0
HaltedAt Usage r = ⊥
HaltedAt (Stopped stop) r = r.stop ≡ Some stop
HaltedAt ReadFault r = ⊥
HaltedAt WriteFault r = ⊥
HaltedAt NoMemory r = Unit {0}
HaltedAt TurnsSpent r = ⊥
HaltedAt (Live end) r = ⊥

-- a step led to `r`, which goes on with this state, or halted on the way there
abbrev pub Leads : {S T : Type 0} → Result T RunEnd → Read S → S → Type 0
Leads (Ok done) r state = r ≡ going state
Leads (Err run_end) r state = HaltedAt run_end r

-- what the bytes to come lead to, from a state and a line that is held
abbrev pub onwards : {S : Type 0} → Says S → Bool → S → HeldLine → List ℕ → Read S
onwards says ended state held bytes = reads (rules_of says) ended (going state) held.number held.bytes.items bytes

-- the most bytes that may still be taken before the lines stop
abbrev pub budget : HeldLine → ℕ
budget held = 4097 * (100002 - held.number) - length held.bytes.items

-- bytes led from one state and line to another state and line, whatever follows
pub record Fed {S : Type 0} (says : Says S) (bytes : List ℕ) (state : S) (held : HeldLine) (next : S)
    (hold : HeldLine) : Type 0 where
  pub goes_on : (ended : Bool) (rest : List ℕ)
      → onwards says ended state held (bytes ++ rest) ≡ onwards says ended next hold rest
  pub spends : budget hold + length bytes ≤ budget held

-- that, or a run halts at them
abbrev pub Feeds : {S T : Type 0} → Result T RunEnd → Says S → List ℕ → S → HeldLine → S → HeldLine → Type 0
Feeds (Ok done) says bytes state held next hold = Fed says bytes state held next hold
Feeds (Err run_end) says bytes state held next hold = (ended : Bool) (rest : List ℕ)
    → HaltedAt run_end (onwards says ended state held (bytes ++ rest))

-- why line `number` stops as soon as it is too long
abbrev pub long_line : ℕ → InputError
long_line number = if nat_lt most_lines number then AtLimit Lines else bad_line number Long
