-- What a command writes of an input as its bytes come.
use Rattle.std.specs.Prelude.{◌≡◌, ◌<◌, ◌≤◌, ℕ, nat_lt, Bool, false, List, ◌++◌, length, take, if◌then◌else◌, Option}
use Rattle.std.specs.Prelude.{Some, None, Result, OnOk}
use Rattle.mav_ports.specs.Puts.{Sent}
use Rattle.run_status.specs.declared.input_errors.Bound.TheVariants.{InputBytes}
use Rattle.run_status.specs.declared.input_errors.InputError.TheVariants.{AtLimit}
use Rattle.run_status.specs.Runs.{CommandSpec}
use Rattle.mav_stream.specs.Spans.{IfEvent}
use Rattle.mav_stream.specs.declared.spans.NextSpan.{NextSpan}

-- what is written of some bytes, where the Bool says whether the input ended after them, and what comes after it then
pub record Telling : Type 0 where
  pub told : Bool → List ℕ → List ℕ
  pub closing : List ℕ → List ℕ

-- the most bytes of an input
abbrev pub most_input_bytes : ℕ
most_input_bytes = 268435456

-- what a teller counts of an input, at most three for each byte
abbrev pub most_load : ℕ
most_load = 805306368

-- too many bytes stop a run, and then only those up to the limit are told
abbrev pub telling_spec : Telling → CommandSpec
telling_spec t = record {
  stop = λ ended bytes. if nat_lt most_input_bytes (length bytes) then Some (AtLimit InputBytes) else None;
  report = λ ended bytes. if nat_lt most_input_bytes (length bytes) then t.told false (take most_input_bytes bytes)
      else t.told ended bytes;
  closing = t.closing;
}

-- a text is a prefix of what is told of the bytes
abbrev pub Leads : Telling → Bool → List ℕ → List ℕ → Type 0
Leads t ended taken told = (rest : List ℕ) × (t.told ended taken ≡ told ++ rest)

-- the text of what was at the start of the bytes held comes after the text before, and is told; less is held then
pub record TellsSpan {S E : Type 0} (telling : S → Telling) (has_told : S → Bool → List ℕ → List ℕ → Type 0)
    (held bound : S → ℕ) (span : NextSpan) (old new : S) (text longer : List ℕ)
    (result : Result (Unit {0}) E) : Type 0 where
  pub same : telling new ≡ telling old
  pub load : bound new ≤ bound old
  pub told : (ended : Bool) (taken told : List ℕ) → has_told old ended taken told
      → OnOk result ((more : List ℕ) × (longer ≡ text ++ more) × has_told new ended taken (told ++ more))
  pub fewer : OnOk result (IfEvent span (held new < held old))

-- so much was told of the bytes taken, and sent, but for a text that is held
pub record Tells (has_told : Bool → List ℕ → List ℕ → Type 0) (ended : Bool) (taken text : List ℕ)
    (before now : Option (List ℕ)) : Type 0 where
  pub told : List ℕ
  pub has : has_told ended taken told
  pub sent : Sent before now told text

-- and it is all of it
pub record ToldAll (t : Telling) (has_told : Bool → List ℕ → List ℕ → Type 0) (ended : Bool) (taken text : List ℕ)
    (before now : Option (List ℕ)) : Type 0 where
  pub tells : Tells has_told ended taken text before now
  pub all : tells.told ≡ t.told ended taken
