-- What contracts see of an input and of the output, before and after a run.
use Rattle.std.specs.Prelude.{◌≡◌, ℕ, List, [], ⊤, Option, Some}
use Rattle.mav_ports.specs.Gets.{IsSpent}
use Rattle.run_status.specs.declared.run_ends.RunEnd.{RunEnd}
use Rattle.run_status.specs.Runs.{CommandSpec, PortOutcome, port_outcome, RunBeforeStatus, Promises}

pub record Input : Type 1 where
  -- it returned End, and nothing is left of it
  pub spent : Type 0
  -- it is unchanged
  pub unread : Type 0
  pub faults_before : ℕ
  pub faults_after : ℕ
  pub idles_before : ℕ
  pub idles_after : ℕ
  pub left_before : Option (List ℕ)
  pub left_after : Option (List ℕ)

-- a command's that has none: it has ended, and nothing was in it
abbrev pub no_input : Input
no_input = record {
  spent = ⊤;
  unread = ⊤;
  faults_before = 0;
  faults_after = 0;
  idles_before = 0;
  idles_after = 0;
  left_before = Some [];
  left_after = Some [];
}

pub record Output : Type 0 where
  pub refusals_before : ℕ
  pub refusals_after : ℕ
  pub sent_before : Option (List ℕ)
  pub sent_after : Option (List ℕ)

-- by what contracts see of a source
abbrev pub input_of : {A : Type 0} → (A → Type 0) → (A → ℕ) → (A → ℕ) → (A → Option (List ℕ)) → A → A → Input
input_of has_ended faults idles left old new = record {
  spent = has_ended new × IsSpent (left new);
  unread = new ≡ old;
  faults_before = faults old;
  faults_after = faults new;
  idles_before = idles old;
  idles_after = idles new;
  left_before = left old;
  left_after = left new;
}

-- by what contracts see of a sink
abbrev pub output_of : {A : Type 0} → (A → ℕ) → (A → Option (List ℕ)) → A → A → Output
output_of faults sent old new = record {
  refusals_before = faults old;
  refusals_after = faults new;
  sent_before = sent old;
  sent_after = sent new;
}

abbrev pub around : Input → Output → PortOutcome
around input out = port_outcome input.spent input.faults_before input.faults_after input.idles_before input.idles_after
    out.refusals_before out.refusals_after

-- a command's run over an input, before the text of its status
abbrev pub before_status_over : Output → Option RunEnd → CommandSpec → Input → Type 0
before_status_over out end s input = RunBeforeStatus s
    (around input out) input.left_before input.left_after out.sent_before out.sent_after end

-- what is promised of a command's run over an input
abbrev pub promised_over : Output → ℕ → CommandSpec → Input → Type 0
promised_over out code s input = Promises s
    (around input out) input.left_before input.left_after out.sent_before out.sent_after code

-- a run that halted at an input, with nothing written
abbrev pub halted_over : CommandSpec → Input → RunEnd → Type 0
halted_over s input end =
    (refusals : ℕ) (sent : Option (List ℕ))
    → before_status_over (record {
      refusals_before = refusals;
      refusals_after = refusals;
      sent_before = sent;
      sent_after = sent;
    }) (Some end) s input
