-- The clause of `drone`, from those of its parts.
use Rattle.std.proofs.Common.{◌≡◌, ◌∙◌, ◌≤◌, ℕ, Bool, List, [], ◌∷◌, inl, inr, refl, sym, ap, subst, arith, length, slice_index_or, slice_set, Option, Some, Result, Ok, Err}
use Rattle.std.specs.Fmt.{decimal}
use Rattle.std.specs.Prelude.{IfSome, IfErr}
use Rattle.std.specs.Result.{result_err}
use Rattle.mav_ports.specs.Gets.{IsSpent}
use Rattle.mav_links.specs.Links.{LinkState}
use Rattle.run_status.specs.declared.live_ends.LiveEnd.TheVariants.{RefusedWith, NoAnswer, StoreFault, PortTurns, PortFault}
use Rattle.run_status.specs.declared.run_ends.RunEnd.{RunEnd}
use Rattle.run_status.specs.declared.run_ends.RunEnd.TheVariants.{Usage, Stopped, ReadFault, WriteFault, NoMemory, TurnsSpent, Live}
use Rattle.run_status.specs.Runs.{CommandSpec, PortOutcome, RunBeforeStatus, Cause, Steady}
use Rattle.run_status.specs.Endings.{code_of}
use Rattle.run_status.specs.StatusText.{WritesStatus}
use Rattle.command_inputs.specs.KeyText.{key_of}
use Rattle.command_inputs.specs.KeyInputs.{given_key_spec}
use Rattle.command_inputs.proofs.KeyStays.{key_steady}
use Rattle.command_line.specs.declared.commands.Command.{Command}
use Rattle.command_line.specs.declared.commands.Command.TheVariants.{Drone}
use Rattle.command_line.specs.declared.commands.OptionName.TheVariants.{Store}
use Rattle.command_line.specs.declared.operations.Task.{Task}
use Rattle.command_line.specs.declared.ports.Port.{Port}
use Rattle.command_line.specs.Forms.{has_given}
use Rattle.command_line.specs.Grammar.{Asked}
use Rattle.command_line.specs.Names.{port_words, turns_asked}
use Rattle.command_line.specs.Nodes.{DroneSays, NodeSays}
use Rattle.live_node.specs.declared.drones.DronePlan.{DronePlan}
use Rattle.live_node.specs.Ports.{FaultsBy}
use Rattle.live_node.specs.Runs.{Outside, outside, Stores}
use Rattle.live_node.specs.Drones.{IsDroneEnd, DroneRuns}
use Rattle.run_status.specs.Seen.{Input, Output}
use Rattle.command_inputs.specs.NamedKeys.{WithGivenKey}
use Rattle.live_node.specs.DroneAsked.{Flown, RunsOver, StoredRun, Devices}
use Rattle.live_node.specs.Reported.{Reported}

-- the only one of a list
pub only_one : {A : Type 0} (xs : List A) (x : A) → length xs ≡ 1 → x ≡ slice_index_or xs 0 x → xs ≡ x ∷ []
only_one [] x one is = absurd (omega (arith, one))
only_one (y ∷ []) x one is = ap (λ z. z ∷ []) (sym is)
only_one (y ∷ z ∷ more) x one is = absurd (omega (arith, one))

pub changed_one : {A : Type 0} (xs : List A) (x : A) → length xs ≡ 1 → slice_set xs 0 x ≡ x ∷ []
changed_one [] x one = absurd (omega (arith, one))
changed_one (y ∷ []) x one = refl
changed_one (y ∷ z ∷ more) x one = absurd (omega (arith, one))

-- a drone ran over the only store
pub stored_at : {B : Type 0} (stores : Stores B) (key : List ℕ) (plan : DronePlan) (before : List B) (first last : B) (end : Option RunEnd) (port_before port_after : Outside)
    → length before ≡ 1 → first ≡ slice_index_or before 0 first → DroneRuns stores key plan first last end port_before port_after → StoredRun stores key plan before (slice_set before 0 last) end port_before port_after
stored_at stores key plan before first last end port_before port_after one is run = record {
  first = first;
  last = last;
  alone = record { was = only_one before first one is; now = changed_one before last one };
  run = run;
}

-- at the only port
pub flown_at : {A B : Type 0} (state : A → LinkState) (stores : Stores B) (asked : Asked) (before : List A) (first last : A) (keepers keepers_after : List B) (time time_after : Option ℕ) (out : Output) (end : Option RunEnd) (key : List ℕ) (plan : DronePlan) (port : List ℕ) (named : Bool)
    → length before ≡ 1 → first ≡ slice_index_or before 0 first
    → asked.plain ≡ decimal plan.sys ∷ port ∷ [] → 1 ≤ plan.sys → plan.turns ≡ turns_asked asked.settings
    → has_given Store asked.settings ≡ named
    → RunsOver stores named key plan keepers keepers_after end (outside (state first) out.sent_before time) (outside (state last) out.sent_after time_after)
    → IfSome end (IsDroneEnd plan.turns)
    → FaultsBy end (state first).faults (state last).faults out.refusals_before out.refusals_after
    → Flown (record { state = state; stores = stores; ports_before = before; ports_after = slice_set before 0 last; keepers_before = keepers; keepers_after = keepers_after; time_before = time; time_after = time_after }) asked out end key
flown_at state stores asked before first last keepers keepers_after time time_after out end key plan port named one is words least turns named_is run why faults = record {
  plan = plan;
  is = record { port = port; plain = words; least = least; turns = turns };
  first = first;
  last = last;
  alone = record { was = only_one before first one is; now = changed_one before last one };
  run = subst (λ (n : Bool). RunsOver stores n key plan keepers keepers_after end (outside (state first) out.sent_before time) (outside (state last) out.sent_after time_after)) (sym named_is) run;
  why = why;
  faults = faults;
}

-- a run over an input doesn't end as one over words of no command
pub no_words : (s : CommandSpec) (o : PortOutcome) (lb la sb sa : Option (List ℕ)) (end : RunEnd) → RunBeforeStatus s o lb la sb sa (Some end) → end ≡ Usage → ⊥
no_words s o lb la sb sa end run is = subst (λ (r : RunEnd). Cause s (Some r) o run.ended run.taken) is run.cause

-- an error is the end of a run
pub why_ended : (ended : Result (Unit {0}) RunEnd) (most : ℕ) → IfErr ended (IsDroneEnd most) → IfSome (result_err ended) (IsDroneEnd most)
why_ended (Ok done) most h = tt
why_ended (Err end) most h = h

-- the output refused a write only if the run ends so
pub output_sound : (ended : Result (Unit {0}) RunEnd) (port_before port_after out_before out_after : ℕ) → FaultsBy (result_err ended) port_before port_after out_before out_after → (ended ≡ Err WriteFault → ⊥) → out_after ≡ out_before
output_sound (Ok done) pb pa ob oa h other = h.1
output_sound (Err Usage) pb pa ob oa h other = h.1
output_sound (Err (Stopped error)) pb pa ob oa h other = h.1
output_sound (Err ReadFault) pb pa ob oa h other = h.1
output_sound (Err WriteFault) pb pa ob oa h other = absurd (other refl)
output_sound (Err NoMemory) pb pa ob oa h other = h
output_sound (Err TurnsSpent) pb pa ob oa h other = h.1
output_sound (Err (Live (RefusedWith code))) pb pa ob oa h other = h.1
output_sound (Err (Live (NoAnswer ticks))) pb pa ob oa h other = h.1
output_sound (Err (Live StoreFault)) pb pa ob oa h other = h.1
output_sound (Err (Live (PortTurns turns))) pb pa ob oa h other = h.1
output_sound (Err (Live PortFault)) pb pa ob oa h other = h.1

-- its words are of a command
pub not_of_words : (ended : Result (Unit {0}) RunEnd) (most : ℕ) → IfErr ended (IsDroneEnd most) → ended ≡ Err Usage → ⊥
not_of_words ended most why e = subst (λ (r : Result (Unit {0}) RunEnd). IfErr r (IsDroneEnd most)) e why

-- what its words ask for, and how many ports
pub drone_words : (c : Command) (plain : List (List ℕ)) (ports : List Port) (system : ℕ) (task : Option Task) → c ≡ Drone → NodeSays c plain ports system task → DroneSays plain ports system
drone_words c plain ports system task is says = subst (λ (d : Command). NodeSays d plain ports system task) is says

pub drone_link : (c : Command) (plain : List (List ℕ)) (ports : List Port) (system links : ℕ) → c ≡ Drone → DroneSays plain ports system → links ≡ length (port_words c plain) → links ≡ 1
drone_link c plain ports system links is says asked =
    asked ∙ ap (λ (d : Command). length (port_words d plain)) is ∙ ap (λ (p : List (List ℕ)). length (port_words Drone p)) says.plain_is

-- the same line
pub flown_asked : {A B : Type 0} (d : Devices A B) (asked other : Asked) (runs : CommandSpec → Input → Type 0) (halted unmoved : Type 0) (out : Output) (end : Option RunEnd) (key : Input) → asked ≡ other
    → WithGivenKey runs halted unmoved key (λ bytes. Flown d asked out end bytes)
    → WithGivenKey runs halted unmoved key (λ bytes. Flown d other out end bytes)
flown_asked d asked other runs halted unmoved out end key same run =
    subst (λ (a : Asked). WithGivenKey runs halted unmoved key (λ bytes. Flown d a out end bytes)) same run

-- the run's status is written
pub ran_reported : (Ran : Output → Option RunEnd → Type 0) (rb rm ra : ℕ) (sb sm sa : Option (List ℕ)) (ended reported : Result (Unit {0}) RunEnd)
    → Ran (record { refusals_before = rb; refusals_after = rm; sent_before = sb; sent_after = sm }) (result_err ended)
    → WritesStatus ended reported rm ra sm sa
    → Reported Ran (record { refusals_before = rb; refusals_after = ra; sent_before = sb; sent_after = sa }) (code_of (result_err reported))
ran_reported Ran rb rm ra sb sm sa ended reported ran writes = record {
  ended = ended;
  reported = reported;
  refusals = rm;
  sent = sm;
  ran = ran;
  status = writes;
  code_is = refl;
}

pub drone_reported : (first second : CommandSpec → Input → Type 0) (halted stopped unmoved : Type 0) → ((s : CommandSpec) → Steady s → (i : Input) → (i.spent → IsSpent i.left_after) → first s i → second s i) → (halted → stopped) → (one two : List ℕ → Type 0) → ((key : List ℕ) → one key → two key) → (key : Input) → (key.spent → IsSpent key.left_after) → WithGivenKey first halted unmoved key one → WithGivenKey second stopped unmoved key two
drone_reported first second halted stopped unmoved on ends one two flown key spent (inl (run, h, within, same)) = inl (on given_key_spec (key_steady key_of) key spent run, ends h, within, same)
drone_reported first second halted stopped unmoved on ends one two flown key spent (inr (bytes, holds, run)) = inr (bytes, holds, flown bytes run)
