-- What is promised of a run, from what holds before its status is written.
use Rattle.std.proofs.Common.{◌≡◌, ◌≢◌, ◌⊎◌, ℕ, Bool, true, false, List, refl, inl, subst, Option, Some, Result, Err, IsErr, IsErrOf}
use Rattle.std.specs.Result.{result_err}
use Rattle.mav_ports.specs.Gets.{IsSpent}
use Rattle.mav_profile.specs.Profile.{profile_definitions}
use Rattle.run_status.specs.declared.run_ends.RunEnd.{RunEnd}
use Rattle.run_status.specs.declared.run_ends.RunEnd.TheVariants.{Usage, WriteFault, NoMemory}
use Rattle.run_status.specs.Endings.{code_of}
use Rattle.run_status.specs.Runs.{CommandSpec, Steady}
use Rattle.run_status.specs.StatusText.{WritesStatus}
use Rattle.run_status.proofs.RunsBeforeStatus.{before_status_nothing, sound_reported}
use Rattle.command_line.specs.declared.commands.Command.{Command}
use Rattle.command_line.specs.declared.commands.Command.TheVariants.{Fleet, Dialect, Decode, Route, Drone, Station, Make, LogShow, LogFilter, LogMake, Fence}
use Rattle.command_line.specs.declared.commands.OptionName.TheVariants.{Frames, Key, Defs}
use Rattle.command_line.specs.Built.{built}
use Rattle.command_line.specs.Forms.{has_given, ArePlain}
use Rattle.command_line.specs.Grammar.{Asked, Asks, AskNothing}
use Rattle.dialect_command.specs.Spec.{dialect_spec, profile_spec}
use Rattle.dialect_command.proofs.Stays.{reading_steady, telling_steady}
use Rattle.fence_command.specs.Spec.{fence_spec}
use Rattle.fence_command.proofs.Stays.{fence_steady}
use Rattle.make_command.specs.Spec.{make_spec}
use Rattle.make_command.proofs.Theorem.{generated_theorem}
use Rattle.route_command.specs.Promises.{RoutePromises}
use Rattle.route_command.specs.Routes.{RoutesBeforeStatus}
use Rattle.route_command.proofs.Reports.{reported as route_reported}
use Rattle.dialect_command.specs.Dialects.{Dialects}
use Rattle.station_cli.specs.Doing.{Surroundings, Does, LeavesAlone, before_status, once_told}
use Rattle.fleet_line.specs.Fleets.{Fleets}
use Rattle.live_node.specs.DroneAsked.{Devices, Flown}
use Rattle.station_cli.specs.Promised.{RunPromises}
use Rattle.live_node.specs.Reported.{Reported}
use Rattle.route_command.specs.Routing.{AllEnded, router_of}
use Rattle.run_status.specs.Seen.{Input, Output, input_of, no_input, before_status_over, promised_over}
use Rattle.live_node.specs.StationAsked.{Stationed, file_asked}
use Rattle.fleet_line.proofs.Completes.{fleets_complete}
use Rattle.command_inputs.proofs.NamedRuns.{unmade, reported_over}
use Rattle.decode_command.proofs.Decoded.{decodes_reported, decodes_unread}
use Rattle.live_node.proofs.DroneAsked.{drone_reported, ran_reported}
use Rattle.mav_log.proofs.Logged.{logs_reported, logs_unread}
use Rattle.station_cli.proofs.Made.{make_steady, makes_on, unmade_number}
use Rattle.route_command.proofs.Routed.{routing_reported, ports_wait, key_unread}
use Rattle.command_inputs.proofs.NamedSame.{same_asked}
use Rattle.fleet_line.proofs.Scenarios.{fleets_reported, fleets_carry, fleets_unread}
use Rattle.live_node.proofs.StationAsked.{station_reported}
use Rattle.fleet_line.proofs.Usages.{words_reported, halted_code, usage_ended, five_only}

-- the same words leave the same alone
pub leaves_same : {A B : Type 0} (s : Surroundings A B) (words : List (List ℕ)) (asked other : Asked) → Asks built words asked → Asks built words other → LeavesAlone s asked → LeavesAlone s other
leaves_same s words asked other one two l = subst (λ (a : Asked). LeavesAlone s a) (same_asked words asked other one two) l

-- there was no memory before anything was read
module _ (S A B : Type 0) (has_ended : S → Type 0) (faults idles : S → ℕ) (left : S → Option (List ℕ)) (key defs main : S) (d : Devices A B) (same_ports same_keepers same_clock : Type 0) (ports : same_ports) (keepers : same_keepers) (clock : same_clock) (refusals : ℕ) (sent : Option (List ℕ)) where
  abbrev nothing : Output
  nothing = record { refusals_before = refusals; refusals_after = refusals; sent_before = sent; sent_after = sent }

  abbrev ended : Result (Unit {0}) RunEnd
  ended = Err NoMemory

  abbrev here : Surroundings A B
  here = record {
    key = input_of has_ended faults idles left key key;
    defs = input_of has_ended faults idles left defs defs;
    main = input_of has_ended faults idles left main main;
    devices = d;
    same_ports = same_ports;
    same_keepers = same_keepers;
    same_clock = same_clock;
  }

  undescribed : (named : Bool) → Dialects named (before_status_over nothing (Some NoMemory)) (input_of has_ended faults idles left defs defs)
  undescribed true = unmade has_ended faults idles left refusals sent dialect_spec defs
  undescribed false = before_status_nothing profile_spec _ _ _

  unlogged : {words : List (List ℕ)} (asked : Asked) (c : Command) → Asks built words asked → asked.command ≡ c → ArePlain built c asked.settings asked.plain
  unlogged asked c asks is = subst (λ (e : Command). ArePlain built e asked.settings asked.plain) is asks.fits.plain_words

  undone_by : {words : List (List ℕ)} (asked : Asked) (c : Command) → Asks built words asked → asked.command ≡ c → Does (before_status nothing ended) here asked c
  undone_by asked Fleet asks is = fleets_unread has_ended faults idles left key main refusals sent (IsErr ended) refl (has_given Key asked.settings) (has_given Frames asked.settings)
  undone_by asked Dialect asks is = undescribed (has_given Defs asked.settings)
  undone_by asked Decode asks is = decodes_unread has_ended faults idles left key defs main refusals sent (IsErr ended) refl (has_given Key asked.settings) (has_given Defs asked.settings)
  undone_by asked Route asks is = inl (key_unread has_ended faults idles left key refusals sent (IsErr ended) _ refl (refl, ports))
  undone_by asked Drone asks is = inl (key_unread has_ended faults idles left key refusals sent (IsErr ended) _ refl (ports, keepers, clock))
  undone_by asked Station asks is = inl (key_unread has_ended faults idles left key refusals sent (IsErr ended) _ refl (refl, (ports, keepers, clock)))
  undone_by asked Make asks is = unmade_number asked _ asks is (λ number. before_status_nothing (make_spec number) _ _ _)
  undone_by asked LogShow asks is = logs_unread has_ended faults idles left defs main refusals sent (IsErr ended) refl LogShow asked.settings asked.plain (has_given Defs asked.settings) refl (unlogged asked LogShow asks is)
  undone_by asked LogFilter asks is = logs_unread has_ended faults idles left defs main refusals sent (IsErr ended) refl LogFilter asked.settings asked.plain (has_given Defs asked.settings) refl (unlogged asked LogFilter asks is)
  undone_by asked LogMake asks is = logs_unread has_ended faults idles left defs main refusals sent (IsErr ended) refl LogMake asked.settings asked.plain (has_given Defs asked.settings) refl (unlogged asked LogMake asks is)
  undone_by asked Fence asks is = unmade has_ended faults idles left refusals sent fence_spec main

  pub undone : {words : List (List ℕ)} (asked : Asked) → Asks built words asked → Does (before_status nothing ended) here asked asked.command
  undone asked asks = undone_by asked asked.command asks refl

  pub nothing_moved : (asked : Asked) → LeavesAlone here asked
  nothing_moved asked = record {
    unread_main = λ reads named. refl;
    unread_defs = λ named. refl;
    unread_key = λ named. refl;
    unmoved = λ route drone station. ports;
    unkept = λ none. keepers;
    unasked = λ drone station. clock;
  }

-- the status is written
module _ (A B : Type 0) (s : Surroundings A B) (rb rm ra : ℕ) (sb sm sa : Option (List ℕ)) (ended reported : Result (Unit {0}) RunEnd) (sound : (IsErrOf ended WriteFault → ⊥) → rm ≡ rb) (writes : WritesStatus ended reported rm ra sm sa) (ks : s.key.spent → IsSpent s.key.left_after) (ds : s.defs.spent → IsSpent s.defs.left_after) (ms : s.main.spent → IsSpent s.main.left_after) where
  abbrev middle : Output
  middle = record { refusals_before = rb; refusals_after = rm; sent_before = sb; sent_after = sm }

  abbrev last : Output
  last = record { refusals_before = rb; refusals_after = ra; sent_before = sb; sent_after = sa }

  abbrev code : ℕ
  code = code_of (result_err reported)

  abbrev first : CommandSpec → Input → Type 0
  first = before_status_over middle (result_err ended)

  abbrev second : CommandSpec → Input → Type 0
  second = promised_over last code

  on : (c : CommandSpec) → Steady c → (i : Input) → (i.spent → IsSpent i.left_after) → first c i → second c i
  on c steady i spent run = reported_over rb rm ra sb sm sa ended reported sound writes c steady i spent run

  ends : IsErr ended → code ≢ 0
  ends halted = halted_code rm ra sm sa ended reported halted writes

  described : (named : Bool) → Dialects named first s.defs → Dialects named second s.defs
  described true run = on dialect_spec (reading_steady dialect_spec.closing) s.defs ds run
  described false run = on profile_spec (telling_steady profile_definitions) no_input (λ spent. refl) run

  told : (asked : Asked) (c : Command) → Does (before_status middle ended) s asked c → Does (once_told last code) s asked c
  told asked Fleet d = fleets_reported first second (IsErr ended) (code ≢ 0) on ends (has_given Key asked.settings) (has_given Frames asked.settings) s.key s.main ks ms d
  told asked Dialect d = described (has_given Defs asked.settings) d
  told asked Decode d = decodes_reported first second (IsErr ended) (code ≢ 0) on ends (has_given Key asked.settings) (has_given Defs asked.settings) s.key s.defs s.main ks ds ms d
  told asked Route d =
      routing_reported first second (IsErr ended) (code ≢ 0) s.same_ports on ends
      (λ key known. RoutesBeforeStatus (router_of s.devices.state asked s.devices.ports_before s.devices.ports_after key known) (result_err ended) rb rm sb sm)
      (λ key known. RoutePromises (router_of s.devices.state asked s.devices.ports_before s.devices.ports_after key known) rb ra sb sa code)
      (λ key known run. route_reported (router_of s.devices.state asked s.devices.ports_before s.devices.ports_after key known) rb rm ra sb sm sa ended reported run writes)
      (has_given Defs asked.settings) s.key s.defs ks ds d
  told asked Drone d =
      drone_reported first second (IsErr ended) (code ≢ 0) (s.same_ports × s.same_keepers × s.same_clock) on ends
      (λ key. Flown s.devices asked middle (result_err ended) key)
      (λ key. Reported (λ out end. Flown s.devices asked out end key) last code)
      (λ key run. ran_reported (λ out end. Flown s.devices asked out end key) rb rm ra sb sm sa ended reported run writes) s.key ks d
  told asked Station d =
      station_reported first second (IsErr ended) (code ≢ 0) (s.same_ports × s.same_keepers × s.same_clock) on ends
      (λ key contents. Stationed s.devices asked middle (result_err ended) key contents)
      (λ key contents. Reported (λ out end. Stationed s.devices asked out end key contents) last code)
      (λ key contents run. ran_reported (λ out end. Stationed s.devices asked out end key contents) rb rm ra sb sm sa ended reported run writes) (file_asked asked) s.key s.main ks ms d
  told asked Make d = makes_on asked.plain _ _ (λ number run. on (make_spec number) (make_steady number) no_input (λ spent. refl) run) d
  told asked LogShow d = logs_reported first second (IsErr ended) (code ≢ 0) on ends LogShow asked.plain (has_given Defs asked.settings) s.defs s.main ds ms d
  told asked LogFilter d = logs_reported first second (IsErr ended) (code ≢ 0) on ends LogFilter asked.plain (has_given Defs asked.settings) s.defs s.main ds ms d
  told asked LogMake d = logs_reported first second (IsErr ended) (code ≢ 0) on ends LogMake asked.plain (has_given Defs asked.settings) s.defs s.main ds ms d
  told asked Fence d = on fence_spec fence_steady s.main ms d

  played : (asked : Asked) → asked.command ≡ Fleet → Does (before_status middle ended) s asked asked.command → Fleets (has_given Key asked.settings) (has_given Frames asked.settings) second (code ≢ 0) s.key s.main
  played asked is d = told asked Fleet (subst (λ (c : Command). Does (before_status middle ended) s asked c) is d)

  waits : (asked : Asked) → asked.command ≡ Route → Does (before_status middle ended) s asked asked.command → (AllEnded (has_given Defs asked.settings) s.key s.defs → ⊥) → s.same_ports
  waits asked is d never = ports_wait first (IsErr ended) s.same_ports _ (has_given Defs asked.settings) s.key s.defs (subst (λ (c : Command). Does (before_status middle ended) s asked c) is d) never

  pub promises : (words : List (List ℕ)) → ((asked : Asked) → Asks built words asked → Does (before_status middle ended) s asked asked.command) → ((asked : Asked) → Asks built words asked → LeavesAlone s asked)
      → (IsErrOf ended Usage → AskNothing built words) → (AskNothing built words → IsErrOf ended Usage ⊎ IsErrOf ended NoMemory)
      → (AskNothing built words → s.main.unread × s.defs.unread × s.key.unread × s.same_ports × s.same_keepers × s.same_clock) → (AskNothing built words → sm ≡ sb)
      → RunPromises words s last code
  promises words does alone by_words only kept unsent = record {
    does = λ asked asks. told asked asked.command (does asked asks);
    main_theorem = λ asked asks is. fleets_carry (has_given Key asked.settings) (has_given Frames asked.settings) last code s.key s.main (played asked is (does asked asks));
    completeness = λ asked asks is. fleets_complete (has_given Key asked.settings) (has_given Frames asked.settings) last code s.key s.main ks (played asked is (does asked asks));
    make_theorem = λ asked asks is. unmade_number asked _ asks is generated_theorem;
    usage = λ two. by_words (usage_ended rm ra sm sa ended reported writes two);
    usage_only = λ nothing. words_reported rb rm ra sb sm sa ended reported (only nothing) sound (unsent nothing) writes;
    leaves_alone = alone;
    untouched = kept;
    unmoved_before = λ asked asks is never. waits asked is (does asked asks) never;
    sound = λ other. sound_reported rb rm ra sm sa ended reported sound writes (five_only reported other);
  }
