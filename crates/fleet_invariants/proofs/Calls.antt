-- What one node does leaves a sound state.
use Rattle.std.proofs.Common.{ℕ, ◌+◌, ◌≤◌, [], length, Some, None, refl, sym, subst, arith}
use Rattle.std.specs.Prelude.{nat_le}
use Rattle.std.proofs.lemmas.List.{length-append}
use Rattle.std.proofs.lemmas.List.Elements.{All-nil}
use Rattle.mav_names.specs.declared.names.Name.{Name}
use Rattle.mav_nodes.specs.Links.{Done, Outcome}
use Rattle.mav_nodes.specs.Nodes.{station_begins, station_cancels, station_clears, station_gets, station_commands, station_lists_params}
use Rattle.plan_ranges.specs.Ranges.{ItemInRange}
use Rattle.node_reports.specs.Nodes.{Node}
use Rattle.node_reports.specs.Calls.{node_receives, node_beats, node_ticks, as_station, node_flies}
use Rattle.fleet_world.specs.WorldState.{WorldState, stream_of}
use Rattle.fleet_world.specs.Steps.{most_frames, packets_in, node_does}
use Rattle.fleet_invariants.specs.Kept.{OutcomeReads, StepKeeps, Keeps}
use Rattle.fleet_invariants.specs.Laws.{EveryCallKeeps}
use Rattle.fleet_invariants.proofs.Tests.{by_test, at_most}
use Rattle.fleet_invariants.proofs.Restated.{restated, steady_restated, restated_keeps}
use Rattle.fleet_invariants.proofs.Moves.{steady_of, sound_of}
use Rattle.fleet_invariants.proofs.Nodes.{NodeDoes, NodeGoes, advanced}
use Rattle.fleet_invariants.proofs.Doing.{node_receiving, node_ticking, node_beating, station_beginning, station_cancelling, station_clearing, station_getting, station_commanding, station_listing, node_flying}

module _ (s : WorldState) (k : ℕ) (name : Name) where
  within : (d : Done Node) → NodeGoes s k d → length s.sent + length (packets_in d.events) ≤ most_frames → StepKeeps s (advanced s k d.node d.events)
  within d h few = record {
    sound = sound_of (advanced s k d.node d.events) h.steady (subst (λ n. n ≤ most_frames) (sym (length-append s.sent (packets_in d.events))) few);
    kept = h.kept;
    names = h.names;
    clock = refl;
  }

  pub keeps : (o : Outcome Node) → NodeDoes s k o → Keeps s (node_does s k name o)
  keeps None h = tt
  keeps (Some d) h =
      by_test (Keeps s) (nat_le (length s.sent + length (packets_in d.events)) most_frames) _ _
      (λ few. within d h (at_most (length s.sent + length (packets_in d.events)) most_frames few)) (λ _. tt)

  pub reads : (o : Outcome Node) → NodeDoes s k o → OutcomeReads o
  reads None h = tt
  reads (Some d) h = h.reads

-- the state without its draft
abbrev undrafted : WorldState → WorldState
undrafted s = restated s s.given [] s.clock

pub sound_does : EveryCallKeeps
sound_does s sound =
    let g = steady_of s sound in
    record {
      receives = λ bytes known k a name found. let h = node_receiving s k g bytes known a found in (keeps s k name (node_receives s.clock bytes a) h, reads s k name (node_receives s.clock bytes a) h);
      beats = λ k a name found. let h = node_beating s k g a found in (keeps s k name (node_beats s.clock a) h, reads s k name (node_beats s.clock a) h);
      ticks = λ k a name found. let h = node_ticking s k g a found in (keeps s k name (node_ticks s.clock a) h, reads s k name (node_ticks s.clock a) h);
      flies = λ k a name found. let h = node_flying s k g a found in (keeps s k name (node_flies s.clock a) h, reads s k name (node_flies s.clock a) h);
      begins = λ k n drone kind range small free name found.
          let o = as_station (station_begins s.clock (stream_of drone) kind s.draft n) in
          let h = station_beginning (undrafted s) k (steady_restated s s.given [] s.clock g sound.given (All-nil ItemInRange) (omega arith) sound.clock) n found drone kind s.draft range small sound.draft free in
          (restated_keeps s s.given [] (node_does (undrafted s) k name o) (keeps (undrafted s) k name o h), reads (undrafted s) k name o h);
      cancels = λ k n name found.
          let o = as_station (station_cancels s.clock n) in
          let h = station_cancelling s k g n found in
          (keeps s k name o h, reads s k name o h);
      clears = λ k n drone kind range small free name found.
          let o = as_station (station_clears s.clock (stream_of drone) kind n) in
          let h = station_clearing s k g n found drone kind range small in
          (keeps s k name o h, reads s k name o h);
      gets = λ k n drone kind range small free name found.
          let o = as_station (station_gets s.clock (stream_of drone) kind n) in
          let h = station_getting s k g n found drone kind range small in
          (keeps s k name o h, reads s k name o h);
      commands = λ k n drone number word range small short free name found.
          let o = as_station (station_commands s.clock (stream_of drone) number word n) in
          let h = station_commanding s k g n found drone number word range small short in
          (keeps s k name o h, reads s k name o h);
      params = λ k n drone range free name found.
          let o = as_station (station_lists_params s.clock (stream_of drone) n) in
          let h = station_listing s k g n found drone range in
          (keeps s k name o h, reads s k name o h);
    }
