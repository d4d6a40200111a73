-- A flight of a drone, tick by tick, in the world of messages.
use Rattle.std.proofs.Common.{ℕ, zero, suc}
use Rattle.mav_names.specs.declared.names.Name.{Name}
use Rattle.plan_safety.specs.World.{Nodes, Distinct, World}
use Rattle.node_reports.specs.Calls.{node_flies}
use Rattle.fleet_world.specs.WorldState.{WorldState}
use Rattle.fleet_world.specs.Steps.{calls, flies}
use Rattle.fleet_invariants.specs.Sound.{Sound}
use Rattle.fleet_invariants.specs.Laws.{EveryCallKeeps, SentKnown}
use Rattle.fleet_safety.specs.Actions.{at_node, simmed, flight_actions}
use Rattle.fleet_safety.proofs.Fits.{Fits}
use Rattle.fleet_safety.proofs.States.{StateLeads, state_maps, state_rests, state_then, Goes, goes_still, goes_on, calls_lead}
use Rattle.fleet_safety.proofs.Orders.{sims_lead}

module _ (number : ℕ) (n : Nodes) (distinct : Distinct n) (every_call : EveryCallKeeps) (sent_known : SentKnown) where
  pub flights_lead : (ticks : ℕ) (drone : Name) (s : WorldState) (w : World) → Sound s → Fits n s.clock s.nodes s.sent w → StateLeads n w (Goes n s) (flies ticks drone s) (flight_actions number ticks drone s)
  flights_lead zero drone s w sound fits = state_rests n w (Goes n s) s (goes_still n s w sound fits)
  flights_lead (suc ticks) drone s w sound fits =
      state_then n w (Goes n s) (Goes n s) (calls s drone (node_flies s.clock)) (at_node s drone (simmed number)) (flies ticks drone) (flight_actions number ticks drone)
      (calls_lead number n distinct every_call sent_known s w sound fits drone (node_flies s.clock) (simmed number) (sims_lead number n distinct every_call s w sound fits))
      (λ t v a. state_maps n v (Goes n t) (Goes n s) (flies ticks drone t) (flight_actions number ticks drone t) (flights_lead ticks drone t v a.sound a.fits)
      (λ u z b. goes_on n s t u v z a b))
