-- A run of the router and what is written of it are a run of `route`.
use Rattle.std.proofs.Common.{◌≡◌, inl, inr, ℕ, List, length, refl, sym, subst, append-nil, Option, Some, Bool, true, false, if◌then◌else◌}
use Rattle.mav_links.specs.Links.{LinkState}
use Rattle.mav_ports.proofs.Known.{append_known_nil}
use Rattle.mav_router.specs.declared.entries.Entry.{Entry}
use Rattle.mav_router.specs.declared.entries.SwitchFault.{SwitchFault}
use Rattle.mav_router.specs.declared.ends.PortEnd.{PortEnd}
use Rattle.mav_router.specs.Journal.{Rules}
use Rattle.mav_router.specs.Faults.{RouteHalted, StopsBy}
use Rattle.mav_router.specs.Routed.{HasRouted, HasStopped}
use Rattle.mav_router.proofs.Halts.{halted, stops_as}
use Rattle.run_status.specs.declared.run_ends.RunEnd.{RunEnd}
use Rattle.route_command.specs.Texts.{route_text}
use Rattle.route_command.specs.Routes.{ports_of, end_of_ports, end_of_fault, WroteAll, RoutesBeforeStatus}

module _ {A : Type 0} (state : A → LinkState) (rules : Rules) (one : Bool) (most : ℕ) (before after : List A) (journal : List Entry) where
  -- it came to its end, and its report was written
  pub run_reports : (ends : List PortEnd) (end : Option RunEnd) (rb ra : ℕ) (sb sa : Option (List ℕ)) → length after ≡ length before → HasRouted state rules most before after journal ends
      → WroteAll (end_of_ports most ends) end (route_text journal ends) rb ra sb sa
      → RoutesBeforeStatus (ports_of state rules one most before after) end rb ra sb sa
  run_reports ends end rb ra sb sa links run wrote =
      inl (record {
        journal = journal;
        ends = ends;
        routed = record { links = links; run = run };
        wrote = subst (λ (t : List ℕ). WroteAll (end_of_ports most ends) end t rb ra sb sa) (sym (append-nil (route_text journal ends))) wrote;
      })

  -- it stopped, and nothing was written
  pub run_stops : (why : SwitchFault) (refusals : ℕ) (sent : Option (List ℕ)) → length after ≡ length before → HasStopped one state rules most before after why journal
      → RoutesBeforeStatus (ports_of state rules one most before after) (Some (end_of_fault why)) refusals refusals sent sent
  run_stops why refusals sent links run =
      inr (record {
        journal = journal;
        why = why;
        halted = record { links = links; run = run };
        wrote = inl (refl, refl, append_known_nil sent);
      })

-- a run on one thread that stopped, by a plan that may be for threads
stopped_as : {A : Type 0} (one : Bool) (state : A → LinkState) (rules : Rules) (most : ℕ) (before after : List A) (why : SwitchFault) (journal : List Entry) → HasStopped true state rules most before after why journal → HasStopped one state rules most before after why journal
stopped_as one state rules most before after why journal s = record { legal = s.legal; stopped = stops_as one state rules most why journal before after s.stopped }

-- what holds of a run by a router that starts no thread, or else by its plan, holds by its plan
pub by_plan : {A : Type 0} (alone one : Bool) (state : A → LinkState) (rules : Rules) (most : ℕ) (before after : List A) (end : Option RunEnd) (rb ra : ℕ) (sb sa : Option (List ℕ))
    → RoutesBeforeStatus (ports_of state rules (if alone then true else one) most before after) end rb ra sb sa
    → RoutesBeforeStatus (ports_of state rules one most before after) end rb ra sb sa
by_plan false one state rules most before after end rb ra sb sa r = r
by_plan true one state rules most before after end rb ra sb sa (inl r) =
    inl (record {
      journal = r.journal;
      ends = r.ends;
      routed = record { links = r.routed.links; run = r.routed.run };
      wrote = r.wrote;
    })
by_plan true one state rules most before after end rb ra sb sa (inr s) =
    inr (record {
      journal = s.journal;
      why = s.why;
      halted = record { links = s.halted.links; run = stopped_as one state rules most before after s.why s.journal s.halted.run };
      wrote = s.wrote;
    })

-- either way there may be a frame at each port
pub as_halted : {A : Type 0} (one : Bool) (state : A → LinkState) (rules : Rules) (most : ℕ) (why : SwitchFault) (journal : List Entry) (before after : List A) → StopsBy one state rules most why journal before after → RouteHalted state rules most why journal before after
as_halted true state rules most why journal before after s = halted state rules most why journal before after s
as_halted false state rules most why journal before after s = s
