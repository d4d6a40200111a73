-- What `route` promises of a run that ends with a status.
use Rattle.std.specs.Prelude.{ℕ, ◌≡◌, ◌⊎◌, true, false, List, ◌++◌, codes, length, Option}
use Rattle.std.specs.Io.KnownBytes.{append_known}
use Rattle.mav_ports.specs.Counts.{Rose}
use Rattle.mav_router.specs.declared.entries.Entry.{Entry}
use Rattle.mav_router.specs.declared.entries.SwitchFault.TheVariants.{Full}
use Rattle.mav_router.specs.declared.ends.PortEnd.{PortEnd}
use Rattle.run_status.specs.declared.live_ends.LiveEnd.TheVariants.{PortTurns}
use Rattle.run_status.specs.declared.run_ends.RunEnd.{RunEnd}
use Rattle.run_status.specs.Endings.{code_of, live_text}
use Rattle.route_command.specs.Texts.{route_text}
use Rattle.route_command.specs.Routes.{Ports, Routed, Halted, has_turns, status_text, Routes}

pub record RoutePromises (p : Ports) (refusals_before refusals_after : ℕ) (sent_before sent_after : Option (List ℕ))
    (code : ℕ) : Type 0 where
  -- 0: each port ended or failed, and the report was written
  pub done : code ≡ 0 → (journal : List Entry) × (ends : List PortEnd) × Routed p journal ends
      × (has_turns ends ≡ false)
      × (sent_after ≡ append_known sent_before (route_text journal ends))
  -- 11: some port hadn't ended after as many reads as it may have
  pub turns_spent : code ≡ 11 → (journal : List Entry) × (ends : List PortEnd) × Routed p journal ends
      × (has_turns ends ≡ true)
      × (sent_after ≡ append_known sent_before (route_text journal ends ++ live_text (PortTurns p.most)))
  -- 6: more frames came in than a journal may have
  pub limit : code ≡ 6 → (journal : List Entry) × Halted p (Full 1000000) journal × (length journal ≡ 1000000)
      × (sent_after ≡ append_known sent_before (codes "limit entries 1000000\n"))
  -- 5: the output refused a write
  pub write_fault : code ≡ 5 → Rose refusals_before refusals_after
  -- there is no other status but that of want of memory
  pub only : (code ≡ 0) ⊎ ((code ≡ 11) ⊎ ((code ≡ 6) ⊎ ((code ≡ 5) ⊎ (code ≡ 7))))
  -- all of it, of one run
  pub run : (end : Option RunEnd) × (code ≡ code_of end)
      × Routes p status_text end refusals_before refusals_after sent_before sent_after
