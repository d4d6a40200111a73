-- Two journals: what each frame's verdict is, and which of three ports it goes to.
use Rattle.std.specs.Prelude.{◌≡◌, Bool, true, false, List, [], ◌∷◌, map, take}
use Rattle.mav_sign.specs.declared.admission.Admit.{Admit}
use Rattle.mav_sign.specs.declared.admission.Admit.TheVariants.{Admitted, Unsigned, NotLater}
use Rattle.link_table.specs.Routing.{no_ways}
use Rattle.mav_router.specs.declared.entries.Entry.{Entry}
use Rattle.mav_router.specs.Journal.{Rules}
use Rattle.test_routes.specs.Frames.{Incoming, at_port, journal_of, rules_of, unsigned, signed, node, heartbeat}
use Rattle.test_routes.specs.Frames.{heartbeat_payload, count_to, request_to, ack_to}

-- what the journal of these frames shows
abbrev pub verdicts : Rules → List Incoming → List Admit
verdicts rules frames = map (λ (e : Entry). e.admit) (journal_of rules frames)

abbrev pub goes_to : Rules → List Incoming → List (List Bool)
goes_to rules frames = map (λ (e : Entry). take 3 e.ways) (journal_of rules frames)

-- a drone at port 1 and a station at port 2: its HEARTBEAT goes to all others, the station's count to the drone alone;
-- the same frame again isn't admitted; one for a system that was never learned goes nowhere, and neither does one for
-- any component of a system that was learned at its own port alone
abbrev pub signed_frames : List Incoming
signed_frames =
    at_port 1 (signed (node 1 1) heartbeat heartbeat_payload 1)
    ∷ at_port 2 (signed (node 255 190) 44 (count_to (node 1 1)) 1)
    ∷ at_port 3 (signed (node 255 190) 44 (count_to (node 1 1)) 1)
    ∷ at_port 2 (signed (node 255 190) 44 (count_to (node 9 1)) 2)
    ∷ at_port 1 (signed (node 1 1) 51 (request_to (node 255 190)) 2)
    ∷ at_port 1 (signed (node 1 1) 47 (ack_to (node 1 0)) 3)
    ∷ []

-- ports 1 and 3 are open, 2 isn't: a HEARTBEAT of MAVLink 1 goes to port 3 alone; one of MAVLink 2 without a signature
-- block isn't admitted at port 2; a signed count finds the drone; and its unsigned acknowledgement isn't sent to port
-- 2
abbrev pub mixed_frames : List Incoming
mixed_frames =
    at_port 1 (unsigned true (node 1 1) heartbeat heartbeat_payload)
    ∷ at_port 2 (unsigned false (node 1 1) heartbeat heartbeat_payload)
    ∷ at_port 2 (signed (node 255 190) 44 (count_to (node 1 1)) 1)
    ∷ at_port 1 (unsigned false (node 1 1) 47 (ack_to (node 255 190)))
    ∷ []

abbrev pub open_1_and_3 : List Bool
open_1_and_3 = true ∷ false ∷ true ∷ false ∷ false ∷ false ∷ false ∷ false ∷ []

pub record Worked : Type 0 where
  pub signed_verdicts : verdicts (rules_of 3 no_ways) signed_frames ≡ Admitted ∷ Admitted ∷ NotLater 1 ∷ Admitted
      ∷ Admitted ∷ Admitted ∷ []
  pub signed_ways : goes_to (rules_of 3 no_ways) signed_frames ≡ (false ∷ true ∷ true ∷ [])
      ∷ (true ∷ false ∷ false ∷ []) ∷ (false ∷ false ∷ false ∷ []) ∷ (false ∷ false ∷ false ∷ [])
      ∷ (false ∷ true ∷ false ∷ []) ∷ (false ∷ false ∷ false ∷ []) ∷ []
  pub mixed_verdicts : verdicts (rules_of 3 open_1_and_3) mixed_frames ≡ Admitted ∷ Unsigned ∷ Admitted ∷ Admitted ∷ []
  pub mixed_ways : goes_to (rules_of 3 open_1_and_3) mixed_frames ≡ (false ∷ false ∷ true ∷ [])
      ∷ (false ∷ false ∷ false ∷ []) ∷ (true ∷ false ∷ false ∷ []) ∷ (false ∷ false ∷ false ∷ []) ∷ []
