-- The definitions at a command that is given, given again, and given by a second line; and at one that isn't admitted.
use Rattle.std.proofs.Common.{◌≡◌, ℕ, false, true, List, [], ◌∷◌, ◌++◌, Some, refl}
use Rattle.std.specs.Prelude.{replicate}
use Rattle.mav_names.specs.declared.names.Name.{Name}
use Rattle.mav_frame.specs.Packet.{Packet}
use Rattle.mav_sign.specs.declared.admission.Admit.{Admit}
use Rattle.mav_sign.specs.declared.admission.Admit.TheVariants.{Admitted, NotLater}
use Rattle.mav_sign.specs.History.{tried}
use Rattle.command_proto.specs.Executor.{new_executor}
use Rattle.fleet_command_laws.specs.Lines.{line_at}
use Rattle.fleet_command_laws.specs.Done.{Moment, commands_done}

abbrev station : Name
station = record { sys = 255; comp = 190 }

abbrev drone : Name
drone = record { sys = 1; comp = 1 }

-- COMMAND_LONG that arms the drone, with this confirmation, signed at this timestamp
abbrev arms : ℕ → ℕ → Packet
arms confirmation stamp = record {
  old = false;
  compat = 0;
  seq = 0;
  from = station;
  id = 76;
  payload = (0 ∷ 0 ∷ 128 ∷ 63 ∷ []) ++ (replicate 24 0 ++ (144 ∷ 1 ∷ 1 ∷ 1 ∷ confirmation ∷ []));
  check = 0;
  block = Some (record { link = 0; stamp = stamp; sig = [] });
}

abbrev at : Packet → Admit → Moment
at p answer = record { entry = tried p answer; ready = record { armed = false; planned = true } }

abbrev frames : List Packet
frames = arms 0 1 ∷ arms 1 2 ∷ arms 0 3 ∷ arms 1 4 ∷ []

-- the numbers of their lines
numbers : line_at station frames 0 ∷ line_at station frames 1 ∷ line_at station frames 2 ∷ line_at station frames 3 ∷ [] ≡ 1 ∷ 1 ∷ 2 ∷ 2 ∷ []
numbers = refl

-- each line is done at its first frame that is admitted
done_at_first : commands_done (new_executor drone) (at (arms 0 1) Admitted ∷ at (arms 1 2) Admitted ∷ at (arms 0 3) Admitted ∷ at (arms 1 4) Admitted ∷ []) ≡ arms 0 1 ∷ arms 0 3 ∷ []
done_at_first = refl

-- the second line's first frame was lost: its next is the same command as the one before, and is answered by the kept result
lost : commands_done (new_executor drone) (at (arms 0 1) Admitted ∷ at (arms 1 4) Admitted ∷ []) ≡ arms 0 1 ∷ []
lost = refl

-- a line whose first frame was lost is done at a later one, and a frame that isn't admitted does nothing
later : commands_done (new_executor drone) (at (arms 1 2) Admitted ∷ at (arms 0 1) (NotLater 2) ∷ []) ≡ arms 1 2 ∷ []
later = refl
